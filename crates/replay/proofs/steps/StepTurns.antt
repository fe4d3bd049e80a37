-- Steps of a client until it waits or has closed, turn by turn.
use Rattle.std.proofs.Common.{◌≡◌, ℕ, suc, true, false, List, Option, Some, None, sym, ◌∙◌, ap, subst, refl}
use Rattle.dsotlv.specs.Messages.{first_message}
use Rattle.dsosession.specs.declared.session.CloseReason.{CloseReason}
use Rattle.pushclient.specs.declared.client.Step.{Step}
use Rattle.pushclient.specs.declared.client.Step.TheVariants as steps
use Rattle.pushclient.specs.Clients.{Client, Connection}
use Rattle.pushclient.specs.Steps.{step}
use Rattle.pushclient.specs.Rule.{KeptClient, StandsFor}
use Rattle.pushclient.proofs.Reactions.{Told, Does, does-reacted}
use Rattle.pushclient.proofs.MessageSteps.{step_by, unclosed_by}
use Rattle.replay.specs.PassedOctets.{stepped, enough}
use Rattle.replay.specs.KeptSteps.{ends_steps, Steps}
use Rattle.replay.proofs.ClientPieces.{stepped_by}

-- ---- a client that waits is as it was

abbrev pub connected_by : Client → Option Connection → Step × Client
connected_by client None = (steps.Waiting, client)
connected_by client (Some c) = unclosed_by client c c.closed

module _ (client : Client) where
  abbrev LeavesIt : Step × Client → Type 0
  LeavesIt r = r.0 ≡ steps.Waiting → r.1 ≡ client

  on_message : (c : Connection) → c.closed ≡ None → (o : Option (List ℕ × List ℕ)) → LeavesIt (step_by client c o)
  on_message c unclosed None e = refl
  on_message c unclosed (Some found) e =
      let d : Does client.now _ = does-reacted client.now found.0 c client.wishes c unclosed in
      absurd (subst (λ (s : Step). Told s d.later) (sym (ap (λ (r : Step × Client). r.0) (d.is found.1)) ∙ e) d.told)

  on_connection : (c : Connection) (o : Option CloseReason) → c.closed ≡ o → LeavesIt (unclosed_by client c o)
  on_connection c None unclosed e = on_message c unclosed (first_message c.input) e
  on_connection c (Some reason) closed e = absurd cc

  by_connection : (o : Option Connection) → LeavesIt (connected_by client o)
  by_connection None e = refl
  by_connection (Some c) e = on_connection c c.closed refl e

  waits-same : LeavesIt (step client)
  waits-same = by_connection client.connection

-- ---- one step

module _ (turns : ℕ) (client : Client) where
  abbrev later : Client
  later = (step client).1

  turned : (told : Step) → (step client).0 ≡ told → stepped (suc turns) client ≡ stepped_by turns client (told, later)
  turned told e = ap (λ (s : Step). stepped_by turns client (s, later)) e

  step-last : (told : Step) → (step client).0 ≡ told → ends_steps told ≡ true → stepped (suc turns) client ≡ later
  step-last steps.Waiting e ends = turned steps.Waiting e ∙ sym (waits-same client e)
  step-last (steps.Closed reason) e ends = turned (steps.Closed reason) e
  step-last (steps.Answered id rcode) e ends = absurd cc
  step-last (steps.Kept inactivity keepalive) e ends = absurd cc
  step-last (steps.Pushed notices) e ends = absurd cc
  step-last (steps.Typeless id) e ends = absurd cc

  step-more : (told : Step) → (step client).0 ≡ told → ends_steps told ≡ false → stepped (suc turns) client ≡ stepped turns later
  step-more steps.Waiting e more = absurd cc
  step-more (steps.Closed reason) e more = absurd cc
  step-more (steps.Answered id rcode) e more = turned (steps.Answered id rcode) e
  step-more (steps.Kept inactivity keepalive) e more = turned (steps.Kept inactivity keepalive) e
  step-more (steps.Pushed notices) e more = turned (steps.Pushed notices) e
  step-more (steps.Typeless id) e more = turned (steps.Typeless id) e

-- ---- all steps

-- the steps so far lead to the whole
pub record IsStepping (whole : Client) (turns : ℕ) (kept : KeptClient) : Type 0 where
  pub client : Client
  pub stands : StandsFor kept client
  pub same : whole ≡ stepped turns client

unfoldable pub Stepping : KeptClient → ℕ → KeptClient → Type 0
Stepping start turns kept = (plain : Client) → StandsFor start plain → IsStepping (stepped enough plain) turns kept

abbrev pub MakesStep : Step → KeptClient → KeptClient → Type 0
MakesStep told kept later = (plain : Client) → StandsFor kept plain → (told ≡ (step plain).0) × StandsFor later (step plain).1

pub stepping-begins : (start : KeptClient) → Stepping start enough start
unfolding Stepping
stepping-begins start plain stands = record { client = plain; stands = stands; same = refl }

pub steps-last : (start kept after : KeptClient) (left : ℕ) (told : Step) → Stepping start (suc left) kept → MakesStep told kept after → ends_steps told ≡ true → Steps start after
unfolding Stepping Steps
steps-last start kept after left told stepping makes ends plain stands =
    let r = stepping plain stands in
    let m = makes r.client r.stands in
    subst (StandsFor after) (sym (r.same ∙ step-last left r.client told (sym m.0) ends)) m.1

pub stepping-more : (start kept after : KeptClient) (left : ℕ) (told : Step) → Stepping start (suc left) kept → MakesStep told kept after → ends_steps told ≡ false → Stepping start left after
unfolding Stepping
stepping-more start kept after left told stepping makes more plain stands =
    let r = stepping plain stands in
    let m = makes r.client r.stands in
    record { client = (step r.client).1; stands = m.1; same = r.same ∙ step-more left r.client told (sym m.0) more }

pub steps-used_up : (start kept : KeptClient) (left : ℕ) → left ≡ 0 → Stepping start left kept → Steps start kept
unfolding Stepping Steps
steps-used_up start kept left none stepping plain stands =
    let r : IsStepping (stepped enough plain) 0 kept = subst (λ (n : ℕ). IsStepping (stepped enough plain) n kept) none (stepping plain stands) in
    subst (StandsFor kept) (sym r.same) r.stands
