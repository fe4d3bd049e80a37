-- The client reacts to one message after the other.
--     Reacting start left kept      so far
use Rattle.std.proofs.Common.{◌≡◌, ℕ, suc, Bool, true, false, refl, sym, ◌∙◌, ap, subst}
use Rattle.pushclient.specs.Clients.{Client}
use Rattle.pushclient.specs.Steps.{step}
use Rattle.pushclient.specs.Rule.{KeptClient, StandsFor}
use Rattle.pushclient.specs.declared.client.Step.{Step}
use Rattle.browsing.specs.Browsing.{is_last, reacts, reacts_to}

-- what is left leads to the client that has reacted to all
pub record IsReacting (plain : Client) (left : ℕ) (kept : KeptClient) : Type 0 where
  pub client : Client
  pub stands : StandsFor kept client
  pub same : reacts_to left client ≡ reacts plain

unfoldable pub Reacting : KeptClient → ℕ → KeptClient → Type 0
Reacting start left kept = (plain : Client) → StandsFor start plain → IsReacting plain left kept

abbrev pub StepsTo : KeptClient → Step → KeptClient → Type 0
StepsTo kept told later = (plain : Client) → StandsFor kept plain → (told ≡ (step plain).0) × StandsFor later (step plain).1

pub reacting-begins : (start : KeptClient) → Reacting start 18446744073709551615 start
unfolding Reacting reacts
reacting-begins start plain s = record { client = plain; stands = s; same = refl }

-- a turn, by whether its step is the last
turn-is : (client : Client) (less : ℕ) (last : Bool) → is_last (step client).0 ≡ last → reacts_to (suc less) client ≡ elim last [ true ↦ (step client).1 | false ↦ reacts_to less (step client).1 ]
turn-is client less last e = ap (λ (b : Bool). elim b [ true ↦ (step client).1 | false ↦ reacts_to less (step client).1 ]) e

pub reacts-last : (start kept later : KeptClient) (left less : ℕ) (told : Step) → left ≡ suc less → is_last told ≡ true → Reacting start left kept → StepsTo kept told later
    → (plain : Client) → StandsFor start plain → StandsFor later (reacts plain)
unfolding Reacting
reacts-last start kept later left less told is last so_far steps plain s =
    let r = so_far plain s in
    let one = steps r.client r.stands in
    subst (StandsFor later) (sym (turn-is r.client less true (ap is_last (sym one.0) ∙ last)) ∙ ap (λ (n : ℕ). reacts_to n r.client) (sym is) ∙ r.same) one.1

pub reacting-more : (start kept later : KeptClient) (left less : ℕ) (told : Step) → left ≡ suc less → is_last told ≡ false → Reacting start left kept → StepsTo kept told later → Reacting start less later
unfolding Reacting
reacting-more start kept later left less told is last so_far steps plain s =
    let r = so_far plain s in
    let one = steps r.client r.stands in
    record { client = (step r.client).1; stands = one.1; same = sym (turn-is r.client less false (ap is_last (sym one.0) ∙ last)) ∙ ap (λ (n : ℕ). reacts_to n r.client) (sym is) ∙ r.same }

pub reacts-out : (start kept : KeptClient) (left : ℕ) → left ≡ 0 → Reacting start left kept → (plain : Client) → StandsFor start plain → StandsFor kept (reacts plain)
unfolding Reacting
reacts-out start kept left none so_far plain s =
    let r = so_far plain s in
    subst (StandsFor kept) (ap (λ (n : ℕ). reacts_to n r.client) (sym none) ∙ r.same) r.stands
