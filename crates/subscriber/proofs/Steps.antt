-- One step of the client that is kept: it waits, or takes the first message in its input.
--     one-step      which of both
--     takes-is      what a message makes of what was said
--     over-stays, said-more      where an ending was said; the text of further lines
use Rattle.std.proofs.Common.{◌≡◌, ◌⊎◌, inl, inr, ℕ, Bool, true, false, Option, Some, None, List, [], ◌∷◌, ◌++◌, refl, sym, ◌∙◌, ap, subst}
use Rattle.std.proofs.lemmas.Grind.{flat_map-append}
use Rattle.dsotlv.specs.Laws.{AreOctets}
use Rattle.dsotlv.specs.Messages.{first_message}
use Rattle.pushclient.specs.declared.client.Step.{Step}
use Rattle.pushclient.specs.declared.client.Step.TheVariants as steps
use Rattle.pushclient.specs.Clients.{Client, Connection, Wish, open_connection}
use Rattle.pushclient.specs.Pieces.{with_input}
use Rattle.pushclient.specs.Rule.{KeptClient, StandsFor}
use Rattle.pushclient.specs.Steps.{step, reacted}
use Rattle.pushclient.proofs.EveryCut.{IsAt, is-at}
use Rattle.pushclient.proofs.MessageSteps.{bare, step-first, step-waits}
use Rattle.pushclient.proofs.Reactions.{at, with_octets, Told, does-reacted}
use Rattle.pushclient.proofs.Streams.{behind-first}
use Rattle.scripts.specs.Words.{line, ended_lines}
use Rattle.subscriber.specs.Said.{Saying, after_step, takes_message, takes_messages}
use Rattle.subscriber.specs.Standing.{StandsAs}

-- what a step tells of each client that is stood for
abbrev pub StepsAs : KeptClient → Step → KeptClient → Type 0
StepsAs kept told later = (plain : Client) → StandsFor kept plain → (told ≡ (step plain).0) × StandsFor later (step plain).1

-- ---- what a message makes of what was said

abbrev pub by_open : Saying → List ℕ → Option Connection → Saying
by_open s message None = s
by_open s message (Some c) = (let one = reacted message c s.client in after_step one.0 one.1 s)

abbrev pub by_over : Saying → List ℕ → Bool → Saying
by_over s message true = s
by_over s message false = by_open s message (open_connection s.client)

pub takes-open : (s : Saying) (message : List ℕ) (c : Connection) → s.over ≡ false → open_connection s.client ≡ Some c → takes_message s message ≡ (let one = reacted message c s.client in after_step one.0 one.1 s)
takes-open s message c going there = ap (by_over s message) going ∙ ap (by_open s message) there

pub takes-over : (s : Saying) (message : List ℕ) → s.over ≡ true → takes_message s message ≡ s
takes-over s message over = ap (by_over s message) over

-- where an ending was said nothing more is
pub over-stays : (messages : List (List ℕ)) (s : Saying) → s.over ≡ true → takes_messages messages s ≡ s
over-stays [] s over = refl
over-stays (m ∷ ms) s over = ap (takes_messages ms) (takes-over s m over) ∙ over-stays ms s over

-- the text of further lines
pub said-more : (before lines : List (List ℕ)) (text more now : List ℕ) → text ≡ ended_lines before → more ≡ ended_lines lines → now ≡ text ++ more → now ≡ ended_lines (before ++ lines)
said-more before lines text more now is are e = e ∙ (λ i. is i ++ are i) ∙ sym (flat_map-append line before lines)

-- ---- one step

-- no message is whole
pub record Waited (s : Saying) (input : List ℕ) (told : Step) (later : KeptClient) : Type 0 where
  pub first : first_message input ≡ None
  pub nothing : told ≡ steps.Waiting
  pub stands : StandsFor later (with_input input s.client)

-- the first message was taken
pub record Took (s : Saying) (input : List ℕ) (told : Step) (later : KeptClient) : Type 0 where
  pub message : List ℕ
  pub rest : List ℕ
  pub first : first_message input ≡ Some (message, rest)
  pub wishes : List Wish
  pub now : ℕ
  pub connection : Connection
  pub takes : takes_message s message ≡ after_step told (at wishes now (bare connection)) s
  pub stands : StandsFor later (at wishes now (with_octets rest connection))
  pub tells : Told told connection
  pub octets : AreOctets rest

pub one-step : (s : Saying) (input : List ℕ) (kept later : KeptClient) (messages : Option ℕ) (told : Step) → StandsAs s input kept messages → StepsAs kept told later → Waited s input told later ⊎ Took s input told later
one-step s input kept later messages told a goes = by (first_message input) refl
  where
    c : Connection
    c = a.connection

    ws : List Wish
    ws = s.client.wishes

    now : ℕ
    now = s.client.now

    is : IsAt s.client c
    is = is-at s.client c a.there

    here : with_input input s.client ≡ at ws now (with_octets input c)
    here = ap (λ (x : Client). with_input input x) is.same

    done : (told ≡ (step (at ws now (with_octets input c))).0) × StandsFor later (step (at ws now (with_octets input c))).1
    done = goes (at ws now (with_octets input c)) (subst (StandsFor kept) here a.stands)

    by : (first : Option (List ℕ × List ℕ)) → first_message input ≡ first → Waited s input told later ⊎ Took s input told later
    by None e =
        let waits : step (at ws now (with_octets input c)) ≡ (steps.Waiting, at ws now (with_octets input c)) = step-waits ws now (with_octets input c) is.unclosed e in
        inl (record {
          first = e;
          nothing = done.0 ∙ ap (λ (o : Step × Client). o.0) waits;
          stands = subst (StandsFor later) (ap (λ (o : Step × Client). o.1) waits ∙ sym here) done.1;
        })
    by (Some (message, rest)) e =
        let does = does-reacted now message c ws c is.unclosed in
        let stepped : step (at ws now (with_octets input c)) ≡ (does.answer, at does.wishes now (with_octets rest does.later)) = step-first ws now (with_octets input c) message rest is.unclosed e ∙ does.is rest in
        let told-is : told ≡ does.answer = done.0 ∙ ap (λ (o : Step × Client). o.0) stepped in
        let alone : s.client ≡ at ws now (with_octets [] c) = is.same ∙ ap (λ (i : List ℕ). at ws now (with_octets i c)) a.bare in
        let one : reacted message c s.client ≡ (does.answer, at does.wishes now (bare does.later)) = ap (λ (x : Client). reacted message c x) alone ∙ does.is [] in
        inr (record {
          message = message;
          rest = rest;
          first = e;
          wishes = does.wishes;
          now = now;
          connection = does.later;
          takes = takes-open s message c a.going a.there ∙ ap (λ (o : Step × Client). after_step o.0 o.1 s) one ∙ ap (λ (t : Step). after_step t (at does.wishes now (bare does.later)) s) (sym told-is);
          stands = subst (StandsFor later) (ap (λ (o : Step × Client). o.1) stepped) done.1;
          tells = subst (λ (t : Step). Told t does.later) (sym told-is) does.told;
          octets = behind-first input message rest a.octets e;
        })
