-- What a resting session answers to whole messages, one after the other.
--     answers-as-ran      each answer is
use Rattle.std.proofs.Common.{◌≡◌, ℕ, ◌≤◌, List, [], ◌∷◌, ◌++◌, length, drop, Option, Some, None, option_map, inl, inr, refl, sym, ap, subst, arith, take_all, drop_of_length-le}
use Rattle.pushserver.specs.declared.given.Given.{Given}
use Rattle.pushserver.specs.declared.given.Given.TheVariants.{Bytes, Worked, Nothing, Ending, End}
use Rattle.pushserver.specs.PlainHubs.{Session, Hub, Giving}
use Rattle.pushserver.specs.Hubs.{state_now}
use Rattle.pushserver.specs.Giving.{did, copies, copies_or, given_after, reacted, after_reaction}
use Rattle.replay.specs.PassedOctets.{enough}
use Rattle.replay.specs.SessionPieces.{answers_to}
use Rattle.replay.proofs.turns.ZoneSizes.{IsBounded}
use Rattle.replay.proofs.rest.AtRest.{Core, Turned, resting, turned, ran_by, ran, behind_octets, At, Longer, Follows, IsFew, TurnsAsTold, WritesFew, StaysLonger}
use Rattle.replay.proofs.rest.RestingHubs.{at-in_session}
use Rattle.replay.proofs.rest.RestingGives.{give-ended}
use Rattle.replay.proofs.rest.RestingPieces.{OctetsAndHub, GivenEnd, GivenAs, behind}

-- ---- the octets of one reaction

module _ (number : ℕ) (messages : List (List ℕ)) where
  -- octets before the further answers
  abbrev and_answers : Giving → OctetsAndHub
  and_answers one = (let later = answers_to number messages one.hub in (one.octets ++ later.0, later.1))

  abbrev by_given : Giving → Given → OctetsAndHub
  by_given one (End reason) = (one.octets, one.hub)
  by_given one (Bytes n) = and_answers one
  by_given one Worked = and_answers one
  by_given one Nothing = and_answers one
  by_given one Ending = and_answers one

  -- what follows a reaction
  abbrev then_answers : Giving → OctetsAndHub
  then_answers one = by_given one one.given

abbrev by_found : ℕ → ℕ → Hub → Option Session → Giving
by_found number room later None = did Worked later
by_found number room later (Some session) = copies_or (given_after session.standing) number room session later

-- what was written is handed on whole
module _ (hub : Hub) (number : ℕ) (later : Hub) (core : Core) (input : List ℕ) where
  record HandsOn (written : List ℕ) (one : Giving) : Type 0 where
    goes : (messages : List (List ℕ)) → then_answers number messages one ≡ and_answers number messages one
    octets : one.octets ≡ written
    at : At hub number one.hub (resting core input [])

  hands-on : (written : List ℕ) → length written ≤ enough → At hub number later (resting core input written) → HandsOn written (after_reaction number enough later)
  hands-on [] few at = subst (λ (g : Giving). HandsOn [] g) (sym (ap (by_found number enough later) at.there)) (record { goes = λ messages. refl; octets = refl; at = at })
  hands-on (o ∷ os) few at =
      let written : List ℕ = o ∷ os in
      let copied : Giving = copies number enough (resting core input written) later in
      let left = at-in_session hub number later (resting core input written) (λ s. record s { output = drop enough s.output }) at in
      let silent : At hub number copied.hub (resting core input []) = subst (λ (octets : List ℕ). At hub number copied.hub (resting core input octets)) (drop_of_length-le written few) left in
      subst (λ (g : Giving). HandsOn written g) (sym (ap (by_found number enough later) at.there)) (record { goes = λ messages. refl; octets = take_all enough written few; at = silent })

-- ---- all messages

module _ (stays-longer : (hub : Hub) → StaysLonger hub) (hub : Hub) (number : ℕ) where
  longer-by : (messages : List (List ℕ)) → ((later : Hub) → Longer hub later → Longer hub (answers_to number messages later).1) → (one : Giving) (given : Given) → Longer hub one.hub → Longer hub (by_given number messages one given).1
  longer-by messages others one (End reason) longer = longer
  longer-by messages others one (Bytes n) longer = others one.hub longer
  longer-by messages others one Worked longer = others one.hub longer
  longer-by messages others one Nothing longer = others one.hub longer
  longer-by messages others one Ending longer = others one.hub longer

  pub answers-longer : (messages : List (List ℕ)) (later : Hub) → Longer hub later → Longer hub (answers_to number messages later).1
  answers-longer [] later longer = longer
  answers-longer (message ∷ messages) later longer =
      let one : Giving = after_reaction number enough (reacted message number later) in
      longer-by messages (answers-longer messages) one one.given ((stays-longer hub).after_reaction (reacted message number later) number enough ((stays-longer hub).reacted later message number longer))

-- what is said of messages
abbrev pub AnswersAsRan : Hub → ℕ → List (List ℕ) → Type 0
AnswersAsRan hub number messages = (later : Hub) (core : Core) (input : List ℕ) → At hub number later (resting core input []) → GivenAs hub number input (answers_to number messages later) (ran hub messages core)

module _ (stays-longer : (hub : Hub) → StaysLonger hub) (hub : Hub) (number : ℕ) (messages : List (List ℕ)) (others : AnswersAsRan hub number messages) (core : Core) (input : List ℕ) where
  one-answered : (t : Turned) (later : Hub) → IsFew t → Follows hub number later input t → GivenAs hub number input (then_answers number messages (after_reaction number enough later)) (ran_by hub (λ left. ran hub messages left) core t)
  one-answered None later few follows =
      let one : Giving = after_reaction number enough later in
      longer-by stays-longer hub number messages (answers-longer stays-longer hub number messages) one one.given ((stays-longer hub).after_reaction later number enough follows)
  one-answered (Some (inl reason)) later few follows =
      let end : GivenEnd hub number reason (record { octets = []; over = Some reason; core = core }) (then_answers number messages (did (End reason) later)) = record { octets = refl; over = follows } in
      subst (λ (one : Giving). GivenEnd hub number reason (record { octets = []; over = Some reason; core = core }) (then_answers number messages one)) (sym (give-ended hub number enough later reason follows)) end
  one-answered (Some (inr left)) later few follows =
      let one : Giving = after_reaction number enough later in
      let on = hands-on hub number later left.0 input left.1 (omega (arith, few)) follows in
      let whole = behind hub number input one.octets left.1 (answers_to number messages one.hub) (ran hub messages left.0) on.octets (others one.hub left.0 input on.at) in
      subst (λ (a : OctetsAndHub). GivenAs hub number input a (option_map (behind_octets left.1) (ran hub messages left.0))) (sym (on.goes messages)) whole

module _ (turns-as-told : TurnsAsTold) (writes-few : WritesFew) (stays-longer : (hub : Hub) → StaysLonger hub) (hub : Hub) (number : ℕ) (bounded : IsBounded (state_now hub)) where
  pub answers-as-ran : (messages : List (List ℕ)) → AnswersAsRan hub number messages
  answers-as-ran [] = λ later core input at. record { octets = refl; at = at }
  answers-as-ran (message ∷ messages) = λ later core input at. one-answered stays-longer hub number messages (answers-as-ran messages) core input (turned hub message core) (reacted message number later)
      (writes-few hub message core bounded) (turns-as-told hub number later message core input at)
