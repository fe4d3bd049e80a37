-- What a resting session gives for pieces of octets that come one after the other: what it makes of the whole messages in all of them.
--     GivenAs      what was given is as the messages say
--     given-for      all pieces
--     given-over      a session that has ended gives nothing more
use Rattle.std.proofs.Common.{◌≡◌, ℕ, ◌+◌, ◌≤◌, List, [], ◌∷◌, ◌++◌, length, Option, Some, None, option_map, refl, sym, ◌∙◌, ap, subst, arith, append-nil, length-append}
use Rattle.std.specs.List.{concat}
use Rattle.dsosession.specs.declared.session.EndReason.{EndReason}
use Rattle.dsotlv.specs.Laws.{AreOctets}
use Rattle.dsotlv.specs.Messages.{first_message, messages_in}
use Rattle.dsotlv.proofs.FrameLaws.{Split}
use Rattle.dsotlv.proofs.StreamLaws.{none_found}
use Rattle.pushserver.specs.PlainHubs.{Hub}
use Rattle.pushserver.specs.Hubs.{state_now}
use Rattle.replay.specs.PassedOctets.{Exchanged, exchanged, enough}
use Rattle.replay.specs.SessionPieces.{given_for}
use Rattle.replay.proofs.turns.ZoneSizes.{IsBounded}
use Rattle.replay.proofs.rest.AtRest.{Core, Ran, resting, ran, behind_octets, At, Longer, IsOver, EmitsAsRan, StaysLonger}
use Rattle.replay.proofs.rest.RanLaws.{followed_by, followed, ran-append}
use Rattle.replay.proofs.rest.StreamCounts.{rest-has-none}
use Rattle.replay.proofs.rest.RestingStreams.{first_part, second_part, cut_behind, first-octets, second-octets}
use Rattle.replay.proofs.rest.RestingExchanges.{ExchangedBy, ExchangedAs, exchanges, exchanged-over}

abbrev pub OctetsAndHub : Type 0
OctetsAndHub = List ℕ × Hub

-- ---- what was given for pieces

-- the session goes on
pub record GivenLive (hub : Hub) (number : ℕ) (rest : List ℕ) (r : Ran) (g : OctetsAndHub) : Type 0 where
  pub octets : g.0 ≡ r.octets
  pub at : At hub number g.1 (resting r.core rest [])

-- the session has ended
pub record GivenEnd (hub : Hub) (number : ℕ) (reason : EndReason) (r : Ran) (g : OctetsAndHub) : Type 0 where
  pub octets : g.0 ≡ r.octets
  pub over : IsOver hub number g.1 reason

abbrev pub GivenBy : Hub → ℕ → List ℕ → OctetsAndHub → Ran → Option EndReason → Type 0
GivenBy hub number rest g r None = GivenLive hub number rest r g
GivenBy hub number rest g r (Some reason) = GivenEnd hub number reason r g

abbrev pub GivenAs : Hub → ℕ → List ℕ → OctetsAndHub → Option Ran → Type 0
GivenAs hub number rest g None = Longer hub g.1
GivenAs hub number rest g (Some r) = GivenBy hub number rest g r r.over

-- octets before what is given for further pieces
abbrev pub and_given : ℕ → List (List ℕ) → Exchanged → OctetsAndHub
and_given number pieces x = (let later = given_for number pieces x.hub in (x.octets ++ later.0, later.1))

pub given-longer : (stays-longer : (hub : Hub) → StaysLonger hub) (hub : Hub) (number : ℕ) (pieces : List (List ℕ)) (later : Hub) → Longer hub later → Longer hub (given_for number pieces later).1
given-longer stays-longer hub number [] later longer = longer
given-longer stays-longer hub number (piece ∷ pieces) later longer =
    given-longer stays-longer hub number pieces (exchanged enough number piece later []).hub ((stays-longer hub).exchanged enough number piece later [] longer)

module _ (hub : Hub) (number : ℕ) where
  -- an ended session gives nothing
  pub record GivesNothing (reason : EndReason) (g : OctetsAndHub) : Type 0 where
    pub octets : g.0 ≡ []
    pub over : IsOver hub number g.1 reason

  and_nothing : (reason : EndReason) (octets : List ℕ) (later : OctetsAndHub) → octets ≡ [] → GivesNothing reason later → GivesNothing reason (octets ++ later.0, later.1)
  and_nothing reason octets later none rest = record { octets = ap (λ (o : List ℕ). o ++ later.0) none ∙ rest.octets; over = rest.over }

  pub given-over : (reason : EndReason) (pieces : List (List ℕ)) (later : Hub) → IsOver hub number later reason → GivesNothing reason (given_for number pieces later)
  given-over reason [] later over = record { octets = refl; over = over }
  given-over reason (piece ∷ pieces) later over =
      let still = exchanged-over hub number reason enough piece later [] over in
      and_nothing reason (exchanged enough number piece later []).octets (given_for number pieces (exchanged enough number piece later []).hub) still.octets
      (given-over reason pieces (exchanged enough number piece later []).hub still.over)

  behind-by : (rest before octets : List ℕ) (g : OctetsAndHub) (r : Ran) (over : Option EndReason) → before ≡ octets → GivenBy hub number rest g r over → GivenBy hub number rest (before ++ g.0, g.1) (behind_octets octets r) over
  behind-by rest before octets g r None is given = record { octets = ap (λ (o : List ℕ). o ++ g.0) is ∙ ap (λ (o : List ℕ). octets ++ o) given.octets; at = given.at }
  behind-by rest before octets g r (Some reason) is given = record { octets = ap (λ (o : List ℕ). o ++ g.0) is ∙ ap (λ (o : List ℕ). octets ++ o) given.octets; over = given.over }

  pub behind : (rest before octets : List ℕ) (g : OctetsAndHub) (o : Option Ran) → before ≡ octets → GivenAs hub number rest g o → GivenAs hub number rest (before ++ g.0, g.1) (option_map (behind_octets octets) o)
  behind rest before octets g None is given = given
  behind rest before octets g (Some r) is given = behind-by rest before octets g r r.over is given

-- what is said of pieces
abbrev pub GivesAsRan : Hub → ℕ → List (List ℕ) → Type 0
GivesAsRan hub number pieces = (later : Hub) (core : Core) (input : List ℕ) → At hub number later (resting core input []) → first_message input ≡ None → AreOctets (input ++ concat pieces) → length (concat pieces) ≤ enough
    → GivenAs hub number (messages_in (input ++ concat pieces)).1 (given_for number pieces later) (ran hub (messages_in (input ++ concat pieces)).0 core)

module _ (stays-longer : (hub : Hub) → StaysLonger hub) (hub : Hub) (number : ℕ) (pieces : List (List ℕ)) (others : GivesAsRan hub number pieces) (x : Exchanged) (rest : List ℕ)
    (below : AreOctets (rest ++ concat pieces)) (none : first_message rest ≡ None) (few : length (concat pieces) ≤ enough) where
  abbrev whole_rest : Split
  whole_rest = messages_in (rest ++ concat pieces)

  -- the further pieces behind one exchange
  go_on-by : (r : Ran) (over : Option EndReason) → r.over ≡ over → ExchangedBy hub number rest [] x r over → GivenAs hub number whole_rest.1 (and_given number pieces x) (followed_by hub whole_rest.0 r over)
  go_on-by r None is told = behind hub number whole_rest.1 x.octets r.octets (given_for number pieces x.hub) (ran hub whole_rest.0 r.core) told.octets (others x.hub r.core rest told.at none below few)
  go_on-by r (Some reason) is told =
      let still = given-over hub number reason pieces x.hub told.over in
      let end : GivenEnd hub number reason r (and_given number pieces x) = record {
        octets = ap (λ (o : List ℕ). x.octets ++ o) still.octets ∙ append-nil x.octets ∙ told.octets;
        over = still.over;
      } in
      subst (λ (o : Option EndReason). GivenBy hub number whole_rest.1 (and_given number pieces x) r o) (sym is) end

  go_on : (o : Option Ran) → ExchangedAs hub number rest [] x o → GivenAs hub number whole_rest.1 (and_given number pieces x) (followed hub whole_rest.0 o)
  go_on None told = given-longer stays-longer hub number pieces x.hub told
  go_on (Some r) told = go_on-by r r.over refl told

module _ (stays-longer : (hub : Hub) → StaysLonger hub) (emits-as-ran : EmitsAsRan) (hub : Hub) (number : ℕ) (bounded : IsBounded (state_now hub)) where
  given-one : (piece : List ℕ) (pieces : List (List ℕ)) → GivesAsRan hub number pieces → GivesAsRan hub number (piece ∷ pieces)
  given-one piece pieces others later core input at none below few =
      let behind : List ℕ = concat pieces in
      let x : Exchanged = exchanged enough number piece later [] in
      let first = first_part input piece in
      let second = second_part input piece behind in
      let all : length piece + length behind ≤ enough = omega (arith, few, length-append piece behind) in
      let octets = first-octets input piece behind (piece ++ behind) refl below in
      let told = exchanges stays-longer emits-as-ran hub number bounded enough piece later core input [] at none octets (omega (arith, all)) in
      let last = go_on stays-longer hub number pieces others x first.1 (second-octets input piece behind (piece ++ behind) refl below) (rest-has-none (input ++ piece)) (omega (arith, all)) (ran hub first.0 core) told in
      let parts = subst (λ (o : Option Ran). GivenAs hub number second.1 (and_given number pieces x) o) (sym (ran-append hub first.0 second.0 core)) last in
      subst (λ (s : Split). GivenAs hub number s.1 (and_given number pieces x) (ran hub s.0 core)) (sym (cut_behind input piece behind (piece ++ behind) refl)) parts

  pub given-for : (pieces : List (List ℕ)) → GivesAsRan hub number pieces
  given-for [] = λ later core input at none below few. subst (λ (s : Split). GivenAs hub number s.1 ([], later) (ran hub s.0 core))
      (sym (ap (λ (octets : List ℕ). messages_in octets) (append-nil input) ∙ none_found input none)) (record { octets = refl; at = at })
  given-for (piece ∷ pieces) = given-one piece pieces (given-for pieces)
