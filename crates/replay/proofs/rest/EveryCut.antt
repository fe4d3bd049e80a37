-- A session at rest gives the same for its octets, however they are cut: what it answers to the whole messages in them, one after the other.
--     answers-every-cut      the law, of each session of a hub
use Rattle.std.proofs.Common.{◌≡◌, ℕ, ◌<◌, List, ◌++◌, length, Option, Some, None, option_map, sym, ◌∙◌, ap, subst, arith}
use Rattle.std.specs.List.{concat, All, AllByRecursion}
use Rattle.dsosession.specs.declared.session.EndReason.{EndReason}
use Rattle.dsotlv.specs.Laws.{AreOctets}
use Rattle.dsotlv.specs.Messages.{messages_in}
use Rattle.history.specs.declared.entry.Entry.{Entry}
use Rattle.pushsession.specs.declared.session_status.SessionStatus.{SessionStatus}
use Rattle.pushsession.specs.declared.session_status.SessionStatus.TheVariants.{Live, Ended}
use Rattle.pushserver.specs.PlainHubs.{Session, Hub}
use Rattle.pushserver.specs.Hubs.{state_now}
use Rattle.pushsession.specs.Sessions.{without_first}
use Rattle.replay.specs.SessionPieces.{given_for, answers_to, IsAtRest, ArePassable, standing_of, GivesAsAnswered, AnswersInTurn, OneOutputForEveryCut, AnswersEveryCut}
use Rattle.replay.proofs.turns.ZoneSizes.{IsBounded}
use Rattle.replay.proofs.rest.AtRest.{core_of, Ran, ran, Longer, EmitsAsRan, TurnsAsTold, WritesFew, StaysLonger}
use Rattle.replay.proofs.worlds.InputOctets.{found_octets}
use Rattle.replay.proofs.rest.RestingStreams.{octets-both}
use Rattle.replay.proofs.rest.RestingHubs.{rest-at}
use Rattle.replay.proofs.rest.RestingPieces.{OctetsAndHub, GivenBy, GivenAs, given-for}
use Rattle.replay.proofs.rest.RestingAnswers.{answers-as-ran}

-- ---- where the history stayed

given-octets : (hub : Hub) (number : ℕ) (rest : List ℕ) (g : OctetsAndHub) (r : Ran) (over : Option EndReason) → GivenBy hub number rest g r over → g.0 ≡ r.octets
given-octets hub number rest g r None given = given.octets
given-octets hub number rest g r (Some reason) given = given.octets

not_longer : (hub later : Hub) → later.history ≡ hub.history → Longer hub later → ⊥
not_longer hub later same longer = omega (arith, ap (λ (entries : List Entry). length entries) same, longer)

-- what was given is what is answered, and the session is left alike
alike_by : (hub : Hub) (number : ℕ) (rest input : List ℕ) (g a : OctetsAndHub) (r : Ran) (over : Option EndReason) → GivenBy hub number rest g r over → GivenBy hub number input a r over → GivesAsAnswered number rest g a
alike_by hub number rest input g a r None given answered = record {
  octets = given.octets ∙ sym answered.octets;
  history = ap (λ (h : Hub). h.history) given.at.is ∙ sym (ap (λ (h : Hub). h.history) answered.at.is);
  standing = ap (λ (o : Option Session). option_map (λ s. s.standing) o) given.at.there ∙ sym (ap (λ (o : Option Session). option_map (λ s. s.standing) o) answered.at.there);
  session = λ live. given.at.there ∙ sym (ap (λ (o : Option Session). option_map (without_first rest) o) answered.at.there);
}
alike_by hub number rest input g a r (Some reason) given answered =
    let ended : standing_of a.1 number ≡ Some (Ended reason) = ap (λ (o : Option Session). option_map (λ s. s.standing) o) answered.over.at.there ∙ ap (λ (s : SessionStatus). Some s) answered.over.standing in
    record {
      octets = given.octets ∙ sym answered.octets;
      history = ap (λ (h : Hub). h.history) given.over.at.is ∙ sym (ap (λ (h : Hub). h.history) answered.over.at.is);
      standing = ap (λ (o : Option Session). option_map (λ s. s.standing) o) given.over.at.there ∙ ap (λ (s : SessionStatus). Some s) given.over.standing ∙ sym ended;
      session = λ live. absurd (not_live (sym ended ∙ live));
    }
  where
    not_live : Some (Ended reason) ≡ Some Live → ⊥
    not_live e = cc

alike : (hub : Hub) (number : ℕ) (rest input : List ℕ) (g a : OctetsAndHub) (o : Option Ran) → a.1.history ≡ hub.history → GivenAs hub number rest g o → GivenAs hub number input a o → GivesAsAnswered number rest g a
alike hub number rest input g a None same given answered = absurd (not_longer hub a.1 same answered)
alike hub number rest input g a (Some r) same given answered = alike_by hub number rest input g a r r.over given answered

-- what was given is what is given otherwise
same_given : (hub : Hub) (number : ℕ) (rest : List ℕ) (g h : OctetsAndHub) (o : Option Ran) → g.1.history ≡ hub.history → GivenAs hub number rest g o → GivenAs hub number rest h o → g.0 ≡ h.0
same_given hub number rest g h None same given other = absurd (not_longer hub g.1 same given)
same_given hub number rest g h (Some r) same given other = given-octets hub number rest g r r.over given ∙ sym (given-octets hub number rest h r r.over other)

-- ---- the law

module _ (turns-as-told : TurnsAsTold) (writes-few : WritesFew) (stays-longer : (hub : Hub) → StaysLonger hub) (emits-as-ran : EmitsAsRan) (hub : Hub) (bounded : IsBounded (state_now hub))
    (all : AllByRecursion (λ e. All (λ o. o < 256) e.1.input) hub.sessions) where
  module _ (number : ℕ) (session : Session) (rest : IsAtRest hub number session) where
    -- the octets that came and those of the pieces
    below : (pieces : List (List ℕ)) → ArePassable (concat pieces) → AreOctets (session.input ++ concat pieces)
    below pieces passable = octets-both session.input (concat pieces) (found_octets hub number session rest.there all) passable.0

    given-ran : (pieces : List (List ℕ)) → ArePassable (concat pieces)
        → GivenAs hub number (messages_in (session.input ++ concat pieces)).1 (given_for number pieces hub) (ran hub (messages_in (session.input ++ concat pieces)).0 (core_of session))
    given-ran pieces passable =
        given-for stays-longer emits-as-ran hub number bounded pieces hub (core_of session) session.input (rest-at hub number session rest) rest.waits (below pieces passable) passable.1

  pub answers-in-turn : (number : ℕ) → AnswersInTurn hub number
  answers-in-turn number session pieces rest passable same =
      let split = messages_in (session.input ++ concat pieces) in
      alike hub number split.1 session.input (given_for number pieces hub) (answers_to number split.0 hub) (ran hub split.0 (core_of session)) same (given-ran number session rest pieces passable)
      (answers-as-ran turns-as-told writes-few stays-longer hub number bounded split.0 hub (core_of session) session.input (rest-at hub number session rest))

  pub one-output-for-every-cut : (number : ℕ) → OneOutputForEveryCut hub number
  one-output-for-every-cut number session first second rest passable is same =
      let first-ran = given-ran number session rest first passable in
      let second-ran = given-ran number session rest second (subst ArePassable is passable) in
      let like-first = subst (λ (octets : List ℕ). GivenAs hub number (messages_in (session.input ++ octets)).1 (given_for number second hub) (ran hub (messages_in (session.input ++ octets)).0 (core_of session))) (sym is) second-ran in
      same_given hub number (messages_in (session.input ++ concat first)).1 (given_for number first hub) (given_for number second hub)
      (ran hub (messages_in (session.input ++ concat first)).0 (core_of session)) same first-ran like-first

module _ (turns-as-told : TurnsAsTold) (writes-few : WritesFew) (stays-longer : (hub : Hub) → StaysLonger hub) (emits-as-ran : EmitsAsRan) where
  pub answers-every-cut : (hub : Hub) → IsBounded (state_now hub) → AllByRecursion (λ e. All (λ o. o < 256) e.1.input) hub.sessions → AnswersEveryCut hub
  answers-every-cut hub bounded all number =
      (answers-in-turn turns-as-told writes-few stays-longer emits-as-ran hub bounded all number, one-output-for-every-cut turns-as-told writes-few stays-longer emits-as-ran hub bounded all number)
