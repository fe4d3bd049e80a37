-- What is under way still fits behind each call of `give`.
--     first-met      the first of the client's messages, as a session meets it
--     reacting-leaves      a message of the client is reacted to
--     each-give-leaves      any call
use Rattle.std.proofs.Common.{◌≡◌, ◌⊎◌, inl, inr, ℕ, Bool, true, false, List, [], ◌∷◌, ◌++◌, take, drop, Option, Some, None, refl, sym, ap, subst, ◌∙◌, arith, true≢false}
use Rattle.std.specs.Prelude.{IsSome, IsTrue, flat_map, option_map}
use Rattle.std.specs.List.{AllByRecursion}
use Rattle.std.proofs.lemmas.Bool.{and_parts}
use Rattle.push_base.specs.Cases.{is_empty}
use Rattle.dnsname.specs.Names.{is_name}
use Rattle.rrset.specs.declared.record.Question.{Question}
use Rattle.dsotlv.specs.Messages.{first_message, frame}
use Rattle.dsosession.specs.Timing.{Clocks, restarted}
use Rattle.dsosession.specs.declared.session.Timers.{Timers}
use Rattle.dsosession.specs.declared.session.EndReason.{EndReason}
use Rattle.dsosession.specs.declared.session.EndReason.TheVariants as ends
use Rattle.history.specs.States.{State}
use Rattle.history.specs.declared.entry.Entry.{Entry}
use Rattle.pushsession.specs.declared.session_status.SessionStatus.{SessionStatus}
use Rattle.pushsession.specs.declared.session_status.SessionStatus.TheVariants.{Live, AskedToStop, Stopped, Ended}
use Rattle.pushsession.specs.Sessions.{is_open, ended_where, without_first}
use Rattle.pushserver.specs.Giving.{give}
use Rattle.pushserver.specs.Hubs.{now, keeps_now, session_of}
use Rattle.pushserver.specs.PlainHubs.{Session, Hub, asked_of}
use Rattle.pushserver.specs.SoundHubs.{IsSoundHub}
use Rattle.pushclient.specs.Clients.{Client, Connection}
use Rattle.inflight.specs.Messages.{ClientMessage, subscribes, unsubscribes, reconfirms, requests_keepalive, message_octets}
use Rattle.inflight.specs.Ends.{ends_of, is_id, is_question, going_up, going_down, taken_up, all_taken_up, remembers}
use Rattle.inflight.specs.Flight.{InFlight, IsUnderWay}
use Rattle.flight_laws.specs.EachGive.{ReactingGivesLeaveIt, GivesLeaveIt}
use Rattle.flight_laws.specs.Laws.{Active}
use Rattle.flight_laws.specs.Meeting.{is_within, is_request_to_keep, asks_hub, behind_for, falls_behind, after_entry, IsMet, ComesUp, HasAfter}
use Rattle.flight_laws.specs.Reacting.{HomesStay}
use Rattle.flight_laws.specs.Turns.{PushesCanBeTold, reaction, Needs, ReactionsLeaveIt, BehindGiving, StopFits, ReactsToNone, QuietGivesLeaveIt}
use Rattle.flight_laws.proofs.GivesSo.{gives-so}
use Rattle.flight_laws.proofs.Ending.{sessions-end}
use Rattle.flight_laws.proofs.Passing.{came_out}
use Rattle.flight_laws.proofs.QuietTurns.{ends-leave}
use Rattle.flight_laws.proofs.Reacted.{reconfirms-leave}
use Rattle.flight_laws.proofs.ReadBack.{first-comes-up, taken-up-within}
use Rattle.flight_laws.proofs.TakenUp.{goes_on}

-- the first of those that are taken up is
first-taken : (established : Bool) (active : Active) (m : ClientMessage) (ms : List ClientMessage) → IsSome (all_taken_up established active (m ∷ ms)) → IsSome (taken_up established active m)
first-taken established active m ms h = by (taken_up established active m) h
  where
    by : (o : Option Active) → IsSome (goes_on established ms o) → IsSome o
    by None h = absurd (true≢false (sym h))
    by (Some later) h = refl

-- a question that is asked has a name
has-name : (question : Question) → is_question question ≡ true → is_name question.name ≡ true
has-name question h = (and_parts (is_name question.name) _ (and_parts _ _ h).0).0

-- octets that were handed out of a session go onto the wire, while the hub has it and nothing else is known of the hub
handed-on : (hub later : Hub) (entries : List Entry) (elsewhere : Option Session → Option Session) (number room : ℕ) (told : List (ℕ × ℕ)) (s : Session) (client : Client) (c : Connection) (up_wire down_wire octets : List ℕ) → octets ≡ take room s.output
    → HasAfter hub later entries elsewhere number (record s { output = drop room s.output }) → IsUnderWay hub told s client c up_wire down_wire
    → IsUnderWay later told (record s { output = drop room s.output }) client c up_wire (down_wire ++ octets)
handed-on hub later entries elsewhere number room told s client c up_wire down_wire octets handed has i =
    let left : Session = record s { output = drop room s.output } in
    let out : IsUnderWay hub told left client c up_wire (down_wire ++ take room s.output) = came_out hub told s client c down_wire (going_up s c up_wire) room i in
    subst (λ (os : List ℕ). IsUnderWay later told left client c up_wire (down_wire ++ os)) (sym handed)
    (subst (λ (start : State). InFlight (ends_of (record hub { start = start; timers = later.timers }) told left client c) (going_up left c up_wire) (going_down left c (down_wire ++ take room s.output))) (sym has.start)
    (subst (λ (timers : Timers). InFlight (ends_of (record hub { timers = timers }) told left client c) (going_up left c up_wire) (going_down left c (down_wire ++ take room s.output))) (sym has.timers) out))

-- a session may end, and with octets handed out the ends of first answers are told
ended-told : (hub : Hub) (told : List (ℕ × ℕ)) (s : Session) (client : Client) (c : Connection) (up_wire down_wire : List ℕ) (reason : Option EndReason) → IsUnderWay hub told s client c up_wire down_wire
    → IsUnderWay hub (remembers (ended_where (keeps_now hub) reason s).subscriptions told) (ended_where (keeps_now hub) reason s) client c up_wire down_wire
ended-told hub told s client c up_wire down_wire None i = ends-leave hub told s client c up_wire down_wire i
ended-told hub told s client c up_wire down_wire (Some reason) i = sessions-end hub reason told s client c (going_up s c up_wire) (going_down s c down_wire) i

-- the first of the client's messages is whole in a live session's input, and may be taken up
pub record FirstMet (hub : Hub) (number : ℕ) (session : Session) (c : Connection) (up_wire : List ℕ) (ups : List ClientMessage) (found : List ℕ × List ℕ) : Type 0 where
  pub up : ComesUp session c up_wire ups found.0 found.1
  pub within : is_within up.first ≡ true
  pub met : IsMet hub number session up.first found.1

pub first-met : (hub : Hub) (number : ℕ) (told : List (ℕ × ℕ)) (session : Session) (client : Client) (c : Connection) (up_wire down_wire : List ℕ) (found : List ℕ × List ℕ)
    → session_of hub number ≡ Some session → session.standing ≡ Live → session.output ≡ [] → first_message session.input ≡ Some found
    → (i : IsUnderWay hub told session client c up_wire down_wire) → FirstMet hub number session c up_wire i.ups found
first-met hub number told session client c up_wire down_wire found there live silent first i =
    let going : IsTrue (is_open session.standing) = ap is_open live in
    let accepted = (i.fit.up going).accepted in
    let within = taken-up-within session.established (asked_of session.subscriptions) i.ups accepted in
    let up : ComesUp session c up_wire i.ups found.0 found.1 = first-comes-up session c up_wire i.ups found.0 found.1 within (i.whole_up going) first in
    let taken = first-taken session.established (asked_of session.subscriptions) up.first up.others
    (subst (λ (ups : List ClientMessage). IsSome (all_taken_up session.established (asked_of session.subscriptions) ups)) up.are accepted) in
    record {
      up = up;
      within = (subst (λ (ups : List ClientMessage). AllByRecursion (λ m. IsTrue (is_within m)) ups) up.are within).0;
      met = record { there = there; live = live; silent = silent; first = first ∙ ap (λ (w : List ℕ). Some (w, found.1)) up.whole_is; taken = taken };
    }

module _ (quiet : QuietGivesLeaveIt) (reactions : ReactionsLeaveIt) (can_tell : PushesCanBeTold) (homes : HomesStay) where
  needs-met : (hub : Hub) (number : ℕ) (m : ClientMessage) (rest : List ℕ) (clocks : Clocks) (session : Session) → IsSoundHub hub → session_of hub number ≡ Some session → is_within m ≡ true
      → Needs hub m (record session { input = rest; clocks = clocks })
  needs-met hub number (subscribes id question) rest clocks session sound there within = (
    homes hub question ((sound.states 0 (omega arith)).home),
    can_tell.first hub number session question sound there (has-name question (and_parts (is_id id) (is_question question) within).1),
  )
  needs-met hub number (unsubscribes id) rest clocks session sound there within = tt
  needs-met hub number (reconfirms rr) rest clocks session sound there within = tt
  needs-met hub number (requests_keepalive id) rest clocks session sound there within = tt

  -- the session reacts, and may fall behind by the entry of a RECONFIRM
  reacted : (hub : Hub) (told : List (ℕ × ℕ)) (session : Session) (client : Client) (c : Connection) (up_wire down_wire : List ℕ) (m : ClientMessage) (others : List ClientMessage) (rest : List ℕ) (clocks : Clocks)
      → let before : Session = record session { input = rest; clocks = clocks } in
      let later : Session = falls_behind m hub (reaction hub m before) in
      (i : IsUnderWay hub told session client c up_wire down_wire)
      → IsTrue (is_open session.standing) → Needs hub m before → i.ups ≡ m ∷ others → going_up before c up_wire ≡ flat_map (λ m. frame (message_octets m)) others
      → IsUnderWay hub (remembers later.subscriptions told) later client c up_wire down_wire
  reacted hub told session client c up_wire down_wire (subscribes id question) others rest clocks i going needs ups up = reactions hub told session client c up_wire down_wire (subscribes id question) others rest clocks i going needs ups up
  reacted hub told session client c up_wire down_wire (unsubscribes id) others rest clocks i going needs ups up = reactions hub told session client c up_wire down_wire (unsubscribes id) others rest clocks i going needs ups up
  reacted hub told session client c up_wire down_wire (requests_keepalive id) others rest clocks i going needs ups up = reactions hub told session client c up_wire down_wire (requests_keepalive id) others rest clocks i going needs ups up
  reacted hub told session client c up_wire down_wire (reconfirms rr) others rest clocks i going needs ups up =
      let before : Session = record session { input = rest; clocks = clocks } in
      ended-told hub told before client c up_wire down_wire (option_map (λ p. ends.Behind p) (behind_for (reconfirms rr) hub before))
      (reconfirms-leave hub told session client c up_wire down_wire rr others rest clocks i going ups up)

  pub reacting-leaves : ReactingGivesLeaveIt
  reacting-leaves hub number room told session client c up_wire down_wire found sound there live silent first i =
      let going : IsTrue (is_open session.standing) = ap is_open live in
      let one = first-met hub number told session client c up_wire down_wire found there live silent first i in
      let m = one.up.first in
      let rest = found.1 in
      let s : Session = after_entry hub m (without_first rest session) in
      let gave = gives-so hub number room session m rest one.met in
      let clocks = restarted (is_request_to_keep m) (now hub) session.clocks in
      let under : IsUnderWay hub (remembers s.subscriptions told) s client c up_wire down_wire =
      reacted hub told session client c up_wire down_wire m one.up.others rest clocks i going (needs-met hub number m rest clocks session sound there one.within) one.up.are one.up.left in
      record {
        later = record s { output = drop room s.output };
        there = gave.leaves.session;
        flight = handed-on hub (give hub number room).hub (asks_hub m number hub).history (option_map (falls_behind m hub)) number room (remembers s.subscriptions told) s client c up_wire down_wire (give hub number room).octets gave.octets gave.leaves under;
      }

  module _ (hub : Hub) (number room : ℕ) (told : List (ℕ × ℕ)) (session : Session) (client : Client) (c : Connection) (up_wire down_wire : List ℕ)
      (sound : IsSoundHub hub) (there : session_of hub number ≡ Some session) (stop : StopFits session.standing) (i : IsUnderWay hub told session client c up_wire down_wire) where
    abbrev Behind : Type 0
    Behind = BehindGiving (give hub number room) number told client c up_wire down_wire

    waits : (is_empty session.output ≡ false) ⊎ ReactsToNone session.standing session → Behind
    waits w = quiet hub number room told session client c up_wire down_wire there w stop (can_tell.packed hub number session sound there) i

    none : (standing : SessionStatus) → session.standing ≡ standing → ReactsToNone standing session → Behind
    none standing is h = waits (inr (subst (λ (s : SessionStatus). ReactsToNone s session) (sym is) h))

    by_first : (o : Option (List ℕ × List ℕ)) → first_message session.input ≡ o → session.standing ≡ Live → session.output ≡ [] → Behind
    by_first None first live silent = none Live live first
    by_first (Some found) first live silent = reacting-leaves hub number room told session client c up_wire down_wire found sound there live silent first i

    by_standing : (standing : SessionStatus) → session.standing ≡ standing → session.output ≡ [] → Behind
    by_standing Live is silent = by_first (first_message session.input) refl is silent
    by_standing (AskedToStop rcode delay) is silent = none (AskedToStop rcode delay) is tt
    by_standing (Stopped since) is silent = none (Stopped since) is tt
    by_standing (Ended reason) is silent = none (Ended reason) is tt

    by_output : (output : List ℕ) → session.output ≡ output → Behind
    by_output [] silent = by_standing session.standing refl silent
    by_output (o ∷ os) some = waits (inl (ap is_empty some))

  pub each-give-leaves : GivesLeaveIt
  each-give-leaves hub number room told session client c up_wire down_wire sound there stop i = by_output hub number room told session client c up_wire down_wire sound there stop i session.output refl
