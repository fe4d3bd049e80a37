-- How a session stands behind a call of `give`: if it has ended, by itself, and one that doesn't go on stays so.
--     StandsBehind g number standing
--     gives-stand      of a session that isn't live
--     gives-short      no more octets than there is room for
use Rattle.std.proofs.Common.{◌≡◌, ℕ, ◌≤◌, Bool, true, false, length, take, min, Option, Some, refl, sym, ◌∙◌, ap, subst, arith, true≢false, length-take}
use Rattle.std.specs.Prelude.{IsTrue, option_map, if◌then◌else◌}
use Rattle.push_base.specs.Cases.{is_empty}
use Rattle.dsosession.specs.declared.session.EndReason.{EndReason}
use Rattle.dsosession.specs.declared.session.EndReason.TheVariants as ends
use Rattle.pushsession.specs.declared.session_status.SessionStatus.{SessionStatus}
use Rattle.pushsession.specs.declared.session_status.SessionStatus.TheVariants.{Live, AskedToStop, Stopped, Ended}
use Rattle.pushsession.specs.Sessions.{is_open, copied, stopped, says_stop, ended_with}
use Rattle.pushserver.specs.declared.given.Given.{Given}
use Rattle.pushserver.specs.declared.given.Given.TheVariants.{Worked, Ending, End}
use Rattle.pushserver.specs.PlainHubs.{Session, Hub, Giving}
use Rattle.pushserver.specs.Hubs.{now, keeps_now, session_of, in_session}
use Rattle.pushserver.specs.Giving.{did, copies, copies_or, given_after, by_standing, give}
use Rattle.livesessions.proofs.SessionLists.{found-in}
use Rattle.pushserver.proofs.hub_steps.Cases.{found_as, output_as, give_as}
use Rattle.flight_laws.specs.GoesOn.{GoesOn, GivesOn, gives_on}
use Rattle.replay.specs.Promises.{EndedByItself, is_end_by_itself}
use Rattle.replay.proofs.exchanges.Walks.{give-walk}

pub record StandsBehind (g : Giving) (number : ℕ) (standing : SessionStatus) : Type 0 where
  pub later : Session
  pub there : session_of g.hub number ≡ Some later
  pub ended : EndedByItself later.standing
  pub over : (reason : EndReason) → g.given ≡ End reason → IsTrue (is_end_by_itself reason)
  pub shut : is_open standing ≡ false → is_open later.standing ≡ false

same-end : (a b : EndReason) → End a ≡ End b → a ≡ b
same-end a b is = cc

-- what is answered where the session has nothing to say
after-so : (standing : SessionStatus) (reason : EndReason) → EndedByItself standing → given_after standing ≡ End reason → IsTrue (is_end_by_itself reason)
after-so (Ended told) reason ended is = subst (λ r. IsTrue (is_end_by_itself r)) (same-end told reason is) ended
after-so Live reason ended is = absurd cc
after-so (AskedToStop rcode delay) reason ended is = absurd cc
after-so (Stopped since) reason ended is = absurd cc

-- ---- a live session

-- it goes on, or fell behind
gives-so : (standing : SessionStatus) (given : Given) → GivesOn standing given → EndedByItself standing × ((reason : EndReason) → given ≡ End reason → IsTrue (is_end_by_itself reason))
gives-so Live given on = (tt, λ reason is. absurd (true≢false (sym on ∙ ap gives_on is)))
gives-so (AskedToStop rcode delay) given on = absurd on
gives-so (Stopped since) given on = absurd on
gives-so (Ended reason) given (point, is, told) =
    let own : IsTrue (is_end_by_itself reason) = subst (λ (r : EndReason). IsTrue (is_end_by_itself r)) (sym is) refl in
    (own, λ other e. subst (λ (r : EndReason). IsTrue (is_end_by_itself r)) (same-end reason other (sym told ∙ e)) own)

pub live-stands : (g : Giving) (number : ℕ) → GoesOn g number → StandsBehind g number Live
live-stands g number on =
    let so = gives-so on.later.standing g.given on.goes_on in
    record {
      later = on.later;
      there = on.there;
      ended = so.0;
      over = so.1;
      shut = λ is. absurd (true≢false is);
    }

-- ---- any other

module _ (number room : ℕ) (standing : SessionStatus) where
  abbrev Stands : Giving → Type 0
  Stands g = StandsBehind g number standing

  module _ (hub : Hub) (s : Session) (there : session_of hub number ≡ Some s) (ended : EndedByItself s.standing) (shut : is_open standing ≡ false → is_open s.standing ≡ false) where
    copies-stand : Stands (copies number room s hub)
    copies-stand = record {
      later = copied room s;
      there = found-in number (copied room) hub.sessions ∙ ap (option_map (copied room)) there;
      ended = ended;
      over = λ reason is. absurd cc;
      shut = shut;
    }

    done-stands : (given : Given) → ((reason : EndReason) → given ≡ End reason → IsTrue (is_end_by_itself reason)) → Stands (did given hub)
    done-stands given over = record { later = s; there = there; ended = ended; over = over; shut = shut }

    behind-stands : Stands (copies_or (given_after s.standing) number room s hub)
    behind-stands = by (is_empty s.output)
      where
        by : (b : Bool) → Stands (if b then did (given_after s.standing) hub else copies number room s hub)
        by true = done-stands (given_after s.standing) (λ reason is. after-so s.standing reason ended is)
        by false = copies-stand

module _ (number room : ℕ) (hub : Hub) (session : Session) (there : session_of hub number ≡ Some session) (ended : EndedByItself session.standing) where
  -- a session that was asked to stop says so, or ends as it was asked to
  stop-ended : (rcode delay : ℕ) (b : Bool) → EndedByItself (if b then says_stop (keeps_now hub) rcode delay (now hub) session else ended_with (keeps_now hub) ends.Stopped session).standing
  stop-ended rcode delay true = tt
  stop-ended rcode delay false = refl

  by-kind : (standing : SessionStatus) → session.standing ≡ standing → (standing ≡ Live → ⊥) → StandsBehind (by_standing standing number room session hub) number standing
  by-kind Live is other = absurd (other refl)
  by-kind (AskedToStop rcode delay) is other =
      let stop : Session → Session = stopped (keeps_now hub) rcode delay (now hub) in
      let later : Hub = in_session number stop hub in
      let found : session_of later number ≡ Some (stop session) = found-in number stop hub.sessions ∙ ap (option_map stop) there in
      subst (λ (o : Option Session). StandsBehind (found_as later number room Worked given_after o) number (AskedToStop rcode delay)) (sym found)
      (behind-stands number room (AskedToStop rcode delay) later (stop session) found (stop-ended rcode delay session.established) (λ e. absurd (true≢false e)))
  by-kind (Stopped since) is other = done-stands number room (Stopped since) hub session there ended (λ e. ap is_open is) Ending (λ reason e. absurd cc)
  by-kind (Ended reason) is other = done-stands number room (Ended reason) hub session there ended (λ e. ap is_open is) (End reason) (λ told e. after-so (Ended reason) told (subst EndedByItself is ended) e)

  by-output : (b : Bool) → is_empty session.output ≡ b → (session.standing ≡ Live → ⊥) → StandsBehind (output_as hub number room session b) number session.standing
  by-output false is other = copies-stand number room session.standing hub session there ended (λ shut. shut)
  by-output true is other = by-kind session.standing refl other

  pub gives-stand : (session.standing ≡ Live → ⊥) → StandsBehind (give hub number room) number session.standing
  gives-stand other = subst (λ (o : Option Session). StandsBehind (give_as hub number room o) number session.standing) (sym there) (by-output (is_empty session.output) refl other)

-- ---- the octets

pub gives-short : (hub : Hub) (number room : ℕ) → length (give hub number room).octets ≤ room
gives-short hub number room = give-walk number (λ f. (r : ℕ) → length (f r).octets ≤ r) (λ given h is r. omega arith) (λ s h found some r. fits r (length s.output) (length (take r s.output)) (length-take r s.output)) hub room
  where
    fits : (room whole front : ℕ) → front ≡ min room whole → front ≤ room
    fits room whole front is = omega (arith, is)
