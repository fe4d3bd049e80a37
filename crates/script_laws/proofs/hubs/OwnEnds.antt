-- A session that ends without having sent anything ends by itself: by the time, or as behind.
--     EndsByItself reason      if it ends for a reason, it ends by itself
--     due-ends, behind-ends-so      by the time; as behind
use Rattle.std.proofs.Common.{◌≡◌, ℕ, Bool, true, false, cond, Option, Some, None, option_map, subst, refl}
use Rattle.std.specs.Prelude.{IsTrue}
use Rattle.dsosession.specs.Timing.{Clocks, is_silent, is_idle, reason_of, has_passed, stop_time}
use Rattle.dsosession.specs.declared.session.EndReason.{EndReason}
use Rattle.dsosession.specs.declared.session.EndReason.TheVariants as ends
use Rattle.pushsession.specs.Sessions.{due_as}
use Rattle.pushsession.specs.declared.session_status.SessionStatus.{SessionStatus}
use Rattle.pushsession.specs.declared.session_status.SessionStatus.TheVariants.{Live, AskedToStop, Stopped, Ended}
use Rattle.replay.specs.Promises.{is_end_by_itself}

abbrev pub EndsByItself : Option EndReason → Type 0
EndsByItself o = (reason : EndReason) → o ≡ Some reason → IsTrue (is_end_by_itself reason)

-- the timers end it as silent or idle
timers-end : (silent idle : Bool) (reason : EndReason) → reason_of silent idle ≡ Some reason → IsTrue (is_end_by_itself reason)
timers-end true idle reason is = let same : ends.Silent ≡ reason = cc in subst (λ (r : EndReason). IsTrue (is_end_by_itself r)) same refl
timers-end false true reason is = let same : ends.Idle ≡ reason = cc in subst (λ (r : EndReason). IsTrue (is_end_by_itself r)) same refl
timers-end false false reason is = absurd cc

stopped-ends : (passed : Bool) (reason : EndReason) → cond passed (Some ends.Stopped) None ≡ Some reason → IsTrue (is_end_by_itself reason)
stopped-ends true reason is = let same : ends.Stopped ≡ reason = cc in subst (λ (r : EndReason). IsTrue (is_end_by_itself r)) same refl
stopped-ends false reason is = absurd cc

pub due-ends : (standing : SessionStatus) (clocks : Clocks) (questions t : ℕ) → EndsByItself (due_as standing clocks questions t)
due-ends (Ended already) clocks questions t reason is = absurd cc
due-ends (Stopped since) clocks questions t reason is = stopped-ends (has_passed stop_time since t) reason is
due-ends Live clocks questions t reason is = timers-end (is_silent clocks t) (is_idle clocks t questions) reason is
due-ends (AskedToStop rcode delay) clocks questions t reason is = timers-end (is_silent clocks t) (is_idle clocks t questions) reason is

pub behind-ends-so : (o : Option ℕ) → EndsByItself (option_map (λ p. ends.Behind p) o)
behind-ends-so None reason is = absurd cc
behind-ends-so (Some p) reason is = let same : ends.Behind p ≡ reason = cc in subst (λ (r : EndReason). IsTrue (is_end_by_itself r)) same refl
