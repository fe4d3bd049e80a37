-- A session goes on with the same questions.
--     in-kept      what is kept stays
--     stop-same      where a stop is asked for
use Rattle.std.proofs.Common.{◌≡◌, ℕ, ◌≤◌, Bool, true, false, cond, List, [], ◌∷◌, map, refl, sym, ap, subst, ◌∙◌}
use Rattle.std.specs.Prelude.{◌==◌}
use Rattle.push_base.specs.Limits.{max_moment}
use Rattle.subscr.specs.Asked.{Asked}
use Rattle.linkreasons.specs.AllReasons.{AllReasons}
use Rattle.history.specs.States.{State}
use Rattle.pushsession.specs.Kept.{KeptSession}
use Rattle.pushsession.specs.Sessions.{asked_to_stop, is_open}
use Rattle.pushsession.specs.declared.session_status.SessionStatus.TheVariants.{AskedToStop}
use Rattle.livesessions.specs.NumberedSessions.{Numbered, in_sessions}
use Rattle.pushserver.specs.Hubs.{in_session, now, state_now}
use Rattle.pushserver.specs.KeptHubs.{KeptHub, StandsFor}
use Rattle.pushserver.specs.PlainHubs.{Hub}
use Rattle.hubasking.specs.KeptReasons.{AreKept, reasons_of, session_reasons}
use Rattle.hubasking.proofs.Leading.{Sessions}

same-reasons : (state : State) (number : ℕ) (f : KeptSession → KeptSession) → ((s : KeptSession) → (f s).subscriptions.asked ≡ s.subscriptions.asked) → (xs : Numbered KeptSession) → session_reasons state (in_sessions number f xs) ≡ session_reasons state xs
same-reasons state number f same [] = refl
same-reasons state number f same (x ∷ xs) = λ i. (x.0, reasons_of state (by (x.0 == number) i)) ∷ same-reasons state number f same xs i
  where
    by : (b : Bool) → (cond b (f x.1) x.1).subscriptions.asked ≡ x.1.subscriptions.asked
    by true = same x.1
    by false = refl

pub in-kept : (k later : KeptHub) (r : AllReasons) (number : ℕ) (f : KeptSession → KeptSession) → ((s : KeptSession) → (f s).subscriptions.asked ≡ s.subscriptions.asked) → later ≡ in_session number f k → (plain : Hub) → StandsFor later plain → AreKept k r → AreKept later r
in-kept k later r number f same is plain stands kept = subst (λ (h : KeptHub). StandsFor h plain → AreKept h r) (sym is)
    (λ stood. record {
      plain = plain;
      stands = stood;
      timely = kept.timely;
      sessions = kept.sessions ∙ sym (same-reasons (state_now k) number f same k.sessions);
      links = kept.links;
    }) stands

pub stop-same : (rcode delay : ℕ) (s : KeptSession) → (asked_to_stop rcode delay s).subscriptions.asked ≡ s.subscriptions.asked
stop-same rcode delay s = by (is_open s.standing)
  where
    by : (b : Bool) → (cond b (record s { standing = AskedToStop rcode delay }) s).subscriptions.asked ≡ s.subscriptions.asked
    by true = refl
    by false = refl
