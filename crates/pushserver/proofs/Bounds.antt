-- How much waits for a session of a sound hub at most.
use Rattle.std.proofs.Common.{◌≡◌, ℕ, ◌≤◌, length, Option, Some, None, refl, ap, subst, arith}
use Rattle.std.specs.Prelude.{find, option_map, ◌==◌}
use Rattle.std.proofs.lemmas.List.{length-map}
use Rattle.push_base.specs.Limits.{max_input, max_questions}
use Rattle.coalesce.specs.Sides.{frame_octets}
use Rattle.pushserver.specs.PlainHubs.{Session, Subscription, asked_of}
use Rattle.pushserver.specs.SoundHubs.{IsSoundSession}
use Rattle.pushserver.specs.Laws.{SessionsStayWithin}
use Rattle.pushserver.proofs.WaitingNames.{few-wait}
use Rattle.pushserver.proofs.session_steps.Lists.{found-each}

abbrev Within : Session → Type 0
Within session = (length session.queue ≤ length session.subscriptions) × (length session.subscriptions ≤ max_questions) × (length session.input ≤ max_input) × (length session.output ≤ frame_octets)

pub sessions_stay_within : SessionsStayWithin
sessions_stay_within hub number session sound there = by (find (λ (e : ℕ × Session). e.0 == number) hub.sessions) refl there
  where
    same : (e : ℕ × Session) → Some e.1 ≡ Some session → e.1 ≡ session
    same e h = ap (λ (o : Option Session). elim o [ None ↦ session | Some x ↦ x ]) h

    by : (o : Option (ℕ × Session)) → find (λ (e : ℕ × Session). e.0 == number) hub.sessions ≡ o → option_map (λ (e : ℕ × Session). e.1) o ≡ Some session
        → Within session
    by None is e = absurd cc
    by (Some f) is e =
        let s = (found-each (IsSoundSession hub) (λ (e : ℕ × Session). e.0 == number) hub.sessions f sound.sessions is).0 in
        let many : length (asked_of f.1.subscriptions) ≡ length f.1.subscriptions = length-map f.1.subscriptions (λ (q : Subscription). (q.id, q.question)) in
        let few : length f.1.subscriptions ≤ max_questions = omega (arith, s.asked.few, many) in
        subst Within (same f e) (few-wait f.1.subscriptions f.1.queue s.names s.watched, few, s.input_fits, s.output_fits)
