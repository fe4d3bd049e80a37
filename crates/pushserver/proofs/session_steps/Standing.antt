-- A kept session and the plain one: octets that come and go, a stop, the timers, an end.
use Rattle.std.proofs.Common.{◌≡◌, ℕ, ◌-◌, ◌<◌, ◌≤◌, Bool, true, false, cond, List, ◌++◌, length, take, drop, Option, Some, None, refl, ◌∙◌, ap, subst, arith}
use Rattle.std.proofs.lemmas.List.{length-map, length-append, length-take, length-drop}
use Rattle.std.proofs.lemmas.List.Elements.{All-append, All-take}
use Rattle.push_base.specs.Limits.{max_input}
use Rattle.dsosession.specs.declared.session.EndReason.{EndReason}
use Rattle.pushsession.specs.declared.session_status.SessionStatus.{SessionStatus}
use Rattle.pushsession.specs.declared.session_status.SessionStatus.TheVariants.{AskedToStop}
use Rattle.pushsession.specs.Kept.{keeping}
use Rattle.pushsession.specs.Sessions.{is_open, room_of, with_piece, copied, asked_to_stop, ended_with, ended_where, due_as, due, timed}
use Rattle.pushserver.specs.PlainHubs.{Hub, plain_keeps}
use Rattle.dsotlv.specs.Laws.{AreOctets}
use Rattle.pushserver.proofs.session_steps.Parts.{SessionFits, SessionKeeps, Reads, Writes, asks, waits, reads, writes, stands, asks_nothing, none_waits}

-- what came, and what of a piece still fits behind it
still_fits : (piece : List ℕ) (b : Bool) (input : List ℕ) → length input ≤ max_input → length (input ++ take (cond b (max_input - length input) 0) piece) ≤ max_input
still_fits piece true input fits = omega (arith, fits, length-append input (take (max_input - length input) piece), length-take (max_input - length input) piece)
still_fits piece false input fits = omega (arith, fits, length-append input (take 0 piece), length-take 0 piece)

module _ (hub : Hub) where
  pub with_piece-keeps : (piece : List ℕ) → AreOctets piece → SessionKeeps hub (with_piece piece) (with_piece piece)
  with_piece-keeps piece octets k p s = stands hub k p s (with_piece piece k.1) (with_piece piece p.1) (asks hub k p s) (waits hub k p s) s.sound.watched more (writes hub k p s) s.stands.clocks s.stands.established s.stands.standing s.sound.rests
    where
      more : Reads (with_piece piece k.1).input (with_piece piece p.1).input
      more = record {
        input = λ i. s.stands.input i ++ take (cond (is_open (s.stands.standing i)) (max_input - length (s.stands.input i)) 0) piece;
        octets = All-append (λ o. o < 256) p.1.input (take (room_of p.1) piece) s.sound.octets (All-take (λ o. o < 256) (room_of p.1) piece octets);
        fits = still_fits piece (is_open p.1.standing) p.1.input s.sound.input_fits;
      }

  pub copied-keeps : (room : ℕ) → SessionKeeps hub (copied room) (copied room)
  copied-keeps room k p s = stands hub k p s (copied room k.1) (copied room p.1) (asks hub k p s) (waits hub k p s) s.sound.watched (reads hub k p s) less s.stands.clocks s.stands.established s.stands.standing s.sound.rests
    where
      less : Writes (drop room k.1.output) (drop room p.1.output) k.1.made p.1.made
      less = record { output = ap (λ o. drop room o) s.stands.output; counted = s.stands.written; fits = omega (arith, s.sound.output_fits, length-drop room p.1.output) }

  pub asked-keeps : (rcode delay : ℕ) → SessionKeeps hub (asked_to_stop rcode delay) (asked_to_stop rcode delay)
  asked-keeps rcode delay k p s =
      subst (λ (st : SessionStatus). SessionFits hub (k.0, asked_to_stop rcode delay k.1) (p.0, cond (is_open st) (record p.1 { standing = AskedToStop rcode delay }) p.1)) s.stands.standing (by (is_open k.1.standing))
    where
      by : (b : Bool) → SessionFits hub (k.0, cond b (record k.1 { standing = AskedToStop rcode delay }) k.1) (p.0, cond b (record p.1 { standing = AskedToStop rcode delay }) p.1)
      by true = stands hub k p s (record k.1 { standing = AskedToStop rcode delay }) (record p.1 { standing = AskedToStop rcode delay }) (asks hub k p s) (waits hub k p s) s.sound.watched (reads hub k p s) (writes hub k p s) s.stands.clocks s.stands.established refl (λ closed. absurd cc)
      by false = s

-- ---- its end, where so many entries are made

module _ (hub : Hub) (n : ℕ) where
  pub ended-keeps : (reason : EndReason) → SessionKeeps hub (ended_with keeping reason) (ended_with (plain_keeps n) reason)
  ended-keeps reason k p s = stands hub k p s (ended_with keeping reason k.1) (ended_with (plain_keeps n) reason p.1) asks_nothing none_waits tt (reads hub k p s) (writes hub k p s) s.stands.clocks s.stands.established refl (λ closed. refl)

  -- it ends for a reason, or goes on
  pub ended_where-keeps : (reason : Option EndReason) → SessionKeeps hub (ended_where keeping reason) (ended_where (plain_keeps n) reason)
  ended_where-keeps None k p s = s
  ended_where-keeps (Some reason) k p s = ended-keeps reason k p s

  pub timed-keeps : (t : ℕ) → SessionKeeps hub (timed keeping t) (timed (plain_keeps n) t)
  timed-keeps t k p s = subst (λ (o : Option EndReason). SessionFits hub (k.0, timed keeping t k.1) (p.0, ended_where (plain_keeps n) o p.1)) same (ended_where-keeps (due keeping t k.1) k p s)
    where
      count : length k.1.subscriptions.asked ≡ length p.1.subscriptions
      count = ap length s.stands.asked ∙ length-map p.1.subscriptions (λ q. (q.id, q.question))

      same : due keeping t k.1 ≡ due (plain_keeps n) t p.1
      same = λ i. due_as (s.stands.standing i) (s.stands.clocks i) (count i) t
