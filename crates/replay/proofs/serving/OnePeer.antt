-- The exchange of a hub's newest session, which takes one whole message: what comes back is what the message is answered.
--     gives      the law
use Rattle.std.proofs.Common.{◌≡◌, ℕ, ◌≤◌, false, List, [], take, min, length, Option, Some, None, sym, ◌∙◌, ap, subst, arith, take_all, le_refl}
use Rattle.push_base.specs.Cases.{is_empty}
use Rattle.dsotlv.specs.Messages.{first_message}
use Rattle.pushserver.specs.PlainHubs.{Session, Hub}
use Rattle.pushsession.specs.Sessions.{new_session, room_of, with_piece}
use Rattle.pushserver.specs.Hubs.{now, keeps_now, taken_by, take_octets}
use Rattle.pushserver.proofs.Walks.{with_new}
use Rattle.replay.specs.PassedOctets.{Exchanged, exchanged, emitted, enough, nothing_emitted}
use Rattle.replay.proofs.turns.Turns.{exchanged-once}
use Rattle.replay.proofs.serving.LastSession.{IsBehind, hub_at, session_of-last, in_session-last}
use Rattle.replay.proofs.serving.Answering.{waiting}
use Rattle.replay.proofs.serving.LastAnswering.{IsAnswered}
use Rattle.replay.proofs.serving.LastGiving.{Writes, emitted-writes}

-- an exchange has given these octets, and no end; the hub is one with a newest session
pub record Gives (hub : Hub) (x : Exchanged) (reply : List ℕ) : Type 0 where
  pub octets : x.octets ≡ reply
  pub over : x.over ≡ None
  pub session : Session
  pub is : x.hub ≡ hub_at hub session

module _ (hub : Hub) (below : IsBehind hub) where
  module _ (octets message reply : List ℕ) (a : IsAnswered hub below message reply) (found : first_message octets ≡ Some (message, [])) (some : is_empty reply ≡ false)
      (few : length octets ≤ 65537) (short : length reply ≤ 2000000) where
    abbrev pub taken_by_found : Option Session → ℕ
    taken_by_found None = 0
    taken_by_found (Some session) = min (length octets) (room_of session)

    pub all_taken : taken_by (with_new hub) hub.numbers_given octets ≡ length octets
    all_taken = ap taken_by_found (session_of-last hub below (new_session (keeps_now hub) (now hub))) ∙ least (length octets) few
      where
        least : (n : ℕ) → n ≤ 65537 → min n 69633 ≡ n
        least n h = omega arith

    pub taken_in : take_octets (with_new hub) hub.numbers_given (take (length octets) octets) ≡ hub_at hub (waiting hub octets)
    taken_in =
        in_session-last hub below (with_piece (take (length octets) octets)) (new_session (keeps_now hub) (now hub))
        ∙ ap (λ o. hub_at hub (waiting hub o)) (ap (take 69633) (take_all (length octets) octets (le_refl (length octets))) ∙ take_all 69633 octets (omega arith))

    pub writes : Writes hub (emitted enough hub.numbers_given enough (nothing_emitted (take_octets (with_new hub) hub.numbers_given (take (length octets) octets)) [])) reply
    writes = subst (λ later. Writes hub (emitted enough hub.numbers_given enough (nothing_emitted later [])) reply) (sym taken_in)
        (emitted-writes hub below 18446744073709551614 enough octets message reply a found some (omega arith))

    pub gives : Gives hub (exchanged enough hub.numbers_given octets (with_new hub) []) reply
    gives =
        let once = exchanged-once 18446744073709551615 hub.numbers_given octets (with_new hub) [] all_taken in
        record { octets = ap (λ x. x.octets) once ∙ writes.octets; over = ap (λ x. x.over) once ∙ writes.over; session = writes.session; is = ap (λ x. x.hub) once ∙ writes.is }
