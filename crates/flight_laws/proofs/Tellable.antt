-- What a sound hub tells can be read, and a frame holds it.
--     pushes-can-be-told      the next PUSH, and the one behind the answer to a SUBSCRIBE
use Rattle.std.proofs.Common.{◌≡◌, ℕ, ◌<◌, ◌≤◌, List, [], ◌∷◌, Some, refl, arith}
use Rattle.std.specs.Prelude.{IsTrue}
use Rattle.std.specs.List.{AllByRecursion}
use Rattle.dnsname.specs.Names.{is_name}
use Rattle.rrset.specs.declared.record.Question.{Question}
use Rattle.dsotlv.specs.declared.message.Notice.{Notice}
use Rattle.pushserver.specs.Hubs.{newest, session_of}
use Rattle.pushserver.specs.PlainHubs.{Session, Hub, first_answer}
use Rattle.pushserver.specs.SoundHubs.{IsSoundHub, IsSoundSession}
use Rattle.livesessions.proofs.SessionLists.{found-one}
use Rattle.pushserver.proofs.hub_steps.Pairs.{all-weaken}
use Rattle.pushtelling.proofs.Leading.{first_can_be_read}
use Rattle.pushtelling.proofs.Pushing.{pack_can_be_read}
use Rattle.flight_laws.specs.Turns.{CanBeTold, notices_packed, PushesCanBeTold}

module _ (hub : Hub) (number : ℕ) (session : Session) (sound : IsSoundHub hub) (there : session_of hub number ≡ Some session) where
  points : AllByRecursion (λ e. e.1 ≤ newest hub) session.queue
  points = found-one (λ (s : Session). AllByRecursion (λ e. e.1 ≤ newest hub) s.queue) number hub.sessions session there
      (all-weaken (IsSoundSession hub) (λ e. AllByRecursion (λ q. q.1 ≤ newest hub) e.1.queue) (λ (e : ℕ × Session) s. all-weaken (λ q. q.1 < newest hub) (λ q. q.1 ≤ newest hub) (λ q low. omega (arith, low)) e.1.queue s.points) hub.sessions sound.sessions)

  packed-told : CanBeTold hub.timers (notices_packed hub session)
  packed-told = by (notices_packed hub session) refl
    where
      by : (notices : List Notice) → notices_packed hub session ≡ notices → CanBeTold hub.timers notices
      by [] is = tt
      by (n ∷ ns) is = let can = pack_can_be_read hub session sound.states points n ns is in (can.0, omega (arith, can.1))

  first-told : (question : Question) → IsTrue (is_name question.name) → CanBeTold hub.timers (first_answer hub session question)
  first-told question named = by (first_answer hub session question) refl
    where
      by : (notices : List Notice) → first_answer hub session question ≡ notices → CanBeTold hub.timers notices
      by [] is = tt
      by (n ∷ ns) is = let can = first_can_be_read hub session question sound.states points named n ns is in (can.0, omega (arith, can.1))

pub pushes-can-be-told : PushesCanBeTold
pushes-can-be-told = record {
  packed = λ hub number session sound there. packed-told hub number session sound there;
  first = λ hub number session question sound there named. first-told hub number session sound there question named;
}
