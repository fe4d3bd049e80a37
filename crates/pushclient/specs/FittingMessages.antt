-- Which messages of this project's server a client takes without closing, and what it is afterwards (RFC 8490, 5 to 7; RFC 8765, 6).
--     HasFirst timers message client c rest      the connection is open, and this message stands first in its input
--     Fits timers message client c      the state in which this message fits
--     IsTaken timers message client c rest      the step on it, and the client after it
--     MeetsTheFirst      of frames on their way, the first is the first in the input
--     TakesWhatFits      a message that fits is taken so
--     OnlyDelayCloses      so none that fits closes, but Retry Delay
--     ClosesOnStranger, ClosesOnEarly      what closes: an answer that no request waits for, and what is no answer before one came
use Rattle.std.specs.Prelude.{◌≡◌, ℕ, ◌<◌, ◌^◌, Bool, true, false, cond, List, ◌++◌, map, length, Option, Some, None}
use Rattle.rrset.specs.Rcodes.{noerror, notauth}
use Rattle.dsotlv.specs.Messages.{frame, first_message}
use Rattle.dsosession.specs.Timing.{restarted}
use Rattle.dsosession.specs.declared.session.CloseReason.{CloseReason}
use Rattle.dsosession.specs.declared.session.CloseReason.TheVariants as closes
use Rattle.dsosession.specs.declared.session.Timers.{Timers}
use Rattle.pushclient.specs.declared.client.Step.{Step}
use Rattle.pushclient.specs.declared.client.Step.TheVariants as steps
use Rattle.pushclient.specs.Clients.{Client, Connection, Wish, refused, answered, writes, unsubscribe_message, without_wish, open_connection, closed_as}
use Rattle.pushclient.specs.Rule.{stood_wish}
use Rattle.pushclient.specs.Steps.{step, request_of, is_answered}
use Rattle.pushclient.specs.ServerMessages.{ServerMessage, accepts, refuses, grants, tells, delays, server_octets, IsReadable, CanBeGranted}

-- the connection is open, and this message, which a frame holds, stands first in its input, before the rest
pub record HasFirst (timers : Timers) (message : ServerMessage) (client : Client) (c : Connection) (rest : List ℕ) : Type 0 where
  pub there : open_connection client ≡ Some c
  pub first : first_message c.input ≡ Some (server_octets timers message, rest)
  pub readable : IsReadable message
  pub small : length (server_octets timers message) < 2 ^ 16

-- What is in the input and what is still on its way behind it are frames. Once a message is whole, it is that of the first frame.
abbrev pub MeetsTheFirst : Type 0
MeetsTheFirst = (timers : Timers) (message : ServerMessage) (client : Client) (c : Connection) (whole rest behind others : List ℕ) → open_connection client ≡ Some c
    → first_message c.input ≡ Some (whole, rest) → c.input ++ behind ≡ frame (server_octets timers message) ++ others → IsReadable message → length (server_octets timers message) < 2 ^ 16
    → HasFirst timers message client c rest × (rest ++ behind ≡ others)

-- a wish waits for the answer with this ID, and the Keepalive doesn't
abbrev pub IsAwaited : ℕ → Client → Connection → Type 0
IsAwaited id client c = (id < 2 ^ 16) × (wish : Wish) × (request_of client id ≡ Some wish) × (c.keepalive_out ≡ Some id → ⊥)

-- nothing waits for the answer with this ID
abbrev pub IsStranger : ℕ → Client → Connection → Type 0
IsStranger id client c = (id < 2 ^ 16) × (request_of client id ≡ None) × (c.keepalive_out ≡ Some id → ⊥)

-- an answer is awaited, by a wish or the Keepalive; what is no answer comes to an established session (RFC 8490, 5.1)
abbrev pub Fits : Timers → ServerMessage → Client → Connection → Type 0
Fits timers (accepts id) client c = IsAwaited id client c
Fits timers (refuses id) client c = IsAwaited id client c
Fits timers (grants id) client c = (id < 2 ^ 16) × (request_of client id ≡ None) × (c.keepalive_out ≡ Some id) × CanBeGranted timers
Fits timers (tells notices) client c = c.established ≡ true
Fits timers (delays rcode delay) client c = c.established ≡ true

-- the message is out of the input, and the timers begin anew (RFC 8490, 6.3)
abbrev pub behind_first : Bool → ℕ → List ℕ → Connection → Connection
behind_first is_keepalive now rest c = record c { input = rest; clocks = restarted is_keepalive now c.clocks }

-- what the step answers, and the wishes and the connection after it; nothing else changes
abbrev pub StepIs : Client → Step → List Wish → Connection → Type 0
StepIs client answer wishes connection = step client ≡ (answer, record client { wishes = wishes; connection = Some connection })

-- the client closes, and its wishes stay
abbrev pub Closes : Client → Connection → List ℕ → CloseReason → Type 0
Closes client c rest reason = StepIs client (steps.Closed reason) client.wishes (record (behind_first false client.now rest c) { closed = Some reason })

-- By kinds. A wanted wish is answered from now on, with an empty set, or stands refused. One that was dropped meanwhile goes, and where
-- it was accepted its subscription is ended by a message (RFC 8765, 6.2.2 and 6.4). A refusal establishes no session (RFC 8490, 5.1).
abbrev pub IsTaken : Timers → ServerMessage → Client → Connection → List ℕ → Type 0
IsTaken timers (accepts id) client c rest = (wish : Wish) → request_of client id ≡ Some wish
    → let established : Connection = record (behind_first false client.now rest c) { established = true } in
    (wish.wanted ≡ true → StepIs client (steps.Answered id noerror) (map (stood_wish wish.question (answered id)) client.wishes) established)
    × (wish.wanted ≡ false → StepIs client (steps.Answered id noerror) (without_wish wish.question client.wishes) (writes false client.now (unsubscribe_message id) established))
IsTaken timers (refuses id) client c rest = (wish : Wish) → request_of client id ≡ Some wish
    → (wish.wanted ≡ true → StepIs client (steps.Answered id notauth) (map (stood_wish wish.question (refused notauth)) client.wishes) (behind_first false client.now rest c))
    × (wish.wanted ≡ false → StepIs client (steps.Answered id notauth) (without_wish wish.question client.wishes) (behind_first false client.now rest c))
IsTaken timers (grants id) client c rest = let clocks = restarted true client.now c.clocks in
    StepIs client (steps.Kept timers.inactivity timers.keepalive) client.wishes (record c { input = rest; established = true; keepalive_out = None; clocks = record clocks { timers = timers } })
IsTaken timers (tells notices) client c rest =
    StepIs client (steps.Pushed notices) (map (λ w. cond (is_answered w.standing) (record w { notices = w.notices ++ notices }) w) client.wishes) (behind_first false client.now rest c)
IsTaken timers (delays rcode delay) client c rest = Closes client c rest (closes.Delay delay rcode)

abbrev pub TakesWhatFits : Type 0
TakesWhatFits = (timers : Timers) (message : ServerMessage) (client : Client) (c : Connection) (rest : List ℕ) → HasFirst timers message client c rest → Fits timers message client c → IsTaken timers message client c rest

abbrev pub is_delay : ServerMessage → Bool
is_delay (delays rcode delay) = true
is_delay _ = false

-- the connection stays open
abbrev pub OnlyDelayCloses : Type 0
OnlyDelayCloses = (timers : Timers) (message : ServerMessage) (client : Client) (c : Connection) (rest : List ℕ) → HasFirst timers message client c rest → Fits timers message client c → is_delay message ≡ false
    → closed_as (step client).1 ≡ None

-- the ID of an answer
abbrev pub id_answered : ServerMessage → Option ℕ
id_answered (accepts id) = Some id
id_answered (refuses id) = Some id
id_answered (grants id) = Some id
id_answered _ = None

abbrev pub ClosesOnStranger : Type 0
ClosesOnStranger = (timers : Timers) (message : ServerMessage) (id : ℕ) (client : Client) (c : Connection) (rest : List ℕ) → HasFirst timers message client c rest
    → id_answered message ≡ Some id → IsStranger id client c → Closes client c rest (closes.Stranger id)

abbrev pub ClosesOnEarly : Type 0
ClosesOnEarly = (timers : Timers) (message : ServerMessage) (client : Client) (c : Connection) (rest : List ℕ) → HasFirst timers message client c rest
    → id_answered message ≡ None → c.established ≡ false → Closes client c rest closes.Early
