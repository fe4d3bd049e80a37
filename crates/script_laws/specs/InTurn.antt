-- What is made for a session, call by call: what the server's table tells for the message whose turn it is; where none is whole, a PUSH
-- of names that wait, or the Retry Delay of a stop (RFC 8490, 5 and 6.6.1; RFC 8765, 6.3).
--     makes_itself hub session      where it reacts to no message
--     makes number hub call      what one call makes for the session of a number
--     made_in number calls hub      what calls make, one behind the other
--     MadeInTurn      all that was made for a session is that
use Rattle.std.specs.Prelude.{◌≡◌, ℕ, ◌<◌, List, [], ◌∷◌, ◌++◌, Option, Some, None, ◌==◌, if◌then◌else◌}
use Rattle.push_base.specs.Cases.{is_empty}
use Rattle.coalesce.specs.Net.{packed}
use Rattle.dsotlv.specs.Answers.{stop_message}
use Rattle.pushsession.specs.declared.session_status.SessionStatus.{SessionStatus}
use Rattle.pushsession.specs.declared.session_status.SessionStatus.TheVariants.{Live, AskedToStop, Stopped, Ended}
use Rattle.pushserver.specs.PlainHubs.{Hub, Session, nets_of}
use Rattle.pushserver.specs.Hubs.{session_of}
use Rattle.pushserver.specs.Calls.{HubCall, gives, after_calls}
use Rattle.pushtelling.specs.Runs.{first_of, in_calls}
use Rattle.script_laws.specs.EachMessage.{pushes, effect_of, messages_of}

-- one PUSH of the nets of names that wait, as far as they fit, where there are any; or the Retry Delay that was asked for, where the session is established
abbrev pub says_itself : SessionStatus → Hub → Session → List (List ℕ)
says_itself Live hub session = pushes (packed (nets_of hub.start hub.history session.subscriptions session.queue)).0
says_itself (AskedToStop rcode delay) hub session = if session.established then stop_message rcode delay ∷ [] else []
says_itself (Stopped since) hub session = []
says_itself (Ended reason) hub session = []

-- nothing while something is left to be handed out
abbrev pub makes_itself : Hub → Session → List (List ℕ)
makes_itself hub session = if is_empty session.output then says_itself session.standing hub session else []

-- for the message whose turn it is what the table tells
abbrev pub makes_for : List (List ℕ) → Hub → Session → List (List ℕ)
makes_for [] hub session = makes_itself hub session
makes_for (message ∷ others) hub session = (effect_of hub session message).messages

abbrev pub makes_at : Hub → Option Session → List (List ℕ)
makes_at hub None = []
makes_at hub (Some session) = makes_for (first_of session) hub session

-- no other call makes anything for it
abbrev pub makes : ℕ → Hub → HubCall → List (List ℕ)
makes number hub (gives other room) = if number == other then makes_at hub (session_of hub number) else []
makes number hub _ = []

abbrev pub made_in : ℕ → List HubCall → Hub → List (List ℕ)
made_in number calls hub = in_calls (makes number) calls hub

-- of a session that was there before the calls, and of one that was connected in them
abbrev pub MadeInTurn : Type 0
MadeInTurn = (hub : Hub) (calls : List HubCall) (number : ℕ) (after : Session) → session_of (after_calls calls hub) number ≡ Some after
    → ((before : Session) → number < hub.numbers_given → session_of hub number ≡ Some before → messages_of after ≡ messages_of before ++ made_in number calls hub)
    × (session_of hub number ≡ None → messages_of after ≡ made_in number calls hub)
