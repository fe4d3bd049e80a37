-- What a peer sends in a line is answered in it (RFC 8490, 5; RFC 7766, 8).
--     IsDone standing session over      a session that has nothing to hand out and no message to react to, or has come to its end
--     ExchangeSo number octets hub x before      what an exchange of octets with a session is
--     ArePeersServed world      of each peer's session nothing waits between two lines
--     AnswersSendsIn script, SendsAreAnswered      the line that a script prints where a peer sends octets
--     Asks, AsksAnywhere, AsksAreAnswered      an acceptable SUBSCRIBE among the messages that a line brings up
--     EachIsBroughtUp      each of these messages has its turn, and its effect
--     FirstOnesAskAnywhere      a peer's first octets are a case of this, and its reply is the one that `replay` tells of them
use Rattle.std.specs.Prelude.{◌≡◌, ℕ, true, List, [], ◌∷◌, ◌++◌, map, flat_map, Option, Some, None, Ok}
use Rattle.std.specs.List.{AllByRecursion}
use Rattle.rrset.specs.Header.{id_of}
use Rattle.rrset.specs.Rcodes.{noerror}
use Rattle.rrset.specs.declared.record.Question.{Question}
use Rattle.dsotlv.specs.Answers.{answer_to}
use Rattle.dsotlv.specs.Messages.{first_message, messages_in, frame}
use Rattle.dsosession.specs.declared.session.EndReason.{EndReason}
use Rattle.pushsession.specs.Sessions.{is_open}
use Rattle.pushsession.specs.Subscribing.{first_answer_octets}
use Rattle.pushsession.specs.declared.session_status.SessionStatus.{SessionStatus}
use Rattle.pushsession.specs.declared.session_status.SessionStatus.TheVariants.{Live, AskedToStop, Stopped, Ended}
use Rattle.pushserver.specs.PlainHubs.{Hub, Session, Made, frame_of, first_answer}
use Rattle.pushserver.specs.Hubs.{session_of}
use Rattle.pushserver.specs.Giving.{give}
use Rattle.pushserver.specs.Calls.{HubCall, after_calls}
use Rattle.pushserver.specs.Laws.{IsAcceptable}
use Rattle.pushtelling.specs.Runs.{handed_out, taken_in, reacted_to}
use Rattle.scripts.specs.Lines.{Word, ScriptLine, send}
use Rattle.scripts.specs.Scripts.{script_of}
use Rattle.replay.specs.World.{World, start_world}
use Rattle.replay.specs.PassedOctets.{Exchanged, exchanged, enough}
use Rattle.replay.specs.TextWords.{bytes_line, by_history, HeldRecords}
use Rattle.replay.specs.Text.{placed, end_lines, line_does, world_after}
use Rattle.hubasking.specs.LinkAskings.{Askings}
use Rattle.replay.specs.Askings.{line_asks, lines_asks, start_askings}
use Rattle.replay.specs.ScriptTexts.{printed_by}
use Rattle.scripts.specs.Words.{ended_lines}
use Rattle.scripts.specs.declared.outcome.Outcome.TheVariants as outcomes
use Rattle.scripts.specs.Outcomes.{status_of}
use Rattle.scripts.specs.Reply.{Reply}
use Rattle.replay.specs.ScriptReplies.{reply_to_script}
use Rattle.replay.specs.Between.{world_then}
use Rattle.replay.specs.Serving.{Asked, asked_between, connected_then, AsksFirst, served_reply}
use Rattle.replay.specs.LineCalls.{exchange_calls}
use Rattle.script_laws.specs.EachMessage.{HasItsTurn, TurnHasEffect}
use Rattle.script_laws.specs.InTurn.{made_in}

-- ---- a session between two exchanges

-- one that goes on has no whole message in its input, and the end of one that has ended was told
abbrev pub IsDone : SessionStatus → Session → Option EndReason → Type 0
IsDone Live session over = (over ≡ None) × (first_message session.input ≡ None)
IsDone (AskedToStop rcode delay) session over = ⊥
IsDone (Stopped since) session over = over ≡ None
IsDone (Ended reason) session over = over ≡ Some reason

-- nothing waits to be handed out, and where it is open no whole message waits
pub record IsServed (session : Session) : Type 0 where
  pub silent : session.output ≡ []
  pub waits : is_open session.standing ≡ true → first_message session.input ≡ None

abbrev pub ArePeersServed : World → Type 0
ArePeersServed world = AllByRecursion (λ p. (session : Session) → session_of world.hub p.1 ≡ Some session → IsServed session) world.peers

-- ---- an exchange

abbrev pub made_messages : List Made → List (List ℕ)
made_messages made = map (λ m. m.message) made

-- of the octets all went in, or a front where the session has come to its end; while it is open, each message that is whole
-- with them was reacted to, in its order; and what came back are the frames of the messages that were made
pub record ExchangeSo (number : ℕ) (octets : List ℕ) (hub : Hub) (x : Exchanged) (before : Session) : Type 0 where
  pub after : Session
  pub there : session_of x.hub number ≡ Some after
  pub silent : after.output ≡ []
  pub done : IsDone after.standing after x.over
  pub more : List Made
  pub made : after.made ≡ before.made ++ more
  pub octets_are : x.octets ≡ flat_map frame_of more
  pub left : List ℕ
  pub taken : taken_in number (exchange_calls enough number octets hub) hub ++ left ≡ octets
  pub all_taken : is_open after.standing ≡ true → left ≡ []
  pub calls : x.hub ≡ after_calls (exchange_calls enough number octets hub) hub
  pub handed : x.octets ≡ handed_out number (exchange_calls enough number octets hub) hub
  pub messages : before.input ++ taken_in number (exchange_calls enough number octets hub) hub ≡ flat_map frame (reacted_to number (exchange_calls enough number octets hub) hub) ++ after.input
  pub each : is_open after.standing ≡ true → messages_in (before.input ++ octets) ≡ (reacted_to number (exchange_calls enough number octets hub) hub, after.input)

-- ---- a peer's line

-- where the peer has a session, or gets one, this line is printed, and behind it its end, if it has come to it; it tells what was made in
-- turn for the messages that are whole, and between them for names that wait and for a stop
pub record SendIsAnswered (records : HeldRecords) (w : Word) (octets : List ℕ) (world : World) (number : ℕ) (there : World) : Type 0 where
  pub before : Session
  pub found : session_of there.hub number ≡ Some before
  pub silent : before.output ≡ []
  pub waits : is_open before.standing ≡ true → first_message before.input ≡ None
  pub so : ExchangeSo number octets there.hub (exchanged enough number octets there.hub []) before
  pub in_turn : made_messages so.more ≡ made_in number (exchange_calls enough number octets there.hub) there.hub
  pub printed : (line_does records (send w octets) world).1 ≡ bytes_line w (flat_map frame_of so.more) ∷ end_lines w (exchanged enough number octets there.hub []).over

-- of each peer's line of a script
abbrev pub AnswersSendsIn : List ScriptLine → Type 0
AnswersSendsIn script = (records : HeldRecords) (before behind : List ScriptLine) (w : Word) (octets : List ℕ) (number : ℕ) (there : World) → script ≡ before ++ send w octets ∷ behind
    → let world = world_after before (start_world script) in
    placed w world ≡ Some (number, there) → SendIsAnswered records w octets world number there

abbrev pub SendsAreAnswered : Type 0
SendsAreAnswered = (records : HeldRecords) (text : List ℕ) (before behind : List ScriptLine) (w : Word) (octets : List ℕ) (number : ℕ) (there : World) → script_of text ≡ Ok (before ++ send w octets ∷ behind)
    → let world = world_after before (start_world (before ++ send w octets ∷ behind)) in
    placed w world ≡ Some (number, there) → SendIsAnswered records w octets world number there

-- ---- a SUBSCRIBE anywhere

-- a peer's line, its session and the world with it, the SUBSCRIBE among the messages that are reacted to, and those before it
pub record Asks : Type 0 where
  pub before : List ScriptLine
  pub word : Word
  pub octets : List ℕ
  pub behind : List ScriptLine
  pub number : ℕ
  pub world : World
  pub front : List (List ℕ)
  pub message : List ℕ
  pub question : Question

abbrev pub lines_asked : Asks → List ScriptLine
lines_asked asked = asked.before ++ send asked.word asked.octets ∷ asked.behind

abbrev pub world_asked : Asks → World
world_asked asked = world_after asked.before (start_world (lines_asked asked))

-- what links are asked behind the line
abbrev pub askings_behind : Asks → Askings
askings_behind asked = line_asks (send asked.word asked.octets) (world_asked asked) (lines_asks asked.before (start_world (lines_asked asked)) (start_askings (lines_asked asked)))

-- what the line does to the peer's session
abbrev pub calls_asked : Asks → List HubCall
calls_asked asked = exchange_calls enough asked.number asked.octets asked.world.hub

-- these are the lines of the script; the peer has a session or gets one; and in its turn, behind the messages before it, the SUBSCRIBE meets none of the refusing tests
pub record AsksAnywhere (text : List ℕ) (asked : Asks) : Type 0 where
  pub read : script_of text ≡ Ok (lines_asked asked)
  pub place : placed asked.word (world_asked asked) ≡ Some (asked.number, asked.world)
  pub turn : HasItsTurn asked.number (calls_asked asked) asked.world.hub asked.front asked.message
  pub acceptable : IsAcceptable (after_calls turn.first asked.world.hub) turn.session asked.message asked.question

-- NOERROR, and the PUSH of the first answer, where it has notices
abbrev pub octets_asked : (text : List ℕ) (asked : Asks) → AsksAnywhere text asked → List ℕ
octets_asked text asked asks = first_answer_octets (answer_to (id_of asked.message) noerror) (first_answer (after_calls asks.turn.first asked.world.hub) asks.turn.session asked.question)

-- the hub when it was answered
abbrev pub hub_behind : (text : List ℕ) (asked : Asks) → AsksAnywhere text asked → Hub
hub_behind text asked asks = (give (after_calls asks.turn.first asked.world.hub) asked.number asks.turn.room).hub

-- the line tells the frames of what was made before it, then this, and then what was made behind it; its end, if the session has come to it
abbrev pub lines_told : (text : List ℕ) (asked : Asks) → AsksAnywhere text asked → List Made → List Made → Option EndReason → List (List ℕ)
lines_told text asked asks front back over =
    bytes_line asked.word (flat_map frame_of front ++ (octets_asked text asked asks ++ flat_map frame_of back)) ∷ end_lines asked.word over

-- these lines alone stand between what the lines before print and what those behind do
abbrev pub asked_reply : (records : HeldRecords) (text : List ℕ) (asked : Asks) → AsksAnywhere text asked → List Made → List Made → Option EndReason → Reply
asked_reply records text asked asks front back over = record {
  status = status_of outcomes.Done;
  text = ended_lines (printed_by records asked.before (start_world (lines_asked asked)) (start_askings (lines_asked asked)))
      ++ (ended_lines (lines_told text asked asks front back over) ++ ended_lines (printed_by records asked.behind (line_does by_history (send asked.word asked.octets) (world_asked asked)).0 (askings_behind asked)));
}

-- what the line tells before it, and behind it, is what was made in turn by the calls before and behind; its end is that to which the session has come
pub record AskIsAnswered (records : HeldRecords) (text : List ℕ) (asked : Asks) (asks : AsksAnywhere text asked) : Type 0 where
  pub front : List Made
  pub back : List Made
  pub over : Option EndReason
  pub made_before : (session : Session) → session_of asked.world.hub asked.number ≡ Some session → asks.turn.session.made ≡ session.made ++ front
  pub front_in_turn : made_messages front ≡ made_in asked.number asks.turn.first asked.world.hub
  pub back_in_turn : made_messages back ≡ made_in asked.number asks.turn.last (hub_behind text asked asks)
  pub comes_to : over ≡ (exchanged enough asked.number asked.octets asked.world.hub []).over
  pub printed : (line_does records (send asked.word asked.octets) (world_asked asked)).1 ≡ lines_told text asked asks front back over
  pub replied : reply_to_script records text ≡ asked_reply records text asked asks front back over

abbrev pub AsksAreAnswered : Type 0
AsksAreAnswered = (records : HeldRecords) (text : List ℕ) (asked : Asks) (asks : AsksAnywhere text asked) → AskIsAnswered records text asked asks

-- a message that the line brings up has its turn, in which what the server's table says is done; and where it is a SUBSCRIBE
-- that meets none of the refusing tests then, the line answers it
pub record IsBroughtUp (records : HeldRecords) (text : List ℕ) (asked : Asks) (read : script_of text ≡ Ok (lines_asked asked)) (place : placed asked.word (world_asked asked) ≡ Some (asked.number, asked.world)) : Type 0 where
  pub turn : HasItsTurn asked.number (calls_asked asked) asked.world.hub asked.front asked.message
  pub effect : TurnHasEffect asked.number (calls_asked asked) asked.world.hub asked.front asked.message turn
  pub answered : (acceptable : IsAcceptable (after_calls turn.first asked.world.hub) turn.session asked.message asked.question)
      → AskIsAnswered records text asked (record { read = read; place = place; turn = turn; acceptable = acceptable })

-- each message that was reacted to in a peer's line, behind the others
abbrev pub EachIsBroughtUp : Type 0
EachIsBroughtUp = (records : HeldRecords) (text : List ℕ) (asked : Asks) (back : List (List ℕ)) (read : script_of text ≡ Ok (lines_asked asked)) (place : placed asked.word (world_asked asked) ≡ Some (asked.number, asked.world))
    → reacted_to asked.number (calls_asked asked) asked.world.hub ≡ asked.front ++ asked.message ∷ back → IsBroughtUp records text asked read place

-- ---- a peer's first octets

-- a SUBSCRIBE that a peer sends as its first octets, in the session that it gets
abbrev pub first_as : Asked → ℕ → Asks
first_as asked number = record {
  before = asked.before;
  word = asked.word;
  octets = asked.octets;
  behind = asked.behind;
  number = number;
  world = record (world_then (asked_between asked)) { hub = connected_then asked; peers = (world_then (asked_between asked)).peers ++ (asked.word, number) ∷ [] };
  front = [];
  message = asked.message;
  question = asked.question;
}

-- a SUBSCRIBE among a peer's first octets is one that is sent anywhere; and where it is answered so, the reply is that in which NOERROR and
-- the first answer alone stand in the peer's line, without an end
abbrev pub FirstOnesAskAnywhere : Type 0
FirstOnesAskAnywhere = (text : List ℕ) (asked : Asked) → AsksFirst text asked → (number : ℕ) × (asks : AsksAnywhere text (first_as asked number))
    × ((records : HeldRecords) (answer : AskIsAnswered records text (first_as asked number) asks)
    → asked_reply records text (first_as asked number) asks answer.front answer.back answer.over ≡ served_reply records asked)
