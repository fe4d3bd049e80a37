-- Each message that comes to a session has its reaction, at any call of a script, by the server's table (RFC 8490, 5; RFC 8765, 6).
--     ScriptCallsFit      what the calls of a script bring are octets, and the numbers of stops fit
--     IsReactedTo number calls hub session, MessagesAreReactedTo      what came are the messages that were reacted to, and what waits
--     HasItsTurn number calls hub front message      the call in which a message is reacted to, behind these others
--     Effect, effect_of hub session message      what is done for a message: what is made, whether it ends the session, what that asks then, and the history
--     falling_behind point effect      the session ends as behind, besides
--     HasEffect, EachHasItsTurn      each message that was reacted to has its call, and this is done for it
--     IsAnswered, SubscribesAreAnswered      a SUBSCRIBE that none of the tests refuses gets NOERROR and the first answer
use Rattle.std.specs.Prelude.{Bool, true, not, filter, ◌==◌, ◌≡◌, ℕ, List, [], ◌∷◌, ◌++◌, map, flat_map, Option, Some, None, Result, Ok, Err, option_map, is_some, if◌then◌else◌}
use Rattle.std.specs.Int.{w16, from_be_bytes}
use Rattle.push_base.specs.Cases.{is_empty}
use Rattle.rrset.specs.Header.{id_of}
use Rattle.rrset.specs.Rcodes.{noerror}
use Rattle.rrset.specs.declared.record.Question.{Question}
use Rattle.rrset.specs.declared.record.Rr.{Rr}
use Rattle.dnsquery.specs.Replies.{reply_to}
use Rattle.dsotlv.specs.Answers.{answer_to, answer_to_update, refusal_to, grant_to, not_implemented, push_message}
use Rattle.dsotlv.specs.Messages.{first_message, messages_in, frame, head_of, primary_data}
use Rattle.dsotlv.specs.Notices.{question_of, reconfirm_of}
use Rattle.dsotlv.specs.TlvKinds.{reconfirm_tlv}
use Rattle.dsotlv.specs.declared.message.Notice.{Notice}
use Rattle.dsosession.specs.Reactions.{server_reaction}
use Rattle.dsosession.specs.declared.session.EndReason.{EndReason}
use Rattle.dsosession.specs.declared.session.EndReason.TheVariants as ends
use Rattle.dsosession.specs.declared.session.Reaction.{Reaction}
use Rattle.dsosession.specs.declared.session.Reaction.TheVariants as reactions
use Rattle.dnswire.specs.declared.message.Update.{Update}
use Rattle.history.specs.States.{verdict, reconfirm_key}
use Rattle.history.specs.declared.entry.Entry.{Entry}
use Rattle.history.specs.declared.entry.Entry.TheVariants as entries
use Rattle.pushsession.specs.Sessions.{without_first}
use Rattle.pushsession.specs.Subscribing.{Verdict, Refuse, Abort, Accept, verdict_on, first_answer_octets}
use Rattle.pushsession.specs.declared.session_status.SessionStatus.{SessionStatus}
use Rattle.pushsession.specs.declared.session_status.SessionStatus.TheVariants.{Live, Ended}
use Rattle.pushserver.specs.PlainHubs.{Hub, Session, frame_of, asked_of, first_answer}
use Rattle.pushserver.specs.Hubs.{state_now, keeps_now, session_of, in_session, behind_at, can_enter, update}
use Rattle.pushserver.specs.Giving.{has_home, known_at, reconfirm, give, reacted, after_reaction}
use Rattle.pushserver.specs.Calls.{HubCall, gives, after_calls}
use Rattle.pushserver.specs.Laws.{IsAcceptable}
use Rattle.pushtelling.specs.Runs.{handed_out, taken_in, reacted_to}
use Rattle.flight_laws.specs.Meeting.{behind_point}
use Rattle.scripts.specs.Lines.{ScriptLine}
use Rattle.scripts.specs.Scripts.{script_of}
use Rattle.replay.specs.World.{start_world}
use Rattle.script_laws.specs.Reached.{FitCalls}
use Rattle.replay.specs.LineCalls.{script_calls, AreFirst}

abbrev pub ScriptCallsFit : Type 0
ScriptCallsFit = (text : List ℕ) (script : List ScriptLine) → script_of text ≡ Ok script → FitCalls (script_calls script (start_world script))

-- ---- the messages in the octets

-- what came into a session are the frames of the messages that were reacted to, and the input that is left; so they are the
-- first of the one list of whole messages in these octets, and those in the input the others. What was made went out, or waits to
pub record IsReactedTo (number : ℕ) (calls : List HubCall) (hub : Hub) (session : Session) : Type 0 where
  pub octets : taken_in number calls hub ≡ flat_map frame (reacted_to number calls hub) ++ session.input
  pub messages : messages_in (taken_in number calls hub) ≡ (reacted_to number calls hub ++ (messages_in session.input).0, (messages_in session.input).1)
  pub went_out : handed_out number calls hub ++ session.output ≡ flat_map frame_of session.made

-- of each session, of a client or of a peer, behind any calls that a script begins with
abbrev pub MessagesAreReactedTo : Type 0
MessagesAreReactedTo = (text : List ℕ) (script : List ScriptLine) (calls : List HubCall) (number : ℕ) (session : Session) → script_of text ≡ Ok script → AreFirst calls script
    → session_of (after_calls calls (start_world script).hub) number ≡ Some session → IsReactedTo number calls (start_world script).hub session

-- ---- a message's turn

-- behind these calls the session goes on and has nothing to hand out, and the message stands first in its input; the next call reacts to it
pub record HasItsTurn (number : ℕ) (calls : List HubCall) (hub : Hub) (front : List (List ℕ)) (message : List ℕ) : Type 0 where
  pub first : List HubCall
  pub room : ℕ
  pub last : List HubCall
  pub calls_are : calls ≡ first ++ gives number room ∷ last
  pub before : reacted_to number first hub ≡ front
  pub session : Session
  pub there : session_of (after_calls first hub) number ≡ Some session
  pub live : session.standing ≡ Live
  pub silent : session.output ≡ []
  pub rest : List ℕ
  pub stands_first : first_message session.input ≡ Some (message, rest)
  pub reacts : give (after_calls first hub) number room ≡ after_reaction number room (reacted message number (in_session number (without_first rest) (after_calls first hub)))

-- ---- what is done for it

-- the messages that are made for it, and the end of the session, if it ends it; whether the session is established then, what it asks, and the history
pub record Effect : Type 0 where
  pub messages : List (List ℕ)
  pub ended : Option EndReason
  pub established : Bool
  pub asks : List (ℕ × Question)
  pub history : List Entry

-- messages alone
abbrev pub effect_of_messages : Hub → Session → List (List ℕ) → Effect
effect_of_messages hub session messages = record { messages = messages; ended = None; established = session.established; asks = asked_of session.subscriptions; history = hub.history }

-- a session that has ended asks for nothing
abbrev pub ends_by : Hub → Session → EndReason → Effect
ends_by hub session reason = record { messages = []; ended = Some reason; established = session.established; asks = []; history = hub.history }

-- a PUSH, where there are notices
abbrev pub pushes : List Notice → List (List ℕ)
pushes notices = if is_empty notices then [] else push_message notices ∷ []

-- NOERROR, and the PUSH of the first answer, where it has notices (RFC 8765, 6.2.2 and 6.3)
abbrev pub first_messages : Hub → Session → List ℕ → Question → List (List ℕ)
first_messages hub session message question = answer_to (id_of message) noerror ∷ pushes (first_answer hub session question)

-- by the tests of a SUBSCRIBE (RFC 8765, 6.2)
abbrev pub effect_by_verdict : Hub → Session → List ℕ → Verdict → Effect
effect_by_verdict hub session message (Refuse rcode) = effect_of_messages hub session (refusal_to (id_of message) rcode ∷ [])
effect_by_verdict hub session message (Abort reason) = ends_by hub session reason
effect_by_verdict hub session message (Accept question) =
    record (effect_of_messages hub session (first_messages hub session message question)) { established = true; asks = asked_of session.subscriptions ++ (id_of message, question) ∷ [] }

abbrev pub effect_of_subscribe : Hub → Session → List ℕ → Option Question → Effect
effect_of_subscribe hub session message question = effect_by_verdict hub session message (verdict_on (keeps_now hub) (id_of message) question (has_home hub question) session.subscriptions)

-- where the session falls behind by the entry that a message makes, it ends so besides, behind the answer (this project's own)
abbrev pub falling_behind : Option ℕ → Effect → Effect
falling_behind point effect = record effect { ended = option_map (λ p. ends.Behind p) point; asks = if is_some point then [] else effect.asks }

-- the point from which on it falls behind by an update's entry
abbrev pub behind_judged : Hub → Session → Result Update ℕ → Option ℕ
behind_judged hub session (Err code) = None
behind_judged hub session (Ok u) = if can_enter hub then behind_at hub (entries.Update u) session else None

-- a RECONFIRM is not answered, and may make an entry; data that is no record ends the session (RFC 8765, 6.5)
abbrev pub effect_of_reconfirm : Hub → Session → Option Rr → Effect
effect_of_reconfirm hub session None = ends_by hub session (ends.BadData reconfirm_tlv)
effect_of_reconfirm hub session (Some rr) =
    falling_behind (behind_point hub session (reconfirm_key (state_now hub) rr)) (record (effect_of_messages hub session []) { history = (reconfirm hub rr).history })

-- an update is answered, and may make an entry (RFC 2136, 3.8)
abbrev pub effect_of_update : Hub → Session → List ℕ → Effect
effect_of_update hub session message =
    let judged = update hub message in
    falling_behind (behind_judged hub session (verdict (state_now hub) message))
    (record (effect_of_messages hub session (answer_to_update (id_of message) judged.0 ∷ [])) { history = judged.1.history })

-- the ID of an UNSUBSCRIBE goes with its question (RFC 8765, 6.4)
abbrev pub without_asked : List ℕ → Session → List (ℕ × Question)
without_asked message session = asked_of (filter (λ s. not (s.id == from_be_bytes w16 (primary_data message))) session.subscriptions)

-- by the line of the server's table that fits the message
abbrev pub effect_by : Hub → Session → List ℕ → Reaction → Effect
effect_by hub session message (reactions.Answer rcode) = effect_of_messages hub session (answer_to (id_of message) rcode ∷ [])
effect_by hub session message reactions.Grant = record (effect_of_messages hub session (grant_to (id_of message) hub.timers.inactivity hub.timers.keepalive ∷ [])) { established = true }
effect_by hub session message (reactions.Abort reason) = ends_by hub session reason
effect_by hub session message reactions.Unsubscribe = record (effect_of_messages hub session []) { asks = without_asked message session }
effect_by hub session message reactions.NotImplemented = effect_of_messages hub session (not_implemented message ∷ [])
effect_by hub session message reactions.Update = effect_of_update hub session message
effect_by hub session message reactions.Query = effect_of_messages hub session (reply_to (known_at (state_now hub)) message ∷ [])
effect_by hub session message reactions.Reconfirm = effect_of_reconfirm hub session (reconfirm_of (primary_data message))
effect_by hub session message reactions.Subscribe = effect_of_subscribe hub session message (question_of (primary_data message))

-- a message without a whole header ends the session (RFC 8490, 5.4)
abbrev pub effect_of : Hub → Session → List ℕ → Effect
effect_of hub session message = elim (head_of message) [ None ↦ ends_by hub session ends.Short | Some head ↦ effect_by hub session message (server_reaction head session.established) ]

-- the messages that were made for a session
abbrev pub messages_of : Session → List (List ℕ)
messages_of session = map (λ m. m.message) session.made

abbrev pub standing_after : SessionStatus → Option EndReason → SessionStatus
standing_after standing None = standing
standing_after standing (Some reason) = Ended reason

-- behind a call that reacts to the message: the session has made these messages, of which a front is handed out, has ended where it is to, and asks what it is to; and the history is this
pub record HasEffect (hub later : Hub) (number : ℕ) (session : Session) (octets : List ℕ) (effect : Effect) : Type 0 where
  pub after : Session
  pub there : session_of later number ≡ Some after
  pub made : messages_of after ≡ messages_of session ++ effect.messages
  pub octets_are : octets ++ after.output ≡ session.output ++ flat_map frame effect.messages
  pub standing : after.standing ≡ standing_after session.standing effect.ended
  pub established : after.established ≡ effect.established
  pub asks : asked_of after.subscriptions ≡ effect.asks
  pub history : later.history ≡ effect.history

abbrev pub TurnHasEffect : (number : ℕ) (calls : List HubCall) (hub : Hub) (front : List (List ℕ)) (message : List ℕ) → HasItsTurn number calls hub front message → Type 0
TurnHasEffect number calls hub front message turn =
    let behind = after_calls turn.first hub in
    let g = give behind number turn.room in
    HasEffect behind g.hub number turn.session g.octets (effect_of behind turn.session message)

-- each message that was reacted to, behind the others: it has its call, in which what the table says is done
abbrev pub EachHasItsTurn : Type 0
EachHasItsTurn = (number : ℕ) (calls : List HubCall) (hub : Hub) (front : List (List ℕ)) (message : List ℕ) (back : List (List ℕ)) → reacted_to number calls hub ≡ front ++ message ∷ back
    → (turn : HasItsTurn number calls hub front message) × TurnHasEffect number calls hub front message turn

-- ---- a SUBSCRIBE

-- a SUBSCRIBE that none of the tests refuses in its turn is answered by NOERROR, and then the first answer's PUSH follows, where it has notices
pub record IsAnswered (hub later : Hub) (number : ℕ) (session : Session) (octets message : List ℕ) (question : Question) : Type 0 where
  pub after : Session
  pub there : session_of later number ≡ Some after
  pub made : messages_of after ≡ messages_of session ++ first_messages hub session message question
  pub octets_are : octets ++ after.output ≡ first_answer_octets (answer_to (id_of message) noerror) (first_answer hub session question)
  pub standing : after.standing ≡ session.standing
  pub established : after.established ≡ true
  pub asks : asked_of after.subscriptions ≡ asked_of session.subscriptions ++ (id_of message, question) ∷ []
  pub history : later.history ≡ hub.history

-- at any line of a script, on any session, after any messages
abbrev pub SubscribesAreAnswered : Type 0
SubscribesAreAnswered = (number : ℕ) (calls : List HubCall) (hub : Hub) (front : List (List ℕ)) (message : List ℕ) (question : Question) (turn : HasItsTurn number calls hub front message)
    → let behind = after_calls turn.first hub in
    let g = give behind number turn.room in
    IsAcceptable behind turn.session message question → IsAnswered behind g.hub number turn.session g.octets message question
