-- What a session with an empty queue makes of messages, as long as no entry is made: a fold over the messages.
--     Core      what of a live session with an empty queue a message is reacted to by
--     turned hub message core      its reaction: none where an entry is made; why it ends; or what is left of it, and what it writes
--     ran hub messages core      one after the other, until it ends
--     At hub number later session      a later hub with the same history, in which the session of this number is the one given
--     Longer hub later      a later hub with more entries
--     TurnsAsTold, WritesFew, StaysLonger, EmitsAsRan      what is proved of them elsewhere
use Rattle.std.proofs.Common.{◌≡◌, ◌⊎◌, inl, inr, ℕ, ◌<◌, ◌≤◌, Bool, false, cond, ◌&&◌, List, [], ◌∷◌, ◌++◌, length, Option, Some, None, Result, Ok, Err}
use Rattle.std.specs.Prelude.{option_map}
use Rattle.rrset.specs.Header.{id_of}
use Rattle.rrset.specs.Rcodes.{servfail}
use Rattle.rrset.specs.declared.record.Rr.{Rr}
use Rattle.rrset.specs.declared.record.Key.{Key}
use Rattle.dnswire.specs.declared.message.Update.{Update}
use Rattle.dnsquery.specs.Replies.{reply_to}
use Rattle.dsotlv.specs.Messages.{head_of, primary_data, messages_in}
use Rattle.dsotlv.specs.Notices.{question_of, reconfirm_of}
use Rattle.dsotlv.specs.TlvKinds.{reconfirm_tlv}
use Rattle.dsotlv.specs.declared.message.DsoHead.{DsoHead}
use Rattle.dsosession.specs.Reactions.{server_reaction}
use Rattle.dsosession.specs.Timing.{Clocks}
use Rattle.dsosession.specs.declared.session.EndReason.{EndReason}
use Rattle.dsosession.specs.declared.session.EndReason.TheVariants as ends
use Rattle.dsosession.specs.declared.session.Reaction.{Reaction}
use Rattle.dsosession.specs.declared.session.Reaction.TheVariants as reactions
use Rattle.history.specs.States.{verdict, accepts, reconfirm_key}
use Rattle.history.specs.declared.entry.Entry.TheVariants as entries
use Rattle.dsotlv.specs.Answers.{answer_to_update}
use Rattle.pushsession.specs.declared.session_status.SessionStatus.{SessionStatus}
use Rattle.pushsession.specs.declared.session_status.SessionStatus.TheVariants.{Live, Ended}
use Rattle.pushsession.specs.Sessions.{answers}
use Rattle.pushsession.specs.Subscribing.{answered}
use Rattle.pushsession.specs.Reactions.{restarted_by, by_itself}
use Rattle.pushserver.specs.PlainHubs.{Session, Subscription, Made, Hub}
use Rattle.pushserver.specs.Hubs.{now, state_now, keeps_now, tells_now, session_of, can_enter}
use Rattle.pushserver.specs.Giving.{has_home, known_at, reacted, after_reaction, give}
use Rattle.replay.specs.PassedOctets.{Emitted, emitted, exchanged, nothing_emitted, enough}
use Rattle.replay.proofs.turns.ZoneSizes.{IsBounded}

pub record Core : Type 0 where
  pub subscriptions : List Subscription
  pub clocks : Clocks
  pub established : Bool
  pub made : List Made

-- a live session with an empty queue
abbrev pub resting : Core → List ℕ → List ℕ → Session
resting core input output =
    record { subscriptions = core.subscriptions; queue = []; clocks = core.clocks; established = core.established; standing = Live; input = input; output = output; made = core.made }

abbrev pub core_of : Session → Core
core_of s = record { subscriptions = s.subscriptions; clocks = s.clocks; established = s.established; made = s.made }

abbrev pub silent : Core → Session
silent core = resting core [] []

-- none where an entry is made; why the session ends; or what is left of it, and what it writes
abbrev pub Turned : Type 0
Turned = Option (EndReason ⊎ (Core × List ℕ))

abbrev pub enters : Turned
enters = None

abbrev pub ends_for : EndReason → Turned
ends_for reason = Some (inl reason)

abbrev pub goes_on : Session → Turned
goes_on s = Some (inr (core_of s, s.output))

abbrev by_standing : Session → SessionStatus → Turned
by_standing s (Ended reason) = ends_for reason
by_standing s _ = goes_on s

-- what is left of a session that has reacted
abbrev pub left_as : Session → Turned
left_as s = by_standing s s.standing

-- what a session wrote, why it ended if it did, and what is left of it
pub record Ran : Type 0 where
  pub octets : List ℕ
  pub over : Option EndReason
  pub core : Core

abbrev pub behind_octets : List ℕ → Ran → Ran
behind_octets octets r = record r { octets = octets ++ r.octets }

module _ (hub : Hub) where
  abbrev pub answers_with : List ℕ → Session → Session
  answers_with message s = answers (keeps_now hub) false (now hub) message s

  abbrev pub by_shown : Core → Option (ℕ × Key) → Turned
  by_shown core None = goes_on (silent core)
  by_shown core (Some found) = (let entry = entries.Reconfirm found.0 found.1 in cond (accepts (state_now hub) entry && can_enter hub) enters (goes_on (silent core)))

  abbrev pub by_record : Core → Option Rr → Turned
  by_record core None = ends_for (ends.BadData reconfirm_tlv)
  by_record core (Some rr) = by_shown core (reconfirm_key (state_now hub) rr)

  abbrev pub by_verdict : List ℕ → Core → Result Update ℕ → Turned
  by_verdict message core (Err code) = left_as (answers_with (answer_to_update (id_of message) code) (silent core))
  by_verdict message core (Ok u) = cond (can_enter hub) enters (left_as (answers_with (answer_to_update (id_of message) servfail) (silent core)))

  -- a SUBSCRIBE is answered
  abbrev pub subscribing : List ℕ → Session → Session
  subscribing message s = (let question = question_of (primary_data message) in answered (keeps_now hub) (tells_now hub) (now hub) (id_of message) question (has_home hub question) s)

  -- a query is answered with its reply
  abbrev pub replying : List ℕ → Session → Session
  replying message s = answers_with (reply_to (known_at (state_now hub)) message) s

  -- a reaction that needs nothing of the server
  abbrev pub reacting : Reaction → List ℕ → Session → Session
  reacting reaction message s = by_itself (keeps_now hub) reaction hub.timers (now hub) message s

  abbrev pub turned_by : Reaction → List ℕ → Core → Turned
  turned_by reactions.Subscribe message core = left_as (subscribing message (silent core))
  turned_by reactions.Reconfirm message core = by_record core (reconfirm_of (primary_data message))
  turned_by reactions.Update message core = by_verdict message core (verdict (state_now hub) message)
  turned_by reactions.Query message core = left_as (replying message (silent core))
  turned_by (reactions.Answer rcode) message core = left_as (reacting (reactions.Answer rcode) message (silent core))
  turned_by reactions.Grant message core = left_as (reacting reactions.Grant message (silent core))
  turned_by (reactions.Abort reason) message core = left_as (reacting (reactions.Abort reason) message (silent core))
  turned_by reactions.Unsubscribe message core = left_as (reacting reactions.Unsubscribe message (silent core))
  turned_by reactions.NotImplemented message core = left_as (reacting reactions.NotImplemented message (silent core))

  -- a message that is reacted to restarts the timers
  abbrev pub listening : List ℕ → Core → Core
  listening message core = core_of (restarted_by message (now hub) (silent core))

  abbrev pub by_head : List ℕ → Core → Option DsoHead → Turned
  by_head message core None = ends_for ends.Short
  by_head message core (Some head) = turned_by (server_reaction head core.established) message (listening message core)

  abbrev pub turned : List ℕ → Core → Turned
  turned message core = by_head message core (head_of message)

  -- what comes of a message, and then of those behind it
  abbrev pub ran_by : (Core → Option Ran) → Core → Turned → Option Ran
  ran_by later core None = None
  ran_by later core (Some (inl reason)) = Some (record { octets = []; over = Some reason; core = core })
  ran_by later core (Some (inr left)) = option_map (behind_octets left.1) (later left.0)

  -- one message after the other, until the session ends; none where an entry is made
  abbrev pub ran : List (List ℕ) → Core → Option Ran
  ran [] core = Some (record { octets = []; over = None; core = core })
  ran (message ∷ messages) core = ran_by (λ left. ran messages left) core (turned message core)

-- ---- hubs

-- the same hub with other sessions
abbrev pub with_sessions : Hub → List (ℕ × Session) → ℕ → Hub
with_sessions hub sessions made = record hub { sessions = sessions; numbers_given = made }

pub record At (hub : Hub) (number : ℕ) (later : Hub) (session : Session) : Type 0 where
  pub is : later ≡ with_sessions hub later.sessions later.numbers_given
  pub there : session_of later number ≡ Some session

abbrev pub Longer : Hub → Hub → Type 0
Longer hub later = length hub.history < length later.history

-- a session that has ended, and has nothing to write
pub record IsOver (hub : Hub) (number : ℕ) (later : Hub) (reason : EndReason) : Type 0 where
  pub session : Session
  pub at : At hub number later session
  pub standing : session.standing ≡ Ended reason
  pub output : session.output ≡ []

-- a later hub is as the reaction says
abbrev pub Follows : Hub → ℕ → Hub → List ℕ → Turned → Type 0
Follows hub number later input None = Longer hub later
Follows hub number later input (Some (inl reason)) = IsOver hub number later reason
Follows hub number later input (Some (inr left)) = At hub number later (resting left.0 input left.1)

abbrev pub TurnsAsTold : Type 0
TurnsAsTold = (hub : Hub) (number : ℕ) (later : Hub) (message : List ℕ) (core : Core) (input : List ℕ) → At hub number later (resting core input [])
    → Follows hub number (reacted message number later) input (turned hub message core)

-- a reaction writes few octets
abbrev pub IsFew : Turned → Type 0
IsFew None = Unit {0}
IsFew (Some (inl reason)) = Unit {0}
IsFew (Some (inr left)) = length left.1 ≤ 20000000

abbrev pub WritesFew : Type 0
WritesFew = (hub : Hub) (message : List ℕ) (core : Core) → IsBounded (state_now hub) → IsFew (turned hub message core)

-- a history that has grown stays so
pub record StaysLonger (hub : Hub) : Type 0 where
  pub reacted : (later : Hub) (message : List ℕ) (number : ℕ) → Longer hub later → Longer hub (reacted message number later)
  pub after_reaction : (later : Hub) (number room : ℕ) → Longer hub later → Longer hub (after_reaction number room later).hub
  pub give : (later : Hub) (number room : ℕ) → Longer hub later → Longer hub (give later number room).hub
  pub emitted : (turns number budget : ℕ) (so_far : Emitted) → Longer hub so_far.hub → Longer hub (emitted turns number budget so_far).hub
  pub exchanged : (turns number : ℕ) (octets : List ℕ) (later : Hub) (so_far : List ℕ) → Longer hub later → Longer hub (exchanged turns number octets later so_far).hub

-- ---- calls of give, one behind another

-- what they gave is what the session wrote; an end is told
pub record EmittedLive (hub : Hub) (number : ℕ) (rest : List ℕ) (r : Ran) (e : Emitted) : Type 0 where
  pub octets : e.octets ≡ r.octets
  pub over : e.over ≡ None
  pub at : At hub number e.hub (resting r.core rest [])

pub record EmittedEnd (hub : Hub) (number : ℕ) (reason : EndReason) (r : Ran) (e : Emitted) : Type 0 where
  pub octets : e.octets ≡ r.octets
  pub told : e.over ≡ Some reason
  pub over : IsOver hub number e.hub reason

abbrev pub EmittedBy : Hub → ℕ → List ℕ → Ran → Emitted → Option EndReason → Type 0
EmittedBy hub number rest r e None = EmittedLive hub number rest r e
EmittedBy hub number rest r e (Some reason) = EmittedEnd hub number reason r e

abbrev pub EmittedAs : Hub → ℕ → List ℕ → Emitted → Option Ran → Type 0
EmittedAs hub number rest e None = Longer hub e.hub
EmittedAs hub number rest e (Some r) = EmittedBy hub number rest r e r.over

abbrev pub EmitsAsRan : Type 0
EmitsAsRan = (hub : Hub) (number : ℕ) (later : Hub) (core : Core) (input : List ℕ) → IsBounded (state_now hub) → At hub number later (resting core input []) → length input ≤ 69633
    → EmittedAs hub number (messages_in input).1 (emitted enough number enough (nothing_emitted later [])) (ran hub (messages_in input).0 core)
