-- A step of the client that is kept, by what the message tells (RFC 8490, 5 to 7; RFC 8765, 6).
--     told_of reaction message id rcode      what a message tells
--     heard now c message      what it tells a connection, and the session behind it
--     told_on told c kept      what it does, where the connection is this one behind the message
--     kept_heard kept      the step
--     IsUntold wishes      no wish was told anything
use Rattle.std.specs.Prelude.{◌≡◌, ℕ, Bool, true, false, List, map, find, Option, Some, None, Ok, Err, ◌==◌, if◌then◌else◌}
use Rattle.std.specs.Int.{w32, from_be_bytes}
use Rattle.rrset.specs.declared.record.Question.{Question}
use Rattle.rrset.specs.Header.{id_of, flags_of, is_response, rcode_of}
use Rattle.rrset.specs.Rcodes.{noerror, dsotypeni}
use Rattle.dsotlv.specs.Answers.{answer_to}
use Rattle.dsotlv.specs.Messages.{first_message, head_of, primary_data}
use Rattle.dsotlv.specs.Notices.{notices_of}
use Rattle.dsotlv.specs.TlvKinds.{keepalive_tlv, push_tlv}
use Rattle.dsotlv.specs.declared.message.DsoHead.{DsoHead}
use Rattle.dsosession.specs.Reactions.{client_reaction, is_keepalive}
use Rattle.dsosession.specs.SessionStates.{SessionState}
use Rattle.dsosession.specs.Timing.{is_short, restarted}
use Rattle.dsosession.specs.declared.session.CloseReason.{CloseReason}
use Rattle.dsosession.specs.declared.session.CloseReason.TheVariants as closes
use Rattle.dsosession.specs.declared.session.ClientReaction.{ClientReaction}
use Rattle.dsosession.specs.declared.session.ClientReaction.TheVariants as clients
use Rattle.mirror.specs.Held.{Held as Sets, applied_to, begun}
use Rattle.pushclient.specs.declared.client.Step.{Step}
use Rattle.pushclient.specs.declared.client.Step.TheVariants as steps
use Rattle.pushclient.specs.declared.told.Answer.{Answer}
use Rattle.pushclient.specs.declared.told.Told.{Told}
use Rattle.pushclient.specs.declared.told.Told.TheVariants as tells
use Rattle.pushclient.specs.Clients.{Connection, Wish, answered, refused, unsubscribe_message, without_wish, writes}
use Rattle.pushclient.specs.Steps.{is_unanswered, timers_of}
use Rattle.pushclient.specs.Rule.{KeptClient, stood_wish, without_told}

-- the notices of a PUSH, all of them or none (RFC 8765, 6.3.1)
abbrev pub pushed : List ℕ → Told
pushed data' = elim (notices_of data') [ Err fault ↦ tells.Close (closes.BadData push_tlv) | Ok notices ↦ tells.Push notices ]

abbrev pub told_of : ClientReaction → List ℕ → ℕ → ℕ → Told
told_of clients.Answered message id rcode = tells.Answered (record { id = id; rcode = rcode; timers = timers_of message })
told_of clients.Typeless message id rcode = tells.Typeless id
told_of clients.Keepalive message id rcode = tells.Keepalive (timers_of message)
told_of clients.Delay message id rcode = tells.Close (closes.Delay (from_be_bytes w32 (primary_data message)) rcode)
told_of clients.Push message id rcode = pushed (primary_data message)
told_of (clients.Close reason) message id rcode = tells.Close reason

-- the ID is that of the Keepalive that waits for its answer
abbrev pub is_keepalive_of : ℕ → Connection → Bool
is_keepalive_of id c = elim c.keepalive_out [ None ↦ false | Some out ↦ out == id ]

-- a Keepalive, or the answer to the client's own
abbrev pub counts_on : Connection → DsoHead → Bool
counts_on c head = if is_response head.flags then is_keepalive_of head.id c else is_keepalive head

abbrev pub heard : ℕ → Connection → List ℕ → Told × SessionState
heard now c message = elim (head_of message) [
  | None ↦ (tells.Close closes.Short, record { clocks = c.clocks; established = c.established })
  | Some head ↦ (told_of (client_reaction head c.established) message (id_of message) (rcode_of (flags_of message)), record { clocks = restarted (counts_on c head) now c.clocks; established = c.established })
]

abbrev pub closed_by : CloseReason → Connection → Step × Connection
closed_by reason c = (steps.Closed reason, record c { closed = Some reason })

-- the two numbers hold; an interval under ten seconds is an error (RFC 8490, 6.5.2 and 7.1)
abbrev pub adopted_on : Option (ℕ × ℕ) → Connection → Step × Connection
adopted_on None c = closed_by (closes.BadData keepalive_tlv) c
adopted_on (Some numbers) c = if is_short numbers.1 then closed_by (closes.Interval numbers.1) c
    else (steps.Kept numbers.0 numbers.1, record c { established = true; clocks = record c.clocks { timers = record { inactivity = numbers.0; keepalive = numbers.1 } } })

-- an answer to no wish
abbrev pub other_answer_on : Answer → Connection → Step × Connection
other_answer_on answer c =
    if is_keepalive_of answer.id c then (if answer.rcode == noerror then adopted_on answer.timers (record c { keepalive_out = None }) else closed_by (closes.Kept answer.rcode) c)
    else closed_by (closes.Stranger answer.id) c

-- NOERROR to a wish establishes the session (RFC 8490, 5.1; RFC 8765, 6.2.2)
abbrev pub wanted_on : Answer → Connection → Connection
wanted_on answer c = if answer.rcode == noerror then record c { established = true } else c

-- and the subscription of one that was dropped meanwhile is ended at once (RFC 8765, 6.4)
abbrev pub dropped_on : Answer → ℕ → Connection → Connection
dropped_on answer now c = if answer.rcode == noerror then writes false now (unsubscribe_message answer.id) (record c { established = true }) else c

abbrev pub wanted_wishes : Question → Answer → List Wish → List Wish
wanted_wishes question answer wishes = map (stood_wish question (if answer.rcode == noerror then answered answer.id else refused answer.rcode)) wishes

abbrev pub wanted_sets : Question → Answer → Sets → Sets
wanted_sets question answer sets = if answer.rcode == noerror then begun question sets else sets

abbrev pub with_both : Step × Connection → KeptClient → Step × KeptClient
with_both r kept = (r.0, record kept { connection = Some r.1 })

-- the answer to a wish: its set begins empty, or it is refused; what was dropped meanwhile goes (RFC 8765, 6.2.2 and 6.4)
abbrev pub wish_answered : Wish → Answer → Connection → KeptClient → KeptClient
wish_answered wish answer c kept =
    if wish.wanted then record kept { wishes = wanted_wishes wish.question answer kept.wishes; connection = Some (wanted_on answer c); sets = wanted_sets wish.question answer kept.sets }
    else record kept { wishes = without_wish wish.question kept.wishes; connection = Some (dropped_on answer kept.now c) }

abbrev pub answer_heard : Answer → Connection → KeptClient → Step × KeptClient
answer_heard answer c kept = elim (find (λ w. is_unanswered answer.id w.standing) kept.wishes) [
  | None ↦ with_both (other_answer_on answer c) kept
  | Some wish ↦ (steps.Answered answer.id answer.rcode, wish_answered wish answer c kept)
]

abbrev pub told_on : Told → Connection → KeptClient → Step × KeptClient
told_on (tells.Answered answer) c kept = answer_heard answer c kept
told_on (tells.Typeless id) c kept = with_both (steps.Typeless id, writes false kept.now (answer_to id dsotypeni) c) kept
told_on (tells.Keepalive numbers) c kept = with_both (adopted_on numbers c) kept
told_on (tells.Push notices) c kept = (steps.Pushed notices, record kept { connection = Some c; sets = applied_to notices kept.sets })
told_on (tells.Close reason) c kept = with_both (closed_by reason c) kept

-- what follows the first message
abbrev pub behind_first : List ℕ → List ℕ
behind_first input = elim (first_message input) [ None ↦ input | Some found ↦ found.1 ]

-- the first message is taken out, and leaves the session so
abbrev pub taken_up : SessionState → Connection → Connection
taken_up session c = record c { input = behind_first c.input; clocks = session.clocks; established = session.established }

abbrev pub heard_on : Connection → KeptClient → Step × KeptClient
heard_on c kept = elim c.closed [
  | Some reason ↦ (steps.Closed reason, kept)
  | None ↦ elim (first_message c.input) [
    | None ↦ (steps.Waiting, kept)
    | Some found ↦ (let h : Told × SessionState = heard kept.now c found.0 in told_on h.0 (taken_up h.1 c) kept)
  ]
]

abbrev pub kept_heard : KeptClient → Step × KeptClient
kept_heard kept = elim kept.connection [ None ↦ (steps.Waiting, kept) | Some c ↦ heard_on c kept ]

abbrev pub IsUntold : List Wish → Type 0
IsUntold wishes = map without_told wishes ≡ wishes
