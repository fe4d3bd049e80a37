-- What each call does to the client that is kept.
--     told_once      a message with one TLV that is no answer
--     asked_on, ended_on, reconfirmed_on, taken_on, given_on, timed_on      what it does to a connection that may be there
--     kept_..      the call, on the client that is kept
--     untold kept      the client that is kept, as a plain one that was told nothing
--     sets_after step wishes sets      what a step does to the sets
use Rattle.std.specs.Prelude.{◌≡◌, ℕ, ◌-◌, Bool, true, false, cond, ◌&&◌, List, [], ◌∷◌, ◌++◌, length, map, filter, find, take, drop, Option, Some, None, is_some, nat_le, ◌==◌, if◌then◌else◌}
use Rattle.std.specs.Int.{w16, to_be_bytes}
use Rattle.std.specs.List.{list_any}
use Rattle.push_base.specs.Limits.{max_input, max_questions}
use Rattle.dnsname.specs.Names.{octets}
use Rattle.rrset.specs.Header.{max_message}
use Rattle.rrset.specs.Records.{same_question}
use Rattle.rrset.specs.RecordSet.{RecordSet}
use Rattle.rrset.specs.Rcodes.{noerror}
use Rattle.rrset.specs.declared.record.Rr.{Rr}
use Rattle.rrset.specs.declared.record.Question.{Question}
use Rattle.dsotlv.specs.declared.message.DsoMessage.{DsoMessage}
use Rattle.dsosession.specs.Timing.{client_due}
use Rattle.dsosession.specs.declared.session.Due.{Due}
use Rattle.dsosession.specs.declared.session.Due.TheVariants as dues
use Rattle.dsosession.specs.declared.session.CloseReason.{CloseReason}
use Rattle.dsosession.specs.declared.session.CloseReason.TheVariants as closes
use Rattle.mirror.specs.Held.{Held as Sets, applied_to, begun, ended, set_of}
use Rattle.pushclient.specs.declared.client.Asked.{Asked}
use Rattle.pushclient.specs.declared.client.Held.{Held as Told}
use Rattle.pushclient.specs.declared.client.Held.TheVariants as tolds
use Rattle.pushclient.specs.declared.client.Asked.TheVariants as asked
use Rattle.pushclient.specs.declared.client.Step.{Step}
use Rattle.pushclient.specs.declared.client.Step.TheVariants as steps
use Rattle.pushclient.specs.Clients.{Client, Connection, Wish, RequestState, not_asked, unanswered, refused, answered, id_asked, Held, off, asked_only, refused_with, set_held, next_id, new_connection, opened, unasked, without_wish, writes, subscribe_message, unsubscribe_message, reconfirm_message}
use Rattle.pushclient.specs.Steps.{is_active, is_unanswered, keepalive_message, step}
use Rattle.pushclient.specs.Rule.{KeptClient, dropped_wish, without_told}

abbrev pub told_once : ℕ → ℕ → List ℕ → DsoMessage
told_once id kind data' = record { id = id; response = false; rcode = 0; tlvs = (record { kind = kind; octets = data' }) ∷ [] }

-- the data of a RECONFIRM (RFC 8765, 6.5.1)
abbrev pub reconfirm_data : Rr → List ℕ
reconfirm_data rr = octets rr.owner ++ to_be_bytes w16 rr.kind ++ to_be_bytes w16 rr.class ++ rr.rdata

-- a question is asked where the connection is open
abbrev pub asked_on : List Wish → Question → ℕ → Option Connection → RequestState × Option Connection
asked_on wishes question now connection = elim (opened connection) [
  | None ↦ (not_asked, connection)
  | Some c ↦ (let id = next_id wishes c in (unanswered id, Some (writes false now (subscribe_message id question) (record c { last_id = id }))))
]

abbrev pub ended_on : ℕ → ℕ → Option Connection → Option Connection
ended_on id now connection = elim (opened connection) [ None ↦ connection | Some c ↦ Some (writes false now (unsubscribe_message id) c) ]

abbrev pub reconfirmed_on : Rr → ℕ → Option Connection → Bool × Option Connection
reconfirmed_on rr now connection = elim (opened connection) [
  | None ↦ (false, connection)
  | Some c ↦ if c.established && nat_le (length (reconfirm_message rr)) max_message then (true, Some (writes false now (reconfirm_message rr) c)) else (false, connection)
]

abbrev pub room_on : Option Connection → ℕ
room_on connection = elim (opened connection) [ None ↦ 0 | Some c ↦ max_input - length c.input ]

abbrev pub taken_on : List ℕ → Option Connection → Option Connection
taken_on piece connection = elim (opened connection) [ None ↦ connection | Some c ↦ Some (record c { input = c.input ++ take (max_input - length c.input) piece }) ]

abbrev pub given_on : ℕ → Option Connection → Option Connection
given_on n None = None
given_on n (Some c) = Some (record c { output = drop n c.output })

abbrev pub output_on : Option Connection → List ℕ
output_on None = []
output_on (Some c) = c.output

-- what is due at a moment is done
abbrev pub done_on : Due → List Wish → ℕ → Connection → Connection
done_on dues.Nothing wishes now c = c
done_on dues.Keepalive wishes now c = (let id = next_id wishes c in writes true now (keepalive_message id) (record c { last_id = id; keepalive_out = Some id }))
done_on dues.Idle wishes now c = record c { closed = Some closes.Idle }

abbrev pub timed_on : List Wish → ℕ → Option Connection → Option Connection
timed_on wishes t connection = elim (opened connection) [
  | None ↦ connection
  | Some c ↦ Some (done_on (client_due c.clocks t (list_any (λ w. is_active w.standing) wishes) (is_some c.keepalive_out)) wishes t c)
]

-- the wish is the last in order, and is asked where the connection is open
abbrev pub kept_ask : Question → KeptClient → KeptClient
kept_ask question kept = let r : RequestState × Option Connection = asked_on kept.wishes question kept.now kept.connection in record kept {
  wishes = kept.wishes ++ (record { question = question; wanted = true; standing = r.0; notices = [] }) ∷ [];
  connection = r.1;
}

abbrev pub asked_wanted : List Wish → KeptClient → KeptClient
asked_wanted [] kept = kept
asked_wanted (w ∷ wishes) kept = asked_wanted wishes (cond w.wanted (kept_ask w.question kept) kept)

abbrev pub kept_connected : ℕ → KeptClient → KeptClient
kept_connected t kept = asked_wanted kept.wishes (record { wishes = []; connection = Some (new_connection t); now = t; sets = [] })

abbrev pub kept_cut : KeptClient → KeptClient
kept_cut kept = record { wishes = map (λ w. unasked w.question) (filter (λ w. w.wanted) kept.wishes); connection = None; now = kept.now; sets = [] }

abbrev pub kept_ask_first : Question → KeptClient → Asked × KeptClient
kept_ask_first question kept = if nat_le max_questions (length kept.wishes) then (asked.Many, kept) else (asked.New, kept_ask question kept)

abbrev pub kept_subscribe : KeptClient → Question → Asked × KeptClient
kept_subscribe kept question = elim (find (λ w. same_question w.question question) kept.wishes) [
  | Some wish ↦ if wish.wanted then (asked.Already, kept)
      else (asked.New, record kept { wishes = without_wish question kept.wishes ++ (record wish { wanted = true }) ∷ [] })
  | None ↦ kept_ask_first question kept
]

-- a wish for a question goes, as it stands
abbrev pub kept_drop : Question → RequestState → KeptClient → KeptClient
kept_drop question (answered id) kept = record kept { wishes = without_wish question kept.wishes; connection = ended_on id kept.now kept.connection; sets = ended question kept.sets }
kept_drop question (unanswered id) kept = record kept { wishes = map (dropped_wish question) kept.wishes }
kept_drop question _ kept = record kept { wishes = without_wish question kept.wishes; sets = ended question kept.sets }

abbrev pub kept_unsubscribe : KeptClient → Question → Bool × KeptClient
kept_unsubscribe kept question = elim (find (λ w. same_question w.question question) kept.wishes) [
  | None ↦ (false, kept)
  | Some wish ↦ if wish.wanted then (true, kept_drop question wish.standing kept) else (false, kept)
]

abbrev pub kept_reconfirm : KeptClient → Rr → Bool × KeptClient
kept_reconfirm kept rr = let r : Bool × Option Connection = reconfirmed_on rr kept.now kept.connection in (r.0, record kept { connection = r.1 })

abbrev pub kept_take : List ℕ → KeptClient → KeptClient
kept_take piece kept = record kept { connection = taken_on piece kept.connection }

abbrev pub kept_give : ℕ → KeptClient → KeptClient
kept_give n kept = record kept { connection = given_on n kept.connection }

abbrev pub kept_moment : KeptClient → ℕ → KeptClient
kept_moment kept t = record kept { now = t; connection = timed_on kept.wishes t kept.connection }

-- the client that is kept, as a plain one that was told nothing
abbrev pub untold : KeptClient → Client
untold kept = record { wishes = kept.wishes; connection = kept.connection; now = kept.now }

-- the answer NOERROR to a wanted question begins its set, and a PUSH changes all (RFC 8765, 6.2.2 and 6.3)
abbrev pub sets_after : Step → List Wish → Sets → Sets
sets_after (steps.Answered id rcode) wishes sets = elim (find (λ w. is_unanswered id w.standing) wishes) [
  | None ↦ sets
  | Some wish ↦ if rcode == noerror && wish.wanted then begun wish.question sets else sets
]
sets_after (steps.Pushed notices) wishes sets = applied_to notices sets
sets_after _ wishes sets = sets

-- a step is that of the plain client, and the sets follow
abbrev pub kept_step : KeptClient → Step × KeptClient
kept_step kept = let r : Step × Client = step (untold kept) in (
  r.0,
  record {
    wishes = map without_told r.1.wishes;
    connection = r.1.connection;
    now = r.1.now;
    sets = sets_after r.0 kept.wishes kept.sets;
  },
)

abbrev pub closed_on : Option Connection → Option CloseReason
closed_on None = None
closed_on (Some c) = c.closed

abbrev pub kept_id_of : KeptClient → Question → Option ℕ
kept_id_of kept question = elim (find (λ w. same_question w.question question) kept.wishes) [ None ↦ None | Some wish ↦ id_asked wish.standing ]

-- a wanted wish where a connection is there
abbrev pub kept_held_as : RequestState → Option RecordSet → Held
kept_held_as not_asked set = off
kept_held_as (unanswered id) set = asked_only
kept_held_as (refused rcode) set = refused_with rcode
kept_held_as (answered id) None = off
kept_held_as (answered id) (Some set) = set_held id set

abbrev pub kept_held : KeptClient → Question → Held
kept_held kept question = elim (find (λ w. same_question w.question question) kept.wishes) [
  | None ↦ off
  | Some wish ↦ if wish.wanted && is_some kept.connection then kept_held_as wish.standing (set_of question kept.sets) else off
]

-- a set that is held
abbrev pub IsHeld : RecordSet → Held → Type 0
IsHeld rows (set_held id set) = rows ≡ set
IsHeld rows _ = ⊥

-- what is told of a question is what is known of it
abbrev pub HoldsAs : Told → Held → Type 0
HoldsAs tolds.Off held = held ≡ off
HoldsAs tolds.Asked held = held ≡ asked_only
HoldsAs (tolds.Refused rcode) held = held ≡ refused_with rcode
HoldsAs (tolds.Answered set) held = IsHeld set.now.rows held
