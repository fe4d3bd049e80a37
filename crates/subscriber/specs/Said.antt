-- What the command `subscribe` says and writes: a function of its configuration, of what it reads and of the moments (RFC 8765, 6; RFC 8490, 5 to 7).
--     said configuration reads moments      its lines
--     saying configuration reads moments      the same, with what went onto the wire, and whether it has ended
--     begun configuration t, turn s (read, t)      before the first read; one read, and the moment behind it
use Rattle.std.specs.Prelude.{ℕ, ◌-◌, min, Bool, true, false, List, [], ◌∷◌, ◌++◌, map, length, fold, Option, Some, None, ◌==◌, codes, decimal}
use Rattle.dnsname.specs.Text.{name_text}
use Rattle.rrset.specs.declared.record.Rr.{Rr}
use Rattle.rrset.specs.declared.record.Question.{Question}
use Rattle.push_base.specs.Limits.{max_moment}
use Rattle.push_base.specs.Line.{Read, bytes, quiet, end_of_line}
use Rattle.dsotlv.specs.Messages.{messages_in}
use Rattle.dsotlv.specs.declared.message.Notice.{Notice}
use Rattle.dsotlv.specs.declared.message.Notice.TheVariants.{Add, RemoveOne, RemoveSet, RemoveClass, RemoveAll, Odd}
use Rattle.dsosession.specs.declared.session.CloseReason.{CloseReason}
use Rattle.pushclient.specs.declared.client.Step.{Step}
use Rattle.pushclient.specs.declared.client.Step.TheVariants as steps
use Rattle.pushclient.specs.Clients.{Client, new_client, subscribe, connected, open_connection, output_of, give_octets, closed_as}
use Rattle.pushclient.specs.Steps.{reacted, moment}
use Rattle.scripts.specs.Words.{spaced, close_words, octets_text, ended_lines}
use Rattle.configurations.specs.Configurations.{Subscribing}

-- ---- lines

abbrev pub removed_line : Rr → List ℕ
removed_line rr = spaced (codes "remove" ∷ name_text rr.owner ∷ decimal rr.class ∷ decimal rr.kind ∷ octets_text rr.rdata ∷ [])

abbrev pub added_line : Rr → List ℕ
added_line rr = spaced (codes "add" ∷ name_text rr.owner ∷ decimal rr.ttl ∷ decimal rr.class ∷ decimal rr.kind ∷ octets_text rr.rdata ∷ [])

-- a notice (RFC 8765, 6.3)
abbrev pub notice_line : Notice → List ℕ
notice_line (Add rr) = added_line rr
notice_line (RemoveOne rr) = removed_line rr
notice_line (RemoveSet name class kind) = spaced (codes "removeset" ∷ name_text name ∷ decimal class ∷ decimal kind ∷ [])
notice_line (RemoveClass name class) = spaced (codes "removeclass" ∷ name_text name ∷ decimal class ∷ [])
notice_line (RemoveAll name) = spaced (codes "removeall" ∷ name_text name ∷ [])
notice_line (Odd name ttl) = spaced (codes "odd" ∷ name_text name ∷ decimal ttl ∷ [])

abbrev pub closed_line : CloseReason → List ℕ
closed_line reason = spaced (codes "closed" ∷ close_words reason ∷ [])

-- the lines of one step
abbrev pub step_lines : Step → List (List ℕ)
step_lines (steps.Answered id rcode) = spaced (codes "answer" ∷ decimal id ∷ decimal rcode ∷ []) ∷ []
step_lines (steps.Kept inactivity keepalive) = spaced (codes "keepalive" ∷ decimal inactivity ∷ decimal keepalive ∷ []) ∷ []
step_lines (steps.Pushed notices) = map notice_line notices
step_lines (steps.Typeless id) = spaced (codes "typeless" ∷ decimal id ∷ []) ∷ []
step_lines steps.Waiting = []
step_lines (steps.Closed reason) = closed_line reason ∷ []

-- ---- what was said so far

-- the client, without the octets read; those that are no whole message yet; what went onto the wire; the lines; how many messages may
-- still come, where they are counted, and how many reads; and whether an ending was said
pub record Saying : Type 0 where
  pub client : Client
  pub left : List ℕ
  pub wire : List ℕ
  pub lines : List (List ℕ)
  pub messages_left : Option ℕ
  pub turns_left : ℕ
  pub over : Bool

abbrev pub text_of : Saying → List ℕ
text_of s = ended_lines s.lines

abbrev pub ends_with : List ℕ → Saying → Saying
ends_with words s = record s { lines = s.lines ++ words ∷ []; over = true }

-- whether none is left
abbrev pub is_used_up : Option ℕ → Bool
is_used_up None = false
is_used_up (Some n) = n == 0

-- it ends where none is left
abbrev pub ends_at : Option ℕ → List ℕ → Saying → Saying
ends_at left words s = elim (is_used_up left) [ true ↦ ends_with words s | false ↦ s ]

abbrev pub one_less : Option ℕ → Option ℕ
one_less None = None
one_less (Some n) = Some (n - 1)

-- ---- a read

-- after so many messages it ends
abbrev pub counted : Saying → Saying
counted s = ends_at s.messages_left (codes "ended messages") s

abbrev pub after_step : Step → Client → Saying → Saying
after_step (steps.Closed reason) client s = ends_with (closed_line reason) (record s { client = client })
after_step taken client s = counted (record s { client = client; lines = s.lines ++ step_lines taken; messages_left = one_less s.messages_left })

-- whether no message was whole, and whether the client has closed
abbrev pub is_waiting : Step → Bool
is_waiting steps.Waiting = true
is_waiting _ = false

abbrev pub is_closed : Step → Bool
is_closed (steps.Closed reason) = true
is_closed _ = false

-- a whole message is reacted to, unless an ending was said
abbrev pub takes_message : Saying → List ℕ → Saying
takes_message s message = elim s.over [
  | true ↦ s
  | false ↦ elim (open_connection s.client) [ None ↦ s | Some c ↦ (let one = reacted message c s.client in after_step one.0 one.1 s) ]
]

abbrev pub takes_messages : List (List ℕ) → Saying → Saying
takes_messages messages s = fold takes_message s messages

-- the whole messages in octets are reacted to, and what is no whole message is left (RFC 7766, 8)
abbrev pub reacts_to : List ℕ → Saying → Saying
reacts_to octets s = (let all = messages_in octets in record (takes_messages all.0 s) { left = all.1 })

-- the octets read are cut into messages, however they came
abbrev pub takes_read : Read → Saying → Saying
takes_read (bytes octets) s = reacts_to (s.left ++ octets) s
takes_read quiet s = s
takes_read end_of_line s = ends_with (codes "closed eof") s

-- ---- a moment

-- what the client has to send goes onto the wire
abbrev pub writes_out : Saying → Saying
writes_out s = record s { wire = s.wire ++ output_of s.client; client = give_octets (length (output_of s.client)) s.client }

abbrev pub closed_by_moment : Saying → Saying
closed_by_moment s = elim (closed_as s.client) [ None ↦ s | Some reason ↦ ends_with (closed_line reason) s ]

-- a moment over the greatest counts as that
abbrev pub capped : ℕ → ℕ
capped t = min t max_moment

-- the moment behind a read; then what the client has to send goes out
abbrev pub at_moment : ℕ → Saying → Saying
at_moment t s = elim s.over [ true ↦ s | false ↦ closed_by_moment (writes_out (record s { client = moment s.client (capped t) })) ]

-- ---- all reads

-- it ends where no read is left
abbrev pub ends_without_turns : Saying → Saying
ends_without_turns s = elim s.over [ true ↦ s | false ↦ ends_at (Some s.turns_left) (codes "ended turns") s ]

abbrev pub spends_turn : Saying → Saying
spends_turn s = ends_without_turns (record s { turns_left = s.turns_left - 1 })

-- a read, and the moment behind it
abbrev pub turn : Saying → Read × ℕ → Saying
turn s e = elim s.over [ true ↦ s | false ↦ spends_turn (at_moment e.1 (takes_read e.0 s)) ]

abbrev pub asking : List Question → Client
asking questions = fold (λ c q. (subscribe c q).1) new_client questions

-- connected, and nothing said
abbrev pub connected_at : Subscribing → ℕ → Saying
connected_at configuration t = record {
  client = connected (capped t) (asking configuration.questions);
  left = [];
  wire = [];
  lines = [];
  messages_left = configuration.messages;
  turns_left = configuration.turns;
  over = false;
}

-- what is asked goes out before the first read
abbrev pub begun : Subscribing → ℕ → Saying
begun configuration t = ends_without_turns (counted (writes_out (connected_at configuration t)))

-- each read with the moment behind it; without further moments the last one stays
abbrev pub paired : ℕ → List Read → List ℕ → List (Read × ℕ)
paired last [] moments = []
paired last (read ∷ reads) [] = (read, last) ∷ paired last reads []
paired last (read ∷ reads) (t ∷ moments) = (read, t) ∷ paired t reads moments

-- connected at the first moment
abbrev pub saying : Subscribing → List Read → List ℕ → Saying
saying configuration reads [] = fold turn (begun configuration 0) (paired 0 reads [])
saying configuration reads (t ∷ moments) = fold turn (begun configuration t) (paired t reads moments)

abbrev pub said : Subscribing → List Read → List ℕ → List (List ℕ)
said configuration reads moments = (saying configuration reads moments).lines
