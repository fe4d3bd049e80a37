-- Reading messages from left to right, with the first fault that is met and its place (RFC 1035, 4.1; RFC 2136, 2; RFC 6762, 18).
--     number_at, question_at, record_at, several      a field, an entry, a count of entries, each with the place after it
--     sections_of      the four sections of a message
--     update_of, hearing_of      a whole update; what a datagram of a link says
use Rattle.std.specs.Prelude.{ℕ, zero, suc, ◌+◌, ◌%◌, Bool, ◌&&◌, ◌||◌, not, List, [], ◌∷◌, ◌++◌, map, length, Result, Ok, Err, nat_lt, nat_le, ◌==◌, slice_range, if◌then◌else◌}
use Rattle.std.specs.Int.{Width, w16, w32, byte_len, from_be_bytes}
use Rattle.push_base.specs.Cases.{◌>>=◌, fault_as}
use Rattle.push_base.specs.Limits.{max_datagram}
use Rattle.dnsname.specs.Reading.{name_at}
use Rattle.rrset.specs.Kinds.{in_class, none_class}
use Rattle.rrset.specs.Rdata.{rdata_at}
use Rattle.rrset.specs.Header.{header_octets, two_octets, id_of, flags_of, is_response, opcode_of, rcode_of}
use Rattle.rrset.specs.declared.record.Rr.{Rr}
use Rattle.rrset.specs.declared.record.Question.{Question}
use Rattle.rrset.specs.declared.record.HeardRr.{HeardRr}
use Rattle.rrset.specs.declared.record.Hearing.{Hearing}
use Rattle.dnswire.specs.declared.mdns.TheConstants as hearing
use Rattle.dnswire.specs.declared.section.Sections.{Sections}
use Rattle.dnswire.specs.declared.message.Update.{Update}
use Rattle.dnswire.specs.declared.message.WireFault.{WireFault}
use Rattle.dnswire.specs.declared.message.WireFault.TheVariants.{Short, Trailing, Name, Rdata}
use Rattle.dnswire.specs.declared.message.HearFault.{HearFault}
use Rattle.dnswire.specs.declared.message.HearFault.TheVariants as hear

-- a number, the high octet first
abbrev pub number_at : Width → List ℕ → ℕ → Result (ℕ × ℕ) WireFault
number_at w message at = if nat_lt (length message) (at + byte_len w) then Err (Short (length message)) else Ok (from_be_bytes w (slice_range message at (at + byte_len w)), at + byte_len w)

-- so many entries, one behind the other
abbrev pub several : {X : Type 0} → (List ℕ → ℕ → Result (X × ℕ) WireFault) → ℕ → List ℕ → ℕ → Result (List X × ℕ) WireFault
several read zero message at = Ok ([], at)
several read (suc n) message at = do
  first ← read message at
  others ← several read n message first.1
  Ok (first.0 ∷ others.0, others.1)

-- RFC 1035, 4.1.2
abbrev pub question_at : List ℕ → ℕ → Result (Question × ℕ) WireFault
question_at message at = do
  name ← fault_as Name (name_at message at)
  kind ← number_at w16 message name.1
  class ← number_at w16 message kind.1
  Ok (record { name = name.0; kind = kind.0; class = class.0 }, class.1)

-- rdata of so many octets; opaque where it isn't read by shape
abbrev pub rdata_of : Bool → ℕ → List ℕ → ℕ → ℕ → Result (List ℕ × ℕ) WireFault
rdata_of by_shape kind message at n =
    if nat_lt (length message) (at + n) then Err (Short (length message))
    else (if by_shape then fault_as Rdata (rdata_at kind message at (at + n)) else Ok (slice_range message at (at + n))) >>= λ rdata. Ok (rdata, at + n)

-- RFC 1035, 4.1.3; the test says of a class and a length whether rdata is read by shape
abbrev pub record_at : (ℕ → ℕ → Bool) → List ℕ → ℕ → Result (Rr × ℕ) WireFault
record_at by_shape message at = do
  owner ← fault_as Name (name_at message at)
  kind ← number_at w16 message owner.1
  class ← number_at w16 message kind.1
  ttl ← number_at w32 message class.1
  size ← number_at w16 message ttl.1
  rdata ← rdata_of (by_shape class.0 size.0) kind.0 message size.1 size.0
  Ok (record { owner = owner.0; class = class.0; kind = kind.0; ttl = ttl.0; rdata = rdata.0 }, rdata.1)

-- the four sections behind the header, each with as many entries as it counts (RFC 1035, 4.1)
abbrev pub sections_of : (ℕ → ℕ → Bool) → List ℕ → Result Sections WireFault
sections_of by_shape message = do
  questions ← several question_at (two_octets message 4) message header_octets
  answers ← several (record_at by_shape) (two_octets message 6) message questions.1
  authority ← several (record_at by_shape) (two_octets message 8) message answers.1
  additional ← several (record_at by_shape) (two_octets message 10) message authority.1
  Ok (record { questions = questions.0; answers = answers.0; authority = authority.0; additional = additional.0; end = additional.1 })

-- of an update, rdata of class IN is read by shape, and of class NONE where there is any (RFC 2136, 2.4 and 2.5)
abbrev pub update_shape : ℕ → ℕ → Bool
update_shape class size = class == in_class || (class == none_class && nat_lt 0 size)

-- zones, prerequisites, changes, and additional records that are dropped, in place of the four sections, to the last octet (RFC 2136, 2)
abbrev pub update_of : List ℕ → Result Update WireFault
update_of message = do
  sections ← sections_of update_shape message
  if sections.end == length message then Ok (record { id = id_of message; zones = sections.questions; prereqs = sections.answers; changes = sections.authority }) else Err (Trailing sections.end)

-- of a query, rdata of class IN is read by shape
abbrev pub query_shape : ℕ → ℕ → Bool
query_shape class size = class == in_class

-- the class without the cache-flush bit (RFC 6762, 10.2)
abbrev pub heard_shape : ℕ → ℕ → Bool
heard_shape class size = class % hearing.CACHE_FLUSH == in_class

abbrev pub heard_rr : Rr → HeardRr
heard_rr rr = record { rr = record rr { class = rr.class % hearing.CACHE_FLUSH }; flush = nat_le hearing.CACHE_FLUSH rr.class }

-- questions and the authority section are skipped, octets after the counted entries ignored (RFC 6762, 6 and 18)
abbrev pub entries_heard : List ℕ → Result Hearing WireFault
entries_heard message = do
  sections ← sections_of heard_shape message
  Ok (record { rrs = map heard_rr (sections.answers ++ sections.additional) })

-- the size, and the bits of the header (RFC 6762, 17, 18.2, 18.3 and 18.11)
abbrev pub hearing_of : List ℕ → Result Hearing HearFault
hearing_of datagram =
    if nat_lt max_datagram (length datagram) then Err hear.Long
    else if nat_lt (length datagram) header_octets then Err hear.Short
    else if not (is_response (flags_of datagram)) then Err hear.Query
    else if not (opcode_of (flags_of datagram) == 0 && rcode_of (flags_of datagram) == 0) then Err hear.Coded
    else fault_as hear.Wire (entries_heard datagram)
