-- Messages as they are written, names without pointers (RFC 1035, 4.1).
--     question_octets, record_octets      a question; a record
--     message_header      a header, with the counts of the first three sections
--     update_octets update      a whole update
--     message_octets id flags question answers      a message with one question and with answers
--     with_room, query_answers      of several records those that a datagram has room for
--     query_octets question known      a datagram that asks a link, with the answers that are known
--     CanBeWritten update      its numbers fit their fields, and its rdata the shape by which it is read
use Rattle.std.specs.Prelude.{◌≡◌, ℕ, ◌+◌, ◌*◌, ◌<◌, ◌^◌, true, List, [], ◌∷◌, ◌++◌, length, flat_map, nat_le, MatchBool, if◌then◌else◌}
use Rattle.std.specs.Int.{w16, w32, to_be_bytes}
use Rattle.std.specs.List.{AllByRecursion}
use Rattle.push_base.specs.Limits.{max_datagram}
use Rattle.dnsname.specs.Names.{IsName, octets}
use Rattle.rrset.specs.Header.{header_octets, update_opcode}
use Rattle.rrset.specs.Rdata.{shape_fits}
use Rattle.rrset.specs.Records.{rr_size}
use Rattle.rrset.specs.declared.record.Rr.{Rr}
use Rattle.rrset.specs.declared.record.Question.{Question}
use Rattle.dnswire.specs.declared.message.Update.{Update}
use Rattle.dnswire.specs.Reading.{update_shape}

-- RFC 1035, 4.1.2
abbrev pub question_octets : Question → List ℕ
question_octets question = octets question.name ++ to_be_bytes w16 question.kind ++ to_be_bytes w16 question.class

-- RFC 1035, 4.1.3
abbrev pub record_octets : Rr → List ℕ
record_octets rr = octets rr.owner ++ to_be_bytes w16 rr.kind ++ to_be_bytes w16 rr.class ++ to_be_bytes w32 rr.ttl ++ to_be_bytes w16 (length rr.rdata) ++ rr.rdata

-- the ID, the flags, and the counts; there are no additional records (RFC 1035, 4.1.1)
abbrev pub message_header : ℕ → ℕ → ℕ → ℕ → ℕ → List ℕ
message_header id flags questions answers authority =
    to_be_bytes w16 id ++ to_be_bytes w16 flags ++ to_be_bytes w16 questions ++ to_be_bytes w16 answers ++ to_be_bytes w16 authority ++ to_be_bytes w16 0

-- ---- updates

-- zones, prerequisites and changes (RFC 2136, 2)
abbrev pub update_octets : Update → List ℕ
update_octets update =
    message_header update.id (update_opcode * 2 ^ 11) (length update.zones) (length update.prereqs) (length update.changes)
    ++ flat_map question_octets update.zones ++ flat_map record_octets (update.prereqs ++ update.changes)

pub record IsWritableQuestion (question : Question) : Type 0 where
  pub name : IsName question.name
  pub kind : question.kind < 2 ^ 16
  pub class : question.class < 2 ^ 16

-- rdata that isn't read by shape is none
pub record IsWritableRecord (rr : Rr) : Type 0 where
  pub owner : IsName rr.owner
  pub kind : rr.kind < 2 ^ 16
  pub class : rr.class < 2 ^ 16
  pub ttl : rr.ttl < 2 ^ 32
  pub few : length rr.rdata < 2 ^ 16
  pub octets : AllByRecursion (λ o. o < 256) rr.rdata
  pub fits : MatchBool (update_shape rr.class (length rr.rdata)) (shape_fits rr.kind rr.rdata ≡ true) (rr.rdata ≡ [])

pub record CanBeWritten (update : Update) : Type 0 where
  pub id : update.id < 2 ^ 16
  pub zones : AllByRecursion IsWritableQuestion update.zones
  pub prereqs : AllByRecursion IsWritableRecord update.prereqs
  pub changes : AllByRecursion IsWritableRecord update.changes
  pub few_zones : length update.zones < 2 ^ 16
  pub few_prereqs : length update.prereqs < 2 ^ 16
  pub few_changes : length update.changes < 2 ^ 16

-- ---- messages of one question

abbrev pub message_octets : ℕ → ℕ → Question → List Rr → List ℕ
message_octets id flags question answers = message_header id flags 1 (length answers) 0 ++ question_octets question ++ flat_map record_octets answers

-- behind so many octets, the records that fit in turn; one that doesn't is left out (RFC 6762, 17)
abbrev pub with_room : ℕ → List Rr → List Rr
with_room size [] = []
with_room size (rr ∷ rrs) = if nat_le (size + rr_size rr) max_datagram then rr ∷ with_room (size + rr_size rr) rrs else with_room size rrs

abbrev pub query_answers : Question → List Rr → List Rr
query_answers question known = with_room (header_octets + length (question_octets question)) known

-- ID 0 and no flags (RFC 6762, 18); known answers stand in the answer section (RFC 6762, 7.1)
abbrev pub query_octets : Question → List Rr → List ℕ
query_octets question known = message_octets 0 0 question (query_answers question known)
