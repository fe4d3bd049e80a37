-- Records, keys and questions.
--     key_of, shown_of, rr_of      the key of a record and what is shown of it; the record of both
--     rr_size      the octets that a record takes without pointers
--     key_cmp      by owner, kind, rdata and class
--     matches question key      the question asks for the key
use Rattle.std.specs.Prelude.{ℕ, ◌+◌, ◌^◌, Bool, ◌&&◌, ◌||◌, List, length, nat_lt, ◌==◌, if◌then◌else◌}
use Rattle.std.specs.Ordering.{nat_cmp, ordering_then, is_eq}
use Rattle.std.specs.declared.cmp.Ordering.{Ordering}
use Rattle.std.specs.Cmp.Lexicographic.{slice_cmp}
use Rattle.dnsname.specs.Names.{octets, lower, same_name}
use Rattle.rrset.specs.Kinds.{any_kind, any_class}
use Rattle.rrset.specs.Rdata.{lowered_rdata}
use Rattle.rrset.specs.declared.matching.TheConstants as matching
use Rattle.rrset.specs.declared.record.Rr.{Rr}
use Rattle.rrset.specs.declared.record.Key.{Key}
use Rattle.rrset.specs.declared.record.Shown.{Shown}
use Rattle.rrset.specs.declared.record.Question.{Question}

-- the owner and the names inside rdata are in lower case (RFC 2136, 1.1.1 and 1.1.2)
abbrev pub key_of : Rr → Key
key_of rr = record { owner = lower rr.owner; class = rr.class; kind = rr.kind; rdata = lowered_rdata rr.kind rr.rdata }

abbrev pub shown_of : Rr → Shown
shown_of rr = record { owner = rr.owner; ttl = rr.ttl; rdata = rr.rdata }

abbrev pub rr_of : Key → Shown → Rr
rr_of key shown = record { owner = shown.owner; class = key.class; kind = key.kind; ttl = shown.ttl; rdata = shown.rdata }

-- a TTL with its top bit set counts as 0 (RFC 2181, 8)
abbrev pub counted_ttl : ℕ → ℕ
counted_ttl ttl = if nat_lt ttl (2 ^ 31) then ttl else 0

-- the octets of a record's fields beside owner and rdata (RFC 1035, 3.2.1)
abbrev pub fixed_fields : ℕ
fixed_fields = matching.FIXED_FIELDS

-- owner, fields and rdata (RFC 1035, 3.2.1)
abbrev pub rr_size : Rr → ℕ
rr_size rr = length (octets rr.owner) + fixed_fields + length rr.rdata

abbrev pub octets_cmp : List ℕ → List ℕ → Ordering
octets_cmp = slice_cmp nat_cmp

abbrev pub key_cmp : Key → Key → Ordering
key_cmp a b = ordering_then (octets_cmp (octets a.owner) (octets b.owner)) (ordering_then (nat_cmp a.kind b.kind) (ordering_then (octets_cmp a.rdata b.rdata) (nat_cmp a.class b.class)))

abbrev pub same_key : Key → Key → Bool
same_key a b = is_eq (key_cmp a b)

abbrev pub same_octets : List ℕ → List ℕ → Bool
same_octets a b = is_eq (octets_cmp a b)

-- the same to the letter
abbrev pub same_shown : Shown → Shown → Bool
same_shown a b = same_octets (octets a.owner) (octets b.owner) && a.ttl == b.ttl && same_octets a.rdata b.rdata

abbrev pub same_question : Question → Question → Bool
same_question a b = same_name a.name b.name && a.kind == b.kind && a.class == b.class

-- the name is the owner, and kind and class are equal or asked as ANY (RFC 1035, 3.2.3 and 3.2.5)
abbrev pub matches : Question → Key → Bool
matches question key = same_name question.name key.owner && (question.kind == key.kind || question.kind == any_kind) && (question.class == key.class || question.class == any_class)
