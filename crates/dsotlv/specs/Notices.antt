-- Data of SUBSCRIBE, PUSH and RECONFIRM, and what notices do to a set (RFC 8765, 6.2 to 6.5). That no name in them has
-- a pointer, and what is said of data outside the grammar, is this project's own.
--     question_of, reconfirm_of, notices_of      what the data says
--     notice_octets      the record of a notice
--     applied, applied_all      the set of a question after a notice; after several
use Rattle.std.specs.Prelude.{ℕ, zero, suc, ◌+◌, Bool, true, false, not, ◌&&◌, ◌||◌, List, [], ◌∷◌, ◌++◌, length, Option, Result, Ok, Err, nat_lt, nat_le, ◌==◌, slice_range, drop, fold, if◌then◌else◌}
use Rattle.std.specs.Int.{Width, w16, w32, byte_len, from_be_bytes, to_be_bytes}
use Rattle.std.specs.Result.{result_ok}
use Rattle.push_base.specs.Cases.{◌>>=◌, fault_as, chosen}
use Rattle.dnsname.specs.Names.{Labels, octets, same_name}
use Rattle.dnsname.specs.Reading.{plain_name_at, place_of}
use Rattle.rrset.specs.Kinds.{any_kind, any_class}
use Rattle.rrset.specs.Rdata.{shape_fits}
use Rattle.rrset.specs.Records.{key_of, shown_of, same_key, matches}
use Rattle.rrset.specs.RecordSet.{RecordSet, is_of_rrset, put, without}
use Rattle.rrset.specs.declared.record.Rr.{Rr}
use Rattle.rrset.specs.declared.record.Key.{Key}
use Rattle.rrset.specs.declared.record.Question.{Question}
use Rattle.dsotlv.specs.declared.ttls.TheConstants as ttls
use Rattle.dsotlv.specs.declared.message.Notice.{Notice}
use Rattle.dsotlv.specs.declared.message.Notice.TheVariants.{Add, RemoveOne, RemoveSet, RemoveClass, RemoveAll, Odd}
use Rattle.dsotlv.specs.declared.message.PushFault.{PushFault}
use Rattle.dsotlv.specs.declared.message.PushFault.TheVariants.{Data}

-- a number in data, the high octet first; the fault is the data's end
abbrev pub field_at : Width → List ℕ → ℕ → Result ℕ PushFault
field_at w data' at = if nat_lt (length data') (at + byte_len w) then Err (Data (length data')) else Ok (from_be_bytes w (slice_range data' at (at + byte_len w)))

-- a plain name, a kind and a class, and the place after them (RFC 8765, 6.2.1)
abbrev pub question_first : List ℕ → Result (Question × ℕ) PushFault
question_first data' = do
  name ← fault_as (λ f. Data (place_of f)) (plain_name_at data' 0)
  kind ← field_at w16 data' name.1
  class ← field_at w16 data' (name.1 + 2)
  Ok (record { name = name.0; kind = kind; class = class }, name.1 + 4)

-- the data of a SUBSCRIBE, to the last octet (RFC 8765, 6.2.1)
abbrev pub question_of : List ℕ → Option Question
question_of data' = result_ok (question_first data' >>= λ found. if found.1 == length data' then Ok found.0 else Err (Data found.1))

-- the data of a RECONFIRM: what stands after the class is rdata (RFC 8765, 6.5.1)
abbrev pub reconfirm_of : List ℕ → Option Rr
reconfirm_of data' = result_ok (question_first data' >>= λ found. Ok (record { owner = found.0.name; class = found.0.class; kind = found.0.kind; ttl = 0; rdata = drop found.1 data' }))

-- the TTLs of a PUSH (RFC 8765, 6.3.1)
abbrev pub last_ttl : ℕ
last_ttl = ttls.LAST_TTL

abbrev pub remove_one_ttl : ℕ
remove_one_ttl = ttls.REMOVE_ONE

abbrev pub remove_many_ttl : ℕ
remove_many_ttl = ttls.REMOVE_MANY

-- a TTL of a record that is added or removed by itself
abbrev pub is_single : ℕ → Bool
is_single ttl = nat_le ttl last_ttl || ttl == remove_one_ttl

abbrev pub refused_where : Bool → ℕ → Result ℕ PushFault
refused_where test place = if test then Err (Data place) else Ok place

-- what a record says whose fields are allowed (RFC 8765, 6.3.1)
abbrev pub notice_of : Rr → Notice
notice_of rr = chosen (
    (rr.ttl == remove_many_ttl && rr.class == any_class, RemoveAll rr.owner)
    ∷ (rr.ttl == remove_many_ttl && rr.kind == any_kind, RemoveClass rr.owner rr.class)
    ∷ (rr.ttl == remove_many_ttl, RemoveSet rr.owner rr.class rr.kind)
    ∷ (rr.ttl == remove_one_ttl, RemoveOne rr)
    ∷ (nat_lt last_ttl rr.ttl, Odd rr.owner rr.ttl)
    ∷ []) (Add rr)

-- one record of a PUSH and the place after it; a field is judged as soon as the TTL, and for rdata the whole of it, is there
abbrev pub notice_at : List ℕ → ℕ → Result (Notice × ℕ) PushFault
notice_at data' at = do
  owner ← fault_as (λ f. Data (place_of f)) (plain_name_at data' at)
  kind ← field_at w16 data' owner.1
  class ← field_at w16 data' (owner.1 + 2)
  ttl ← field_at w32 data' (owner.1 + 4)
  kind_allowed ← refused_where (is_single ttl && kind == any_kind) owner.1
  class_allowed ← refused_where (is_single ttl && class == any_class) (owner.1 + 2)
  size ← field_at w16 data' (owner.1 + 8)
  size_allowed ← refused_where (ttl == remove_many_ttl && nat_lt 0 size) (owner.1 + 8)
  whole ← refused_where (nat_lt (length data') (owner.1 + 10 + size)) (length data')
  let rdata : List ℕ = slice_range data' (owner.1 + 10) (owner.1 + 10 + size)
  rdata_allowed ← refused_where (is_single ttl && not (shape_fits kind rdata)) (owner.1 + 10)
  Ok (notice_of (record { owner = owner.0; class = class; kind = kind; ttl = ttl; rdata = rdata }), owner.1 + 10 + size)

-- At least one record, to the last octet; at most so many. Which place a fault has is this project's own.
abbrev pub notices_from : ℕ → List ℕ → ℕ → Result (List Notice) PushFault
notices_from zero data' at = Err (Data at)
notices_from (suc more) data' at = do
  first ← notice_at data' at
  elim (first.1 == length data') [
    | true ↦ Ok (first.0 ∷ [])
    | false ↦ notices_from more data' first.1 >>= λ others. Ok (first.0 ∷ others)
  ]

abbrev pub notices_of : List ℕ → Result (List Notice) PushFault
notices_of data' = notices_from (length data' + 1) data' 0

abbrev pub push_record : Labels → ℕ → ℕ → ℕ → List ℕ → List ℕ
push_record owner kind class ttl rdata = octets owner ++ to_be_bytes w16 kind ++ to_be_bytes w16 class ++ to_be_bytes w32 ttl ++ to_be_bytes w16 (length rdata) ++ rdata

-- the record that is written for a notice
abbrev pub notice_octets : Notice → List ℕ
notice_octets (Add rr) = push_record rr.owner rr.kind rr.class rr.ttl rr.rdata
notice_octets (RemoveOne rr) = push_record rr.owner rr.kind rr.class remove_one_ttl rr.rdata
notice_octets (RemoveSet name class kind) = push_record name kind class remove_many_ttl []
notice_octets (RemoveClass name class) = push_record name any_kind class remove_many_ttl []
notice_octets (RemoveAll name) = push_record name 0 any_class remove_many_ttl []
notice_octets (Odd name ttl) = push_record name 0 0 ttl []

-- the keys that a notice takes out of every set
abbrev pub removed_by : Notice → Key → Bool
removed_by (Add rr) key = false
removed_by (RemoveOne rr) key = same_key (key_of rr) key
removed_by (RemoveSet name class kind) key = is_of_rrset name class kind key
removed_by (RemoveClass name class) key = same_name name key.owner && class == key.class
removed_by (RemoveAll name) key = same_name name key.owner
removed_by (Odd name ttl) key = false

abbrev pub added_by : Notice → Question → RecordSet → RecordSet
added_by (Add rr) question set = if matches question (key_of rr) then put (key_of rr) (shown_of rr) set else set
added_by _ question set = set

-- the set of a question after a notice (RFC 8765, 6.3.1)
abbrev pub applied : Question → RecordSet → Notice → RecordSet
applied question set notice = added_by notice question (without (removed_by notice) set)

abbrev pub applied_all : List Notice → Question → RecordSet → RecordSet
applied_all notices question set = fold (applied question) set notices
