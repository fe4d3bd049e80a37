-- A net as it is counted and written: record by record, and which form it has.
--     removals_behind      what is told of the records that were there, one after the other
--     additions_to      what is told of the records that are there
--     notices_as      the notices of a net in one of its forms
--     behind_owner      what stands in a record behind its owner
--     head_of      what stands in a frame in front of so many octets of records
use Rattle.std.specs.Prelude.{ℕ, ◌+◌, false, List, [], ◌∷◌, ◌++◌, length, Option, Some, is_some, flat_map, ◌==◌, if◌then◌else◌}
use Rattle.std.specs.Int.{w16, w32, to_be_bytes}
use Rattle.std.specs.Option.{option_eq}
use Rattle.push_base.specs.Cases.{is_empty}
use Rattle.dnsname.specs.Names.{Labels}
use Rattle.rrset.specs.Kinds.{in_class}
use Rattle.rrset.specs.Header.{answer_octets}
use Rattle.rrset.specs.Records.{rr_of}
use Rattle.rrset.specs.RecordSet.{RecordSet, shown_at, shown_the_same}
use Rattle.rrset.specs.declared.record.Key.{Key}
use Rattle.rrset.specs.declared.record.Shown.{Shown}
use Rattle.dsotlv.specs.TlvKinds.{push_tlv}
use Rattle.dsotlv.specs.Messages.{dso_flags}
use Rattle.dsotlv.specs.Notices.{remove_one_ttl}
use Rattle.dsotlv.specs.declared.message.Notice.{Notice}
use Rattle.dsotlv.specs.declared.message.Notice.TheVariants.{Add, RemoveOne, RemoveSet, RemoveClass}
use Rattle.coalesce.specs.Net.{of_kind, single_changes, all_anew}
use Rattle.coalesce.specs.declared.removing.Removal.{Removal}
use Rattle.coalesce.specs.declared.removing.Removal.TheVariants.{Nothing, Set, One}
use Rattle.coalesce.specs.declared.form.Form.{Form}
use Rattle.coalesce.specs.declared.form.Form.TheVariants.{Empty, OneKind, AllKinds, Single, Anew}

-- the first record of a kind that is gone removes the set
abbrev pub removal_of : RecordSet → Option ℕ → Key → Removal
removal_of new before key =
    if is_empty (of_kind key.kind new) then (if option_eq (λ a b. a == b) before (Some key.kind) then Nothing else Set)
    else if is_some (shown_at key new) then Nothing else One

abbrev pub removal_notices : Labels → Key × Shown → Removal → List Notice
removal_notices name e Nothing = []
removal_notices name e Set = RemoveSet name in_class e.0.kind ∷ []
removal_notices name e One = RemoveOne (record (rr_of e.0 e.1) { ttl = remove_one_ttl }) ∷ []

-- what is told of records behind one of this kind
abbrev pub removals_behind : Labels → RecordSet → Option ℕ → RecordSet → List Notice
removals_behind name new before [] = []
removals_behind name new before (e ∷ es) = removal_notices name e (removal_of new before e.0) ++ removals_behind name new (Some e.0.kind) es

abbrev pub added : Key × Shown → List Notice
added e = Add (rr_of e.0 e.1) ∷ []

-- a record that isn't shown so yet is added
abbrev pub addition_to : RecordSet → Key × Shown → List Notice
addition_to old e = if shown_the_same (shown_at e.0 old) (Some e.1) then [] else added e

abbrev pub additions_to : RecordSet → RecordSet → List Notice
additions_to old new = flat_map (addition_to old) new

-- how it is told that records of these kinds are all gone
abbrev pub gone_form : List ℕ → Form
gone_form (kind ∷ []) = OneKind kind
gone_form kinds = AllKinds

-- the notices of a net in a form
abbrev pub notices_as : Form → Labels → RecordSet → RecordSet → List Notice
notices_as Empty name old new = []
notices_as (OneKind kind) name old new = RemoveSet name in_class kind ∷ []
notices_as AllKinds name old new = RemoveClass name in_class ∷ []
notices_as Single name old new = single_changes name old new
notices_as Anew name old new = all_anew name new

-- length, header, and the TLV's kind and length, in front of so many octets (RFC 8765, 6.3)
abbrev pub head_of : ℕ → List ℕ
head_of size = to_be_bytes w16 (16 + size) ++ answer_octets 0 (dso_flags false 0) ++ to_be_bytes w16 push_tlv ++ to_be_bytes w16 size

-- kind, class, TTL, the length of the rdata and the rdata (RFC 1035, 3.2.1)
abbrev pub behind_owner : ℕ → ℕ → ℕ → List ℕ → List ℕ
behind_owner kind class ttl rdata = to_be_bytes w16 kind ++ to_be_bytes w16 class ++ to_be_bytes w32 ttl ++ to_be_bytes w16 (length rdata) ++ rdata
