-- One change of a zone's records by its class (RFC 2136, 3.4.2), and its tests by the records of its owner.
--     numbers_place      where the serial stands in SOA rdata
--     risen_rdata      SOA rdata with the next serial
--     rows_added rows rr      a change of class IN
--     rows_taken apex rows rr      a change of class ANY
--     rows_dropped apex rows rr      a change of class NONE
use Rattle.std.specs.Prelude.{ℕ, ◌+◌, ◌%◌, ◌^◌, Bool, false, not, ◌&&◌, ◌||◌, List, [], ◌∷◌, length, Option, Some, None, Ok, Err, ◌==◌, option_and_then, if◌then◌else◌}
use Rattle.push_base.specs.Cases.{chosen, is_empty}
use Rattle.dnsname.specs.Names.{Labels, same_name}
use Rattle.dnsname.specs.Reading.{plain_name_at}
use Rattle.rrset.specs.Kinds.{in_class, any_kind, cname_kind, soa_kind, ns_kind}
use Rattle.rrset.specs.Records.{key_of, same_key}
use Rattle.rrset.specs.RecordSet.{RecordSet, is_of_rrset, put_rr, without, only}
use Rattle.rrset.specs.declared.record.Rr.{Rr}
use Rattle.rrset.specs.declared.record.Key.{Key}
use Rattle.rrset.specs.declared.record.Shown.{Shown}
use Rattle.zoneupdate.specs.Zones.{set_at, soa_of, serial_of, with_serial, serial_is_greater}
use Rattle.zoneupdate.specs.Updates.{as_class_in, is_only}

-- the place of what follows two names at the front of SOA rdata
abbrev pub numbers_place : List ℕ → Option ℕ
numbers_place rdata = elim (plain_name_at rdata 0) [
  | Err fault ↦ None
  | Ok mname ↦ elim (plain_name_at rdata mname.1) [
    | Err fault ↦ None
    | Ok rname ↦ if rname.1 + 20 == length rdata then Some rname.1 else None
  ]
]

-- the serial of the SOA of a name
abbrev pub serial_at : Labels → RecordSet → Option ℕ
serial_at name rows = option_and_then (λ shown. serial_of shown.rdata) (soa_of name rows)

-- SOA rdata with the serial that follows its own
abbrev pub risen_rdata : List ℕ → List ℕ
risen_rdata rdata = elim (serial_of rdata) [ None ↦ rdata | Some serial ↦ with_serial ((serial + 1) % 2 ^ 32) rdata ]

-- the key and what is shown of it, with the serial that follows its own in the rdata of both
abbrev pub risen_entry : Key × Shown → Key × Shown
risen_entry e = (record e.0 { rdata = risen_rdata e.0.rdata }, record e.1 { rdata = risen_rdata e.1.rdata })

-- the name has records of other kinds
unfoldable pub has_other_kinds : RecordSet → Labels → ℕ → Bool
has_other_kinds rows owner kind = not (is_empty (only (λ key. same_name owner key.owner && not (key.kind == kind)) rows))

-- the name is an alias
unfoldable pub has_alias : RecordSet → Labels → Bool
has_alias rows owner = not (is_empty (set_at owner cname_kind rows))

-- the serial of SOA rdata is greater than that of the record there
abbrev pub newer_than : List ℕ → Option Shown → Bool
newer_than rdata there = elim (option_and_then (λ shown. serial_of shown.rdata) there) [
  | None ↦ false
  | Some old ↦ elim (serial_of rdata) [ None ↦ false | Some new ↦ serial_is_greater new old ]
]

-- SOA rdata is newer than the SOA of a name
unfoldable pub is_newer : RecordSet → Labels → List ℕ → Bool
is_newer rows owner rdata = newer_than rdata (soa_of owner rows)

-- it is the only NS of its owner
unfoldable pub is_last : RecordSet → Rr → Bool
is_last rows rr = is_only (as_class_in rr) (set_at rr.owner ns_kind rows)

-- the records of its owner and kind, replaced by it
unfoldable pub replaced : RecordSet → Rr → RecordSet
replaced rows rr = put_rr (without (is_of_rrset rr.owner in_class rr.kind) rows) rr

unfoldable pub rows_added : RecordSet → Rr → RecordSet
rows_added rows rr = chosen (
    (rr.kind == cname_kind && has_other_kinds rows rr.owner rr.kind, rows)
    ∷ (rr.kind == cname_kind, replaced rows rr)
    ∷ (has_alias rows rr.owner, rows)
    ∷ (rr.kind == soa_kind && is_newer rows rr.owner rr.rdata, replaced rows rr)
    ∷ (rr.kind == soa_kind, rows)
    ∷ []) (put_rr rows rr)

-- the key is of the owner, and none that the apex keeps
abbrev pub goes : Labels → Labels → Key → Bool
goes apex owner key = same_name owner key.owner && not (same_name owner apex && (key.kind == soa_kind || key.kind == ns_kind))

unfoldable pub rows_taken : Labels → RecordSet → Rr → RecordSet
rows_taken apex rows rr = chosen (
    (rr.kind == any_kind, without (goes apex rr.owner) rows)
    ∷ (same_name rr.owner apex && (rr.kind == soa_kind || rr.kind == ns_kind), rows)
    ∷ []) (without (is_of_rrset rr.owner in_class rr.kind) rows)

unfoldable pub rows_dropped : Labels → RecordSet → Rr → RecordSet
rows_dropped apex rows rr = chosen (
    (rr.kind == soa_kind, rows)
    ∷ (same_name rr.owner apex && rr.kind == ns_kind && is_last rows rr, rows)
    ∷ []) (without (same_key (key_of (as_class_in rr))) rows)
