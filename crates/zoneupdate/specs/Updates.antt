-- The update of a zone (RFC 2136, 3).
--     judged homes zone update      the rows after the update, or the RCODE that refuses it; homes are all names of zones and links
--     refused_first homes zone update      the RCODE that refuses an update before its changes are made
--     prerequisite_refusal, change_refusal homes zone rr      the RCODE that a prerequisite or a change is refused with
--     after_addition, after_set_deletion, after_record_deletion      the rows after a change of class IN, ANY, NONE
--     changed_by apex rows rr      the rows after one change
use Rattle.std.specs.Prelude.{ℕ, ◌+◌, ◌%◌, ◌^◌, Bool, false, not, ◌&&◌, ◌||◌, List, [], ◌∷◌, map, length, filter, fold, Option, Some, None, Result, Ok, Err, nat_le, ◌==◌, option_and_then, if◌then◌else◌}
use Rattle.std.specs.List.{list_all}
use Rattle.push_base.specs.Cases.{chosen, first_refusal, first_refused, is_empty}
use Rattle.push_base.specs.Limits.{max_octets_at_name}
use Rattle.dnsname.specs.Names.{Labels, same_name}
use Rattle.rrset.specs.Kinds.{in_class, none_class, any_class, any_kind, cname_kind, soa_kind, ns_kind, is_meta}
use Rattle.rrset.specs.Rcodes.{formerr, nxdomain, refused, yxdomain, yxrrset, nxrrset, notzone}
use Rattle.rrset.specs.Records.{key_of, same_key, counted_ttl}
use Rattle.rrset.specs.RecordSet.{RecordSet, is_of_rrset, put_rr, without, only, at_name, size_at, set_of, same_keys, same_rows}
use Rattle.rrset.specs.declared.record.Rr.{Rr}
use Rattle.rrset.specs.declared.record.Key.{Key}
use Rattle.rrset.specs.declared.record.Shown.{Shown}
use Rattle.dnswire.specs.declared.message.Update.{Update}
use Rattle.zoneupdate.specs.declared.planning.TheConstants as planning
use Rattle.zoneupdate.specs.Zones.{ZoneState, set_at, soa_of, serial_of, with_serial, serial_is_greater, is_inside}

abbrev pub with_counted_ttl : Rr → Rr
with_counted_ttl rr = record rr { ttl = counted_ttl rr.ttl }

-- a prerequisite that doesn't hold (RFC 2136, 3.2)
abbrev pub prerequisite_refusal : List Labels → ZoneState → Rr → Option ℕ
prerequisite_refusal homes zone rr =
    let named = at_name rr.owner zone.rows in
    let set = set_at rr.owner rr.kind zone.rows in
    first_refusal (
    (not (rr.ttl == 0), formerr)
    ∷ (not (is_inside homes zone.apex rr.owner), notzone)
    ∷ ((rr.class == any_class || rr.class == none_class) && not (is_empty rr.rdata), formerr)
    ∷ (rr.class == any_class && rr.kind == any_kind && is_empty named, nxdomain)
    ∷ (rr.class == any_class && not (rr.kind == any_kind) && is_empty set, nxrrset)
    ∷ (rr.class == none_class && rr.kind == any_kind && not (is_empty named), yxdomain)
    ∷ (rr.class == none_class && not (rr.kind == any_kind) && not (is_empty set), yxrrset)
    ∷ (not (rr.class == in_class || rr.class == any_class || rr.class == none_class), formerr)
    ∷ [])

-- the prerequisites of class IN with the owner and kind of one of them
abbrev pub set_wanted : List Rr → Rr → RecordSet
set_wanted prereqs rr = set_of (filter (λ p. p.class == in_class && same_name p.owner rr.owner && p.kind == rr.kind) prereqs)

-- each set that prerequisites of class IN name is the zone's (RFC 2136, 3.2.3)
abbrev pub sets_agree : List Rr → RecordSet → Bool
sets_agree prereqs rows = list_all (λ rr. not (rr.class == in_class) || same_keys (set_wanted prereqs rr) (set_at rr.owner rr.kind rows)) prereqs

-- a change that may not be made (RFC 2136, 3.4.1); that class NONE with empty rdata passes is this project's own
abbrev pub change_refusal : List Labels → ZoneState → Rr → Option ℕ
change_refusal homes zone rr = first_refusal (
    (not (is_inside homes zone.apex rr.owner), notzone)
    ∷ (rr.class == in_class && is_meta rr.kind, formerr)
    ∷ (rr.class == any_class && (not (rr.ttl == 0) || not (is_empty rr.rdata) || (is_meta rr.kind && not (rr.kind == any_kind))), formerr)
    ∷ (rr.class == none_class && (not (rr.ttl == 0) || is_meta rr.kind), formerr)
    ∷ (not (rr.class == in_class || rr.class == any_class || rr.class == none_class), formerr)
    ∷ [])

abbrev pub as_class_in : Rr → Rr
as_class_in rr = record rr { class = in_class }

-- the set of a name and kind is just this record
abbrev pub is_only : Rr → RecordSet → Bool
is_only rr (e ∷ []) = same_key (key_of rr) e.0
is_only rr _ = false

-- the serial of the new record is greater than that of the one there
abbrev pub is_newer_soa : Rr → RecordSet → Bool
is_newer_soa rr rows = elim (option_and_then (λ shown. serial_of shown.rdata) (soa_of rr.owner rows)) [
  | None ↦ false
  | Some old ↦ elim (serial_of rr.rdata) [ None ↦ false | Some new ↦ serial_is_greater new old ]
]

-- class IN, the zone's own: the record is added to an RRset (RFC 2136, 3.4.2.2); that WKS is added as any other kind is this project's own
abbrev pub after_addition : RecordSet → Rr → RecordSet
after_addition rows rr =
    let of_set : Key → Bool = is_of_rrset rr.owner in_class rr.kind in
    let other_kinds = only (λ key. same_name rr.owner key.owner && not (key.kind == rr.kind)) rows in
    chosen (
    -- a CNAME is ignored where its name has records of other kinds, and else replaces the one there
    (rr.kind == cname_kind && not (is_empty other_kinds), rows)
    ∷ (rr.kind == cname_kind, put_rr (without of_set rows) rr)
    -- another record is ignored where its name has a CNAME
    ∷ (not (is_empty (set_at rr.owner cname_kind rows)), rows)
    -- an SOA replaces one with a lower serial, and else is ignored
    ∷ (rr.kind == soa_kind && is_newer_soa rr rows, put_rr (without of_set rows) rr)
    ∷ (rr.kind == soa_kind, rows)
    -- any other record is added, in place of one that is the same but for its TTL
    ∷ []) (put_rr rows rr)

-- class ANY: an RRset is deleted, or all RRsets of a name (RFC 2136, 3.4.2.3)
abbrev pub after_set_deletion : Labels → RecordSet → Rr → RecordSet
after_set_deletion apex rows rr =
    let at_apex = same_name rr.owner apex in
    let of_set : Key → Bool = is_of_rrset rr.owner in_class rr.kind in
    chosen (
    -- with TYPE ANY all RRsets of the name are deleted, but the SOA and the NS of the apex
    (rr.kind == any_kind, without (λ key. same_name rr.owner key.owner && not (at_apex && (key.kind == soa_kind || key.kind == ns_kind))) rows)
    -- with TYPE SOA or NS it is ignored at the apex
    ∷ (at_apex && (rr.kind == soa_kind || rr.kind == ns_kind), rows)
    -- with any other the RRset of this TYPE is deleted
    ∷ []) (without of_set rows)

-- class NONE: one record is deleted from an RRset (RFC 2136, 3.4.2.4)
abbrev pub after_record_deletion : Labels → RecordSet → Rr → RecordSet
after_record_deletion apex rows rr =
    let at_apex = same_name rr.owner apex in
    chosen (
    -- an SOA is ignored
    (rr.kind == soa_kind, rows)
    -- the last NS of the apex, too
    ∷ (at_apex && rr.kind == ns_kind && is_only (as_class_in rr) (set_at rr.owner ns_kind rows), rows)
    -- any other record is deleted, where it is there
    ∷ []) (without (same_key (key_of (as_class_in rr))) rows)

-- the rows after one change, by its class (RFC 2136, 3.4.2)
abbrev pub changed_by : Labels → RecordSet → Rr → RecordSet
changed_by apex rows rr = chosen (
    (rr.class == in_class, after_addition rows rr)
    ∷ (rr.class == any_class, after_set_deletion apex rows rr)
    ∷ (rr.class == none_class, after_record_deletion apex rows rr)
    -- the prescan refuses any other class (RFC 2136, 3.4.1), so no change that is made has one
    ∷ []) rows

abbrev pub risen_soa : Key × Shown → Rr
risen_soa e = record {
  owner = e.1.owner;
  class = e.0.class;
  kind = e.0.kind;
  ttl = e.1.ttl;
  rdata = elim (serial_of e.1.rdata) [ None ↦ e.1.rdata | Some serial ↦ with_serial ((serial + 1) % 2 ^ 32) e.1.rdata ];
}

-- where rows have changed and the SOA hasn't, its serial rises by one (RFC 2136, 3.6)
abbrev pub with_risen_serial : Labels → RecordSet → RecordSet → RecordSet
with_risen_serial apex old new =
    let soa = set_at apex soa_kind new in
    if same_rows old new || not (same_rows (set_at apex soa_kind old) soa) then new
    else fold put_rr (without (is_of_rrset apex in_class soa_kind) new) (map risen_soa soa)

-- the most records of a zone (this project's own)
abbrev pub max_zone_records : ℕ
max_zone_records = planning.MAX_RECORDS

-- few enough octets at each name, and few enough records (this project's own)
abbrev pub is_within_limits : RecordSet → Bool
is_within_limits rows = nat_le (length rows) max_zone_records && list_all (λ e. nat_le (size_at e.0.owner rows) max_octets_at_name) rows

abbrev pub accepted_or : {X : Type 0} → Option ℕ → Result X ℕ → Result X ℕ
accepted_or (Some code) after = Err code
accepted_or None after = after

-- the rows after all changes
abbrev pub rows_after : ZoneState → List Rr → RecordSet
rows_after zone changes = with_risen_serial zone.apex zone.rows (fold (changed_by zone.apex) zone.rows changes)

-- a refusal, or where there is none a later one
abbrev pub or_later : Option ℕ → Option ℕ → Option ℕ
or_later (Some code) later = Some code
or_later None later = later

-- what prerequisites, permission and prescan refuse with, in this order; the first that fails answers (RFC 2136, 3.2 to 3.4)
abbrev pub refused_first : List Labels → ZoneState → Update → Option ℕ
refused_first homes zone update =
    let prereqs = map with_counted_ttl update.prereqs in
    or_later (first_refused (prerequisite_refusal homes zone) prereqs)
    (if not (sets_agree prereqs zone.rows) then Some nxrrset
    else if not zone.writable then Some refused
    else first_refused (change_refusal homes zone) (map with_counted_ttl update.changes))

-- behind these tests the changes are made, and the limits come last
abbrev pub judged : List Labels → ZoneState → Update → Result RecordSet ℕ
judged homes zone update =
    accepted_or (refused_first homes zone update)
    (let after = rows_after zone (map with_counted_ttl update.changes) in if is_within_limits after then Ok after else Err refused)
