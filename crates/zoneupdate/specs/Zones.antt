-- Zones, and the serial of their SOA (RFC 1034, 4.2; RFC 1035, 3.3.13; RFC 1982).
--     new_zone      a zone with its two first records
--     serial_of, serial_of_zone, with_serial      the serial of SOA rdata, of a zone, and rdata with another serial
--     serial_is_greater      RFC 1982, 3.2
--     is_inside homes apex name      the zone is the home of the name
--     is_zone      what every zone keeps
use Rattle.std.specs.Prelude.{ℕ, ◌+◌, ◌-◌, ◌%◌, ◌^◌, Bool, not, ◌&&◌, List, [], ◌∷◌, ◌++◌, length, take, drop, Option, Some, None, Ok, Err, is_some, nat_lt, ◌==◌, option_and_then, codes}
use Rattle.std.specs.Int.{w32, from_be_bytes, to_be_bytes}
use Rattle.std.specs.List.{list_all}
use Rattle.dnsname.specs.Names.{Labels, octets, same_name, home}
use Rattle.rrset.specs.Kinds.{in_class, ns_kind, soa_kind}
use Rattle.rrset.specs.Rdata.{Field, raw, named, rdata_fields}
use Rattle.rrset.specs.RecordSet.{RecordSet, is_of_rrset, only, set_of, is_record_set}
use Rattle.zoneupdate.specs.declared.initial_records.TheConstants as records
use Rattle.rrset.specs.declared.record.Rr.{Rr}
use Rattle.rrset.specs.declared.record.Shown.{Shown}

pub record ZoneState : Type 0 where
  pub apex : Labels
  pub writable : Bool
  pub rows : RecordSet

-- the fields after the two names (RFC 1035, 3.3.13)
abbrev pub soa_rdata : Labels → Labels → List ℕ → List ℕ
soa_rdata mname rname numbers = octets mname ++ octets rname ++ numbers

abbrev pub first_soa : Labels → ℕ → Rr
first_soa apex serial = record {
  owner = apex;
  class = in_class;
  kind = soa_kind;
  ttl = records.TTL;
  rdata = soa_rdata (codes "ns" ∷ apex) (codes "hostmaster" ∷ apex) (to_be_bytes w32 serial ++ to_be_bytes w32 records.REFRESH ++ to_be_bytes w32 records.RETRY ++ to_be_bytes w32 records.EXPIRE ++ to_be_bytes w32 records.MINIMUM);
}

abbrev pub first_ns : Labels → Rr
first_ns apex = record { owner = apex; class = in_class; kind = ns_kind; ttl = records.TTL; rdata = octets (codes "ns" ∷ apex) }

-- a zone begins with its SOA and NS; their names, the TTL and the numbers behind the serial are this project's own
abbrev pub new_zone : Labels → ℕ → Bool → ZoneState
new_zone apex serial writable = record { apex = apex; writable = writable; rows = set_of (first_soa apex serial ∷ first_ns apex ∷ []) }

abbrev pub serial_in : List Field → Option ℕ
serial_in (named mname ∷ named rname ∷ raw numbers ∷ []) = Some (from_be_bytes w32 (take 4 numbers))
serial_in _ = None

abbrev pub serial_of : List ℕ → Option ℕ
serial_of rdata = elim (rdata_fields soa_kind rdata) [ Err p ↦ None | Ok fields ↦ serial_in fields ]

abbrev pub fields_with : ℕ → List Field → List ℕ
fields_with serial (named mname ∷ named rname ∷ raw numbers ∷ []) = soa_rdata mname rname (to_be_bytes w32 serial ++ drop 4 numbers)
fields_with serial _ = []

abbrev pub with_serial : ℕ → List ℕ → List ℕ
with_serial serial rdata = elim (rdata_fields soa_kind rdata) [ Err p ↦ rdata | Ok fields ↦ fields_with serial fields ]

-- the records of a name and kind; a zone's have class IN
abbrev pub set_at : Labels → ℕ → RecordSet → RecordSet
set_at name kind rows = only (is_of_rrset name in_class kind) rows

abbrev pub first_shown : RecordSet → Option Shown
first_shown [] = None
first_shown (e ∷ es) = Some e.1

abbrev pub soa_of : Labels → RecordSet → Option Shown
soa_of name rows = first_shown (set_at name soa_kind rows)

abbrev pub serial_of_zone : ZoneState → Option ℕ
serial_of_zone zone = option_and_then (λ shown. serial_of shown.rdata) (soa_of zone.apex zone.rows)

-- a difference of just 2^31 isn't greater (RFC 1982, 3.2 leaves it open)
abbrev pub serial_is_greater : ℕ → ℕ → Bool
serial_is_greater s t = not (s == t) && nat_lt ((s + 2 ^ 32 - t) % 2 ^ 32) (2 ^ 31)

-- the zone is the home of the name; that what lies under a deeper home is outside is this project's own (RFC 1034, 4.2)
abbrev pub is_inside : List Labels → Labels → Labels → Bool
is_inside homes apex name = elim (home homes name) [ None ↦ Bool.false | Some h ↦ same_name h apex ]

-- What every zone keeps: a set of records of class IN, with one SOA at the apex, from which a serial is read.
abbrev pub is_zone : ZoneState → Bool
is_zone zone = is_record_set zone.rows && list_all (λ e. e.0.class == in_class) zone.rows
    && length (set_at zone.apex soa_kind zone.rows) == 1 && is_some (serial_of_zone zone)
