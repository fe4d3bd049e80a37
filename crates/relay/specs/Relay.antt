-- A set of one name, as an update that gives a zone this set in place of what it has at the name (RFC 2136, 2.5).
--     unfit_kind set      the kind of the first record that can't be carried
--     carrying zone name set id      the update
--     relayed zone name set id      what becomes of the set: a message, or why there is none
--     carried rows name set      the rows with all rows of the name replaced by the set
--     IsCarriable name set      what a client's mirror of a name has
use Rattle.std.specs.Prelude.{◌≡◌, ℕ, ◌≤◌, ◌<◌, ◌^◌, Bool, true, not, ◌&&◌, ◌||◌, [], ◌∷◌, map, length, find, Option, Some, None, nat_lt, ◌==◌, option_map, if◌then◌else◌, IsTrue}
use Rattle.std.specs.List.{AllByRecursion}
use Rattle.push_base.specs.Limits.{max_octets_at_name}
use Rattle.dnsname.specs.Names.{Labels, IsName, lower, same_name, ends_in}
use Rattle.rrset.specs.Kinds.{in_class, any_class, any_kind, soa_kind, cname_kind, is_meta}
use Rattle.rrset.specs.Rdata.{shape_fits}
use Rattle.rrset.specs.Records.{rr_of}
use Rattle.rrset.specs.RecordSet.{RecordSet, is_record_set, without, union, size_of}
use Rattle.rrset.specs.declared.record.Rr.{Rr}
use Rattle.rrset.specs.declared.record.Key.{Key}
use Rattle.rrset.specs.declared.record.Shown.{Shown}
use Rattle.dnswire.specs.Writing.{update_octets}
use Rattle.dnswire.specs.declared.message.Update.{Update}
use Rattle.relay.specs.declared.relay.Relayed.{Relayed}
use Rattle.relay.specs.declared.relay.Relayed.TheVariants.{Apex, Outside, Unfit, Message}

-- an SOA, a meta kind, or an alias beside another record (RFC 2136, 3.4.1.2 and 3.4.2.2)
abbrev pub is_unfit : RecordSet → Key × Shown → Bool
is_unfit set e = e.0.kind == soa_kind || is_meta e.0.kind || (e.0.kind == cname_kind && nat_lt 1 (length set))

abbrev pub unfit_kind : RecordSet → Option ℕ
unfit_kind set = option_map (λ e. e.0.kind) (find (is_unfit set) set)

-- deletes all sets of a name (RFC 2136, 2.5.3)
abbrev pub deletion : Labels → Rr
deletion name = record { owner = name; class = any_class; kind = any_kind; ttl = 0; rdata = [] }

-- without prerequisites: all sets of the name go, and then each record of the set is added (RFC 2136, 2.5.1)
abbrev pub carrying : Labels → Labels → RecordSet → ℕ → Update
carrying zone name set id = record {
  id = id;
  zones = (record { name = zone; kind = soa_kind; class = in_class }) ∷ [];
  prereqs = [];
  changes = deletion name ∷ map (λ e. rr_of e.0 e.1) set;
}

abbrev pub relayed : Labels → Labels → RecordSet → ℕ → Relayed
relayed zone name set id =
    if same_name name zone then Apex
    else if not (ends_in name zone) then Outside
    else elim (unfit_kind set) [ Some kind ↦ Unfit kind | None ↦ Message (update_octets (carrying zone name set id)) ]

abbrev pub carried : RecordSet → Labels → RecordSet → RecordSet
carried rows name set = union (without (λ key. same_name name key.owner) rows) set

pub record IsCarriedRow (name : Labels) (e : Key × Shown) : Type 0 where
  pub owner : e.0.owner ≡ lower name
  pub is_name : IsName e.1.owner
  pub class : e.0.class ≡ in_class
  pub kind : e.0.kind < 2 ^ 16
  pub octets : AllByRecursion (λ o. o < 256) e.1.rdata
  pub fits : shape_fits e.0.kind e.1.rdata ≡ true
  pub ttl : e.1.ttl < 2 ^ 31

-- a set of one name, of class IN, whose rdata fits, and few enough octets; what is below a bound is so by its type in the code
pub record IsCarriable (name : Labels) (set : RecordSet) : Type 0 where
  pub is_name : IsName name
  pub is_set : IsTrue (is_record_set set)
  pub rows : AllByRecursion (IsCarriedRow name) set
  pub size : size_of set ≤ max_octets_at_name
