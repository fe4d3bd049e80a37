-- What a carried set does to a zone.
--     CarriesAreRead      the message is read as the update that it is
--     CarriesAreAccepted      a zone takes it, unless it would have too many records, and then has the set at the name
--     MessagesAreShort      the message has at most 60,481 octets
--     ChangesCarry      its changes give a zone's rows the set
--     IsShort, IsTaken zone name set what      so of the message that a set becomes, if it does
use Rattle.std.specs.Prelude.{◌≡◌, ℕ, ◌≤◌, ◌<◌, ◌^◌, true, false, List, length, map, fold, None, Result, Ok, Err}
use Rattle.std.specs.List.{AllByRecursion}
use Rattle.push_base.specs.Limits.{max_home_octets}
use Rattle.dnsname.specs.Names.{Labels, IsName, octets, same_name}
use Rattle.rrset.specs.Kinds.{in_class, soa_kind}
use Rattle.rrset.specs.Rcodes.{refused}
use Rattle.rrset.specs.RecordSet.{RecordSet, is_of_rrset, without}
use Rattle.dnswire.specs.Reading.{update_of}
use Rattle.dnswire.specs.Writing.{update_octets}
use Rattle.dnswire.specs.declared.message.Update.{Update}
use Rattle.zoneupdate.specs.Zones.{ZoneState, is_inside}
use Rattle.zoneupdate.specs.KeptZones.{IsKept}
use Rattle.zoneupdate.specs.Updates.{judged, max_zone_records, changed_by, with_counted_ttl}
use Rattle.relay.specs.Relay.{unfit_kind, carrying, carried, IsCarriable}
use Rattle.relay.specs.declared.relay.Relayed.{Relayed}
use Rattle.relay.specs.declared.relay.Relayed.TheVariants.{Message}

abbrev pub CarriesAreRead : Type 0
CarriesAreRead = (zone name : Labels) (set : RecordSet) (id : ℕ) → IsName zone → IsCarriable name set → id < 2 ^ 16 → update_of (update_octets (carrying zone name set id)) ≡ Ok (carrying zone name set id)

abbrev pub MessagesAreShort : Type 0
MessagesAreShort = (zone name : Labels) (set : RecordSet) (id : ℕ) → length (octets zone) ≤ max_home_octets → IsCarriable name set → length (update_octets (carrying zone name set id)) ≤ 60481

-- all records but the SOA of the apex
abbrev pub but_soa : Labels → RecordSet → RecordSet
but_soa apex rows = without (is_of_rrset apex in_class soa_kind) rows

-- the rows are those with the set at the name, but for the SOA, whose serial may have risen
pub record Carries (apex name : Labels) (set old rows : RecordSet) : Type 0 where
  pub are : but_soa apex rows ≡ but_soa apex (carried old name set)

-- accepted with these rows, or refused for their number alone
abbrev pub Takes : Labels → Labels → RecordSet → RecordSet → Result RecordSet ℕ → Type 0
Takes apex name set old (Ok rows) = Carries apex name set old rows × (length (carried old name set) ≤ max_zone_records)
Takes apex name set old (Err code) = (code ≡ refused) × (max_zone_records < length (carried old name set))

-- rdata of octets, which it is by its type in the code
abbrev pub HaveOctets : RecordSet → Type 0
HaveOctets rows = AllByRecursion (λ e. AllByRecursion (λ o. o < 256) e.1.rdata) rows

-- of a zone that is the home of the name, and may be written
abbrev pub CarriesAreAccepted : Type 0
CarriesAreAccepted = (homes : List Labels) (zone : ZoneState) (name : Labels) (set : RecordSet) (id : ℕ) → IsKept zone → HaveOctets zone.rows → zone.writable ≡ true → is_inside homes zone.apex name ≡ true → same_name name zone.apex ≡ false
    → IsCarriable name set → unfit_kind set ≡ None → Takes zone.apex name set zone.rows (judged homes zone (carrying zone.apex name set id))

-- the changes of a carry, before the serial rises
abbrev pub ChangesCarry : Type 0
ChangesCarry = (zone : ZoneState) (name : Labels) (set : RecordSet) (id : ℕ) → IsKept zone → same_name name zone.apex ≡ false → IsCarriable name set → unfit_kind set ≡ None
    → fold (changed_by zone.apex) zone.rows (map with_counted_ttl (carrying zone.apex name set id).changes) ≡ carried zone.rows name set

-- ---- of what a set becomes

-- under a zone whose name has at most 200 octets
abbrev pub IsShort : Labels → Labels → RecordSet → Relayed → Type 0
IsShort zone name set (Message message) = length (octets zone) ≤ max_home_octets → IsCarriable name set → length message ≤ 60481
IsShort zone name set _ = Unit {0}

-- by a zone of this name that is the home of the other, and may be written
abbrev pub IsTaken : Labels → Labels → RecordSet → Relayed → Type 0
IsTaken apex name set (Message message) = (homes : List Labels) (zone : ZoneState) (update : Update) → IsName apex → zone.apex ≡ apex → IsKept zone → HaveOctets zone.rows → zone.writable ≡ true → is_inside homes apex name ≡ true
    → IsCarriable name set → update_of message ≡ Ok update → Takes apex name set zone.rows (judged homes zone update)
IsTaken apex name set _ = Unit {0}
