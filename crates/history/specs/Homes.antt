-- Which homes may stand side by side: zones, links and reverse domains of links, in the order in which they were added.
--     clashes new old      two homes of which one can't be added beside the other
--     name_fault new      what a home's name by itself may not be
--     home_fault homes new      why a home is not added to others
--     fault_of_last homes      why the last home of a list is not added to those before it
use Rattle.std.specs.Prelude.{ℕ, Bool, true, false, ◌&&◌, ◌||◌, List, [], ◌∷◌, ◌++◌, length, filter, position, Option, Some, None, nat_lt, nat_le, if◌then◌else◌, option_map}
use Rattle.push_base.specs.Limits.{max_home_octets}
use Rattle.dnsname.specs.Names.{Labels, octets, same_name, ends_in}
use Rattle.linkmap.specs.Translation.{local}
use Rattle.reversemap.specs.Reverse.{is_reverse_domain}
use Rattle.history.specs.declared.naming.TheConstants as declared_names
use Rattle.history.specs.declared.entry.HomeKind.{HomeKind}
use Rattle.history.specs.declared.entry.HomeKind.TheVariants as kinds
use Rattle.history.specs.declared.entry.HomeFault.{HomeFault}
use Rattle.history.specs.declared.entry.HomeFault.TheVariants.{Many, Long, Local, Form, Clash}

-- a name, and what it is the name of
abbrev pub NamedHome : Type 0
NamedHome = Labels × HomeKind

abbrev pub same_kind : HomeKind → HomeKind → Bool
same_kind kinds.Zone kinds.Zone = true
same_kind kinds.Link kinds.Link = true
same_kind kinds.Reverse kinds.Reverse = true
same_kind _ _ = false

-- a link's domain or a reverse domain of it: what lies under it is the link's alone
abbrev pub is_of_link : HomeKind → Bool
is_of_link kinds.Zone = false
is_of_link _ = true

-- the same name; or one of the two lies under the other, which is no zone
abbrev pub clashes : NamedHome → NamedHome → Bool
clashes new old = same_name new.0 old.0 || (is_of_link old.1 && ends_in new.0 old.0) || (is_of_link new.1 && ends_in old.0 new.0)

-- the most zones, the most links, and the most reverse domains of all links (this project's own)
abbrev pub max_zones : ℕ
max_zones = declared_names.MAX_ZONES

-- a link's domain doesn't end in `local.`, and a reverse domain has the form of one (RFC 1035, 3.5; RFC 3596, 2.5)
abbrev pub name_fault : NamedHome → Option HomeFault
name_fault (name, kinds.Zone) = None
name_fault (name, kinds.Link) = if ends_in name local then Some Local else None
name_fault (name, kinds.Reverse) = if is_reverse_domain name then None else Some Form

-- why a home is not added to others
abbrev pub home_fault : List NamedHome → NamedHome → Option HomeFault
home_fault homes new =
    if nat_le max_zones (length (filter (λ h. same_kind h.1 new.1) homes)) then Some Many
    else if nat_lt max_home_octets (length (octets new.0)) then Some Long
    else elim (name_fault new) [ Some fault ↦ Some fault | None ↦ option_map (λ i. Clash i) (position (clashes new) homes) ]

-- the fault of the last home of a list, added to those before it
abbrev pub fault_of_last_after : List NamedHome → List NamedHome → Option HomeFault
fault_of_last_after before [] = None
fault_of_last_after before (h ∷ []) = home_fault before h
fault_of_last_after before (h ∷ i ∷ hs) = fault_of_last_after (before ++ h ∷ []) (i ∷ hs)

abbrev pub fault_of_last : List NamedHome → Option HomeFault
fault_of_last homes = fault_of_last_after [] homes
