-- A link's records under its domain (RFC 8766, 5.5).
--     is_usable domain rr      the record can be shown under the domain, or is an address that isn't shown
--     shown_as domain rr      the record as it is shown
--     lessened most rr      the record with a TTL of at most so much
--     heard_as domain rr      the record of the link that would be shown with this key
--     is_of_link, is_translatable      its class, kind and owner are those of a link's records; its names can be those of the other domain
--     renamed, names_fit, is_link_local      a name with the other domain; owner and names inside fit with it; addresses that aren't shown
use Rattle.std.specs.Prelude.{ℕ, ◌/◌, min, Bool, not, ◌&&◌, ◌||◌, List, [], ◌∷◌, length, slice_index, Option, Some, None, nat_le, ◌==◌, codes, if◌then◌else◌}
use Rattle.std.specs.List.{list_all, list_any}
use Rattle.dnsname.specs.Names.{Labels, max_name, octets, ends_in, swapped_suffix}
use Rattle.rrset.specs.Kinds.{in_class, a_kind, aaaa_kind, nsec_kind, is_meta}
use Rattle.rrset.specs.Rdata.{rdata_names, with_names, shape_fits}
use Rattle.rrset.specs.declared.record.Rr.{Rr}

-- the domain of every link (RFC 6762, 3)
abbrev pub local : Labels
local = codes "local" ∷ []

-- a name that ends in the first domain, with the second in its place; any other name as it is
abbrev pub renamed : Labels → Labels → Labels → Labels
renamed old new name = if ends_in name old then swapped_suffix name old new else name

-- owner and names inside (RFC 8766, 5.5)
abbrev pub renamed_rr : Labels → Labels → Rr → Rr
renamed_rr old new rr = record rr { owner = renamed old new rr.owner; rdata = with_names (renamed old new) rr.kind rr.rdata }

abbrev pub fits_a_name : Labels → Bool
fits_a_name name = nat_le (length (octets name)) max_name

-- the owner and the names inside fit a name each (RFC 1035, 2.3.4)
abbrev pub names_fit : Labels → Labels → Rr → Bool
names_fit old new rr = fits_a_name (renamed old new rr.owner) && list_all (λ name. fits_a_name (renamed old new name)) (rdata_names rr.kind rr.rdata)

-- class IN, no meta kind, and a name of the link (RFC 8766, 5.5.3; the rest is this project's own)
abbrev pub is_of_link : Rr → Bool
is_of_link rr = rr.class == in_class && not (rr.kind == nsec_kind) && not (is_meta rr.kind) && ends_in rr.owner local

-- no name inside ends in the new domain already, and all names fit with it in place of the old one (this project's own)
abbrev pub is_translatable : Labels → Labels → Rr → Bool
is_translatable old new rr = not (list_any (λ name. ends_in name new) (rdata_names rr.kind rr.rdata)) && names_fit old new rr

abbrev pub is_usable : Labels → Rr → Bool
is_usable domain rr = is_of_link rr && is_translatable local domain rr

-- 169.254.0.0/16 (RFC 3927, 2.1)
abbrev pub is_link_local_v4 : List ℕ → Bool
is_link_local_v4 address = slice_index address 0 == 169 && slice_index address 1 == 254

-- fe80::/10 (RFC 4291, 2.5.6)
abbrev pub is_link_local_v6 : List ℕ → Bool
is_link_local_v6 address = slice_index address 0 == 0xfe && slice_index address 1 / 64 == 0x80 / 64

abbrev pub is_link_local : Rr → Bool
is_link_local rr = shape_fits rr.kind rr.rdata
    && ((rr.kind == a_kind && is_link_local_v4 rr.rdata) || (rr.kind == aaaa_kind && is_link_local_v6 rr.rdata))

-- RFC 8766, 5.5 and 5.5.2
abbrev pub shown_as : Labels → Rr → Option Rr
shown_as domain rr = if is_link_local rr then None else Some (renamed_rr local domain rr)

-- the lesser of the record's TTL and another (this project's own)
abbrev pub lessened : ℕ → Rr → Rr
lessened most rr = record rr { ttl = min rr.ttl most }

-- the record of the link that would be shown with this record's key; nothing where the owner isn't under the domain, a name
-- inside ends in local., a name wouldn't fit, or it is an address that isn't shown. Class and kind aren't asked: of records
-- that are never usable no row stands.
abbrev pub heard_as : Labels → Rr → Option Rr
heard_as domain rr =
    if not (ends_in rr.owner domain) then None
    else if not (is_translatable domain local rr) then None
    else if is_link_local rr then None
    else Some (renamed_rr domain local rr)
