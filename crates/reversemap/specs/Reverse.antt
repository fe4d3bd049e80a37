-- A link's records under its reverse domains: owners stay, and the names inside that end in `local.` are translated (RFC 8766, 5.4 and 5.5; RFC 1035, 3.5; RFC 3596, 2.5).
--     is_reverse_domain name      the name can be a reverse domain
--     is_under reverses name      the name lies under one of them
--     is_reverse_usable domain reverses rr      the record lies under one of them, and can be shown
--     reverse_shown_as domain cap rr      the record as it is shown
--     reverse_heard_as domain rr      the record of the link that would be shown with this key
use Rattle.std.specs.Prelude.{ℕ, Bool, not, ◌&&◌, List, [], ◌∷◌, min, codes, Option, Some, None, ◌==◌, if◌then◌else◌}
use Rattle.std.specs.List.{list_all, list_any}
use Rattle.dnsname.specs.Names.{Labels, ends_in}
use Rattle.rrset.specs.Kinds.{in_class, nsec_kind, is_meta}
use Rattle.rrset.specs.Rdata.{rdata_names, with_names}
use Rattle.rrset.specs.declared.record.Rr.{Rr}
use Rattle.linkmap.specs.Translation.{local, renamed, fits_a_name, is_translatable}

-- the domains of reverse mapping (RFC 1035, 3.5; RFC 3596, 2.5)
abbrev pub reverse_roots : List Labels
reverse_roots = (codes "in-addr" ∷ codes "arpa" ∷ []) ∷ (codes "ip6" ∷ codes "arpa" ∷ []) ∷ []

abbrev pub is_reverse_domain : Labels → Bool
is_reverse_domain name = list_any (ends_in name) reverse_roots

abbrev pub is_under : List Labels → Labels → Bool
is_under reverses name = list_any (ends_in name) reverses

-- class IN, no meta kind and no list of kinds, and an owner under a reverse domain (this project's own)
abbrev pub is_of_reverse : List Labels → Rr → Bool
is_of_reverse reverses rr = rr.class == in_class && not (rr.kind == nsec_kind) && not (is_meta rr.kind) && is_under reverses rr.owner

-- no name inside ends in the link's domain already, and all names fit with it in place of `local.`
abbrev pub is_reverse_usable : Labels → List Labels → Rr → Bool
is_reverse_usable domain reverses rr = is_of_reverse reverses rr && is_translatable local domain rr

-- the names inside with other last labels; the owner stays
abbrev pub with_rdata_renamed : Labels → Labels → Rr → Rr
with_rdata_renamed old new rr = record rr { rdata = with_names (renamed old new) rr.kind rr.rdata }

-- no address is left out
abbrev pub reverse_shown_as : Labels → ℕ → Rr → Rr
reverse_shown_as domain cap rr = record (with_rdata_renamed local domain rr) { ttl = min cap rr.ttl }

-- no name inside ends in `local.`, and all fit with `local.` in place of the domain
abbrev pub can_be_heard : Labels → Rr → Bool
can_be_heard domain rr =
    not (list_any (λ name. ends_in name local) (rdata_names rr.kind rr.rdata))
    && list_all (λ name. fits_a_name (renamed domain local name)) (rdata_names rr.kind rr.rdata)

abbrev pub reverse_heard_as : Labels → Rr → Option Rr
reverse_heard_as domain rr = if can_be_heard domain rr then Some (with_rdata_renamed domain local rr) else None
