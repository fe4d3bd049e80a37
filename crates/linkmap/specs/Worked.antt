-- Words for worked rows: the laws of translation as tests, and records to try them on.
--     heard_is_shown domain rr, each_is_shown_by_itself domain rr other      the two laws
--     records owners      pointers to names, an address, and rdata that doesn't fit
--     lan, at_link, at_domain      a domain of 17 octets, and records of the name h on its link and under it
--     long_name n suffix      a name of 193 + n octets and those of its last labels
use Rattle.std.specs.Prelude.{ℕ, Bool, true, false, not, ◌||◌, ◌&&◌, List, [], ◌∷◌, map, flat_map, Option, Some, None, codes}
use Rattle.std.specs.List.{repeat}
use Rattle.push_base.specs.Hexadecimal.{hex}
use Rattle.dnsname.specs.Names.{Labels, octets}
use Rattle.dnsname.specs.Text.{name}
use Rattle.rrset.specs.Kinds.{in_class, a_kind, ptr_kind}
use Rattle.rrset.specs.Records.{key_of, same_key}
use Rattle.rrset.specs.declared.record.Rr.{Rr}
use Rattle.linkmap.specs.Translation.{is_usable, shown_as, heard_as}

abbrev pub has_key_of : Option Rr → Rr → Bool
has_key_of None rr = false
has_key_of (Some shown) rr = same_key (key_of shown) (key_of rr)

abbrev pub heard_is_shown : Labels → Rr → Bool
heard_is_shown domain rr = elim (heard_as domain rr) [ None ↦ true | Some heard ↦ has_key_of (shown_as domain heard) rr ]

abbrev pub each_is_shown_by_itself : Labels → Rr → Rr → Bool
each_is_shown_by_itself domain rr other =
    not (is_usable domain rr && is_usable domain other) || same_key (key_of rr) (key_of other)
    || (elim (shown_as domain rr) [ None ↦ true | Some shown ↦ not (has_key_of (shown_as domain other) shown) ])

abbrev pub names : List Labels
names = map name (codes "h.local." ∷ codes "H.LOCAL." ∷ codes "local." ∷ codes "h.lan.example.com." ∷ codes "h.LAN.example.com." ∷ codes "lan.example.com." ∷ codes "h.x.local." ∷ codes "com." ∷ codes "." ∷ [])

abbrev pub record_of : Labels → Rr
record_of owner = record { owner = owner; class = in_class; kind = a_kind; ttl = 120; rdata = hex (codes "c0000201") }

abbrev pub records_of : Labels → List Rr
records_of owner = record_of owner ∷ record (record_of owner) { kind = ptr_kind; rdata = hex (codes "0161056c6f63616c") }
    ∷ map (λ n. record (record_of owner) { kind = ptr_kind; rdata = octets n }) names

abbrev pub records : List Labels → List Rr
records owners = flat_map records_of owners

abbrev pub lan : Labels
lan = name (codes "lan.example.com.")

abbrev pub at_link : ℕ → List ℕ → Rr
at_link kind rdata = record { owner = name (codes "h.local."); class = in_class; kind = kind; ttl = 120; rdata = rdata }

abbrev pub at_domain : ℕ → List ℕ → Rr
at_domain kind rdata = record { owner = name (codes "h.lan.example.com."); class = in_class; kind = kind; ttl = 120; rdata = rdata }

abbrev pub long_name : ℕ → Labels → Labels
long_name n suffix = repeat n (97 ∷ []) ∷ repeat 63 (97 ∷ []) ∷ repeat 63 (97 ∷ []) ∷ repeat 63 (97 ∷ []) ∷ suffix
