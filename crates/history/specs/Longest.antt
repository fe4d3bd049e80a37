-- The longest home of a name, as it is found by going through homes.
--     candidates name homes      the homes that the name ends in
--     most_octets name homes      how many octets the longest of them has, and no fewer than a number
--     IsLongest homes name best most      the place of the longest of them, if there is one, and how many octets it has
--     IsHomeBehind before links name best place      the home is a name of the link at a place, or else the one before
use Rattle.std.specs.Prelude.{◌≡◌, ℕ, true, List, ◌++◌, map, flat_map, length, filter, fold, max, Option, Some, None, slice_get}
use Rattle.std.specs.List.{list_any}
use Rattle.dnsname.specs.Names.{Labels, octets, ends_in, same_name, home, longest}
use Rattle.linkcache.specs.Links.{LinkKept}
use Rattle.linkcache.specs.Rows.{names_of}
use Rattle.history.specs.AtHome.{IsHomeAt}

abbrev pub candidates : Labels → List Labels → List Labels
candidates name homes = filter (λ h. ends_in name h) homes

-- the most octets of a home that the name ends in, where they are more than a number
abbrev pub most_octets : Labels → ℕ → List Labels → ℕ
most_octets name least homes = fold max least (map (λ h. length (octets h)) (candidates name homes))

-- the longest home that the name ends in stands at this place, and has so many octets; or there is none, and the number is 0
abbrev pub IsLongest : List Labels → Labels → Option ℕ → ℕ → Type 0
IsLongest homes name None most = (longest (candidates name homes) ≡ None) × (most ≡ 0)
IsLongest homes name (Some i) most = (h : Labels) × (slice_get homes i ≡ Some h) × (longest (candidates name homes) ≡ Some h) × (most ≡ length (octets h))

abbrev pub link_names : List LinkKept → List Labels
link_names links = flat_map (λ l. names_of l.state.rules) links

-- of homes and the names of links behind them the home of a name is one of the link at this place; or, with none, the one before
abbrev pub IsHomeBehind : List Labels → List LinkKept → Labels → Option ℕ → Option ℕ → Type 0
IsHomeBehind before links name best None = IsHomeAt (before ++ link_names links) name best
IsHomeBehind before links name best (Some i) = (h : Labels) × (link : LinkKept) × (home (before ++ link_names links) name ≡ Some h) × (slice_get links i ≡ Some link) × (list_any (same_name h) (names_of link.state.rules) ≡ true)
