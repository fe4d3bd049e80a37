-- How large the records of one name are in a state: at most 60,000 octets for each zone and each link.
--     IsSmall, IsBounded, bounded-after      the bound, and that every entry keeps it
--     records-size      the records of a name in such a state
use Rattle.std.proofs.Common.{◌≡◌, ◌⊎◌, inl, inr, ℕ, ◌+◌, ◌*◌, ◌≤◌, Bool, true, false, cond, List, [], ◌∷◌, ◌++◌, map, fold, length, length-append, Option, Some, None, Result, Ok, Err, nat_le, nat_lt, refl, sym, ap, subst, arith, take_all, le_refl}
use Rattle.std.proofs.lemmas.List.{length-map}
use Rattle.std.specs.List.{AllByRecursion, list_all}
use Rattle.std.proofs.lemmas.Bool.Decides.{nat_tests}
use Rattle.push_base.specs.Cases.{◌>>=◌, changed_at}
use Rattle.dnsname.specs.Names.{Labels, octets, lower, same_name}
use Rattle.std.specs.Str.{bytes_eq}
use Rattle.rrset.specs.Rcodes.{refused}
use Rattle.rrset.specs.RecordSet.{RecordSet, only, at_name, size_at, size_of, union}
use Rattle.rrset.proofs.Sets.{both_true}
use Rattle.rrset.proofs.Sizes.{size_of-only-union}
use Rattle.dnswire.specs.declared.message.Update.{Update}
use Rattle.zoneupdate.specs.Zones.{ZoneState}
use Rattle.zoneupdate.specs.Updates.{judged, refused_first, accepted_or, is_within_limits, with_counted_ttl, rows_after}
use Rattle.reversemap.specs.BothKinds.{AreApart}
use Rattle.linkcache.specs.Rows.{shown_rows}
use Rattle.linkcache.proofs.ShownSizes.{shown_fits}
use Rattle.coalesce.proofs.ReadBack.{each-append}
use Rattle.pushclient.proofs.SoundWishes.{all_map}
use Rattle.history.specs.Entries.{Concern, a_zone, a_link, all_links, concern}
use Rattle.history.specs.States.{State, LinkState, LinkRules, home_names, with_rows, zone_for, updated, after, after_by, state_at, records, link_after, link_at_moment}
use Rattle.history.specs.declared.entry.Entry.{Entry}
use Rattle.history.proofs.OneLink.{AreRows, rows-after, rows-moment}
use Rattle.pushserver.proofs.Queues.{same_name-octets}
use Rattle.scripts.proofs.lines.ChangedPlaces.{length-changed, changed-each}

-- ---- one zone

-- each name's records have at most 60,000 octets
abbrev pub IsSmall : RecordSet → Type 0
IsSmall rows = (name : Labels) → size_at name rows ≤ 60000

abbrev pub owner_is_small : RecordSet → Labels → Bool
owner_is_small rows owner = nat_le (size_at owner rows) 60000

-- a name is that of a record whose name has no more
record HasOwner (rows : RecordSet) (name : Labels) : Type 0 where
  owner : Labels
  same : same_name name owner ≡ true
  few : owner_is_small rows owner ≡ true

-- the records of a name are none, or the name is a record's
owner_of : (rows es : RecordSet) (name : Labels) → list_all (λ e. owner_is_small rows e.0.owner) es ≡ true → (at_name name es ≡ []) ⊎ HasOwner rows name
owner_of rows [] name h = inl refl
owner_of rows (e ∷ es) name h =
    let parts = both_true (owner_is_small rows e.0.owner) (list_all (λ e. owner_is_small rows e.0.owner) es) h in
    by (same_name name e.0.owner) refl parts.0 (owner_of rows es name parts.1)
  where
    by : (b : Bool) → same_name name e.0.owner ≡ b → owner_is_small rows e.0.owner ≡ true → (at_name name es ≡ []) ⊎ HasOwner rows name
        → (cond b (e ∷ at_name name es) (at_name name es) ≡ []) ⊎ HasOwner rows name
    by true same few rest = inr (record { owner = e.0.owner; same = same; few = few })
    by false same few rest = rest

same_part : (n m : Labels) (rows : RecordSet) → same_name n m ≡ true → at_name n rows ≡ at_name m rows
same_part n m rows e = ap (λ o. only (λ key. bytes_eq o (octets (lower key.owner))) rows) (same_name-octets n m e)

is_few : (n : ℕ) → nat_le n 60000 ≡ true → n ≤ 60000
is_few n h = grind (arith, nat_tests)

-- rows within the limits
pub small-within : (rows : RecordSet) → is_within_limits rows ≡ true → IsSmall rows
small-within rows h name = by (owner_of rows rows name (both_true (nat_le (length rows) 65536) (list_all (λ e. owner_is_small rows e.0.owner) rows) h).1)
  where
    by : (at_name name rows ≡ []) ⊎ HasOwner rows name → size_at name rows ≤ 60000
    by (inl none) = subst (λ (set : RecordSet). size_of set ≤ 60000) (sym none) (omega arith)
    by (inr there) = subst (λ (set : RecordSet). size_of set ≤ 60000) (sym (same_part name there.owner rows there.same)) (is_few (size_at there.owner rows) there.few)

-- ---- an update of a zone

-- rows that an update is judged to give are within the limits
abbrev pub GivesSmall : Result RecordSet ℕ → Type 0
GivesSmall (Ok rows) = IsSmall rows
GivesSmall (Err code) = Unit {0}

small-or : (o : Option ℕ) (r : Result RecordSet ℕ) → GivesSmall r → GivesSmall (accepted_or o r)
small-or (Some code) r h = tt
small-or None r h = h

small-limited : (rows : RecordSet) (code : ℕ) (b : Bool) → is_within_limits rows ≡ b → GivesSmall (cond b (Ok rows) (Err code))
small-limited rows code true e = small-within rows e
small-limited rows code false e = tt

pub judged-small : (homes : List Labels) (zone : ZoneState) (update : Update) → GivesSmall (judged homes zone update)
judged-small homes zone update =
    let later = rows_after zone (map with_counted_ttl update.changes) in
    small-or (refused_first homes zone update) (cond (is_within_limits later) (Ok later) (Err refused)) (small-limited later refused (is_within_limits later) refl)

-- ---- one link

-- rows such as a link has, and reverse domains that stand apart from its domain
pub record IsBoundedLink (link : LinkState) : Type 0 where
  pub rows : AreRows link
  pub apart : AreApart link.rules.domain link.rules.reverses

small-shown : (link : LinkState) → IsBoundedLink link → IsSmall (shown_rows link.rules link.rows)
small-shown link is name = shown_fits link.rules link.rows is.apart is.rows.sound is.rows.within name

pub small-silent : (rules : LinkRules) → AreApart rules.domain rules.reverses → IsBoundedLink (record { rules = rules; rows = [] })
small-silent rules apart = record { rows = record { order = tt; sound = tt; within = record { few = omega arith; owners = λ owner. omega arith } }; apart = apart }

-- ---- all homes

pub record IsBounded (state : State) : Type 0 where
  pub few_links : length state.links ≤ 16
  pub links : AllByRecursion IsBoundedLink state.links
  pub few : length state.zones ≤ 16
  pub small : AllByRecursion (λ z. IsSmall z.rows) state.zones

abbrev pub with_rows_in : Labels → RecordSet → ZoneState → ZoneState
with_rows_in apex rows z = cond (same_name z.apex apex) (record z { rows = rows }) z

small-rows : (apex : Labels) (rows : RecordSet) → IsSmall rows → (zones : List ZoneState) → AllByRecursion (λ z. IsSmall z.rows) zones → AllByRecursion (λ z. IsSmall z.rows) (map (with_rows_in apex rows) zones)
small-rows apex rows h [] all = tt
small-rows apex rows h (z ∷ zs) all = (by (same_name z.apex apex), small-rows apex rows h zs all.1)
  where
    by : (b : Bool) → IsSmall (cond b (record z { rows = rows }) z).rows
    by true = h
    by false = all.0

bounded-rows : (state : State) (apex : Labels) (rows : RecordSet) → IsBounded state → IsSmall rows → IsBounded (with_rows state apex rows)
bounded-rows state apex rows b h = record {
  few_links = b.few_links;
  links = b.links;
  few = subst (λ n. n ≤ 16) (sym (length-map state.zones (with_rows_in apex rows))) b.few;
  small = small-rows apex rows h state.zones b.small;
}

-- the state after an update that was judged
abbrev pub state_given : State → Result State ℕ → State
state_given state (Err code) = state
state_given state (Ok later) = later

abbrev pub rows_given : State → ZoneState → Result RecordSet ℕ → State
rows_given state zone r = state_given state (r >>= λ rows. Ok (with_rows state zone.apex rows))

bounded-given : (state : State) (zone : ZoneState) (r : Result RecordSet ℕ) → IsBounded state → GivesSmall r → IsBounded (rows_given state zone r)
bounded-given state zone (Err code) b h = b
bounded-given state zone (Ok rows) b h = bounded-rows state zone.apex rows b h

bounded-updated : (state : State) (update : Update) → IsBounded state → IsBounded (state_given state (updated state update))
bounded-updated state update b = by (zone_for state update.zones)
  where
    by : (r : Result ZoneState ℕ) → IsBounded (state_given state (r >>= λ zone. judged (home_names state) zone update >>= λ rows. Ok (with_rows state zone.apex rows)))
    by (Err code) = b
    by (Ok zone) = bounded-given state zone (judged (home_names state) zone update) b (judged-small (home_names state) zone update)

-- other links, as many
bounded-links : (state : State) (links : List LinkState) (t : ℕ) → length links ≡ length state.links → AllByRecursion IsBoundedLink links → IsBounded state → IsBounded (record state { links = links; now = t })
bounded-links state links t same all b = record { few_links = subst (λ n. n ≤ 16) (sym same) b.few_links; links = all; few = b.few; small = b.small }

-- every entry keeps the bound, whatever homes it concerns
bounded-by : (entry : Entry) (state : State) (homes : Concern) → IsBounded state → IsBounded (after_by entry state homes)
bounded-by entry state (a_zone update) b = bounded-updated state update b
bounded-by entry state (a_link link) b =
    bounded-links state (changed_at link (link_after entry state.now) state.links) state.now (length-changed link (link_after entry state.now) state.links)
    (changed-each IsBoundedLink (link_after entry state.now) (λ l is. record { rows = rows-after entry state.now l is.rows; apart = is.apart }) link state.links b.links) b
bounded-by entry state (all_links t) b = by (nat_lt state.now t)
  where
    by : (c : Bool) → IsBounded (cond c (record state { now = t; links = map (link_at_moment t) state.links }) state)
    by true = bounded-links state (map (link_at_moment t) state.links) t (length-map state.links (link_at_moment t)) (all_map IsBoundedLink IsBoundedLink (link_at_moment t) (λ l is. record { rows = rows-moment t l is.rows; apart = is.apart }) state.links b.links) b
    by false = b

pub bounded-after : (state : State) (entry : Entry) → IsBounded state → IsBounded (after state entry)
bounded-after state entry b = bounded-by entry state (concern entry) b

bounded-all : (state : State) (entries : List Entry) → IsBounded state → IsBounded (fold after state entries)
bounded-all state [] b = b
bounded-all state (e ∷ es) b = bounded-all (after state e) es (bounded-after state e b)

-- and so each state behind a history
pub bounded-state : (start : State) (history : List Entry) → IsBounded start → IsBounded (state_at start history (length history))
bounded-state start history b = subst (λ (entries : List Entry). IsBounded (fold after start entries)) (sym (take_all (length history) history (le_refl (length history)))) (bounded-all start history b)

-- ---- the records of a name in all homes

sets-size : (name : Labels) (set : RecordSet) (sets : List RecordSet) → AllByRecursion IsSmall sets → size_at name (fold union set sets) ≤ size_at name set + 60000 * length sets
sets-size name set [] all = omega arith
sets-size name set (s ∷ ss) all =
    let rest = sets-size name (union set s) ss all.1 in
    let one = size_of-only-union (λ key. same_name name key.owner) set s in
    let small = all.0 name in
    omega (arith, rest, one, small)

pub records-size : (state : State) (name : Labels) → IsBounded state → size_at name (records state) ≤ 1920000
records-size state name b =
    let zones = map (λ (z : ZoneState). z.rows) state.zones in
    let links = map (λ (l : LinkState). shown_rows l.rules l.rows) state.links in
    let all = each-append IsSmall zones links (all_map (λ (z : ZoneState). IsSmall z.rows) IsSmall (λ (z : ZoneState). z.rows) (λ z h. h) state.zones b.small)
    (all_map IsBoundedLink IsSmall (λ (l : LinkState). shown_rows l.rules l.rows) small-shown state.links b.links) in
    sum _ (length (zones ++ links)) (length zones) (length links) (sets-size name [] (zones ++ links) all) (length-append zones links)
    (subst (λ n. n ≤ 16) (sym (length-map state.zones (λ (z : ZoneState). z.rows))) b.few) (subst (λ n. n ≤ 16) (sym (length-map state.links (λ (l : LinkState). shown_rows l.rules l.rows))) b.few_links)
  where
    sum : (n m z l : ℕ) → n ≤ 0 + 60000 * m → m ≡ z + l → z ≤ 16 → l ≤ 16 → n ≤ 1920000
    sum n m z l h same few few_links = omega (arith, h, same, few, few_links)
