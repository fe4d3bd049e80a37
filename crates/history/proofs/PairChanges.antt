-- What is shown otherwise where each home changes for itself: the changes of all, gathered in key order.
--     HomePair      a home's names, and what it showed and shows
--     noted_at q before after      what is noted at a key
use Rattle.std.proofs.Common.{◌≡◌, Bool, true, false, cond, not, ◌&&◌, ◌||◌, T, List, [], ◌∷◌, map, fold, Option, Some, None, is_some, refl, sym, ap, subst, ◌∙◌}
use Rattle.std.specs.Prelude.{flat_map}
use Rattle.std.specs.List.{AllByRecursion, IsDistinct}
use Rattle.std.specs.FinMap.Entries.{below_all}
use Rattle.std.proofs.lemmas.List.Sums.{fold-append}
use Rattle.std.specs.Ordering.{is_lt}
use Rattle.dnsname.specs.Names.{Labels}
use Rattle.rrset.specs.KeyedRows.{Rows, is_rising, row_at}
use Rattle.rrset.specs.RecordSet.{RecordSet, only, union, shown_at, shown_the_same, changes}
use Rattle.rrset.specs.Records.{key_cmp, same_key}
use Rattle.rrset.specs.declared.record.Changed.{Changed}
use Rattle.rrset.specs.declared.record.Key.{Key}
use Rattle.rrset.specs.declared.record.Shown.{Shown}
use Rattle.rrset.proofs.Differences.{change}
use Rattle.rrset.proofs.InOrder.{InOrder, in_order-only, in_order-union}
use Rattle.rrset.proofs.SameRows.{same_key-same}
use Rattle.rrset.proofs.Sets.{shown_at-only, is_some-union}
use Rattle.rrset.proofs.WithChanges.{change_at}
use Rattle.zoneupdate.proofs.RecordSets.{set-in_order}
use Rattle.linkcache.proofs.KeyedParts.{Rising, same_maps, row_at-put, rising-put}
use Rattle.history.specs.Laws.{with_change, gathered}
use Rattle.history.proofs.HomeSets.{IsSetAtHome, not_shown}
use Rattle.history.proofs.NamesApart.{share_a_name, owns, owns-one}
use Rattle.history.proofs.UnitedParts.{united, in_order-united, over, shown_at-union}

abbrev pub HomePair : Type 0
HomePair = List Labels × (RecordSet × RecordSet)

abbrev pub olds : List HomePair → List RecordSet
olds pairs = map (λ (s : HomePair). s.1.0) pairs

abbrev pub news : List HomePair → List RecordSet
news pairs = map (λ (s : HomePair). s.1.1) pairs

abbrev pub each_of : List HomePair → List (List Changed)
each_of pairs = map (λ (s : HomePair). changes s.1.0 s.1.1) pairs

pub record IsPairAtHome (homes : List Labels) (s : HomePair) : Type 0 where
  pub old : IsSetAtHome homes (s.0, s.1.0)
  pub new : IsSetAtHome homes (s.0, s.1.1)

abbrev pub ArePairsAtHome : List Labels → List HomePair → Type 0
ArePairsAtHome homes pairs = AllByRecursion (IsPairAtHome homes) pairs

-- ---- changes as a function of keys

-- what is noted at a key
abbrev noted_at : Key → Option Shown → Option Shown → Option Changed
noted_at q before after = cond (not (shown_the_same before after)) (Some (change q before after)) None

abbrev keyed : List Changed → Rows Changed
keyed cs = map (λ (c : Changed). (c.key, c)) cs

unkeyed : (cs : List Changed) → map (λ (e : Key × Changed). e.1) (keyed cs) ≡ cs
unkeyed [] = refl
unkeyed (c ∷ cs) = ap (λ l. c ∷ l) (unkeyed cs)

below-keyed : (old new : RecordSet) (x : Key) (es : RecordSet) → below_all key_cmp x (keyed (map (change_at old new) es)) ≡ below_all key_cmp x es
below-keyed old new x [] = refl
below-keyed old new x (e ∷ es) = ap (λ b. is_lt (key_cmp x e.0) && b) (below-keyed old new x es)

rising-keyed : (old new es : RecordSet) → is_rising (keyed (map (change_at old new) es)) ≡ is_rising es
rising-keyed old new [] = refl
rising-keyed old new (e ∷ es) = λ i. below-keyed old new e.0 es i && rising-keyed old new es i

-- a change stands at each key of the list
abbrev noted_in : Key → RecordSet → RecordSet → RecordSet → Option Changed → Option Changed
noted_in q old new es other = cond (is_some (shown_at q es)) (Some (change q (shown_at q old) (shown_at q new))) other

one_more : (q : Key) (old new : RecordSet) (e : Key × Shown) (es : RecordSet) (other : Option Changed)
    → noted_in q old new es (cond (same_key q e.0) (Some (change_at old new e)) other) ≡ noted_in q old new (e ∷ es) other
one_more q old new e es other = by (same_key q e.0) refl (is_some (shown_at q es)) refl
  where
    noted : Option Changed
    noted = Some (change q (shown_at q old) (shown_at q new))

    by : (t : Bool) → same_key q e.0 ≡ t → (b : Bool) → is_some (shown_at q es) ≡ b
        → cond b noted (cond t (Some (change_at old new e)) other) ≡ cond (is_some (cond t (Some e.1) (shown_at q es))) noted other
    by true is true some = refl
    by true is false some = ap (λ k. Some (change k (shown_at k old) (shown_at k new))) (sym (same_key-same q e.0 is))
    by false is b some = ap (λ x. cond x noted other) (sym some)

row_at-keyed : (q : Key) (old new es : RecordSet) → row_at q (keyed (map (change_at old new) es)) ≡ noted_in q old new es None
row_at-keyed q old new [] = refl
row_at-keyed q old new (e ∷ es) = ap (λ o. cond (same_key q e.0) (Some (change_at old new e)) o) (row_at-keyed q old new es) ∙ by (same_key q e.0) refl
  where
    noted : Option Changed
    noted = Some (change q (shown_at q old) (shown_at q new))

    by : (t : Bool) → same_key q e.0 ≡ t → cond t (Some (change_at old new e)) (cond (is_some (shown_at q es)) noted None) ≡ cond (is_some (cond t (Some e.1) (shown_at q es))) noted None
    by true is = ap (λ k. Some (change k (shown_at k old) (shown_at k new))) (sym (same_key-same q e.0 is))
    by false is = refl

row_at-fold : (q : Key) (old new es : RecordSet) (rows : Rows Changed) → row_at q (fold with_change rows (map (change_at old new) es)) ≡ noted_in q old new es (row_at q rows)
row_at-fold q old new [] rows = refl
row_at-fold q old new (e ∷ es) rows =
    row_at-fold q old new es (with_change rows (change_at old new e))
    ∙ ap (noted_in q old new es) (row_at-put q e.0 (change_at old new e) rows)
    ∙ one_more q old new e es (row_at q rows)

-- of all keys of both sets
abbrev listed : RecordSet → RecordSet → RecordSet
listed old new = only (λ key. not (shown_the_same (shown_at key old) (shown_at key new))) (union old new)

noted-listed : (q : Key) (old new : RecordSet) (other : Option Changed) → noted_in q old new (listed old new) other ≡ over (noted_at q (shown_at q old) (shown_at q new)) other
noted-listed q old new other =
    ap (λ b. cond b noted other) (ap is_some (shown_at-only differs q (union old new)) ∙ passed (differs q) (shown_at q (union old new)) ∙ ap (λ b. differs q && b) (is_some-union q old new))
    ∙ by (shown_at q old) (shown_at q new)
  where
    differs : Key → Bool
    differs key = not (shown_the_same (shown_at key old) (shown_at key new))

    noted : Option Changed
    noted = Some (change q (shown_at q old) (shown_at q new))

    passed : (b : Bool) (o : Option Shown) → is_some (cond b o None) ≡ (b && is_some o)
    passed true o = refl
    passed false o = refl

    either : (t : Bool) (c : Changed) → cond (t && true) (Some c) other ≡ over (cond t (Some c) None) other
    either true c = refl
    either false c = refl

    by : (a b : Option Shown) → cond (not (shown_the_same a b) && (is_some a || is_some b)) (Some (change q a b)) other ≡ over (noted_at q a b) other
    by None None = refl
    by None (Some y) = refl
    by (Some x) None = refl
    by (Some x) (Some y) = either (not (shown_the_same (Some x) (Some y))) (change q (Some x) (Some y))

over-none : {X : Type 0} (o : Option X) → over o None ≡ o
over-none None = refl
over-none (Some x) = refl

row_at-changes : (q : Key) (old new : RecordSet) → row_at q (keyed (changes old new)) ≡ noted_at q (shown_at q old) (shown_at q new)
row_at-changes q old new = row_at-keyed q old new (listed old new) ∙ noted-listed q old new None ∙ over-none (noted_at q (shown_at q old) (shown_at q new))

row_at-gathered : (q : Key) (old new : RecordSet) (rows : Rows Changed) → row_at q (fold with_change rows (changes old new)) ≡ over (noted_at q (shown_at q old) (shown_at q new)) (row_at q rows)
row_at-gathered q old new rows = row_at-fold q old new (listed old new) rows ∙ noted-listed q old new (row_at q rows)

-- ---- over all homes

abbrev shown_from : Key → Option Shown → List RecordSet → Option Shown
shown_from q o [] = o
shown_from q o (s ∷ sets) = shown_from q (over (shown_at q s) o) sets

abbrev noted_from : Key → Option Changed → List HomePair → Option Changed
noted_from q o [] = o
noted_from q o (s ∷ pairs) = noted_from q (over (noted_at q (shown_at q s.1.0) (shown_at q s.1.1)) o) pairs

shown-united : (q : Key) (first : RecordSet) (sets : List RecordSet) → AllByRecursion (λ s. InOrder s) sets → shown_at q (united first sets) ≡ shown_from q (shown_at q first) sets
shown-united q first [] h = refl
shown-united q first (s ∷ sets) h = shown-united q (union first s) sets h.1 ∙ ap (λ o. shown_from q o sets) (shown_at-union q first s h.0)

abbrev all_of : List HomePair → List Changed
all_of pairs = flat_map (λ (cs : List Changed). cs) (each_of pairs)

noted-gathered : (q : Key) (rows : Rows Changed) (pairs : List HomePair) → row_at q (fold with_change rows (all_of pairs)) ≡ noted_from q (row_at q rows) pairs
noted-gathered q rows [] = refl
noted-gathered q rows (s ∷ pairs) =
    ap (row_at q) (fold-append with_change rows (changes s.1.0 s.1.1) (all_of pairs))
    ∙ noted-gathered q (fold with_change rows (changes s.1.0 s.1.1)) pairs
    ∙ ap (λ o. noted_from q o pairs) (row_at-gathered q s.1.0 s.1.1 rows)

rising-fold : (cs : List Changed) (rows : Rows Changed) → Rising rows → Rising (fold with_change rows cs)
rising-fold [] rows h = h
rising-fold (c ∷ cs) rows h = rising-fold cs (with_change rows c) (rising-put c.key c rows h)

-- ---- homes that don't show a key

record IsSilent (q : Key) (s : HomePair) : Type 0 where
  pub old : shown_at q s.1.0 ≡ None
  pub new : shown_at q s.1.1 ≡ None

silent : (homes : List Labels) (q : Key) (s : HomePair) → IsPairAtHome homes s → owns homes s.0 q.owner ≡ false → IsSilent q s
silent homes q s at out = record { old = not_shown homes (s.0, s.1.0) q at.old out; new = not_shown homes (s.0, s.1.1) q at.new out }

silent-others : (homes : List Labels) (q : Key) (names : List Labels) (pairs : List HomePair) → owns homes names q.owner ≡ true → ArePairsAtHome homes pairs → AllByRecursion (λ y. share_a_name names y ≡ false) (map (λ (s : HomePair). s.0) pairs) → AllByRecursion (IsSilent q) pairs
silent-others homes q names [] inside at apart = tt
silent-others homes q names (s ∷ pairs) inside at apart = (
  silent homes q s at.0 (owns-one homes names s.0 q.owner apart.0 inside),
  silent-others homes q names pairs inside at.1 apart.1,
)

old-silent : (q : Key) (o : Option Shown) (pairs : List HomePair) → AllByRecursion (IsSilent q) pairs → shown_from q o (olds pairs) ≡ o
old-silent q o [] h = refl
old-silent q o (s ∷ pairs) h = ap (λ x. shown_from q (over x o) (olds pairs)) h.0.old ∙ old-silent q o pairs h.1

new-silent : (q : Key) (o : Option Shown) (pairs : List HomePair) → AllByRecursion (IsSilent q) pairs → shown_from q o (news pairs) ≡ o
new-silent q o [] h = refl
new-silent q o (s ∷ pairs) h = ap (λ x. shown_from q (over x o) (news pairs)) h.0.new ∙ new-silent q o pairs h.1

noted-silent : (q : Key) (o : Option Changed) (pairs : List HomePair) → AllByRecursion (IsSilent q) pairs → noted_from q o pairs ≡ o
noted-silent q o [] h = refl
noted-silent q o (s ∷ pairs) h = (λ i. noted_from q (over (noted_at q (h.0.old i) (h.0.new i)) o) pairs) ∙ noted-silent q o pairs h.1

-- a key is noted of all as it is of its home
noted-one : (homes : List Labels) (q : Key) (pairs : List HomePair) → ArePairsAtHome homes pairs → IsDistinct share_a_name (map (λ (s : HomePair). s.0) pairs)
    → noted_at q (shown_from q None (olds pairs)) (shown_from q None (news pairs)) ≡ noted_from q None pairs
unfolding IsDistinct
noted-one homes q [] at apart = refl
noted-one homes q (s ∷ pairs) at apart = by (owns homes s.0 q.owner) refl (noted-one homes q pairs at.1 apart.1)
  where
    by : (b : Bool) → owns homes s.0 q.owner ≡ b → noted_at q (shown_from q None (olds pairs)) (shown_from q None (news pairs)) ≡ noted_from q None pairs
        → noted_at q (shown_from q (over (shown_at q s.1.0) None) (olds pairs)) (shown_from q (over (shown_at q s.1.1) None) (news pairs)) ≡ noted_from q (over (noted_at q (shown_at q s.1.0) (shown_at q s.1.1)) None) pairs
    by true inside rest =
        let others = silent-others homes q s.0 pairs inside at.1 apart.0 in
        (λ i. noted_at q ((old-silent q (over (shown_at q s.1.0) None) pairs others ∙ over-none (shown_at q s.1.0)) i) ((new-silent q (over (shown_at q s.1.1) None) pairs others ∙ over-none (shown_at q s.1.1)) i))
        ∙ sym (noted-silent q (over (noted_at q (shown_at q s.1.0) (shown_at q s.1.1)) None) pairs others ∙ over-none (noted_at q (shown_at q s.1.0) (shown_at q s.1.1)))
    by false out rest =
        let none = silent homes q s at.0 out in
        (λ i. noted_at q (shown_from q (over (none.old i) None) (olds pairs)) (shown_from q (over (none.new i) None) (news pairs)))
        ∙ rest
        ∙ (λ i. noted_from q (over (noted_at q (sym none.old i) (sym none.new i)) None) pairs)

in_order-olds : (homes : List Labels) (pairs : List HomePair) → ArePairsAtHome homes pairs → AllByRecursion (λ s. InOrder s) (olds pairs)
in_order-olds homes [] at = tt
in_order-olds homes (s ∷ pairs) at = (set-in_order s.1.0 at.0.old.set, in_order-olds homes pairs at.1)

in_order-news : (homes : List Labels) (pairs : List HomePair) → ArePairsAtHome homes pairs → AllByRecursion (λ s. InOrder s) (news pairs)
in_order-news homes [] at = tt
in_order-news homes (s ∷ pairs) at = (set-in_order s.1.1 at.0.new.set, in_order-news homes pairs at.1)

pub changes-pairs : (homes : List Labels) (pairs : List HomePair) → ArePairsAtHome homes pairs → IsDistinct share_a_name (map (λ (s : HomePair). s.0) pairs) → changes (united [] (olds pairs)) (united [] (news pairs)) ≡ gathered (each_of pairs)
changes-pairs homes pairs at apart =
    sym (unkeyed (changes old new))
    ∙ ap (λ (rows : Rows Changed). map (λ (e : Key × Changed). e.1) rows) (same_maps (keyed (changes old new)) (fold with_change [] (all_of pairs)) rising (rising-fold (all_of pairs) [] tt) same)
  where
    old : RecordSet
    old = united [] (olds pairs)

    new : RecordSet
    new = united [] (news pairs)

    rising : Rising (keyed (changes old new))
    rising = subst T (sym (rising-keyed old new (listed old new))) (in_order-only (λ key. not (shown_the_same (shown_at key old) (shown_at key new))) (union old new) (in_order-union old new (in_order-united [] (olds pairs) tt)))

    same : (q : Key) → row_at q (keyed (changes old new)) ≡ row_at q (fold with_change [] (all_of pairs))
    same q =
        row_at-changes q old new
        ∙ (λ i. noted_at q (shown-united q [] (olds pairs) (in_order-olds homes pairs at) i) (shown-united q [] (news pairs) (in_order-news homes pairs at) i))
        ∙ noted-one homes q pairs at apart
        ∙ sym (noted-gathered q [] pairs)
