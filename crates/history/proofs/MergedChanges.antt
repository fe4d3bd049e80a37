-- Changes in key order, merged: what the changes of one list make of the table of another.
--     AreMerged first second all i j      of both lists so many were merged
--     merged-first, merged-second, merged-both, merged-first_ends, merged-second_ends      the steps of a merge
--     takes-first, takes-second, takes-both, first-ends, second-ends      the same of changes by reference
--     gathered-one, gathered-halves      the changes of one plan; of some plans and of those behind them
use Rattle.std.proofs.Common.{◌≡◌, ℕ, zero, suc, ◌+◌, ◌-◌, ◌≤◌, ◌<◌, Bool, true, false, cond, ◌&&◌, T, List, [], ◌∷◌, ◌++◌, length, map, take, drop, get_or, fold, Option, Some, None, Bor, refl, sym, ap, subst, ◌∙◌, append_assoc, arith}
use Rattle.std.specs.Prelude.{flat_map}
use Rattle.std.specs.List.{AllByRecursion}
use Rattle.std.specs.Ordering.{is_lt, ordering_reverse}
use Rattle.std.specs.FinMap.Entries.{by_order, below_all, find-put, is_sorted-put, same_entries}
use Rattle.std.specs.declared.cmp.Ordering.{Ordering}
use Rattle.std.specs.declared.cmp.Ordering.TheVariants.{Less, Equal, Greater}
use Rattle.std.proofs.lemmas.List.{append-nil, at_drop_more, at_drop_all, map-append, length-map, length-drop, get_or-map, drop-map, take_all, take-append-drop}
use Rattle.std.proofs.lemmas.List.Concat.{flat_map-append}
use Rattle.std.proofs.lemmas.List.Sums.{fold-append}
use Rattle.rrset.specs.KeyedRows.{Rows, is_rising, row_at}
use Rattle.rrset.specs.Records.{key_cmp, same_key}
use Rattle.rrset.specs.declared.record.Changed.{Changed}
use Rattle.rrset.specs.declared.record.Key.{Key}
use Rattle.rrset.proofs.KeyOrder.{key_cmp_total, key_cmp-IsAntisymmetric}
use Rattle.rrset.proofs.Places.{and_left, and_right, and_both}
use Rattle.nametable.specs.Nodes.{HaveRisingKeys, rows_after}
use Rattle.linkcache.specs.Plans.{LinkPlan}
use Rattle.history.specs.Gathering.{changed_rows, gathered_rows}
use Rattle.history.specs.Laws.{gathered, with_change}

abbrev Rise : Rows Changed → Type 0
Rise rows = T (is_rising rows)

-- ---- the order of changes

below-after : (k : Key) (cs : List Changed) → below_all key_cmp k (changed_rows cs) ≡ below_all key_cmp k (rows_after cs)
below-after k [] = refl
below-after k (c ∷ cs) = ap (λ b. is_lt (key_cmp k c.key) && b) (below-after k cs)

rising-after : (cs : List Changed) → is_rising (changed_rows cs) ≡ is_rising (rows_after cs)
rising-after [] = refl
rising-after (c ∷ cs) = λ i. below-after c.key cs i && rising-after cs i

pub rows-rise : (cs : List Changed) → HaveRisingKeys cs → Rise (changed_rows cs)
rows-rise cs h = subst T (sym (rising-after cs ∙ h)) tt

pub keys-rise : (cs : List Changed) → Rise (changed_rows cs) → HaveRisingKeys cs
keys-rise cs h = sym (rising-after cs) ∙ true_of (is_rising (changed_rows cs)) h
  where
    true_of : (b : Bool) → T b → b ≡ true
    true_of true h = refl
    true_of false h = absurd h

pub rising-fold : (rows : Rows Changed) (cs : List Changed) → Rise rows → Rise (fold with_change rows cs)
rising-fold rows [] h = h
rising-fold rows (c ∷ cs) h = rising-fold (with_change rows c) cs (is_sorted-put key_cmp key_cmp_total c.key c rows h)

rising-drop : (i : ℕ) (cs : List Changed) → Rise (changed_rows cs) → Rise (changed_rows (drop i cs))
rising-drop zero cs h = h
rising-drop (suc i) [] h = tt
rising-drop (suc i) (c ∷ cs) h = rising-drop i cs (and_right _ _ h)

less : (r : Ordering) → T (is_lt r) → r ≡ Less
less Less h = refl
less Equal h = absurd h
less Greater h = absurd h

is_less : (r : Ordering) → r ≡ Less → T (is_lt r)
is_less r e = subst (λ x. T (is_lt x)) (sym e) tt

below-less : (x y : Key) (cs : List Changed) → key_cmp x y ≡ Less → T (below_all key_cmp y (changed_rows cs)) → T (below_all key_cmp x (changed_rows cs))
below-less x y [] p h = tt
below-less x y (c ∷ cs) p h = and_both _ _ (is_less (key_cmp x c.key) (key_cmp_total.trans x y c.key p (less _ (and_left _ _ h)))) (below-less x y cs p (and_right _ _ h))

-- ---- a row before all changes stays in front

front-stays : (e : Key × Changed) (rows : Rows Changed) (cs : List Changed) → T (below_all key_cmp e.0 (changed_rows cs)) → fold with_change (e ∷ rows) cs ≡ e ∷ fold with_change rows cs
front-stays e rows [] h = refl
front-stays e rows (c ∷ cs) h =
    ap (λ r. fold with_change (by_order r ((c.key, c) ∷ e ∷ rows) ((e.0, c) ∷ rows) (e ∷ with_change rows c)) cs)
    (key_cmp_total.antisymm c.key e.0 ∙ ap ordering_reverse (less _ (and_left _ _ h)))
    ∙ front-stays e (with_change rows c) cs (and_right _ _ h)

rows-alone : (cs : List Changed) → Rise (changed_rows cs) → fold with_change [] cs ≡ changed_rows cs
rows-alone [] h = refl
rows-alone (c ∷ cs) h = front-stays (c.key, c) [] cs (and_left _ _ h) ∙ ap (λ rows. (c.key, c) ∷ rows) (rows-alone cs (and_right _ _ h))

first-goes : (f s : Changed) (fs ss : List Changed) → key_cmp f.key s.key ≡ Less → Rise (changed_rows (s ∷ ss))
    → fold with_change (changed_rows (f ∷ fs)) (s ∷ ss) ≡ (f.key, f) ∷ fold with_change (changed_rows fs) (s ∷ ss)
first-goes f s fs ss p h =
    front-stays (f.key, f) (changed_rows fs) (s ∷ ss) (and_both _ _ (is_less (key_cmp f.key s.key) p) (below-less f.key s.key ss p (and_left _ _ h)))

second-goes : (f s : Changed) (fs ss : List Changed) → key_cmp f.key s.key ≡ Greater → Rise (changed_rows (s ∷ ss))
    → fold with_change (changed_rows (f ∷ fs)) (s ∷ ss) ≡ (s.key, s) ∷ fold with_change (changed_rows (f ∷ fs)) ss
second-goes f s fs ss p h =
    ap (λ r. fold with_change (by_order r ((s.key, s) ∷ changed_rows (f ∷ fs)) ((f.key, s) ∷ changed_rows fs) ((f.key, f) ∷ with_change (changed_rows fs) s)) ss)
    (key_cmp_total.antisymm s.key f.key ∙ ap ordering_reverse p)
    ∙ front-stays (s.key, s) (changed_rows (f ∷ fs)) ss (and_left _ _ h)

both-go : (f s : Changed) (fs ss : List Changed) → key_cmp f.key s.key ≡ Equal → Rise (changed_rows (s ∷ ss))
    → fold with_change (changed_rows (f ∷ fs)) (s ∷ ss) ≡ (s.key, s) ∷ fold with_change (changed_rows fs) ss
both-go f s fs ss p h =
    ap (λ r. fold with_change (by_order r ((s.key, s) ∷ changed_rows (f ∷ fs)) ((f.key, s) ∷ changed_rows fs) ((f.key, f) ∷ with_change (changed_rows fs) s)) ss)
    (key_cmp_total.antisymm s.key f.key ∙ ap ordering_reverse p)
    ∙ ap (λ k. fold with_change ((k, s) ∷ changed_rows fs) ss) (key_cmp-IsAntisymmetric f.key s.key p)
    ∙ front-stays (s.key, s) (changed_rows fs) ss (and_left _ _ h)

-- ---- the steps of a merge

-- of both lists so many were merged: what is left makes the whole
pub record AreMerged (first second all : List Changed) (i j : ℕ) : Type 0 where
  pub taken : i ≤ length first
  pub other : j ≤ length second
  pub first_rise : Rise (changed_rows (drop i first))
  pub second_rise : Rise (changed_rows (drop j second))
  pub whole : changed_rows all ++ fold with_change (changed_rows (drop i first)) (drop j second) ≡ fold with_change (changed_rows first) second

pub merged-begins : (first second : List Changed) → HaveRisingKeys first → HaveRisingKeys second → AreMerged first second [] 0 0
merged-begins first second h g = record {
  taken = omega arith;
  other = omega arith;
  first_rise = rows-rise first h;
  second_rise = rows-rise second g;
  whole = refl;
}

-- one more is put behind those that were merged
one_more : (all now : List Changed) (c : Changed) (left before whole : Rows Changed) → now ≡ all ++ c ∷ [] → before ≡ (c.key, c) ∷ left
    → changed_rows all ++ before ≡ whole → changed_rows now ++ left ≡ whole
one_more all now c left before whole is split so_far =
    ap (λ cs. changed_rows cs ++ left) is
    ∙ ap (λ rows. rows ++ left) (map-append (λ (c : Changed). (c.key, c)) all (c ∷ []))
    ∙ append_assoc (changed_rows all) ((c.key, c) ∷ []) left
    ∙ ap (λ rows. changed_rows all ++ rows) (sym split)
    ∙ so_far

parted : (cs : List Changed) (i : ℕ) (c : Changed) → i < length cs → c ≡ get_or cs i c → drop i cs ≡ c ∷ drop (i + 1) cs
parted cs i c within is = at_drop_more (λ xs. xs) cs i c within ∙ ap (λ x. x ∷ drop (i + 1) cs) (sym is)

pub merged-first : (first second all now : List Changed) (i j : ℕ) (f s : Changed) → i < length first → j < length second → f ≡ get_or first i f → s ≡ get_or second j s → key_cmp f.key s.key ≡ Less
    → now ≡ all ++ f ∷ [] → AreMerged first second all i j → AreMerged first second now (i + 1) j
merged-first first second all now i j f s within_first within_second is_first is_second before is so_far =
    let fs = drop (i + 1) first in
    let ss = drop (j + 1) second in
    let cut = parted first i f within_first is_first in
    let other = parted second j s within_second is_second in
    record {
      taken = omega (arith, within_first);
      other = so_far.other;
      first_rise = and_right _ _ (subst (λ cs. Rise (changed_rows cs)) cut so_far.first_rise);
      second_rise = so_far.second_rise;
      whole = one_more all now f (fold with_change (changed_rows fs) (drop j second)) (fold with_change (changed_rows (drop i first)) (drop j second)) (fold with_change (changed_rows first) second) is
          ((λ k. fold with_change (changed_rows (cut k)) (other k))
          ∙ first-goes f s fs ss before (subst (λ cs. Rise (changed_rows cs)) other so_far.second_rise)
          ∙ ap (λ cs. (f.key, f) ∷ fold with_change (changed_rows fs) cs) (sym other))
          so_far.whole;
    }

pub merged-second : (first second all now : List Changed) (i j : ℕ) (f s : Changed) → i < length first → j < length second → f ≡ get_or first i f → s ≡ get_or second j s → key_cmp f.key s.key ≡ Greater
    → now ≡ all ++ s ∷ [] → AreMerged first second all i j → AreMerged first second now i (j + 1)
merged-second first second all now i j f s within_first within_second is_first is_second behind is so_far =
    let fs = drop (i + 1) first in
    let ss = drop (j + 1) second in
    let cut = parted first i f within_first is_first in
    let other = parted second j s within_second is_second in
    record {
      taken = so_far.taken;
      other = omega (arith, within_second);
      first_rise = so_far.first_rise;
      second_rise = and_right _ _ (subst (λ cs. Rise (changed_rows cs)) other so_far.second_rise);
      whole = one_more all now s (fold with_change (changed_rows (drop i first)) ss) (fold with_change (changed_rows (drop i first)) (drop j second)) (fold with_change (changed_rows first) second) is
          ((λ k. fold with_change (changed_rows (cut k)) (other k))
          ∙ second-goes f s fs ss behind (subst (λ cs. Rise (changed_rows cs)) other so_far.second_rise)
          ∙ ap (λ cs. (s.key, s) ∷ fold with_change (changed_rows cs) ss) (sym cut))
          so_far.whole;
    }

pub merged-both : (first second all now : List Changed) (i j : ℕ) (f s : Changed) → i < length first → j < length second → f ≡ get_or first i f → s ≡ get_or second j s → key_cmp f.key s.key ≡ Equal
    → now ≡ all ++ s ∷ [] → AreMerged first second all i j → AreMerged first second now (i + 1) (j + 1)
merged-both first second all now i j f s within_first within_second is_first is_second same is so_far =
    let fs = drop (i + 1) first in
    let ss = drop (j + 1) second in
    let cut = parted first i f within_first is_first in
    let other = parted second j s within_second is_second in
    record {
      taken = omega (arith, within_first);
      other = omega (arith, within_second);
      first_rise = and_right _ _ (subst (λ cs. Rise (changed_rows cs)) cut so_far.first_rise);
      second_rise = and_right _ _ (subst (λ cs. Rise (changed_rows cs)) other so_far.second_rise);
      whole = one_more all now s (fold with_change (changed_rows fs) ss) (fold with_change (changed_rows (drop i first)) (drop j second)) (fold with_change (changed_rows first) second) is
          ((λ k. fold with_change (changed_rows (cut k)) (other k))
          ∙ both-go f s fs ss same (subst (λ cs. Rise (changed_rows cs)) other so_far.second_rise))
          so_far.whole;
    }

-- the first list is used up, and the rest of the second is put behind those that were merged
pub merged-first_ends : (first second all now : List Changed) (i j : ℕ) → length first ≤ i → now ≡ all ++ drop j second → AreMerged first second all i j
    → changed_rows now ≡ fold with_change (changed_rows first) second
merged-first_ends first second all now i j past is so_far =
    ap changed_rows is
    ∙ map-append (λ (c : Changed). (c.key, c)) all (drop j second)
    ∙ ap (λ rows. changed_rows all ++ rows) (sym (rows-alone (drop j second) so_far.second_rise))
    ∙ ap (λ cs. changed_rows all ++ fold with_change (changed_rows cs) (drop j second)) (sym (at_drop_all (λ (xs : List Changed). xs) first i past))
    ∙ so_far.whole

-- the second list is
pub merged-second_ends : (first second all now : List Changed) (i j : ℕ) → length second ≤ j → now ≡ all ++ drop i first → AreMerged first second all i j
    → changed_rows now ≡ fold with_change (changed_rows first) second
merged-second_ends first second all now i j past is so_far =
    ap changed_rows is
    ∙ map-append (λ (c : Changed). (c.key, c)) all (drop i first)
    ∙ ap (λ cs. changed_rows all ++ fold with_change (changed_rows (drop i first)) cs) (sym (at_drop_all (λ (xs : List Changed). xs) second j past))
    ∙ so_far.whole

-- ---- the same of changes by reference

abbrev pub nows : List (Bor Changed) → List Changed
nows cs = map (λ (c : Bor Changed). c.now) cs

abbrev pub AreMergedSo : (first second all : List (Bor Changed)) (i j : ℕ) → Type 0
AreMergedSo first second all i j = AreMerged (nows first) (nows second) (nows all) i j

within-nows : (cs : List (Bor Changed)) (i : ℕ) → i < length cs → i < length (nows cs)
within-nows cs i within = subst (λ n. i < n) (sym (length-map cs (λ (c : Bor Changed). c.now))) within

pub within-others : (first second all : List (Bor Changed)) (i j : ℕ) → AreMergedSo first second all i j → j ≤ length second
within-others first second all i j so_far = subst (λ n. j ≤ n) (length-map second (λ (c : Bor Changed). c.now)) so_far.other

is-now : (cs : List (Bor Changed)) (i : ℕ) (c : Bor Changed) → i < length cs → c ≡ get_or cs i c → c.now ≡ get_or (nows cs) i c.now
is-now cs i c within is = ap (λ (c : Bor Changed). c.now) is ∙ sym (get_or-map (λ (c : Bor Changed). c.now) cs i c c.now within)

pushed : (all now : List (Bor Changed)) (c : Bor Changed) → now ≡ all ++ c ∷ [] → nows now ≡ nows all ++ c.now ∷ []
pushed all now c is = ap nows is ∙ map-append (λ (c : Bor Changed). c.now) all (c ∷ [])

pub begins : (first second all : List (Bor Changed)) → HaveRisingKeys (nows first) → HaveRisingKeys (nows second) → all ≡ [] → AreMergedSo first second all 0 0
begins first second all h g none = subst (λ cs. AreMergedSo first second cs 0 0) (sym none) (merged-begins (nows first) (nows second) h g)

pub takes-first : (first second all now : List (Bor Changed)) (i j : ℕ) (f s : Bor Changed) (order : Ordering) → i < length first → j < length second → f ≡ get_or first i f → s ≡ get_or second j s
    → order ≡ key_cmp f.now.key s.now.key → order ≡ Less → now ≡ all ++ f ∷ [] → AreMergedSo first second all i j → AreMergedSo first second now (i + 1) j
takes-first first second all now i j f s order within other is_first is_second order_is before is so_far =
    merged-first (nows first) (nows second) (nows all) (nows now) i j f.now s.now (within-nows first i within) (within-nows second j other) (is-now first i f within is_first) (is-now second j s other is_second)
    (sym order_is ∙ before) (pushed all now f is) so_far

pub takes-second : (first second all now : List (Bor Changed)) (i j : ℕ) (f s : Bor Changed) (order : Ordering) → i < length first → j < length second → f ≡ get_or first i f → s ≡ get_or second j s
    → order ≡ key_cmp f.now.key s.now.key → order ≡ Greater → now ≡ all ++ s ∷ [] → AreMergedSo first second all i j → AreMergedSo first second now i (j + 1)
takes-second first second all now i j f s order within other is_first is_second order_is behind is so_far =
    merged-second (nows first) (nows second) (nows all) (nows now) i j f.now s.now (within-nows first i within) (within-nows second j other) (is-now first i f within is_first) (is-now second j s other is_second)
    (sym order_is ∙ behind) (pushed all now s is) so_far

pub takes-both : (first second all now : List (Bor Changed)) (i j : ℕ) (f s : Bor Changed) (order : Ordering) → i < length first → j < length second → f ≡ get_or first i f → s ≡ get_or second j s
    → order ≡ key_cmp f.now.key s.now.key → order ≡ Equal → now ≡ all ++ s ∷ [] → AreMergedSo first second all i j → AreMergedSo first second now (i + 1) (j + 1)
takes-both first second all now i j f s order within other is_first is_second order_is same is so_far =
    merged-both (nows first) (nows second) (nows all) (nows now) i j f.now s.now (within-nows first i within) (within-nows second j other) (is-now first i f within is_first) (is-now second j s other is_second)
    (sym order_is ∙ same) (pushed all now s is) so_far

-- what is put behind is the rest of a list
rest : (cs : List (Bor Changed)) (all now : List (Bor Changed)) (i : ℕ) → now ≡ all ++ take (length cs - i) (drop i cs) → nows now ≡ nows all ++ drop i (nows cs)
rest cs all now i is =
    ap nows (is ∙ ap (λ l. all ++ l) (take_all (length cs - i) (drop i cs) (omega (arith, length-drop i cs)))) ∙ map-append (λ (c : Bor Changed). c.now) all (drop i cs) ∙ ap (λ l. nows all ++ l) (sym (drop-map (λ (c : Bor Changed). c.now) i cs))

pub first-ends : (first second all now : List (Bor Changed)) (i j : ℕ) → length first ≤ i → now ≡ all ++ take (length second - j) (drop j second) → AreMergedSo first second all i j
    → changed_rows (nows now) ≡ fold with_change (changed_rows (nows first)) (nows second)
first-ends first second all now i j past is so_far =
    merged-first_ends (nows first) (nows second) (nows all) (nows now) i j (subst (λ n. n ≤ i) (sym (length-map first (λ (c : Bor Changed). c.now))) past) (rest second all now j is) so_far

pub second-ends : (first second all now : List (Bor Changed)) (i j : ℕ) → length second ≤ j → now ≡ all ++ take (length first - i) (drop i first) → AreMergedSo first second all i j
    → changed_rows (nows now) ≡ fold with_change (changed_rows (nows first)) (nows second)
second-ends first second all now i j past is so_far =
    merged-second_ends (nows first) (nows second) (nows all) (nows now) i j (subst (λ n. n ≤ j) (sym (length-map second (λ (c : Bor Changed). c.now))) past) (rest first all now i is) so_far

-- ---- plans by halves

abbrev or_else : Option Changed → Option Changed → Option Changed
or_else None other = other
or_else (Some c) other = Some c

row_at-fold : (q : Key) (rows : Rows Changed) (cs : List Changed) → row_at q (fold with_change rows cs) ≡ or_else (row_at q (fold with_change [] cs)) (row_at q rows)
row_at-fold q rows [] = refl
row_at-fold q rows (c ∷ cs) =
    row_at-fold q (with_change rows c) cs
    ∙ ap (or_else (row_at q (fold with_change [] cs))) (find-put key_cmp key_cmp_total q c.key c rows)
    ∙ by (same_key q c.key) (row_at q (fold with_change [] cs))
    ∙ ap (λ o. or_else o (row_at q rows)) (sym (row_at-fold q ((c.key, c) ∷ []) cs))
  where
    by : (b : Bool) (o : Option Changed) → or_else o (cond b (Some c) (row_at q rows)) ≡ or_else (or_else o (cond b (Some c) None)) (row_at q rows)
    by true None = refl
    by true (Some d) = refl
    by false None = refl
    by false (Some d) = refl

-- changes and the list of their table make the same of any table
refolded : (rows : Rows Changed) (cs listed : List Changed) → Rise rows → changed_rows listed ≡ fold with_change [] cs → fold with_change rows listed ≡ fold with_change rows cs
refolded rows cs listed h is =
    let rise : Rise (changed_rows listed) = subst Rise (sym is) (rising-fold [] cs tt) in
    same_entries key_cmp key_cmp_total key_cmp-IsAntisymmetric (fold with_change rows listed) (fold with_change rows cs) (rising-fold rows listed h) (rising-fold rows cs h)
    (λ q. row_at-fold q rows listed ∙ ap (λ all. or_else (row_at q all) (row_at q rows)) (rows-alone listed rise ∙ is) ∙ sym (row_at-fold q rows cs))

pub gathered-rise : (ps : List LinkPlan) (cs : List Changed) → changed_rows cs ≡ gathered_rows ps → HaveRisingKeys cs
gathered-rise ps cs is = keys-rise cs (subst Rise (sym is) (rising-fold [] (flat_map (λ changed. changed) (map (λ (p : LinkPlan). p.changed) ps)) tt))

pub gathered-none : (ps : List LinkPlan) (all : List Changed) → length ps ≡ 0 → all ≡ [] → changed_rows all ≡ gathered_rows ps
gathered-none [] all none is = ap changed_rows is
gathered-none (p ∷ ps) all none is = absurd (omega (arith, none))

pub gathered-one : (ps : List LinkPlan) (p : LinkPlan) (all : List Changed) → AllByRecursion (λ p. HaveRisingKeys p.changed) ps → length ps ≡ 1 → p ≡ get_or ps 0 p → all ≡ p.changed → changed_rows all ≡ gathered_rows ps
gathered-one [] p all h one first is = absurd (omega (arith, one))
gathered-one (q ∷ []) p all h one first is =
    ap changed_rows (is ∙ ap (λ (p : LinkPlan). p.changed) first) ∙ sym (rows-alone q.changed (rows-rise q.changed h.0)) ∙ ap (fold with_change []) (sym (append-nil q.changed))
gathered-one (q ∷ r ∷ ps) p all h one first is = absurd (omega (arith, one))

pub gathered-halves : (ps front back : List LinkPlan) (n : ℕ) (first second all : List Changed) → front ≡ take n ps → back ≡ drop n ps → changed_rows first ≡ gathered_rows front → changed_rows second ≡ gathered_rows back
    → changed_rows all ≡ fold with_change (changed_rows first) second → changed_rows all ≡ gathered_rows ps
gathered-halves ps front back n first second all is_front is_back is_first is_second is =
    let changes : List LinkPlan → List Changed = λ ps. flat_map (λ changed. changed) (map (λ (p : LinkPlan). p.changed) ps) in
    is ∙ ap (λ rows. fold with_change rows second) is_first
    ∙ refolded (gathered_rows front) (changes back) second (rising-fold [] (changes front) tt) is_second
    ∙ sym (fold-append with_change [] (changes front) (changes back))
    ∙ ap (fold with_change []) (sym (flat_map-append (λ (changed : List Changed). changed) (map (λ (p : LinkPlan). p.changed) front) (map (λ (p : LinkPlan). p.changed) back)))
    ∙ ap (λ each. fold with_change [] (flat_map (λ changed. changed) each)) (sym (map-append (λ (p : LinkPlan). p.changed) front back))
    ∙ ap gathered_rows ((λ i. is_front i ++ is_back i) ∙ take-append-drop n ps)

unkeyed : (cs : List Changed) → map (λ (e : Key × Changed). e.1) (changed_rows cs) ≡ cs
unkeyed [] = refl
unkeyed (c ∷ cs) = ap (λ l. c ∷ l) (unkeyed cs)

-- the rows are gathered, and their values copied
pub gathered-values : (ps : List LinkPlan) (all copies : List Changed) → changed_rows all ≡ gathered_rows ps → copies ≡ all → copies ≡ gathered (map (λ (p : LinkPlan). p.changed) ps)
gathered-values ps all copies is same = same ∙ sym (unkeyed all) ∙ ap (map (λ (e : Key × Changed). e.1)) is
