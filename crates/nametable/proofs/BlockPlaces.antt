-- Tables by name: the block of a name, and all nodes after a change of it.
use Rattle.std.proofs.Common.{◌≡◌, ℕ, zero, suc, ◌+◌, ◌-◌, ◌%◌, ◌^◌, ◌≤◌, ◌<◌, Bool, true, false, T, [], ◌∷◌, ◌++◌, length, get_or, set, take, drop, Option, Result, Ordering, Less, Equal, Greater, refl, sym, ap, subst, ◌∙◌, arith}
use Rattle.std.proofs.lemmas.List.{append_assoc}
use Rattle.std.specs.Ordering.{is_lt, is_le, ordering_reverse}
use Rattle.std.specs.List.{AllWithin, insert}
use Rattle.std.specs.List.Sorted.{IsPartitionedBy, IsPartitionPoint}
use Rattle.std.specs.FinMap.Entries.{below_all, is_sorted}
use Rattle.dnsname.specs.Names.{Labels}
use Rattle.rrset.specs.declared.record.Key.{Key}
use Rattle.rrset.proofs.Places.{and_left, and_right}
use Rattle.rrset.specs.KeyedRows.{row_at}
use Rattle.nametable.specs.Nodes.{Node, Nodes, all_rows, name_cmp, table_at, room_at, spare_of, AreNodes, names_in}
use Rattle.nametable.specs.Blocks.{Blocks, nodes_in, AreFilled, AreBlocks, begins_by, AreLess, AreGreater, HaveNames, IsBehind, IsBlockOf, AddsNoOther}
use Rattle.nametable.proofs.RisingRows.{is_T}
use Rattle.nametable.proofs.AllRows.{name_cmp_total, row_at-all_rows, same_names, value_in}
use Rattle.nametable.proofs.NodeChanges.{TakesKey, DropsKey, KeepsRows}
use Rattle.nametable.proofs.Between.{all-append, all-back}
use Rattle.nametable.proofs.BlockParts.{below-front, below-back, sorted-back, apart, nodes-front, nodes-back, table-between, names-between, takes_between, drops_between, keeps_between}

less : (r : Ordering) → T (is_lt r) → r ≡ Less
less Less h = refl
less Equal h = absurd h
less Greater h = absurd h

less_to : (a b c : Labels) → name_cmp a b ≡ Less → (r : Ordering) → name_cmp b c ≡ r → is_le r ≡ true → name_cmp a c ≡ Less
less_to a b c h Less e is = name_cmp_total.trans a b c h e
less_to a b c h Equal e is = subst (λ (l : Labels). name_cmp a l ≡ Less) (same_names b c e) h
less_to a b c h Greater e is = cc

greater_not : (r : Ordering) → is_le r ≡ false → r ≡ Greater
greater_not Less e = cc
greater_not Equal e = cc
greater_not Greater e = refl

greater_from : (a b c : Labels) → name_cmp a c ≡ Greater → name_cmp a b ≡ Less → name_cmp b c ≡ Greater
greater_from a b c h g =
    let turned : name_cmp c a ≡ Less = name_cmp_total.antisymm c a ∙ ap ordering_reverse h in
    name_cmp_total.antisymm b c ∙ ap ordering_reverse (name_cmp_total.trans c a b turned g)

not-true : (b : Bool) → (b ≡ true → false ≡ true) → b ≡ false
not-true false h = refl
not-true true h = sym (h refl)

module _ {X : Type 0} where
  -- ---- the block of a name

  -- what is less than all nodes is less than a name by which a block begins
  first-reaches : (n name : Labels) (b : Nodes X) → 0 < length b → T (below_all name_cmp n b) → begins_by name b ≡ true → name_cmp n name ≡ Less
  first-reaches n name [] some below begins = absurd (omega (arith, some))
  first-reaches n name (g ∷ gs) some below begins = less_to n g.0 name (less _ (and_left _ _ below)) (name_cmp g.0 name) refl begins

  reaches : (n name : Labels) (bs : Blocks X) (j : ℕ) (d : Nodes X) → T (below_all name_cmp n (nodes_in bs)) → AreFilled bs → j < length bs → begins_by name (get_or bs j d) ≡ true → name_cmp n name ≡ Less
  reaches n name [] j d below filled within begins = absurd (omega (arith, within))
  reaches n name (b ∷ bs) zero d below filled within begins = first-reaches n name b filled.0 (below-front n b (nodes_in bs) below) begins
  reaches n name (b ∷ bs) (suc j) d below filled within begins = reaches n name bs j d (below-back n b (nodes_in bs) below) filled.1 (omega (arith, within)) begins

  begins-before : (name : Labels) (b : Nodes X) (bs : Blocks X) (j : ℕ) (d : Nodes X) → T (is_sorted name_cmp (b ++ nodes_in bs)) → AreFilled bs → j < length bs → begins_by name (get_or bs j d) ≡ true → begins_by name b ≡ true
  begins-before name [] bs j d sorted filled within begins = refl
  begins-before name (g ∷ gs) bs j d sorted filled within begins = ap is_le (reaches g.0 name bs j d (below-back g.0 gs (nodes_in bs) (and_left _ _ sorted)) filled within begins)

  sorted-parted : (name : Labels) (bs : Blocks X) → T (is_sorted name_cmp (nodes_in bs)) → AreFilled bs → IsPartitionedBy (begins_by name) bs
  sorted-parted name [] sorted filled i j d le lt e = absurd (omega (arith, lt))
  sorted-parted name (b ∷ bs) sorted filled zero zero d le lt e = e
  sorted-parted name (b ∷ bs) sorted filled zero (suc j) d le lt e = begins-before name b bs j d sorted filled.1 (omega (arith, lt)) e
  sorted-parted name (b ∷ bs) sorted filled (suc i) zero d le lt e = absurd (omega (arith, le))
  sorted-parted name (b ∷ bs) sorted filled (suc i) (suc j) d le lt e = sorted-parted name bs (sorted-back b (nodes_in bs) sorted) filled.1 i j d (omega (arith, le)) (omega (arith, lt)) e

  pub blocks-parted : (name : Labels) (bs : Blocks X) → AreBlocks bs → IsPartitionedBy (begins_by name) bs
  blocks-parted name bs are = sorted-parted name bs (is_T _ are.0.0) are.1

  less-before : (name : Labels) (bs : Blocks X) (place : ℕ) (d : Nodes X) → T (is_sorted name_cmp (nodes_in bs)) → AreFilled bs → place < length bs → begins_by name (get_or bs place d) ≡ true
      → AreLess name (nodes_in (take place bs))
  less-before name [] place d sorted filled within begins = absurd (omega (arith, within))
  less-before name (b ∷ bs) zero d sorted filled within begins = tt
  less-before name (b ∷ bs) (suc place) d sorted filled within begins =
      all-append (λ (g : Node X). name_cmp g.0 name ≡ Less) b (nodes_in (take place bs)) (each b (apart b (nodes_in bs) sorted))
      (less-before name bs place d (sorted-back b (nodes_in bs) sorted) filled.1 (omega (arith, within)) begins)
    where
      each : (xs : Nodes X) → HaveNames (λ m. below_all name_cmp m (nodes_in bs)) xs → AreLess name xs
      each [] h = tt
      each (g ∷ gs) h = (reaches g.0 name bs place d (is_T _ h.0) filled.1 (omega (arith, within)) begins, each gs h.1)

  greater-above : (n name : Labels) → name_cmp n name ≡ Greater → (ns : Nodes X) → T (below_all name_cmp n ns) → AreGreater name ns
  greater-above n name h [] below = tt
  greater-above n name h (g ∷ gs) below = (greater_from n g.0 name h (less _ (and_left _ _ below)), greater-above n name h gs (and_right _ _ below))

  greater-first : (name : Labels) (b : Nodes X) (bs : Blocks X) → 0 < length b → T (is_sorted name_cmp (b ++ nodes_in bs)) → begins_by name b ≡ false → AreGreater name (b ++ nodes_in bs)
  greater-first name [] bs some sorted begins = absurd (omega (arith, some))
  greater-first name (g ∷ gs) bs some sorted begins =
      let above = greater_not (name_cmp g.0 name) begins in
      (above, greater-above g.0 name above (gs ++ nodes_in bs) (and_left _ _ sorted))

  greater-behind : (name : Labels) (bs : Blocks X) (place : ℕ) → T (is_sorted name_cmp (nodes_in bs)) → AreFilled bs → AllWithin (λ b. begins_by name b ≡ false) bs place (length bs)
      → AreGreater name (nodes_in (drop place bs))
  greater-behind name [] zero sorted filled back = tt
  greater-behind name [] (suc place) sorted filled back = tt
  greater-behind name (b ∷ bs) zero sorted filled back = greater-first name b bs filled.0 sorted (back zero b (omega arith) (omega arith))
  greater-behind name (b ∷ bs) (suc place) sorted filled back =
      greater-behind name bs place (sorted-back b (nodes_in bs) sorted) filled.1 (λ k d low high. back (suc k) d (omega (arith, low)) (omega (arith, high)))

  first-place : (name : Labels) (bs : Blocks X) → 0 < length bs → AreGreater name (nodes_in bs) → IsBlockOf name bs 0
  first-place name [] some greater = absurd (omega (arith, some))
  first-place name (b ∷ bs) some greater = record { within = omega arith; before = tt; behind = all-back (λ (g : Node X). name_cmp g.0 name ≡ Greater) b (nodes_in bs) greater }

  pub place-is : (name : Labels) (bs : Blocks X) (count place : ℕ) → AreBlocks bs → 0 < length bs → count ≤ length bs
      → IsPartitionPoint (λ b. begins_by name b ≡ true) (λ b. begins_by name b ≡ false) bs count → place ≡ count - 1 → IsBlockOf name bs place
  place-is name bs zero place are some within parted is =
      subst (IsBlockOf name bs) (let here : 0 ≡ place = omega (arith, is) in here) (first-place name bs some (greater-behind name bs zero (is_T _ are.0.0) are.1 parted.1))
  place-is name bs (suc count) place are some within parted is =
      subst (IsBlockOf name bs) (let here : count ≡ place = omega (arith, is) in here) (record {
        within = omega (arith, within);
        before = less-before name bs count [] (is_T _ are.0.0) are.1 (omega (arith, within)) (parted.0 count [] (omega arith) (omega arith));
        behind = greater-behind name bs (suc count) (is_T _ are.0.0) are.1 parted.1;
      })

  -- where one block begins behind a name, all behind it do
  behind-all : (name : Labels) (bs : Blocks X) (place : ℕ) → AreBlocks bs → IsBehind name bs (suc place) → AllWithin (λ b. begins_by name b ≡ false) bs (suc place) (length bs)
  behind-all name bs place are behind = λ k d low high.
      not-true (begins_by name (get_or bs k d)) (λ is. sym (behind d (omega (arith, low, high))) ∙ blocks-parted name bs are (suc place) k d low high is)

  pub here-is : (name : Labels) (bs : Blocks X) (place next : ℕ) (d : Nodes X) → AreBlocks bs → place < length bs → next ≡ place + 1 → begins_by name (get_or bs place d) ≡ true
      → IsBehind name bs next → IsBlockOf name bs place
  here-is name bs place next d are within next-is begins behind =
      let is : next ≡ suc place = omega (arith, next-is) in
      record {
        within = within;
        before = less-before name bs place d (is_T _ are.0.0) are.1 within begins;
        behind = greater-behind name bs (suc place) (is_T _ are.0.0) are.1 (behind-all name bs place are (subst (IsBehind name bs) is behind));
      }

  -- ---- the nodes before, in and behind a block

  parts : (bs : Blocks X) (place : ℕ) (d : Nodes X) → place < length bs → nodes_in bs ≡ nodes_in (take place bs) ++ (get_or bs place d ++ nodes_in (drop (suc place) bs))
  parts [] place d within = absurd (omega (arith, within))
  parts (b ∷ bs) zero d within = refl
  parts (b ∷ bs) (suc place) d within =
      ap (λ (l : Nodes X). b ++ l) (parts bs place d (omega (arith, within))) ∙ sym (append_assoc b (nodes_in (take place bs)) (get_or bs place d ++ nodes_in (drop (suc place) bs)))

  parts-set : (bs : Blocks X) (place : ℕ) (new : Nodes X) → place < length bs → nodes_in (set bs place new) ≡ nodes_in (take place bs) ++ (new ++ nodes_in (drop (suc place) bs))
  parts-set [] place new within = absurd (omega (arith, within))
  parts-set (b ∷ bs) zero new within = refl
  parts-set (b ∷ bs) (suc place) new within =
      ap (λ (l : Nodes X). b ++ l) (parts-set bs place new (omega (arith, within))) ∙ sym (append_assoc b (nodes_in (take place bs)) (new ++ nodes_in (drop (suc place) bs)))

  pub filled-at : (bs : Blocks X) (place : ℕ) (d : Nodes X) → AreFilled bs → place < length bs → 0 < length (get_or bs place d)
  filled-at [] place d filled within = absurd (omega (arith, within))
  filled-at (b ∷ bs) zero d filled within = filled.0
  filled-at (b ∷ bs) (suc place) d filled within = filled-at bs place d filled.1 (omega (arith, within))

  filled-set : (bs : Blocks X) (place : ℕ) (new : Nodes X) → AreFilled bs → 0 < length new → AreFilled (set bs place new)
  filled-set [] place new filled some = tt
  filled-set (b ∷ bs) zero new filled some = (some, filled.1)
  filled-set (b ∷ bs) (suc place) new filled some = (filled.0, filled-set bs place new filled.1 some)

  pub filled-changed : (name : Labels) (bs : Blocks X) (place : ℕ) (d new : Nodes X) → AreFilled bs → place < length bs → AddsNoOther name (get_or bs place d) new → AreFilled (set bs place new)
  filled-changed name bs place d new filled within adds = filled-set bs place new filled (adds.filled (filled-at bs place d filled within))

  -- ---- a block changes

  module _ (name : Labels) (bs : Blocks X) (place : ℕ) (d : Nodes X) (are : AreBlocks bs) (at : IsBlockOf name bs place) where
    -- the nodes of the block are nodes
    pub block_are : AreNodes (get_or bs place d)
    block_are =
        nodes-front (get_or bs place d) (nodes_in (drop (suc place) bs))
        (nodes-back (nodes_in (take place bs)) (get_or bs place d ++ nodes_in (drop (suc place) bs)) (subst AreNodes (parts bs place d at.within) are.0))

    pub table_here : table_at name (nodes_in bs) ≡ table_at name (get_or bs place d)
    table_here =
        ap (table_at name) (parts bs place d at.within) ∙ table-between name (nodes_in (take place bs)) (get_or bs place d) (nodes_in (drop (suc place) bs)) at.before at.behind

    pub names_here : (names now : ℕ) (new : Nodes X) → ((others : ℕ) → names ≡ (others + names_in (get_or bs place d)) % 2 ^ 64 → now ≡ (others + names_in new) % 2 ^ 64)
        → names ≡ names_in (nodes_in bs) % 2 ^ 64 → now ≡ names_in (nodes_in (set bs place new)) % 2 ^ 64
    names_here names now new step is =
        names-between names now (nodes_in (take place bs)) (get_or bs place d) new (nodes_in (drop (suc place) bs)) step (is ∙ ap (λ (ns : Nodes X). names_in ns % 2 ^ 64) (parts bs place d at.within))
        ∙ ap (λ (ns : Nodes X). names_in ns % 2 ^ 64) (sym (parts-set bs place new at.within))

    pub keeps_here : (new : Nodes X) → AddsNoOther name (get_or bs place d) new → KeepsRows name (get_or bs place d) new → KeepsRows name (nodes_in bs) (nodes_in (set bs place new))
    keeps_here new adds keeps =
        let before = nodes_in (take place bs) in
        let here = get_or bs place d in
        let behind = nodes_in (drop (suc place) bs) in
        subst (λ (ns : Nodes X). KeepsRows name ns (nodes_in (set bs place new))) (sym (parts bs place d at.within))
        (subst (λ (ms : Nodes X). KeepsRows name (before ++ (here ++ behind)) ms) (sym (parts-set bs place new at.within))
        (keeps_between name before here new behind (subst AreNodes (parts bs place d at.within) are.0) at.before at.behind adds keeps))

    pub room_here : (new : Nodes X) → room_at (nodes_in (set bs place new)) name ≡ room_at new name
    room_here new =
        ap (λ (ns : Nodes X). room_at ns name) (parts-set bs place new at.within)
        ∙ ap spare_of (table-between name (nodes_in (take place bs)) new (nodes_in (drop (suc place) bs)) at.before at.behind)

  -- all rows show of a key what its block does
  pub row_here : (key : Key) (bs : Blocks X) (place : ℕ) (d : Nodes X) → AreBlocks bs → IsBlockOf key.owner bs place → row_at key (all_rows (nodes_in bs)) ≡ row_at key (all_rows (get_or bs place d))
  row_here key bs place d are at =
      row_at-all_rows key (nodes_in bs) are.0 ∙ ap (value_in key) (table_here key.owner bs place d are at) ∙ sym (row_at-all_rows key (get_or bs place d) (block_are key.owner bs place d are at))

  pub takes_here : {E : Type 0} (key : Key) (value : X) (bs : Blocks X) (place : ℕ) (d new : Nodes X) (r : Result (Option X) E) → AreBlocks bs → IsBlockOf key.owner bs place
      → AddsNoOther key.owner (get_or bs place d) new → TakesKey key value (get_or bs place d) new r → TakesKey key value (nodes_in bs) (nodes_in (set bs place new)) r
  takes_here key value bs place d new r are at adds takes =
      let before = nodes_in (take place bs) in
      let here = get_or bs place d in
      let behind = nodes_in (drop (suc place) bs) in
      subst (λ (ns : Nodes X). TakesKey key value ns (nodes_in (set bs place new)) r) (sym (parts bs place d at.within))
      (subst (λ (ms : Nodes X). TakesKey key value (before ++ (here ++ behind)) ms r) (sym (parts-set bs place new at.within))
      (takes_between key before here new behind (subst AreNodes (parts bs place d at.within) are.0) at.before at.behind adds takes.are value r takes))

  pub drops_here : (key : Key) (bs : Blocks X) (place : ℕ) (d new : Nodes X) (result : Option X) → AreBlocks bs → IsBlockOf key.owner bs place
      → AddsNoOther key.owner (get_or bs place d) new → DropsKey key (get_or bs place d) new result → DropsKey key (nodes_in bs) (nodes_in (set bs place new)) result
  drops_here key bs place d new result are at adds drops =
      let before = nodes_in (take place bs) in
      let here = get_or bs place d in
      let behind = nodes_in (drop (suc place) bs) in
      subst (λ (ns : Nodes X). DropsKey key ns (nodes_in (set bs place new)) result) (sym (parts bs place d at.within))
      (subst (λ (ms : Nodes X). DropsKey key (before ++ (here ++ behind)) ms result) (sym (parts-set bs place new at.within))
      (drops_between key before here new behind (subst AreNodes (parts bs place d at.within) are.0) at.before at.behind adds drops.are result drops))

  -- ---- a block is cut in two

  pub nodes-cut : (bs : Blocks X) (place : ℕ) (d front back : Nodes X) → place < length bs → front ++ back ≡ get_or bs place d → nodes_in (insert (set bs place front) (suc place) back) ≡ nodes_in bs
  nodes-cut [] place d front back within is = absurd (omega (arith, within))
  nodes-cut (b ∷ bs) zero d front back within is = sym (append_assoc front back (nodes_in bs)) ∙ ap (λ (l : Nodes X). l ++ nodes_in bs) is
  nodes-cut (b ∷ bs) (suc place) d front back within is = ap (λ (l : Nodes X). b ++ l) (nodes-cut bs place d front back (omega (arith, within)) is)

  filled-insert : (bs : Blocks X) (place : ℕ) (new : Nodes X) → AreFilled bs → 0 < length new → AreFilled (insert bs place new)
  filled-insert bs zero new filled some = (some, filled)
  filled-insert [] (suc place) new filled some = (some, tt)
  filled-insert (b ∷ bs) (suc place) new filled some = (filled.0, filled-insert bs place new filled.1 some)

  pub filled-cut : (bs : Blocks X) (place : ℕ) (front back : Nodes X) → AreFilled bs → 0 < length front → 0 < length back → AreFilled (insert (set bs place front) (suc place) back)
  filled-cut bs place front back filled h g = filled-insert (set bs place front) (suc place) back (filled-set bs place front filled h) g

  pub nodes-cut_at : (old bs new : Blocks X) (place at : ℕ) (here front back : Nodes X) → bs ≡ old → place < length old → front ++ back ≡ here → here ≡ get_or bs place here → at ≡ place + 1
      → new ≡ insert (set bs place front) at back → nodes_in new ≡ nodes_in old
  nodes-cut_at old bs new place at here front back same within halves is at-is new-is =
      let next : at ≡ suc place = omega (arith, at-is) in
      ap nodes_in (new-is ∙ ap (λ (n : ℕ). insert (set bs place front) n back) next)
      ∙ nodes-cut bs place here front back (subst (λ (l : Blocks X). place < length l) (sym same) within) (halves ∙ is)
      ∙ ap nodes_in same
