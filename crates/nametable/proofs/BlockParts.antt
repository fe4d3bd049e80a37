-- Tables by name: what a change of some nodes that stand together makes of all of them.
use Rattle.std.proofs.Common.{◌≡◌, ℕ, ◌+◌, ◌%◌, ◌^◌, ◌≤◌, Bool, true, false, cond, T, [], ◌∷◌, ◌++◌, length, Option, Some, None, is_some, Result, Ok, Err, inl, inr, Ordering, Less, Equal, Greater, refl, sym, ap, subst, ◌∙◌, arith}
use Rattle.std.specs.Prelude.{IsTrue}
use Rattle.std.specs.Result.{IfOk, OnOk, OnErr}
use Rattle.std.specs.Ordering.{is_lt, is_eq, ordering_then, ordering_reverse}
use Rattle.std.specs.List.{AllByRecursion, filter}
use Rattle.std.specs.FinMap.Entries.{below_all, is_sorted}
use Rattle.std.proofs.lemmas.List.{append_assoc, length-append}
use Rattle.std.proofs.lemmas.List.Elements.{filter-append}
use Rattle.dnsname.specs.Names.{Labels}
use Rattle.rrset.specs.Records.{key_cmp, same_key}
use Rattle.rrset.specs.KeyedRows.{Rows, put_row, without_rows, row_at}
use Rattle.rrset.specs.Tables.{TableState}
use Rattle.rrset.specs.declared.record.Key.{Key}
use Rattle.rrset.proofs.Places.{and_left, and_right, and_both}
use Rattle.nametable.specs.Nodes.{Node, Nodes, name_cmp, table_at, all_rows, IsNode, AreNodes, room_at, spare_of, names_in, has_rows}
use Rattle.nametable.specs.Blocks.{AreLess, AreGreater, HaveNames, AddsNoOther}
use Rattle.nametable.proofs.RisingRows.{is_T, is_true}
use Rattle.nametable.proofs.AllRows.{name_cmp_total, same_names, row_at-all_rows, value_in, table_at-below}
use Rattle.nametable.proofs.NodeChanges.{TakesKey, DropsKey, KeepsRows}
use Rattle.nametable.proofs.Between.{all-append, all-front, all-back, all-to, KeysBefore, KeysBehind, put-between, find-between, find-append, without-between}

turned_less : (r s : Ordering) → s ≡ ordering_reverse r → r ≡ Less → s ≡ Greater
turned_less r s is e = is ∙ ap ordering_reverse e

turned_greater : (r s : Ordering) → s ≡ ordering_reverse r → r ≡ Greater → s ≡ Less
turned_greater r s is e = is ∙ ap ordering_reverse e

less_first : (a b : Ordering) → a ≡ Less → ordering_then a b ≡ Less
less_first Less b e = refl
less_first Equal b e = cc
less_first Greater b e = cc

greater_first : (a b : Ordering) → a ≡ Greater → ordering_then a b ≡ Greater
greater_first Less b e = cc
greater_first Equal b e = cc
greater_first Greater b e = refl

tied : (r : Ordering) → is_eq r ≡ true → r ≡ Equal
tied Less e = cc
tied Equal e = refl
tied Greater e = cc

module _ {X : Type 0} where
  -- ---- names in order

  below-append : (n : Labels) (xs ys : Nodes X) → T (below_all name_cmp n xs) → T (below_all name_cmp n ys) → T (below_all name_cmp n (xs ++ ys))
  below-append n [] ys h g = g
  below-append n (x ∷ xs) ys h g = and_both _ _ (and_left _ _ h) (below-append n xs ys (and_right _ _ h) g)

  pub below-front : (n : Labels) (xs ys : Nodes X) → T (below_all name_cmp n (xs ++ ys)) → T (below_all name_cmp n xs)
  below-front n [] ys h = tt
  below-front n (x ∷ xs) ys h = and_both _ _ (and_left _ _ h) (below-front n xs ys (and_right _ _ h))

  pub below-back : (n : Labels) (xs ys : Nodes X) → T (below_all name_cmp n (xs ++ ys)) → T (below_all name_cmp n ys)
  below-back n [] ys h = h
  below-back n (x ∷ xs) ys h = below-back n xs ys (and_right _ _ h)

  below-names : (n : Labels) (ns : Nodes X) → T (below_all name_cmp n ns) → HaveNames (λ m. is_lt (name_cmp n m)) ns
  below-names n [] h = tt
  below-names n (g ∷ ns) h = (is_true _ (and_left _ _ h), below-names n ns (and_right _ _ h))

  names-below : (n : Labels) (ns : Nodes X) → HaveNames (λ m. is_lt (name_cmp n m)) ns → T (below_all name_cmp n ns)
  names-below n [] h = tt
  names-below n (g ∷ ns) h = and_both _ _ (is_T _ h.0) (names-below n ns h.1)

  sorted-front : (xs ys : Nodes X) → T (is_sorted name_cmp (xs ++ ys)) → T (is_sorted name_cmp xs)
  sorted-front [] ys h = tt
  sorted-front (x ∷ xs) ys h = and_both _ _ (below-front x.0 xs ys (and_left _ _ h)) (sorted-front xs ys (and_right _ _ h))

  pub sorted-back : (xs ys : Nodes X) → T (is_sorted name_cmp (xs ++ ys)) → T (is_sorted name_cmp ys)
  sorted-back [] ys h = h
  sorted-back (x ∷ xs) ys h = sorted-back xs ys (and_right _ _ h)

  -- each of the first is less than all others
  pub apart : (xs ys : Nodes X) → T (is_sorted name_cmp (xs ++ ys)) → HaveNames (λ m. below_all name_cmp m ys) xs
  apart [] ys h = tt
  apart (x ∷ xs) ys h = (is_true _ (below-back x.0 xs ys (and_left _ _ h)), apart xs ys (and_right _ _ h))

  sorted-append : (xs ys : Nodes X) → T (is_sorted name_cmp xs) → T (is_sorted name_cmp ys) → HaveNames (λ m. below_all name_cmp m ys) xs → T (is_sorted name_cmp (xs ++ ys))
  sorted-append [] ys h g all = g
  sorted-append (x ∷ xs) ys h g all = and_both _ _ (below-append x.0 xs ys (and_left _ _ h) (is_T _ all.0)) (sorted-append xs ys (and_right _ _ h) g all.1)

  pub nodes-front : (xs ys : Nodes X) → AreNodes (xs ++ ys) → AreNodes xs
  nodes-front xs ys are = (is_true _ (sorted-front xs ys (is_T _ are.0)), all-front IsNode xs ys are.1)

  pub nodes-back : (xs ys : Nodes X) → AreNodes (xs ++ ys) → AreNodes ys
  nodes-back xs ys are = (is_true _ (sorted-back xs ys (is_T _ are.0)), all-back IsNode xs ys are.1)

  greater-below : (name : Labels) (ns : Nodes X) → AreGreater name ns → T (below_all name_cmp name ns)
  greater-below name [] h = tt
  greater-below name (g ∷ ns) h = and_both _ _ (is_T _ (ap is_lt (turned_greater (name_cmp g.0 name) (name_cmp name g.0) (name_cmp_total.antisymm name g.0) h.0))) (greater-below name ns h.1)

  module _ (name : Labels) (here new behind : Nodes X) (adds : AddsNoOther name here new) (greater : AreGreater name behind) where
    sorted-new : T (is_sorted name_cmp (here ++ behind)) → T (is_sorted name_cmp new) → T (is_sorted name_cmp (new ++ behind))
    sorted-new h will =
        sorted-append new behind will (sorted-back here behind h)
        (adds.names (λ m. below_all name_cmp m behind) (is_true _ (greater-below name behind greater)) (apart here behind h))

    below-new : (n : Labels) → name_cmp n name ≡ Less → T (below_all name_cmp n (here ++ behind)) → T (below_all name_cmp n (new ++ behind))
    below-new n less h =
        below-append n new behind (names-below n new (adds.names (λ m. is_lt (name_cmp n m)) (ap is_lt less) (below-names n here (below-front n here behind h)))) (below-back n here behind h)

    before-new : (before : Nodes X) → AreLess name before → HaveNames (λ m. below_all name_cmp m (here ++ behind)) before → HaveNames (λ m. below_all name_cmp m (new ++ behind)) before
    before-new [] less h = tt
    before-new (g ∷ ns) less h = (is_true _ (below-new g.0 less.0 (is_T _ h.0)), before-new ns less.1 h.1)

    pub nodes-between : (before : Nodes X) → AreLess name before → AreNodes (before ++ (here ++ behind)) → AreNodes new → AreNodes (before ++ (new ++ behind))
    nodes-between before less are will =
        let sorted = is_T _ are.0 in
        let rest = all-back IsNode before (here ++ behind) are.1 in (
          is_true _ (sorted-append before (new ++ behind) (sorted-front before (here ++ behind) sorted) (sorted-new (sorted-back before (here ++ behind) sorted) (is_T _ will.0))
              (before-new before less (apart before (here ++ behind) sorted))),
          all-append IsNode before (new ++ behind) (all-front IsNode before (here ++ behind) are.1) (all-append IsNode new behind will.1 (all-back IsNode here behind rest)),
        )

  -- ---- all rows

  pub all_rows-append : (xs ys : Nodes X) → all_rows (xs ++ ys) ≡ all_rows xs ++ all_rows ys
  all_rows-append [] ys = refl
  all_rows-append (g ∷ ns) ys = ap (λ (l : Rows X). g.1.rows ++ l) (all_rows-append ns ys) ∙ sym (append_assoc g.1.rows (all_rows ns) (all_rows ys))

  all_rows-between : (before here behind : Nodes X) → all_rows (before ++ (here ++ behind)) ≡ all_rows before ++ (all_rows here ++ all_rows behind)
  all_rows-between before here behind = all_rows-append before (here ++ behind) ∙ ap (λ (l : Rows X). all_rows before ++ l) (all_rows-append here behind)

  keys-before : (key : Key) (ns : Nodes X) → AreLess key.owner ns → AllByRecursion IsNode ns → KeysBefore key_cmp key (all_rows ns)
  keys-before key [] less are = tt
  keys-before key (g ∷ ns) less are =
      let turned = turned_less (name_cmp g.0 key.owner) (name_cmp key.owner g.0) (name_cmp_total.antisymm key.owner g.0) less.0 in
      all-append (λ (e : Key × X). key_cmp key e.0 ≡ Greater) g.1.rows (all_rows ns)
      (all-to (λ (e : Key × X). e.0.owner ≡ g.0) (λ (e : Key × X). key_cmp key e.0 ≡ Greater) (λ e own. greater_first (name_cmp key.owner e.0.owner) _ (ap (name_cmp key.owner) own ∙ turned)) g.1.rows are.0.2)
      (keys-before key ns less.1 are.1)

  keys-behind : (key : Key) (ns : Nodes X) → AreGreater key.owner ns → AllByRecursion IsNode ns → KeysBehind key_cmp key (all_rows ns)
  keys-behind key [] greater are = tt
  keys-behind key (g ∷ ns) greater are =
      let turned = turned_greater (name_cmp g.0 key.owner) (name_cmp key.owner g.0) (name_cmp_total.antisymm key.owner g.0) greater.0 in
      all-append (λ (e : Key × X). key_cmp key e.0 ≡ Less) g.1.rows (all_rows ns)
      (all-to (λ (e : Key × X). e.0.owner ≡ g.0) (λ (e : Key × X). key_cmp key e.0 ≡ Less) (λ e own. less_first (name_cmp key.owner e.0.owner) _ (ap (name_cmp key.owner) own ∙ turned)) g.1.rows are.0.2)
      (keys-behind key ns greater.1 are.1)

  -- ---- the table of a name, and room

  pub table-between : (name : Labels) (before here behind : Nodes X) → AreLess name before → AreGreater name behind → table_at name (before ++ (here ++ behind)) ≡ table_at name here
  table-between name before here behind less greater =
      find-between name_cmp name before here behind
      (all-to (λ (g : Node X). name_cmp g.0 name ≡ Less) (λ (g : Node X). name_cmp name g.0 ≡ Greater) (λ g e. turned_less (name_cmp g.0 name) (name_cmp name g.0) (name_cmp_total.antisymm name g.0) e) before less)
      (all-to (λ (g : Node X). name_cmp g.0 name ≡ Greater) (λ (g : Node X). name_cmp name g.0 ≡ Less) (λ g e. turned_greater (name_cmp g.0 name) (name_cmp name g.0) (name_cmp_total.antisymm name g.0) e) behind greater)

  -- a name among the first isn't among the others
  once : (name : Labels) (table : TableState X) (xs ys : Nodes X) → T (is_sorted name_cmp (xs ++ ys)) → table_at name xs ≡ Some table → table_at name ys ≡ None
  once name table [] ys h found = cc
  once name table (x ∷ xs) ys h found = by (is_eq (name_cmp name x.0)) refl found (λ later. once name table xs ys (and_right _ _ h) later)
    where
      by : (b : Bool) → is_eq (name_cmp name x.0) ≡ b → cond b (Some x.1) (table_at name xs) ≡ Some table → (table_at name xs ≡ Some table → table_at name ys ≡ None) → table_at name ys ≡ None
      by true e here later = table_at-below name x.0 ys (same_names name x.0 (tied _ e)) (below-back x.0 xs ys (and_left _ _ h))
      by false e here later = later here

  -- where the first have no less room at a name, all have no less
  room-behind : (other : Labels) (here new behind : Nodes X) → T (is_sorted name_cmp (new ++ behind)) → room_at here other ≤ room_at new other → room_at (here ++ behind) other ≤ room_at (new ++ behind) other
  room-behind other here new behind sorted more =
      let was = ap spare_of (find-append name_cmp other here behind) in
      let now = ap spare_of (find-append name_cmp other new behind) in
      let step = by (table_at other here) (table_at other new) more (λ table is. once other table new behind sorted is) refl in
      omega (arith, was, now, step)
    where
      by : (o p : Option (TableState X)) → spare_of o ≤ spare_of p → ((table : TableState X) → table_at other new ≡ Some table → table_at other behind ≡ None) → table_at other new ≡ p
          → spare_of (elim o [ None ↦ table_at other behind | Some table ↦ Some table ]) ≤ spare_of (elim p [ None ↦ table_at other behind | Some table ↦ Some table ])
      by None None more once is = omega arith
      by None (Some table) more once is = let none = ap spare_of (once table is) in omega (arith, none)
      by (Some table) None more once is = omega (arith, more)
      by (Some table) (Some later) more once is = more

  room-between : (other : Labels) (before here new behind : Nodes X) → T (is_sorted name_cmp (new ++ behind)) → room_at here other ≤ room_at new other
      → room_at (before ++ (here ++ behind)) other ≤ room_at (before ++ (new ++ behind)) other
  room-between other before here new behind sorted more =
      let was = ap spare_of (find-append name_cmp other before (here ++ behind)) in
      let now = ap spare_of (find-append name_cmp other before (new ++ behind)) in
      let step = by (table_at other before) (room-behind other here new behind sorted more) in
      omega (arith, was, now, step)
    where
      by : (o : Option (TableState X)) → room_at (here ++ behind) other ≤ room_at (new ++ behind) other
          → spare_of (elim o [ None ↦ table_at other (here ++ behind) | Some table ↦ Some table ]) ≤ spare_of (elim o [ None ↦ table_at other (new ++ behind) | Some table ↦ Some table ])
      by None rest = rest
      by (Some table) rest = omega arith

  -- ---- how many names have rows

  names-append : (xs ys : Nodes X) → names_in (xs ++ ys) ≡ names_in xs + names_in ys
  names-append xs ys = ap length (filter-append has_rows xs ys) ∙ length-append (filter has_rows xs) (filter has_rows ys)

  pub names-between : (names now : ℕ) (before here new behind : Nodes X)
      → ((others : ℕ) → names ≡ (others + names_in here) % 2 ^ 64 → now ≡ (others + names_in new) % 2 ^ 64)
      → names ≡ names_in (before ++ (here ++ behind)) % 2 ^ 64 → now ≡ names_in (before ++ (new ++ behind)) % 2 ^ 64
  names-between names now before here new behind step is =
      let old_all = names-append before (here ++ behind) in
      let old_back = names-append here behind in
      let new_all = names-append before (new ++ behind) in
      let new_back = names-append new behind in
      let after = step (names_in before + names_in behind) (omega (arith, is, old_all, old_back)) in
      omega (arith, after, new_all, new_back)

  -- ---- changes

  module _ (key : Key) (before here new behind : Nodes X) (are : AreNodes (before ++ (here ++ behind))) (less : AreLess key.owner before) (greater : AreGreater key.owner behind)
      (adds : AddsNoOther key.owner here new) (will : AreNodes new) where
    all_are : AreNodes (before ++ (new ++ behind))
    all_are = nodes-between key.owner here new behind adds greater before less are will

    here_are : AreNodes here
    here_are = nodes-front here behind (nodes-back before (here ++ behind) are)

    sorted_back : T (is_sorted name_cmp (new ++ behind))
    sorted_back = sorted-back before (new ++ behind) (is_T _ all_are.0)

    shown : row_at key (all_rows (before ++ (here ++ behind))) ≡ row_at key (all_rows here)
    shown = row_at-all_rows key (before ++ (here ++ behind)) are ∙ ap (value_in key) (table-between key.owner before here behind less greater) ∙ sym (row_at-all_rows key here here_are)

    keys_before : KeysBefore key_cmp key (all_rows before)
    keys_before = keys-before key before less (all-front IsNode before (here ++ behind) are.1)

    keys_behind : KeysBehind key_cmp key (all_rows behind)
    keys_behind = keys-behind key behind greater (all-back IsNode here behind (all-back IsNode before (here ++ behind) are.1))

    pub takes_between : {E : Type 0} (value : X) (r : Result (Option X) E) → TakesKey key value here new r → TakesKey key value (before ++ (here ++ behind)) (before ++ (new ++ behind)) r
    takes_between {E} value r takes = record {
      are = all_are;
      value_before = told r takes.value_before;
      rows = after r takes.rows;
      none = unchanged r takes.none;
      succeeds = λ either. takes.succeeds (elim either [
        | inl more ↦ inl (subst (λ (n : ℕ). 1 ≤ n) room_here more)
        | inr there ↦ inr (subst (λ (o : Option X). IsTrue (is_some o)) shown there)
      ]);
      here = let was = room_here in let now = ap spare_of (table-between key.owner before new behind less greater) in let step = takes.here in omega (arith, was, now, step);
      others = λ name unlike. room-between name before here new behind sorted_back (takes.others name unlike);
      kept = λ there.
          let more = takes.kept (subst (λ (o : Option X). IsTrue (is_some o)) shown there) in
          let was = room_here in
          let now = ap spare_of (table-between key.owner before new behind less greater) in
          omega (arith, was, now, more);
    }
      where
        room_here : room_at (before ++ (here ++ behind)) key.owner ≡ room_at here key.owner
        room_here = ap spare_of (table-between key.owner before here behind less greater)

        told : (r : Result (Option X) E) → IfOk r (λ o. o ≡ row_at key (all_rows here)) → IfOk r (λ o. o ≡ row_at key (all_rows (before ++ (here ++ behind))))
        told (Ok b) is = is ∙ sym shown
        told (Err e) is = tt

        after : (r : Result (Option X) E) → OnOk r (all_rows new ≡ put_row key value (all_rows here)) → OnOk r (all_rows (before ++ (new ++ behind)) ≡ put_row key value (all_rows (before ++ (here ++ behind))))
        after (Ok b) rows =
            all_rows-between before new behind
            ∙ ap (λ (l : Rows X). all_rows before ++ (l ++ all_rows behind)) rows
            ∙ sym (put-between key_cmp key value (all_rows before) (all_rows here) (all_rows behind) keys_before keys_behind)
            ∙ ap (put_row key value) (sym (all_rows-between before here behind))
        after (Err e) rows = tt

        unchanged : (r : Result (Option X) E) → OnErr r (all_rows new ≡ all_rows here) → OnErr r (all_rows (before ++ (new ++ behind)) ≡ all_rows (before ++ (here ++ behind)))
        unchanged (Ok b) rows = tt
        unchanged (Err e) rows = all_rows-between before new behind ∙ ap (λ (l : Rows X). all_rows before ++ (l ++ all_rows behind)) rows ∙ sym (all_rows-between before here behind)

    pub drops_between : (result : Option X) → DropsKey key here new result → DropsKey key (before ++ (here ++ behind)) (before ++ (new ++ behind)) result
    drops_between result drops = record {
      are = all_are;
      value_before = drops.value_before ∙ sym shown;
      rows =
          all_rows-between before new behind
          ∙ ap (λ (l : Rows X). all_rows before ++ (l ++ all_rows behind)) drops.rows
          ∙ sym (without-between key_cmp key (all_rows before) (all_rows here) (all_rows behind) keys_before keys_behind)
          ∙ ap (without_rows (same_key key)) (sym (all_rows-between before here behind));
      room = λ name. room-between name before here new behind sorted_back (drops.room name);
      freed = λ there.
          let more = drops.freed (subst (λ (o : Option X). IsTrue (is_some o)) shown there) in
          let was = ap spare_of (table-between key.owner before here behind less greater) in
          let now = ap spare_of (table-between key.owner before new behind less greater) in
          omega (arith, was, now, more);
    }

  pub keeps_between : (name : Labels) (before here new behind : Nodes X) → AreNodes (before ++ (here ++ behind)) → AreLess name before → AreGreater name behind → AddsNoOther name here new
      → KeepsRows name here new → KeepsRows name (before ++ (here ++ behind)) (before ++ (new ++ behind))
  keeps_between name before here new behind are less greater adds keeps =
      let will : AreNodes (before ++ (new ++ behind)) = nodes-between name here new behind adds greater before less are keeps.are in
      record {
        are = will;
        rows = all_rows-between before new behind ∙ ap (λ (l : Rows X). all_rows before ++ (l ++ all_rows behind)) keeps.rows ∙ sym (all_rows-between before here behind);
        room = λ other. room-between other before here new behind (sorted-back before (new ++ behind) (is_T _ will.0)) (keeps.room other);
      }
