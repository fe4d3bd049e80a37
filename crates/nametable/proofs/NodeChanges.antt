-- Tables by name: what each change of one node makes of all rows and of the room.
use Rattle.std.proofs.Common.{◌≡◌, ℕ, zero, suc, ◌+◌, ◌≤◌, ◌<◌, length, ◌∷◌, cond, Ordering, Less, Equal, Greater, Bool, true, false, not, [], get_or, set, Option, None, is_some, Result, Ok, Err, inl, inr, ◌⊎◌, refl, sym, ap, subst, ◌∙◌, arith}
use Rattle.std.specs.Result.{IfOk, OnOk, OnErr, IsOk}
use Rattle.std.specs.Prelude.{IsTrue}
use Rattle.std.specs.Ordering.{is_eq}
use Rattle.std.specs.List.{AllByRecursion, insert}
use Rattle.std.specs.FinMap.Entries.{put as put_entry, by_order}
use Rattle.std.specs.Cmp.{eq_by_cmp_equiv}
use Rattle.dnsname.specs.Names.{Labels, lower}
use Rattle.rrset.specs.Records.{same_key, key_cmp}
use Rattle.rrset.specs.KeyedRows.{Rows, is_rising, put_row, without_rows, row_at}
use Rattle.rrset.specs.Tables.{TableState}
use Rattle.nametable.specs.Blocks.{AddsNoOther}
use Rattle.nametable.specs.Nodes.{Node, Nodes, name_cmp, table_at, all_rows, IsNode, AreNodes, IsNameAt, IsNameGap, room_at, spare_of}
use Rattle.rrset.specs.declared.record.Key.{Key}
use Rattle.rrset.proofs.KeyOrder.{key_cmp-IsAntisymmetric}
use Rattle.rrset.proofs.Places.{all_filter, all_put}
use Rattle.nametable.proofs.RisingRows.{is_T, is_true, rising-put, rising-without, same_maps, row_at-without}
use Rattle.nametable.proofs.AllRows.{nodes-put, rising-all_rows, name_cmp_total, row_at-all_rows, value_in, rows_in, all_rows-put_key, all_rows-without_key, all_rows-same_rows, all_rows-put_name}
use Rattle.nametable.proofs.NodePlaces.{IsFound, put_is, name_gone, room-here, room-other, room-kept}

module _ {X : Type 0} where
  -- ---- one node

  node-put : (key : Key) (value : X) (old new : TableState X) → IsNode (key.owner, old) → new.rows ≡ put_row key value old.rows → IsNode (key.owner, new)
  node-put key value old new one is =
      subst (λ (l : Rows X). (is_rising l ≡ true) × (lower key.owner ≡ key.owner) × AllByRecursion (λ e. e.0.owner ≡ key.owner) l) (sym is)
      (is_true _ (rising-put key value old.rows (is_T _ one.0)), one.1, all_put key_cmp (λ k. k.owner ≡ key.owner) key value old.rows refl one.2)

  node-without : (key : Key) (old new : TableState X) → IsNode (key.owner, old) → new.rows ≡ without_rows (same_key key) old.rows → IsNode (key.owner, new)
  node-without key old new one is =
      subst (λ (l : Rows X). (is_rising l ≡ true) × (lower key.owner ≡ key.owner) × AllByRecursion (λ e. e.0.owner ≡ key.owner) l) (sym is)
      (is_true _ (rising-without (same_key key) old.rows (is_T _ one.0)), one.1, all_filter (λ e. e.0.owner ≡ key.owner) (λ e. not (same_key key e.0)) old.rows one.2)

  node-same : (name : Labels) (old new : TableState X) → IsNode (name, old) → new.rows ≡ old.rows → IsNode (name, new)
  node-same name old new one is =
      subst (λ (l : Rows X). (is_rising l ≡ true) × (lower name ≡ name) × AllByRecursion (λ e. e.0.owner ≡ name) l) (sym is) one

  -- all rows show of a key what its node does
  pub shown_here : (key : Key) (ns : Nodes X) (index : ℕ) (g : Node X) → AreNodes ns → IsFound key.owner ns index g → row_at key (all_rows ns) ≡ row_at key g.1.rows
  shown_here key ns index g are here = row_at-all_rows key ns are ∙ ap (value_in key) here.found

  rows_here : (name : Labels) (ns : Nodes X) (index : ℕ) (g : Node X) → IsFound name ns index g → g.1.rows ≡ rows_in (table_at name ns)
  rows_here name ns index g here = sym (ap rows_in here.found)

  -- ---- a key put

  pub record TakesKey {E : Type 0} (key : Key) (value : X) (ns new : Nodes X) (r : Result (Option X) E) : Type 0 where
    pub are : AreNodes new
    pub value_before : IfOk r (λ before. before ≡ row_at key (all_rows ns))
    pub rows : OnOk r (all_rows new ≡ put_row key value (all_rows ns))
    pub none : OnErr r (all_rows new ≡ all_rows ns)
    pub succeeds : (1 ≤ room_at ns key.owner) ⊎ IsTrue (is_some (row_at key (all_rows ns))) → IsOk r
    pub here : room_at ns key.owner ≤ room_at new key.owner + 1
    pub others : (name : Labels) → is_eq (name_cmp name key.owner) ≡ false → room_at ns name ≤ room_at new name
    pub kept : IsTrue (is_some (row_at key (all_rows ns))) → room_at ns key.owner ≤ room_at new key.owner

  module _ (key : Key) (value : X) (ns : Nodes X) (index : ℕ) (g n : Node X) (are : AreNodes ns) (here : IsFound key.owner ns index g) (same : n.0 ≡ g.0) where
    is : set ns index n ≡ put_entry name_cmp key.owner n.1 ns
    is = put_is key.owner ns index g n here same

    takes_key_put : {E : Type 0} (r : Result (Option X) E) → OnOk r (n.1.rows ≡ put_row key value g.1.rows) → OnErr r (n.1.rows ≡ g.1.rows) → IfOk r (λ before. before ≡ row_at key g.1.rows)
        → ((1 ≤ g.1.spare) ⊎ IsTrue (is_some (row_at key g.1.rows)) → IsOk r) → g.1.spare ≤ n.1.spare + 1 → (IsTrue (is_some (row_at key g.1.rows)) → g.1.spare ≤ n.1.spare)
        → TakesKey key value ns (put_entry name_cmp key.owner n.1 ns) r
    takes_key_put {E} r rows none before succeeds room kept = record {
      are = nodes-put key.owner n.1 ns are (one r rows none);
      value_before = told r before;
      rows = after r rows;
      none = unchanged r none;
      succeeds = λ either. succeeds (elim either [
        | inl more ↦ inl (subst (λ (o : Option (TableState X)). 1 ≤ spare_of o) here.found more)
        | inr there ↦ inr (subst (λ (o : Option X). IsTrue (is_some o)) (shown_here key ns index g are here) there)
      ]);
      here = let was = ap spare_of here.found in let now = room-here key.owner n.1 ns in omega (arith, was, now, room);
      others = λ name unlike. let now = room-other key.owner name n.1 ns unlike in omega (arith, now);
      kept = λ there.
          let more = kept (subst (λ (o : Option X). IsTrue (is_some o)) (shown_here key ns index g are here) there) in
          let was = ap spare_of here.found in
          let now = room-here key.owner n.1 ns in
          omega (arith, was, now, more);
    }
      where
        one : (r : Result (Option X) E) → OnOk r (n.1.rows ≡ put_row key value g.1.rows) → OnErr r (n.1.rows ≡ g.1.rows) → IsNode (key.owner, n.1)
        one (Ok b) rows none = node-put key value g.1 n.1 here.node rows
        one (Err e) rows none = node-same key.owner g.1 n.1 here.node none

        told : (r : Result (Option X) E) → IfOk r (λ before. before ≡ row_at key g.1.rows) → IfOk r (λ before. before ≡ row_at key (all_rows ns))
        told (Ok b) before = before ∙ sym (shown_here key ns index g are here)
        told (Err e) before = tt

        after : (r : Result (Option X) E) → OnOk r (n.1.rows ≡ put_row key value g.1.rows) → OnOk r (all_rows (put_entry name_cmp key.owner n.1 ns) ≡ put_row key value (all_rows ns))
        after (Ok b) rows = all_rows-put_key key value n.1 ns are (node-put key value g.1 n.1 here.node rows) (rows ∙ ap (put_row key value) (rows_here key.owner ns index g here))
        after (Err e) rows = tt

        unchanged : (r : Result (Option X) E) → OnErr r (n.1.rows ≡ g.1.rows) → OnErr r (all_rows (put_entry name_cmp key.owner n.1 ns) ≡ all_rows ns)
        unchanged (Ok b) none = tt
        unchanged (Err e) none = all_rows-same_rows key.owner n.1 ns are (node-same key.owner g.1 n.1 here.node none) (none ∙ rows_here key.owner ns index g here)

    pub takes_key : {E : Type 0} (r : Result (Option X) E) → OnOk r (n.1.rows ≡ put_row key value g.1.rows) → OnErr r (n.1.rows ≡ g.1.rows) → IfOk r (λ before. before ≡ row_at key g.1.rows)
        → ((1 ≤ g.1.spare) ⊎ IsTrue (is_some (row_at key g.1.rows)) → IsOk r) → g.1.spare ≤ n.1.spare + 1 → (IsTrue (is_some (row_at key g.1.rows)) → g.1.spare ≤ n.1.spare)
        → TakesKey key value ns (set ns index n) r
    takes_key r rows none before succeeds room kept = subst (λ (l : Nodes X). TakesKey key value ns l r) (sym is) (takes_key_put r rows none before succeeds room kept)

  -- ---- a key taken out

  pub record DropsKey (key : Key) (ns new : Nodes X) (result : Option X) : Type 0 where
    pub are : AreNodes new
    pub value_before : result ≡ row_at key (all_rows ns)
    pub rows : all_rows new ≡ without_rows (same_key key) (all_rows ns)
    pub room : (name : Labels) → room_at ns name ≤ room_at new name
    pub freed : IsTrue (is_some (row_at key (all_rows ns))) → room_at ns key.owner + 1 ≤ room_at new key.owner

  pub drops_key : (key : Key) (ns : Nodes X) (index : ℕ) (g n : Node X) (result : Option X) → AreNodes ns → IsFound key.owner ns index g → n.0 ≡ g.0
      → result ≡ row_at key g.1.rows → n.1.rows ≡ without_rows (same_key key) g.1.rows → g.1.spare ≤ n.1.spare → (IsTrue (is_some (row_at key g.1.rows)) → g.1.spare + 1 ≤ n.1.spare)
      → DropsKey key ns (set ns index n) result
  drops_key key ns index g n result are here same before rows room freed =
      let one = node-without key g.1 n.1 here.node rows in
      subst (λ (l : Nodes X). DropsKey key ns l result) (sym (put_is key.owner ns index g n here same)) (record {
        are = nodes-put key.owner n.1 ns are one;
        value_before = before ∙ sym (shown_here key ns index g are here);
        rows = all_rows-without_key key n.1 ns are one (rows ∙ ap (without_rows (same_key key)) (rows_here key.owner ns index g here));
        room = room-kept key.owner n.1 ns (let was = ap spare_of here.found in omega (arith, was, room));
        freed = λ there.
            let more = freed (subst (λ (o : Option X). IsTrue (is_some o)) (shown_here key ns index g are here) there) in
            let was = ap spare_of here.found in
            let now = room-here key.owner n.1 ns in
            omega (arith, was, now, more);
      })

  -- ---- room made in a node

  pub record KeepsRows (name : Labels) (ns new : Nodes X) : Type 0 where
    pub are : AreNodes new
    pub rows : all_rows new ≡ all_rows ns
    pub room : (other : Labels) → room_at ns other ≤ room_at new other

  pub keeps_rows : (name : Labels) (ns : Nodes X) (index : ℕ) (g n : Node X) → AreNodes ns → IsFound name ns index g → n.0 ≡ g.0 → n.1.rows ≡ g.1.rows → g.1.spare ≤ n.1.spare
      → KeepsRows name ns (set ns index n)
  keeps_rows name ns index g n are here same rows room =
      let one = node-same name g.1 n.1 here.node rows in
      subst (λ (l : Nodes X). KeepsRows name ns l) (sym (put_is name ns index g n here same)) (record {
        are = nodes-put name n.1 ns are one;
        rows = all_rows-same_rows name n.1 ns are one (rows ∙ rows_here name ns index g here);
        room = room-kept name n.1 ns (let was = ap spare_of here.found in omega (arith, was, room));
      })

  pub room_set : (name : Labels) (ns : Nodes X) (index : ℕ) (g n : Node X) → IsFound name ns index g → n.0 ≡ g.0 → room_at (set ns index n) name ≡ n.1.spare
  room_set name ns index g n here same = ap (λ (l : Nodes X). room_at l name) (put_is name ns index g n here same) ∙ room-here name n.1 ns

  -- ---- a node of a new name

  pub adds_name : (name : Labels) (table : TableState X) (ns : Nodes X) (index : ℕ) → AreNodes ns → lower name ≡ name → IsNameGap name ns index → table.rows ≡ []
      → KeepsRows name ns (insert ns index (name, table))
  adds_name name table ns index are low gap is =
      let gone = name_gone name ns index gap in
      let one : IsNode (name, table) = subst (λ (l : Rows X). (is_rising l ≡ true) × (lower name ≡ name) × AllByRecursion (λ e. e.0.owner ≡ name) l) (sym is) (refl, low, tt) in
      subst (λ (l : Nodes X). KeepsRows name ns l) (gone.puts table) (record {
        are = nodes-put name table ns are one;
        rows = all_rows-put_name name table ns are low gone.none is;
        room = room-kept name table ns (let was = ap spare_of gone.none in omega (arith, was));
      })

  pub room_added : (name : Labels) (table : TableState X) (ns : Nodes X) (index : ℕ) → IsNameGap name ns index → room_at (insert ns index (name, table)) name ≡ table.spare
  room_added name table ns index gap = ap (λ (l : Nodes X). room_at l name) (sym ((name_gone name ns index gap).puts table)) ∙ room-here name table ns

  -- where a name has no node, there is neither room nor a row
  pub no_room : (key : Key) (ns : Nodes X) (index : ℕ) → AreNodes ns → IsNameGap key.owner ns index → (1 ≤ room_at ns key.owner) ⊎ IsTrue (is_some (row_at key (all_rows ns))) → ⊥
  no_room key ns index are gap either =
      let none = (name_gone key.owner ns index gap).none in
      elim either [
        | inl room ↦ (let was = ap spare_of none in omega (arith, was, room))
        | inr there ↦ (let no = ap (λ (o : Option X). is_some o) (row_at-all_rows key ns are ∙ ap (value_in key) none) in absurd cc)
      ]

  -- a key that no node has isn't among all rows
  pub gone : (key : Key) (ns : Nodes X) (index : ℕ) → AreNodes ns → IsNameGap key.owner ns index → row_at key (all_rows ns) ≡ None
  gone key ns index are gap = row_at-all_rows key ns are ∙ ap (value_in key) (name_gone key.owner ns index gap).none

  pub nothing_taken : (key : Key) (ns : Nodes X) (index : ℕ) → AreNodes ns → IsNameGap key.owner ns index → all_rows ns ≡ without_rows (same_key key) (all_rows ns)
  nothing_taken key ns index are gap =
      same_maps _ _ (rising-all_rows ns are) (rising-without (same_key key) (all_rows ns) (rising-all_rows ns are)) (λ q. by q (same_key key q) refl ∙ sym (row_at-without key q (all_rows ns)))
    where
      by : (q : Key) (b : Bool) → same_key key q ≡ b → row_at q (all_rows ns) ≡ cond (not b) (row_at q (all_rows ns)) None
      by q false e = refl
      by q true e = ap (λ (k : Key). row_at k (all_rows ns)) (sym (key_cmp-IsAntisymmetric key q (tied _ e))) ∙ gone key ns index are gap
        where
          tied : (r : Ordering) → is_eq r ≡ true → r ≡ Equal
          tied Less e = cc
          tied Equal e = refl
          tied Greater e = cc

  -- the new node is found where it was put
  pub stands : (name : Labels) (table : TableState X) (ns : Nodes X) (index : ℕ) → IsNameGap name ns index → IsNameAt name (insert ns index (name, table)) index
  stands name table ns index gap = record {
    within = within ns index gap.within;
    equal = λ d. ap (λ (g : Node X). name_cmp g.0 name) (there ns index d gap.within) ∙ tied (name_cmp name name) ((eq_by_cmp_equiv name_cmp_total).refl name);
  }
    where
      within : (ns : Nodes X) (index : ℕ) → index ≤ length ns → index < length (insert ns index (name, table))
      within ns zero h = omega arith
      within [] (suc index) h = absurd (omega arith)
      within (g ∷ ns) (suc index) h = let rest = within ns index (omega arith) in omega arith

      there : (ns : Nodes X) (index : ℕ) (d : Node X) → index ≤ length ns → get_or (insert ns index (name, table)) index d ≡ (name, table)
      there ns zero d h = refl
      there [] (suc index) d h = absurd (omega arith)
      there (g ∷ ns) (suc index) d h = there ns index d (omega arith)

      tied : (r : Ordering) → is_eq r ≡ true → r ≡ Equal
      tied Less e = cc
      tied Equal e = refl
      tied Greater e = cc

  -- ---- names that are new

  adds-put : (name : Labels) (table : TableState X) (ns : Nodes X) → AddsNoOther name ns (put_entry name_cmp name table ns)
  adds-put name table ns = record {
    names = λ test one all. all_put name_cmp (λ n. test n ≡ true) name table ns one all;
    filled = λ h. some ns;
  }
    where
      by : (g : Node X) (gs rest : Nodes X) (r : Ordering) → 0 < length (by_order r ((name, table) ∷ g ∷ gs) ((g.0, table) ∷ gs) (g ∷ rest))
      by g gs rest Less = omega arith
      by g gs rest Equal = omega arith
      by g gs rest Greater = omega arith

      some : (ns : Nodes X) → 0 < length (put_entry name_cmp name table ns)
      some [] = omega arith
      some (g ∷ gs) = by g gs (put_entry name_cmp name table gs) (name_cmp name g.0)

  pub adds-set : (name : Labels) (ns : Nodes X) (index : ℕ) (g n : Node X) → IsFound name ns index g → n.0 ≡ g.0 → AddsNoOther name ns (set ns index n)
  adds-set name ns index g n here same = subst (AddsNoOther name ns) (sym (put_is name ns index g n here same)) (adds-put name n.1 ns)

  pub adds-insert : (name : Labels) (table : TableState X) (ns : Nodes X) (index : ℕ) → IsNameGap name ns index → AddsNoOther name ns (insert ns index (name, table))
  adds-insert name table ns index gap = subst (AddsNoOther name ns) ((name_gone name ns index gap).puts table) (adds-put name table ns)

  pub adds-none : (name : Labels) (ns : Nodes X) → AddsNoOther name ns ns
  adds-none name ns = record { names = λ test one all. all; filled = λ h. h }

  pub adds-both : (name : Labels) (first second third : Nodes X) → AddsNoOther name first second → AddsNoOther name second third → AddsNoOther name first third
  adds-both name first second third h g = record {
    names = λ test one all. g.names test one (h.names test one all);
    filled = λ some. g.filled (h.filled some);
  }
