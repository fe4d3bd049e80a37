-- Tables by name: what a search finds, and the nodes after a change of one of them.
use Rattle.std.proofs.Common.{◌≡◌, ℕ, zero, suc, ◌≤◌, ◌<◌, Bool, false, cond, List, [], ◌∷◌, length, get_or, set, Some, Result, Ok, Err, Bor, refl, sym, ap, subst, ◌∙◌, arith}
use Rattle.std.specs.Result.{IfOk, IfErr}
use Rattle.std.specs.Fn.{ComputesKey}
use denote.Param.Members.{Mut, Called}
use Rattle.std.proofs.lemmas.Fn.{always_returns_same}
use Rattle.std.specs.Ordering.{is_gt, is_eq, ordering_index}
use Rattle.std.specs.Cmp.{eq_by_cmp_equiv}
use Rattle.std.specs.List.{AllByRecursion}
use Rattle.std.specs.List.Sorted.{IsNonDecreasingBy, IsSearchInRange, IsBinarySearchResult}
use Rattle.std.specs.FinMap.Entries.{put as put_entry, find-put}
use Rattle.std.specs.declared.cmp.Ordering.{Ordering}
use Rattle.std.specs.declared.cmp.Ordering.TheVariants.{Less, Equal, Greater}
use Rattle.std.proofs.lemmas.List.Sorted.{searchable_from_sorted}
use Rattle.dnsname.specs.Names.{Labels}
use Rattle.rrset.specs.Tables.{TableState}
use Rattle.nametable.specs.Nodes.{Node, Nodes, name_cmp, table_at, IsNode, AreNodes, IsNameAt, IsNameGap, room_at, spare_of}
use Rattle.rrset.proofs.Places.{sorted_by, stands_at, GoesTo, goes_to}
use Rattle.nametable.proofs.RisingRows.{is_T}
use Rattle.nametable.proofs.AllRows.{name_cmp_total, same_names}

all_at : {X : Type 0} (P : X → Type 0) (xs : List X) (index : ℕ) (d : X) → AllByRecursion P xs → index < length xs → P (get_or xs index d)
all_at P [] index d h within = absurd (omega arith)
all_at P (x ∷ xs) zero d h within = h.0
all_at P (x ∷ xs) (suc index) d h within = all_at P xs index d h.1 (omega arith)

module _ {X : Type 0} where
  -- ---- a search

  names_rise_to : (name : Labels) (ns : Nodes X) → AreNodes ns → IsNonDecreasingBy (λ g. ordering_index (name_cmp g.0 name)) ns
  names_rise_to name ns are =
      searchable_from_sorted name_cmp_total (λ (g : Node X). g.0) ns name
      (sorted_by name_cmp_total name_cmp name_cmp_total (λ g. g.0) (λ a b e. ap is_gt e) ns (is_T _ are.0))

  pub position-from_clause : {F : Type 0} {g : Mut F (Bor (Node X) × Unit {0}) Ordering} {f : F} (ord : Node X → Ordering) (ns : Nodes X) (r : Result ℕ ℕ)
      → ((o : Node X → Ordering) → ComputesKey g o f → IsBinarySearchResult o ns r)
      → ((a : Bor (Node X) × Unit {0}) (b : Ordering) (f' : F) → Called g f a b f' → (b ≡ ord a.0.now) × (f' ≡ f)) → IsBinarySearchResult ord ns r
  position-from_clause {g = g} {f = f} ord ns r clause h = clause ord (always_returns_same g (λ a b. b ≡ ord a.0.now) f h)

  pub name_found : (name : Labels) (ns : Nodes X) (r : Result ℕ ℕ) → IsSearchInRange r (length ns) → IsBinarySearchResult (λ g. name_cmp g.0 name) ns r → IfOk r (IsNameAt name ns)
  name_found name ns (Ok index) within is = record { within = within; equal = is }
  name_found name ns (Err index) within is = tt

  pub name_absent : (name : Labels) (ns : Nodes X) (r : Result ℕ ℕ) → AreNodes ns → IsSearchInRange r (length ns) → IsBinarySearchResult (λ g. name_cmp g.0 name) ns r → IfErr r (IsNameGap name ns)
  name_absent name ns (Ok index) are within is = tt
  name_absent name ns (Err index) are within is = record { within = within; between = is (names_rise_to name ns are) }

  -- ---- the node of a name

  pub record IsFound (name : Labels) (ns : Nodes X) (index : ℕ) (g : Node X) : Type 0 where
    pub same : g.0 ≡ name
    pub found : table_at name ns ≡ Some g.1
    pub puts : (table : TableState X) → set ns index (g.0, table) ≡ put_entry name_cmp name table ns
    pub node : IsNode (name, g.1)

  pub found_at : (name : Labels) (ns : Nodes X) (index : ℕ) (d : Node X) → AreNodes ns → IsNameAt name ns index → IsFound name ns index (get_or ns index d)
  found_at name ns index d are at =
      let here = stands_at name_cmp_total name ns (is_T _ are.0) index d at.within (at.equal d) in
      let same : (get_or ns index d).0 ≡ name = same_names _ _ (at.equal d) in
      record {
        same = same;
        found = here.found;
        puts = λ table. sym (here.puts table);
        node = subst (λ (l : Labels). IsNode (l, (get_or ns index d).1)) same (all_at IsNode ns index d are.1 at.within);
      }

  -- another table stands at the index
  pub put_is : (name : Labels) (ns : Nodes X) (index : ℕ) (g n : Node X) → IsFound name ns index g → n.0 ≡ g.0 → set ns index n ≡ put_entry name_cmp name n.1 ns
  put_is name ns index g n here same = ap (λ (l : Labels). set ns index (l, n.1)) same ∙ here.puts n.1

  pub name_gone : (name : Labels) (ns : Nodes X) (index : ℕ) → IsNameGap name ns index → GoesTo name_cmp name ns index
  name_gone name ns index gap = goes_to name_cmp_total name ns index gap.within gap.between.0 gap.between.1

  -- ---- room

  -- a table put at a name has its room there, and leaves that of others
  pub room-here : (name : Labels) (table : TableState X) (ns : Nodes X) → room_at (put_entry name_cmp name table ns) name ≡ table.spare
  room-here name table ns =
      ap spare_of (find-put name_cmp name_cmp_total name name table ns ∙ ap (λ (b : Bool). cond b (Some table) (table_at name ns)) ((eq_by_cmp_equiv name_cmp_total).refl name))

  pub room-other : (name other : Labels) (table : TableState X) (ns : Nodes X) → is_eq (name_cmp other name) ≡ false → room_at (put_entry name_cmp name table ns) other ≡ room_at ns other
  room-other name other table ns unlike =
      ap spare_of (find-put name_cmp name_cmp_total other name table ns ∙ ap (λ (b : Bool). cond b (Some table) (table_at other ns)) unlike)

  -- where the table at a name has no less room, none is lost
  pub room-kept : (name : Labels) (table : TableState X) (ns : Nodes X) → room_at ns name ≤ table.spare → (other : Labels) → room_at ns other ≤ room_at (put_entry name_cmp name table ns) other
  room-kept name table ns more other = by (name_cmp other name) refl
    where
      by : (r : Ordering) → name_cmp other name ≡ r → room_at ns other ≤ room_at (put_entry name_cmp name table ns) other
      by Less e = let same = room-other name other table ns (ap is_eq e) in omega (arith, same)
      by Greater e = let same = room-other name other table ns (ap is_eq e) in omega (arith, same)
      by Equal e = subst (λ (l : Labels). room_at ns l ≤ room_at (put_entry name_cmp name table ns) l) (sym (same_names other name e)) (let here = room-here name table ns in omega (arith, here, more))
