-- Tables by name: how many names have rows, which all rows tell, and what a change of one node makes of it.
use Rattle.std.proofs.Common.{◌≡◌, ℕ, zero, suc, ◌+◌, ◌-◌, ◌%◌, ◌^◌, ◌<◌, Bool, true, false, cond, T, [], ◌∷◌, ◌++◌, length, get_or, set, Ordering, Less, Equal, Greater, refl, sym, ap, ◌∙◌, arith, nat_lt}
use Rattle.std.proofs.lemmas.Bool.{lt-ltb}
use Rattle.std.proofs.lemmas.List.{get_or-set_same}
use Rattle.std.specs.Ordering.{is_eq, is_lt}
use Rattle.std.specs.Cmp.{eq_by_cmp_equiv}
use Rattle.std.specs.List.{AllByRecursion, filter}
use Rattle.std.specs.FinMap.Entries.{below_all, is_sorted}
use Rattle.dnsname.specs.Names.{Labels}
use Rattle.rrset.specs.KeyedRows.{Rows}
use Rattle.nametable.specs.Nodes.{Node, Nodes, name_cmp, all_rows, IsNode, AreNodes, has_rows, names_in}
use Rattle.rrset.specs.declared.record.Key.{Key}
use Rattle.rrset.proofs.Places.{and_left, and_right}
use Rattle.nametable.proofs.RisingRows.{is_T}
use Rattle.nametable.proofs.AllRows.{name_cmp_total}

module _ {X : Type 0} where
  -- ---- the names of rows

  -- the first of the rows isn't of this name
  abbrev StartsOther : Labels → Rows X → Type 0
  StartsOther name [] = Unit {0}
  StartsOther name (e ∷ es) = is_eq (name_cmp name e.0.owner) ≡ false

  -- one for a name behind which these rows don't go on with it
  abbrev ends : Labels → Rows X → ℕ
  ends name [] = 1
  ends name (e ∷ es) = cond (is_eq (name_cmp name e.0.owner)) 0 1

  -- how many names rows have that stand together by names
  abbrev names_of : Rows X → ℕ
  names_of [] = 0
  names_of (e ∷ es) = ends e.0.owner es + names_of es

  ends-other : (name : Labels) (rows : Rows X) → StartsOther name rows → ends name rows ≡ 1
  ends-other name [] h = refl
  ends-other name (e ∷ es) h = ap (λ (b : Bool). cond b 0 1) h

  names_of-node : (name : Labels) (e : Key × X) (es rest : Rows X) → AllByRecursion (λ e. e.0.owner ≡ name) (e ∷ es) → StartsOther name rest → names_of (e ∷ es ++ rest) ≡ 1 + names_of rest
  names_of-node name e [] rest of other = ap (λ (n : ℕ). n + names_of rest) (ap (λ (l : Labels). ends l rest) of.0 ∙ ends-other name rest other)
  names_of-node name e (f ∷ es) rest of other =
      let more : ends e.0.owner (f ∷ es ++ rest) ≡ 0 =
      ap (λ (l : Labels). cond (is_eq (name_cmp l f.0.owner)) 0 1) of.0 ∙ ap (λ (l : Labels). cond (is_eq (name_cmp name l)) 0 1) of.1.0
      ∙ ap (λ (b : Bool). cond b 0 1) ((eq_by_cmp_equiv name_cmp_total).refl name) in
      let others = names_of-node name f es rest of.1 other in
      omega (arith, more, others)

  others-behind : (name : Labels) (ns : Nodes X) → T (below_all name_cmp name ns) → AllByRecursion IsNode ns → StartsOther name (all_rows ns)
  others-behind name [] below are = tt
  others-behind name (g ∷ ns) below are = by g.1.rows are.0.2 (others-behind name ns (and_right _ _ below) are.1)
    where
      unlike : (r : Ordering) → T (is_lt r) → is_eq r ≡ false
      unlike Less h = refl
      unlike Equal h = absurd h
      unlike Greater h = absurd h

      by : (rows : Rows X) → AllByRecursion (λ e. e.0.owner ≡ g.0) rows → StartsOther name (all_rows ns) → StartsOther name (rows ++ all_rows ns)
      by [] of rest = rest
      by (e ∷ es) of rest = ap (λ (l : Labels). is_eq (name_cmp name l)) of.0 ∙ unlike (name_cmp name g.0) (and_left _ _ below)

  names-told : (ns : Nodes X) → T (is_sorted name_cmp ns) → AllByRecursion IsNode ns → names_in ns ≡ names_of (all_rows ns)
  names-told [] h are = refl
  names-told (g ∷ ns) h are = by g.1.rows are.0.2 (names-told ns (and_right _ _ h) are.1)
    where
      by : (rows : Rows X) → AllByRecursion (λ e. e.0.owner ≡ g.0) rows → names_in ns ≡ names_of (all_rows ns)
          → length (cond (nat_lt 0 (length rows)) (g ∷ filter has_rows ns) (filter has_rows ns)) ≡ names_of (rows ++ all_rows ns)
      by [] of rest = rest
      by (e ∷ es) of rest =
          let one = names_of-node g.0 e es (all_rows ns) of (others-behind g.0 ns (and_left _ _ h) are.1) in
          ap (λ (b : Bool). length (cond b (g ∷ filter has_rows ns) (filter has_rows ns))) (lt-ltb 0 (length (e ∷ es)) (omega arith)) ∙ omega (arith, rest, one)

  -- nodes with the same rows have as many names with rows
  pub names-same : (ns ms : Nodes X) → AreNodes ns → AreNodes ms → all_rows ns ≡ all_rows ms → names_in ns ≡ names_in ms
  names-same ns ms are will rows = names-told ns (is_T _ are.0) are.1 ∙ ap names_of rows ∙ sym (names-told ms (is_T _ will.0) will.1)

  -- ---- another node at an index

  names-set : (ns : Nodes X) (index : ℕ) (d n : Node X) → index < length ns → cond (has_rows (get_or ns index d)) 1 0 + names_in (set ns index n) ≡ cond (has_rows n) 1 0 + names_in ns
  names-set [] index d n within = absurd (omega arith)
  names-set (g ∷ ns) zero d n within = by (has_rows g) (has_rows n)
    where
      by : (b c : Bool) → cond b 1 0 + length (cond c (n ∷ filter has_rows ns) (filter has_rows ns)) ≡ cond c 1 0 + length (cond b (g ∷ filter has_rows ns) (filter has_rows ns))
      by true true = omega arith
      by true false = omega arith
      by false true = omega arith
      by false false = omega arith
  names-set (g ∷ ns) (suc index) d n within = by (has_rows g) (names-set ns index d n (omega arith))
    where
      by : (b : Bool) → cond (has_rows (get_or ns index d)) 1 0 + names_in (set ns index n) ≡ cond (has_rows n) 1 0 + names_in ns
          → cond (has_rows (get_or ns index d)) 1 0 + length (cond b (g ∷ filter has_rows (set ns index n)) (filter has_rows (set ns index n))) ≡ cond (has_rows n) 1 0 + length (cond b (g ∷ filter has_rows ns) (filter has_rows ns))
      by true rest = omega (arith, rest)
      by false rest = omega (arith, rest)

  pub count-set : (others names now : ℕ) (had has : Bool) (ns : Nodes X) (index : ℕ) (d e n : Node X) → index < length ns → names ≡ (others + names_in ns) % 2 ^ 64
      → had ≡ has_rows (get_or ns index d) → has ≡ has_rows (get_or (set ns index n) index e)
      → now ≡ cond had (cond has names ((names + (2 ^ 64 - 1)) % 2 ^ 64)) (cond has ((names + 1) % 2 ^ 64) names) → now ≡ (others + names_in (set ns index n)) % 2 ^ 64
  count-set others names now had has ns index d e n within so_far had-is has-is now-is =
      now-is ∙ by had has (ap (λ (b : Bool). cond b 1 0 + names_in (set ns index n)) had-is ∙ names-set ns index d n within ∙ ap (λ (b : Bool). cond b 1 0 + names_in ns) (sym (has-is ∙ ap has_rows (get_or-set_same ns index n e within))))
    where
      by : (b c : Bool) → cond b 1 0 + names_in (set ns index n) ≡ cond c 1 0 + names_in ns
          → cond b (cond c names ((names + (2 ^ 64 - 1)) % 2 ^ 64)) (cond c ((names + 1) % 2 ^ 64) names) ≡ (others + names_in (set ns index n)) % 2 ^ 64
      by true true is = omega (arith, so_far, is)
      by true false is = omega (arith, so_far, is)
      by false true is = omega (arith, so_far, is)
      by false false is = omega (arith, so_far, is)
