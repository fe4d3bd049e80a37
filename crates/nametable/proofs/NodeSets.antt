-- Tables by name: nodes without rows left out, nodes that are copied, and how many rows there are.
use Rattle.std.proofs.Common.{◌≡◌, ℕ, ◌+◌, ◌-◌, ◌%◌, ◌^◌, ◌<◌, Bool, true, false, cond, T, [], ◌∷◌, ◌++◌, length, take, get_or, Option, Some, None, is_some, refl, sym, ap, subst, ◌∙◌, arith, nat_lt}
use Rattle.std.proofs.lemmas.List.{take_more}
use Rattle.std.proofs.lemmas.Bool.{lt-ltb}
use Rattle.std.specs.Ordering.{is_lt}
use Rattle.std.specs.List.{AllByRecursion, filter}
use Rattle.std.specs.FinMap.Entries.{below_all, is_sorted, length-put, length_without}
use Rattle.dnsname.specs.Names.{Labels, lower}
use Rattle.rrset.specs.Records.{key_cmp, same_key}
use Rattle.rrset.specs.KeyedRows.{Rows, is_rising, row_at, put_row, without_rows}
use Rattle.nametable.specs.Nodes.{Node, Nodes, name_cmp, all_rows, IsNode, AreNodes, AreAlike, has_rows, names_in}
use Rattle.rrset.specs.declared.record.Key.{Key}
use Rattle.rrset.proofs.KeyOrder.{key_cmp_total}
use Rattle.rrset.proofs.Places.{and_left, and_right, and_both, all_filter}
use Rattle.nametable.proofs.NameCounts.{names-same}
use Rattle.nametable.proofs.RisingRows.{is_T, is_true, Rising}

module _ {X : Type 0} where
  -- ---- nodes without rows left out

  below-filter : (name : Labels) (test : Node X → Bool) (ns : Nodes X) → T (below_all name_cmp name ns) → T (below_all name_cmp name (filter test ns))
  below-filter name test [] h = tt
  below-filter name test (g ∷ ns) h = by (test g) (below-filter name test ns (and_right _ _ h))
    where
      by : (b : Bool) → T (below_all name_cmp name (filter test ns)) → T (below_all name_cmp name (cond b (g ∷ filter test ns) (filter test ns)))
      by true rest = and_both _ _ (and_left _ _ h) rest
      by false rest = rest

  sorted-filter : (test : Node X → Bool) (ns : Nodes X) → T (is_sorted name_cmp ns) → T (is_sorted name_cmp (filter test ns))
  sorted-filter test [] h = tt
  sorted-filter test (g ∷ ns) h = by (test g) (sorted-filter test ns (and_right _ _ h))
    where
      by : (b : Bool) → T (is_sorted name_cmp (filter test ns)) → T (is_sorted name_cmp (cond b (g ∷ filter test ns) (filter test ns)))
      by true rest = and_both _ _ (below-filter g.0 test ns (and_left _ _ h)) rest
      by false rest = rest

  pub nodes-filter : (test : Node X → Bool) (ns : Nodes X) → AreNodes ns → AreNodes (filter test ns)
  nodes-filter test ns are = (is_true _ (sorted-filter test ns (is_T _ are.0)), all_filter IsNode test ns are.1)

  no_rows : (rows : Rows X) → nat_lt 0 (length rows) ≡ false → rows ≡ []
  no_rows [] h = refl
  no_rows (e ∷ es) h = let no : true ≡ false = sym (lt-ltb 0 (length (e ∷ es)) (omega arith)) ∙ h in absurd cc

  pub all_rows-filter : (ns : Nodes X) → all_rows (filter has_rows ns) ≡ all_rows ns
  all_rows-filter [] = refl
  all_rows-filter (g ∷ ns) = by (has_rows g) refl (all_rows-filter ns)
    where
      by : (b : Bool) → has_rows g ≡ b → all_rows (filter has_rows ns) ≡ all_rows ns → all_rows (cond b (g ∷ filter has_rows ns) (filter has_rows ns)) ≡ g.1.rows ++ all_rows ns
      by true e rest = ap (λ (l : Rows X). g.1.rows ++ l) rest
      by false e rest = rest ∙ ap (λ (l : Rows X). l ++ all_rows ns) (sym (no_rows g.1.rows e))

  -- ---- nodes with the same names and rows, whatever their room

  pub alike-all_rows : (ns ms : Nodes X) → AreAlike ns ms → all_rows ns ≡ all_rows ms
  alike-all_rows [] [] a = refl
  alike-all_rows [] (h ∷ ms) a = absurd a
  alike-all_rows (g ∷ ns) [] a = absurd a
  alike-all_rows (g ∷ ns) (h ∷ ms) a = λ i. a.1 i ++ alike-all_rows ns ms a.2 i

  below-alike : (name : Labels) (ns ms : Nodes X) → AreAlike ns ms → T (below_all name_cmp name ms) → T (below_all name_cmp name ns)
  below-alike name [] [] a h = tt
  below-alike name [] (h ∷ ms) a b = absurd a
  below-alike name (g ∷ ns) [] a b = absurd a
  below-alike name (g ∷ ns) (h ∷ ms) a b = and_both _ _ (subst (λ (l : Labels). T (is_lt (name_cmp name l))) (sym a.0) (and_left _ _ b)) (below-alike name ns ms a.2 (and_right _ _ b))

  sorted-alike : (ns ms : Nodes X) → AreAlike ns ms → T (is_sorted name_cmp ms) → T (is_sorted name_cmp ns)
  sorted-alike [] [] a b = tt
  sorted-alike [] (h ∷ ms) a b = absurd a
  sorted-alike (g ∷ ns) [] a b = absurd a
  sorted-alike (g ∷ ns) (h ∷ ms) a b = and_both _ _ (subst (λ (l : Labels). T (below_all name_cmp l ns)) (sym a.0) (below-alike h.0 ns ms a.2 (and_left _ _ b))) (sorted-alike ns ms a.2 (and_right _ _ b))

  all-alike : (ns ms : Nodes X) → AreAlike ns ms → AllByRecursion IsNode ms → AllByRecursion IsNode ns
  all-alike [] [] a all = tt
  all-alike [] (h ∷ ms) a all = absurd a
  all-alike (g ∷ ns) [] a all = absurd a
  all-alike (g ∷ ns) (h ∷ ms) a all = (
    subst (λ (p : Labels × Rows X). (is_rising p.1 ≡ true) × (lower p.0 ≡ p.0) × AllByRecursion (λ e. e.0.owner ≡ p.0) p.1) (λ i. (sym a.0 i, sym a.1 i)) all.0,
    all-alike ns ms a.2 all.1,
  )

  pub nodes-alike : (ns ms : Nodes X) → AreAlike ns ms → AreNodes ms → AreNodes ns
  nodes-alike ns ms a are = (is_true _ (sorted-alike ns ms a (is_T _ are.0)), all-alike ns ms a are.1)

  pub alike-push : (ns ms : Nodes X) (g h : Node X) → AreAlike ns ms → g.0 ≡ h.0 → g.1.rows ≡ h.1.rows → AreAlike (ns ++ g ∷ []) (ms ++ h ∷ [])
  alike-push [] [] g h a name rows = (name, rows, tt)
  alike-push [] (m ∷ ms) g h a name rows = absurd a
  alike-push (n ∷ ns) [] g h a name rows = absurd a
  alike-push (n ∷ ns) (m ∷ ms) g h a name rows = (a.0, a.1, alike-push ns ms g h a.2 name rows)

  -- ---- how many rows there are

  pub length-put_row : (key : Key) (value : X) (rows : Rows X) → Rising rows → length (put_row key value rows) ≡ cond (is_some (row_at key rows)) (length rows) (length rows + 1)
  length-put_row key value rows h = length-put key_cmp key_cmp_total key value rows h

  pub length-without_row : (key : Key) (rows : Rows X) → Rising rows → cond (is_some (row_at key rows)) 1 0 + length (without_rows (same_key key) rows) ≡ length rows
  length-without_row key rows h = length_without key_cmp key_cmp_total key rows h

  pub count-put : (count now : ℕ) (key : Key) (value : X) (rows new : Rows X) (before : Option X) → Rising rows → count ≡ length rows % 2 ^ 64 → before ≡ row_at key rows → new ≡ put_row key value rows
      → now ≡ cond (is_some before) count ((count + 1) % 2 ^ 64) → now ≡ length new % 2 ^ 64
  count-put count now key value rows new before h so_far before-is new-is now-is =
      now-is
      ∙ by before so_far (ap (λ (o : Option X). length-if o) (sym before-is))
      ∙ ap (λ (n : ℕ). n % 2 ^ 64) (sym (ap length new-is ∙ length-put_row key value rows h))
    where
      length-if : Option X → ℕ
      length-if o = cond (is_some o) (length rows) (length rows + 1)

      by : (o : Option X) → count ≡ length rows % 2 ^ 64 → length-if (row_at key rows) ≡ length-if o → cond (is_some o) count ((count + 1) % 2 ^ 64) ≡ length-if (row_at key rows) % 2 ^ 64
      by None so_far is = omega (arith, so_far, is)
      by (Some x) so_far is = omega (arith, so_far, is)

  pub count-without : (count now : ℕ) (key : Key) (rows new : Rows X) (before : Option X) → Rising rows → count ≡ length rows % 2 ^ 64 → before ≡ row_at key rows → new ≡ without_rows (same_key key) rows
      → now ≡ cond (is_some before) ((count + (2 ^ 64 - 1)) % 2 ^ 64) count → now ≡ length new % 2 ^ 64
  count-without count now key rows new before h so_far before-is new-is now-is =
      now-is ∙ by before so_far (ap (λ (o : Option X). cond (is_some o) 1 0 + length new) before-is ∙ ap (λ (l : Rows X). cond (is_some (row_at key rows)) 1 0 + length l) new-is ∙ length-without_row key rows h)
    where
      by : (o : Option X) → count ≡ length rows % 2 ^ 64 → cond (is_some o) 1 0 + length new ≡ length rows → cond (is_some o) ((count + (2 ^ 64 - 1)) % 2 ^ 64) count ≡ length new % 2 ^ 64
      by None so_far is = omega (arith, so_far, is)
      by (Some x) so_far is = omega (arith, so_far, is)

  -- one more node copied
  pub alike-next : (copies now all : Nodes X) (index : ℕ) (copy node : Node X) → index < length all → node ≡ get_or all index node → AreAlike copies (take index all)
      → copy.0 ≡ node.0 → copy.1.rows ≡ node.1.rows → now ≡ copies ++ copy ∷ [] → AreAlike now (take (index + 1) all)
  alike-next copies now all index copy node within is so_far name rows now-is =
      subst (λ (l : Nodes X). AreAlike l (take (index + 1) all)) (sym now-is)
      (subst (λ (l : Nodes X). AreAlike (copies ++ copy ∷ []) l) (ap (λ (n : Node X). take index all ++ n ∷ []) is ∙ sym (take_more all index node within))
      (alike-push copies (take index all) copy node so_far name rows))

  -- what holds of nodes and their counts holds without the empty ones, and of a copy
  abbrev pub AreCounted : ℕ → ℕ → Nodes X → Type 0
  AreCounted count names ns = AreNodes ns × (count ≡ length (all_rows ns) % 2 ^ 64) × (names ≡ names_in ns % 2 ^ 64)

  pub counted-same : (count names : ℕ) (ns new : Nodes X) → AreCounted count names ns → AreNodes new → all_rows new ≡ all_rows ns → AreCounted count names new
  counted-same count names ns new are will rows = (
    will,
    are.1 ∙ ap (λ (l : Rows X). length l % 2 ^ 64) (sym rows),
    are.2 ∙ ap (λ (n : ℕ). n % 2 ^ 64) (names-same ns new are.0 will (sym rows)),
  )

  pub counted-dropped : (count names : ℕ) (ns new : Nodes X) → AreCounted count names ns → new ≡ filter has_rows ns → AreCounted count names new
  counted-dropped count names ns new are is =
      subst (AreCounted count names) (sym is) (counted-same count names ns (filter has_rows ns) are (nodes-filter has_rows ns are.0) (all_rows-filter ns))

  pub counted-copied : (count names : ℕ) (ns new : Nodes X) → AreCounted count names ns → AreAlike new ns → AreCounted count names new
  counted-copied count names ns new are alike = counted-same count names ns new are (nodes-alike new ns alike are.0) (alike-all_rows new ns alike)
