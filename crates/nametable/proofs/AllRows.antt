-- Rows in tables by name: what all of them have, and what a change in one node makes of them.
use Rattle.std.proofs.Common.{◌≡◌, Bool, true, false, cond, not, T, [], ◌∷◌, ◌++◌, Option, Some, None, refl, sym, ap, subst, ◌∙◌}
use Rattle.std.specs.Ordering.{is_lt, is_eq, ordering_then, eq_by_cmp}
use Rattle.std.specs.Cmp.{IsTotalOrder, eq_by_cmp_equiv}
use Rattle.std.specs.List.{AllByRecursion}
use Rattle.std.specs.Str.{bytes_eq}
use Rattle.std.specs.FinMap.Entries.{by_order, put as put_entry, below_all, is_sorted-put, find-put}
use Rattle.std.specs.declared.cmp.Ordering.{Ordering}
use Rattle.std.specs.declared.cmp.Ordering.TheVariants.{Less, Equal, Greater}
use Rattle.std.proofs.lemmas.Cmp.{nat_list_cmp_total, on_total}
use Rattle.std.proofs.lemmas.List.{append-nil}
use Rattle.std.proofs.lemmas.List.Elements.{filter-append}
use Rattle.std.proofs.lemmas.Map.Text.{is_eq-slice_cmp}
use Rattle.dnsname.specs.Names.{Labels, octets, lower, same_name}
use Rattle.dnsname.proofs.Octets.{octets_injective}
use Rattle.rrset.specs.Records.{key_cmp, same_key}
use Rattle.rrset.specs.KeyedRows.{Rows, is_rising, put_row, without_rows, row_at, rows_of}
use Rattle.rrset.specs.Tables.{TableState}
use Rattle.nametable.specs.Nodes.{Nodes, name_cmp, table_at, all_rows, IsNode, AreNodes}
use Rattle.rrset.specs.declared.record.Key.{Key}
use Rattle.rrset.proofs.KeyOrder.{key_cmp_total, same_bytes}
use Rattle.nametable.proofs.RisingRows.{Rising, is_T, is_true, rising-put, rising-without, same_maps, row_at-without}
use Rattle.rrset.proofs.Places.{and_left, and_right, and_both}

pub name_cmp_total : IsTotalOrder name_cmp
name_cmp_total = on_total octets nat_list_cmp_total

pub same_names : (a b : Labels) → name_cmp a b ≡ Equal → a ≡ b
same_names a b e = octets_injective a b (same_bytes (octets a) (octets b) e)

less : (r : Ordering) → T (is_lt r) → r ≡ Less
less Less h = refl
less Equal h = absurd h
less Greater h = absurd h

unlike : (a b : Ordering) → is_eq a ≡ false → is_eq (ordering_then a b) ≡ false
unlike Less b e = refl
unlike Equal b e = cc
unlike Greater b e = refl

lower_then : (a b : Ordering) → a ≡ Less → T (is_lt (ordering_then a b))
lower_then Less b e = tt
lower_then Equal b e = cc
lower_then Greater b e = cc

pub same_name-is : (name other : Labels) → lower other ≡ other → same_name name other ≡ is_eq (name_cmp (lower name) other)
same_name-is name other low =
    sym (is_eq-slice_cmp (octets (lower name)) (octets other)
    ∙ ap (λ (owner : Labels). bytes_eq (octets (lower name)) (octets owner)) (sym low))

module _ {X : Type 0} where
  abbrev OfName : Labels → Rows X → Type 0
  OfName name rows = AllByRecursion (λ e. e.0.owner ≡ name) rows

  -- ---- lists behind one another

  row_at-append : (q : Key) (xs ys : Rows X) → row_at q (xs ++ ys) ≡ elim (row_at q xs) [ None ↦ row_at q ys | Some value ↦ Some value ]
  row_at-append q [] ys = refl
  row_at-append q (x ∷ xs) ys = by (is_eq (key_cmp q x.0)) (row_at-append q xs ys)
    where
      by : (b : Bool) → row_at q (xs ++ ys) ≡ elim (row_at q xs) [ None ↦ row_at q ys | Some value ↦ Some value ]
          → cond b (Some x.1) (row_at q (xs ++ ys)) ≡ elim (cond b (Some x.1) (row_at q xs)) [ None ↦ row_at q ys | Some value ↦ Some value ]
      by true h = refl
      by false h = h

  -- rows of another name don't show a key
  row_at-other : (q : Key) (name : Labels) (rows : Rows X) → OfName name rows → is_eq (name_cmp q.owner name) ≡ false → row_at q rows ≡ None
  row_at-other q name [] of other = refl
  row_at-other q name (e ∷ es) of other =
      ap (λ (b : Bool). cond b (Some e.1) (row_at q es)) (unlike (name_cmp q.owner e.0.owner) _ (ap (λ (l : Labels). is_eq (name_cmp q.owner l)) of.0 ∙ other))
      ∙ row_at-other q name es of.1 other

  -- a name before all others isn't among them
  pub table_at-below : (name first : Labels) (ns : Nodes X) → name ≡ first → T (below_all name_cmp first ns) → table_at name ns ≡ None
  table_at-below name first [] same h = refl
  table_at-below name first (g ∷ ns) same h =
      ap (λ (r : Ordering). cond (is_eq r) (Some g.1) (table_at name ns)) (ap (λ (l : Labels). name_cmp l g.0) same ∙ less _ (and_left _ _ h))
      ∙ table_at-below name first ns same (and_right _ _ h)

  -- what a table shows of a key, where there is one
  abbrev pub value_in : Key → Option (TableState X) → Option X
  value_in q None = None
  value_in q (Some table) = row_at q table.rows

  pub row_at-all_rows : (q : Key) (ns : Nodes X) → AreNodes ns → row_at q (all_rows ns) ≡ value_in q (table_at q.owner ns)
  row_at-all_rows q [] are = refl
  row_at-all_rows q (g ∷ ns) are =
      let sorted = is_T _ are.0 in
      let rest = row_at-all_rows q ns (is_true _ (and_right _ _ sorted), are.1.1) in
      row_at-append q g.1.rows (all_rows ns)
      ∙ by (name_cmp q.owner g.0) refl rest (and_left _ _ sorted)
    where
      by : (r : Ordering) → name_cmp q.owner g.0 ≡ r → row_at q (all_rows ns) ≡ value_in q (table_at q.owner ns) → T (below_all name_cmp g.0 ns)
          → elim (row_at q g.1.rows) [ None ↦ row_at q (all_rows ns) | Some value ↦ Some value ] ≡ value_in q (cond (is_eq r) (Some g.1) (table_at q.owner ns))
      by Less e rest below = ap (λ (o : Option X). elim o [ None ↦ row_at q (all_rows ns) | Some value ↦ Some value ]) (row_at-other q g.0 g.1.rows are.1.0.2 (ap is_eq e)) ∙ rest
      by Greater e rest below = ap (λ (o : Option X). elim o [ None ↦ row_at q (all_rows ns) | Some value ↦ Some value ]) (row_at-other q g.0 g.1.rows are.1.0.2 (ap is_eq e)) ∙ rest
      by Equal e rest below =
          let none = rest ∙ ap (value_in q) (table_at-below q.owner g.0 ns (same_names q.owner g.0 e) below) in
          ap (λ (o : Option X). elim (row_at q g.1.rows) [ None ↦ o | Some value ↦ Some value ]) none ∙ itself (row_at q g.1.rows)
        where
          itself : (o : Option X) → elim o [ None ↦ None | Some value ↦ Some value ] ≡ o
          itself None = refl
          itself (Some value) = refl

  -- ---- the order

  below-append : (k : Key) (xs ys : Rows X) → T (below_all key_cmp k xs) → T (below_all key_cmp k ys) → T (below_all key_cmp k (xs ++ ys))
  below-append k [] ys h g = g
  below-append k (x ∷ xs) ys h g = and_both _ _ (and_left _ _ h) (below-append k xs ys (and_right _ _ h) g)

  below-rows : (k : Key) (name : Labels) (rows : Rows X) → OfName name rows → name_cmp k.owner name ≡ Less → T (below_all key_cmp k rows)
  below-rows k name [] of before = tt
  below-rows k name (e ∷ es) of before =
      and_both _ _ (lower_then (name_cmp k.owner e.0.owner) _ (ap (λ (l : Labels). name_cmp k.owner l) of.0 ∙ before)) (below-rows k name es of.1 before)

  below-all_rows : (k : Key) (ns : Nodes X) → T (below_all name_cmp k.owner ns) → AllByRecursion IsNode ns → T (below_all key_cmp k (all_rows ns))
  below-all_rows k [] h are = tt
  below-all_rows k (g ∷ ns) h are =
      below-append k g.1.rows (all_rows ns) (below-rows k g.0 g.1.rows are.0.2 (less _ (and_left _ _ h))) (below-all_rows k ns (and_right _ _ h) are.1)

  rising-append : (name : Labels) (rows : Rows X) (ns : Nodes X) → OfName name rows → T (below_all name_cmp name ns) → AllByRecursion IsNode ns → Rising rows → Rising (all_rows ns) → Rising (rows ++ all_rows ns)
  rising-append name [] ns of below are h g = g
  rising-append name (e ∷ es) ns of below are h g =
      and_both _ _ (below-append e.0 es (all_rows ns) (and_left _ _ h) (below-all_rows e.0 ns (subst (λ (l : Labels). T (below_all name_cmp l ns)) (sym of.0) below) are))
      (rising-append name es ns of.1 below are (and_right _ _ h) g)

  pub rising-all_rows : (ns : Nodes X) → AreNodes ns → Rising (all_rows ns)
  rising-all_rows [] are = tt
  rising-all_rows (g ∷ ns) are =
      let sorted = is_T _ are.0 in
      rising-append g.0 g.1.rows ns are.1.0.2 (and_left _ _ sorted) are.1.1 (is_T _ are.1.0.0) (rising-all_rows ns (is_true _ (and_right _ _ sorted), are.1.1))

  -- ---- the rows of a name

  abbrev pub rows_in : Option (TableState X) → Rows X
  rows_in None = []
  rows_in (Some table) = table.rows

  all_or_none : (name : Labels) (owner : Labels) (rows : Rows X) (b : Bool) → OfName owner rows → same_name name owner ≡ b → rows_of name rows ≡ cond b rows []
  all_or_none name owner [] true of is = refl
  all_or_none name owner [] false of is = refl
  all_or_none name owner (e ∷ es) true of is =
      ap (λ (b : Bool). cond b (e ∷ rows_of name es) (rows_of name es)) (ap (same_name name) of.0 ∙ is) ∙ ap (λ (l : Rows X). e ∷ l) (all_or_none name owner es true of.1 is)
  all_or_none name owner (e ∷ es) false of is =
      ap (λ (b : Bool). cond b (e ∷ rows_of name es) (rows_of name es)) (ap (same_name name) of.0 ∙ is) ∙ all_or_none name owner es false of.1 is

  pub rows_of-all_rows : (name : Labels) (ns : Nodes X) → AreNodes ns → rows_of name (all_rows ns) ≡ rows_in (table_at (lower name) ns)
  rows_of-all_rows name [] are = refl
  rows_of-all_rows name (g ∷ ns) are =
      let sorted = is_T _ are.0 in
      let rest = rows_of-all_rows name ns (is_true _ (and_right _ _ sorted), are.1.1) in
      filter-append (λ (e : Key × X). same_name name e.0.owner) g.1.rows (all_rows ns)
      ∙ ap (λ (l : Rows X). l ++ rows_of name (all_rows ns)) (all_or_none name g.0 g.1.rows _ are.1.0.2 (same_name-is name g.0 are.1.0.1))
      ∙ ap (λ (l : Rows X). cond (is_eq (name_cmp (lower name) g.0)) g.1.rows [] ++ l) rest
      ∙ by (name_cmp (lower name) g.0) refl (and_left _ _ sorted)
    where
      by : (r : Ordering) → name_cmp (lower name) g.0 ≡ r → T (below_all name_cmp g.0 ns)
          → cond (is_eq r) g.1.rows [] ++ rows_in (table_at (lower name) ns) ≡ rows_in (cond (is_eq r) (Some g.1) (table_at (lower name) ns))
      by Less e below = refl
      by Greater e below = refl
      by Equal e below = ap (λ (o : Option (TableState X)). g.1.rows ++ rows_in o) (table_at-below (lower name) g.0 ns (same_names (lower name) g.0 e) below) ∙ append-nil g.1.rows

  -- ---- one node put

  pub nodes-put : (name : Labels) (table : TableState X) (ns : Nodes X) → AreNodes ns → IsNode (name, table) → AreNodes (put_entry name_cmp name table ns)
  nodes-put name table ns are one = (is_true _ (is_sorted-put name_cmp name_cmp_total name table ns (is_T _ are.0)), all ns are.1)
    where
      all : (ns : Nodes X) → AllByRecursion IsNode ns → AllByRecursion IsNode (put_entry name_cmp name table ns)
      all [] h = (one, tt)
      all (g ∷ ns) h = by (name_cmp name g.0) refl (all ns h.1)
        where
          by : (r : Ordering) → name_cmp name g.0 ≡ r → AllByRecursion IsNode (put_entry name_cmp name table ns)
              → AllByRecursion IsNode (by_order r ((name, table) ∷ g ∷ ns) ((g.0, table) ∷ ns) (g ∷ put_entry name_cmp name table ns))
          by Less e rest = (one, h)
          by Equal e rest = (subst (λ (l : Labels). IsNode (l, table)) (same_names name g.0 e) one, h.1)
          by Greater e rest = (h.0, rest)

  -- where one node has what other rows have of its name, and all rows have what these have elsewhere, all become these
  pub all_rows-put : (name : Labels) (table : TableState X) (ns : Nodes X) (set : Rows X) → AreNodes ns → IsNode (name, table) → Rising set
      → ((q : Key) → q.owner ≡ name → row_at q table.rows ≡ row_at q set)
      → ((q : Key) → is_eq (name_cmp q.owner name) ≡ false → row_at q (all_rows ns) ≡ row_at q set)
      → all_rows (put_entry name_cmp name table ns) ≡ set
  all_rows-put name table ns set are one sorted here elsewhere =
      let new = nodes-put name table ns are one in
      same_maps _ set (rising-all_rows _ new) sorted (λ q.
      row_at-all_rows q _ new
      ∙ ap (value_in q) (find-put name_cmp name_cmp_total q.owner name table ns)
      ∙ by q (name_cmp q.owner name) refl)
    where
      by : (q : Key) (r : Ordering) → name_cmp q.owner name ≡ r → value_in q (cond (is_eq r) (Some table) (table_at q.owner ns)) ≡ row_at q set
      by q Less e = sym (row_at-all_rows q ns are) ∙ elsewhere q (ap is_eq e)
      by q Greater e = sym (row_at-all_rows q ns are) ∙ elsewhere q (ap is_eq e)
      by q Equal e = here q (same_names q.owner name e)

  -- ---- a key put, and taken out

  -- the rows of a name that all nodes show are those of its table
  row_at-here : (q : Key) (name : Labels) (ns : Nodes X) → AreNodes ns → q.owner ≡ name → row_at q (all_rows ns) ≡ row_at q (rows_in (table_at name ns))
  row_at-here q name ns are same = row_at-all_rows q ns are ∙ by (table_at q.owner ns) ∙ ap (λ (l : Labels). row_at q (rows_in (table_at l ns))) same
    where
      by : (o : Option (TableState X)) → value_in q o ≡ row_at q (rows_in o)
      by None = refl
      by (Some table) = refl

  pub all_rows-put_key : (key : Key) (value : X) (table : TableState X) (ns : Nodes X) → AreNodes ns → IsNode (key.owner, table)
      → table.rows ≡ put_row key value (rows_in (table_at key.owner ns)) → all_rows (put_entry name_cmp key.owner table ns) ≡ put_row key value (all_rows ns)
  all_rows-put_key key value table ns are one is =
      all_rows-put key.owner table ns (put_row key value (all_rows ns)) are one (rising-put key value (all_rows ns) (rising-all_rows ns are))
      (λ q same.
      ap (row_at q) is
      ∙ find-put key_cmp key_cmp_total q key value (rows_in (table_at key.owner ns))
      ∙ ap (λ (o : Option X). cond (eq_by_cmp key_cmp q key) (Some value) o) (sym (row_at-here q key.owner ns are same))
      ∙ sym (find-put key_cmp key_cmp_total q key value (all_rows ns)))
      (λ q other.
      sym (find-put key_cmp key_cmp_total q key value (all_rows ns)
      ∙ ap (λ (b : Bool). cond b (Some value) (row_at q (all_rows ns))) (unlike (name_cmp q.owner key.owner) _ other)))

  pub all_rows-without_key : (key : Key) (table : TableState X) (ns : Nodes X) → AreNodes ns → IsNode (key.owner, table)
      → table.rows ≡ without_rows (same_key key) (rows_in (table_at key.owner ns)) → all_rows (put_entry name_cmp key.owner table ns) ≡ without_rows (same_key key) (all_rows ns)
  all_rows-without_key key table ns are one is =
      all_rows-put key.owner table ns (without_rows (same_key key) (all_rows ns)) are one (rising-without (same_key key) (all_rows ns) (rising-all_rows ns are))
      (λ q same.
      ap (row_at q) is
      ∙ row_at-without key q (rows_in (table_at key.owner ns))
      ∙ ap (λ (o : Option X). cond (not (same_key key q)) o None) (sym (row_at-here q key.owner ns are same))
      ∙ sym (row_at-without key q (all_rows ns)))
      (λ q other.
      sym (row_at-without key q (all_rows ns)
      ∙ ap (λ (b : Bool). cond (not b) (row_at q (all_rows ns)) None) (turned q other)))
    where
      turned : (q : Key) → is_eq (name_cmp q.owner key.owner) ≡ false → same_key key q ≡ false
      turned q other = (eq_by_cmp_equiv key_cmp_total).symm key q ∙ unlike (name_cmp q.owner key.owner) _ other

  -- a table with the same rows stands for the old one
  pub all_rows-same_rows : (name : Labels) (table : TableState X) (ns : Nodes X) → AreNodes ns → IsNode (name, table) → table.rows ≡ rows_in (table_at name ns)
      → all_rows (put_entry name_cmp name table ns) ≡ all_rows ns
  all_rows-same_rows name table ns are one is =
      all_rows-put name table ns (all_rows ns) are one (rising-all_rows ns are)
      (λ q same. ap (row_at q) is ∙ sym (row_at-here q name ns are same))
      (λ q other. refl)

  -- a node without rows adds none
  pub all_rows-put_name : (name : Labels) (table : TableState X) (ns : Nodes X) → AreNodes ns → lower name ≡ name → table_at name ns ≡ None → table.rows ≡ []
      → all_rows (put_entry name_cmp name table ns) ≡ all_rows ns
  all_rows-put_name name table ns are low none is =
      all_rows-put name table ns (all_rows ns) are (subst (λ (l : Rows X). (is_rising l ≡ true) × (lower name ≡ name) × OfName name l) (sym is) (refl, low, tt)) (rising-all_rows ns are)
      (λ q same. ap (row_at q) is ∙ sym (row_at-here q name ns are same ∙ ap (λ (o : Option (TableState X)). row_at q (rows_in o)) none))
      (λ q other. refl)
