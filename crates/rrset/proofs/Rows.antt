-- Tables: what a search finds, and the rows after a change.
use Rattle.std.proofs.Common.{◌≡◌, ℕ, ◌+◌, ◌<◌, Bool, true, false, not, T, List, length, take, get_or, set, Result, Ok, Err, Bor, refl, sym, ap, subst, ◌∙◌, arith}
use Rattle.std.specs.Result.{IfOk, IfErr}
use Rattle.std.specs.Fn.{ComputesKey}
use denote.Param.Members.{Mut, Called}
use Rattle.std.specs.declared.cmp.Ordering.{Ordering}
use Rattle.std.proofs.lemmas.Fn.{always_returns_same}
use Rattle.std.specs.Ordering.{is_gt, ordering_index}
use Rattle.std.specs.List.{insert, remove, items_where_true}
use Rattle.std.specs.List.Sorted.{IsNonDecreasingBy, IsSearchInRange, IsBinarySearchResult}
use Rattle.std.specs.FinMap.Entries.{is_sorted-put, is_sorted-where_key}
use Rattle.std.proofs.lemmas.List.Sorted.{searchable_from_sorted}
use Rattle.std.proofs.lemmas.List.{take_more}
use Rattle.std.proofs.lemmas.List.Sums.{sum_by_push}
use Rattle.rrset.specs.Records.{key_cmp, same_key, rr_of, rr_size}
use Rattle.rrset.specs.RecordSet.{RecordSet, size_of}
use Rattle.rrset.specs.KeyedRows.{Rows, is_rising, put_row, without_rows}
use Rattle.rrset.specs.Tables.{HasLowerOwner, HaveLowerOwners, IsAt, IsGapFor, counted}
use Rattle.rrset.specs.declared.record.Key.{Key}
use Rattle.rrset.specs.declared.record.Shown.{Shown}
use Rattle.rrset.proofs.KeyOrder.{key_cmp_total}
use Rattle.rrset.proofs.Places.{sorted_by, StandsAt, stands_at, GoesTo, goes_to, is_sorted-chosen, all_chosen, all_filter, all_put}

is_T : (b : Bool) → b ≡ true → T b
is_T b e = subst T (sym e) tt

is_true : (b : Bool) → T b → b ≡ true
is_true true h = refl
is_true false h = absurd h

module _ {X : Type 0} where
  -- what a table's rows are
  abbrev pub AreRows : Rows X → Type 0
  AreRows rows = (is_rising rows ≡ true) × HaveLowerOwners rows

  -- ---- a search

  keys_rise_to : (key : Key) (rows : Rows X) → AreRows rows → IsNonDecreasingBy (λ e. ordering_index (key_cmp e.0 key)) rows
  keys_rise_to key rows are =
      searchable_from_sorted key_cmp_total (λ (e : Key × X). e.0) rows key
      (sorted_by key_cmp_total key_cmp key_cmp_total (λ e. e.0) (λ a b e. ap is_gt e) rows (is_T _ are.0))

  -- from the clause `position` of a search, where each call gives ord of the entry
  pub position-from_clause : {F : Type 0} {g : Mut F (Bor (Key × X) × Unit {0}) Ordering} {f : F} (ord : Key × X → Ordering) (rows : Rows X) (r : Result ℕ ℕ)
      → ((o : Key × X → Ordering) → ComputesKey g o f → IsBinarySearchResult o rows r)
      → ((a : Bor (Key × X) × Unit {0}) (b : Ordering) (f' : F) → Called g f a b f' → (b ≡ ord a.0.now) × (f' ≡ f)) → IsBinarySearchResult ord rows r
  position-from_clause {g = g} {f = f} ord rows r clause h = clause ord (always_returns_same g (λ a b. b ≡ ord a.0.now) f h)

  pub search_found : (key : Key) (rows : Rows X) (r : Result ℕ ℕ) → IsSearchInRange r (length rows) → IsBinarySearchResult (λ e. key_cmp e.0 key) rows r → IfOk r (IsAt key rows)
  search_found key rows (Ok index) within is = record { within = within; equal = is }
  search_found key rows (Err index) within is = tt

  pub search_absent : (key : Key) (rows : Rows X) (r : Result ℕ ℕ) → AreRows rows → IsSearchInRange r (length rows) → IsBinarySearchResult (λ e. key_cmp e.0 key) rows r → IfErr r (IsGapFor key rows)
  search_absent key rows (Ok index) are within is = tt
  search_absent key rows (Err index) are within is = record { within = within; between = is (keys_rise_to key rows are) }

  pub row_stands : (key : Key) (rows : Rows X) (index : ℕ) (d : Key × X) → AreRows rows → IsAt key rows index → StandsAt key_cmp key rows index d
  row_stands key rows index d are at = stands_at key_cmp_total key rows (is_T _ are.0) index d at.within (at.equal d)

  pub no_row : (key : Key) (rows : Rows X) (index : ℕ) → IsGapFor key rows index → GoesTo key_cmp key rows index
  no_row key rows index gap = goes_to key_cmp_total key rows index gap.within gap.between.0 gap.between.1

  -- ---- the rows after a change

  pub rows_chosen : (bs : List Bool) (rows : Rows X) → AreRows rows → AreRows (items_where_true bs rows)
  rows_chosen bs rows are = (is_true _ (is_sorted-chosen key_cmp bs rows (is_T _ are.0)), all_chosen (λ e. HasLowerOwner e.0) bs rows are.1)

  rows_put : (key : Key) (value : X) (rows : Rows X) → AreRows rows → HasLowerOwner key → AreRows (put_row key value rows)
  rows_put key value rows are low = (is_true _ (is_sorted-put key_cmp key_cmp_total key value rows (is_T _ are.0)), all_put key_cmp HasLowerOwner key value rows low are.1)

  rows_without : (test : Key → Bool) (rows : Rows X) → AreRows rows → AreRows (without_rows test rows)
  rows_without test rows are = (is_true _ (is_sorted-where_key key_cmp (λ key. not (test key)) rows (is_T _ are.0)), all_filter (λ e. HasLowerOwner e.0) (λ e. not (test e.0)) rows are.1)

  pub record Puts (key : Key) (value : X) (rows new : Rows X) : Type 0 where
    pub are : AreRows new
    pub is : new ≡ put_row key value rows

  puts : (key : Key) (value : X) (rows new : Rows X) → AreRows rows → HasLowerOwner key → new ≡ put_row key value rows → Puts key value rows new
  puts key value rows new are low is = record { are = subst AreRows (sym is) (rows_put key value rows are low); is = is }

  -- another value stands at the key's index
  pub replaced : (key : Key) (value now : X) (rows new : Rows X) (index : ℕ) (entry : Key × X) → AreRows rows → HasLowerOwner key → IsAt key rows index
      → entry ≡ get_or rows index entry → now ≡ value → new ≡ set rows index (entry.0, now) → Puts key value rows new
  replaced key value now rows new index entry are low at entry-is now-is new-is =
      puts key value rows new are low
      (new-is ∙ ap (λ (k : Key). set rows index (k, now)) (ap (λ (e : Key × X). e.0) entry-is) ∙ ap (λ (s : X). set rows index ((get_or rows index entry).0, s)) now-is
      ∙ sym ((row_stands key rows index entry are at).puts value))

  -- a new entry stands where its key goes
  pub inserted : (key : Key) (value : X) (rows new : Rows X) (index : ℕ) → AreRows rows → HasLowerOwner key → IsGapFor key rows index
      → new ≡ insert rows index (key, value) → Puts key value rows new
  inserted key value rows new index are low gap new-is = puts key value rows new are low (new-is ∙ sym ((no_row key rows index gap).puts value))

  pub record Removes (key : Key) (rows new : Rows X) : Type 0 where
    pub are : AreRows new
    pub is : new ≡ without_rows (same_key key) rows

  pub removed : (key : Key) (rows new : Rows X) (index : ℕ) (d : Key × X) → AreRows rows → IsAt key rows index → new ≡ remove rows index → Removes key rows new
  removed key rows new index d are at new-is =
      let is : new ≡ without_rows (same_key key) rows = new-is ∙ sym ((row_stands key rows index d are at).left) in
      record { are = subst AreRows (sym is) (rows_without (same_key key) rows are); is = is }

-- ---- sizes

abbrev pub record_size : Key × Shown → ℕ
record_size e = rr_size (rr_of e.0 e.1)

counted_more : (a b : ℕ) → counted (counted a + b) ≡ counted (a + b)
counted_more a b = omega arith

pub sized_more : (rows : RecordSet) (d : Key × Shown) (index size now : ℕ) → index < length rows → size ≡ counted (size_of (take index rows))
    → now ≡ counted (size + record_size (get_or rows index d)) → now ≡ counted (size_of (take (index + 1) rows))
sized_more rows d index size now within so_far now-is =
    now-is
    ∙ ap (λ (n : ℕ). counted (n + record_size (get_or rows index d))) so_far
    ∙ counted_more (size_of (take index rows)) (record_size (get_or rows index d))
    ∙ ap counted (sym (ap size_of (take_more rows index d within) ∙ sum_by_push record_size (take index rows) (get_or rows index d)))
