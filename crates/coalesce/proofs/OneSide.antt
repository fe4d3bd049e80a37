-- What is found among the records of one name.
use Rattle.std.proofs.Common.{◌≡◌, ℕ, ◌<◌, ◌^◌, Bool, true, false, cond, not, ◌||◌, ◌&&◌, [], ◌∷◌, length, Result, None, Ok, Err, subst, sym, ap, refl, ◌∙◌}
use Rattle.std.specs.Prelude.{◌==◌}
use Rattle.std.specs.Ordering.{is_gt, ordering_index}
use Rattle.std.specs.FinMap.Entries.{below_all}
use Rattle.std.specs.List.{list_any, list_all}
use Rattle.std.specs.List.Sorted.{IsNonDecreasingBy, IsSearchInRange, IsBinarySearchResult}
use Rattle.std.proofs.lemmas.Bool.{and_parts}
use Rattle.std.proofs.lemmas.List.Sorted.{searchable_from_sorted}
use Rattle.push_base.specs.Cases.{is_empty}
use Rattle.rrset.specs.Records.{key_cmp}
use Rattle.rrset.specs.KeyedRows.{Rows, is_rising}
use Rattle.rrset.specs.RecordSet.{RecordSet, is_in_order, shows_its_key, only, shown_at}
use Rattle.rrset.specs.declared.record.Key.{Key}
use Rattle.rrset.specs.declared.record.Shown.{Shown}
use Rattle.rrset.proofs.KeyOrder.{key_cmp_total}
use Rattle.rrset.proofs.Sets.{shown_at-only}
use Rattle.rrset.proofs.Places.{and_right, sorted_by, StandsAt, stands_at, GoesTo, goes_to}
use Rattle.coalesce.specs.Laws.{is_sent_so}
use Rattle.coalesce.specs.Net.{of_kind}
use Rattle.coalesce.specs.Sides.{IsOneSide}
use Rattle.coalesce.proofs.Filters.{truth, holds}
use Rattle.coalesce.proofs.Sides.{sent, side, is_side-from, parts_stay_sides}

-- the first of them has rdata as short as a message's
pub first_short : (rows : RecordSet) (e : Key × Shown) (es : RecordSet) → IsOneSide rows → rows ≡ e ∷ es → length e.1.rdata < 2 ^ 16
first_short rows e es is same =
    let one = subst IsOneSide same is in
    (sent one.0 e (and_parts (is_sent_so one.0 e) (list_all (is_sent_so one.0) es) (side one.0 (e ∷ es) one.1).sent).0).size

-- so are the others
pub rest_side : (rows : RecordSet) (e : Key × Shown) (es : RecordSet) → IsOneSide rows → rows ≡ e ∷ es → IsOneSide es
rest_side rows e es is same = by (subst IsOneSide same is)
  where
    by : IsOneSide (e ∷ es) → IsOneSide es
    by (name, one) =
        let all = side name (e ∷ es) one in (
          name,
          is_side-from name es (record {
            order = and_right (below_all key_cmp e.0 es) (is_in_order es) all.order;
            own = (and_parts (shows_its_key e) (list_all shows_its_key es) all.own).1;
            sent = (and_parts (is_sent_so name e) (list_all (is_sent_so name) es) all.sent).1;
          }),
        )

pub one_side_order : (rows : RecordSet) → IsOneSide rows → is_in_order rows ≡ true
one_side_order rows (name, one) = truth (is_in_order rows) (side name rows one).order

pub some_of_kind : (p : Key → Bool) (kind : ℕ) (rows : RecordSet) → list_any (λ e. e.0.kind == kind && p e.0) rows ≡ not (is_empty (of_kind kind (only p rows)))
some_of_kind p kind [] = refl
some_of_kind p kind (e ∷ es) = by (p e.0) (e.0.kind == kind) refl (some_of_kind p kind es)
  where
    by : (a b : Bool) → (e.0.kind == kind) ≡ b → list_any (λ (f : Key × Shown). f.0.kind == kind && p f.0) es ≡ not (is_empty (of_kind kind (only p es)))
        → ((b && a) || list_any (λ (f : Key × Shown). f.0.kind == kind && p f.0) es) ≡ not (is_empty (of_kind kind (cond a (e ∷ only p es) (only p es))))
    by true true is rest = sym (ap (λ (b : Bool). not (is_empty (cond b (e ∷ of_kind kind (only p es)) (of_kind kind (only p es))))) is)
    by true false is rest = rest ∙ sym (ap (λ (b : Bool). not (is_empty (cond b (e ∷ of_kind kind (only p es)) (of_kind kind (only p es))))) is)
    by false true is rest = rest
    by false false is rest = rest

-- ---- a part of them

-- where each passes a test
pub only_all : (rows : RecordSet) → only (λ key. true) rows ≡ rows
only_all [] = refl
only_all (e ∷ es) = ap (λ l. e ∷ l) (only_all es)

pub not_asked : (p : Key → Bool) (key : Key) (rows : RecordSet) → p key ≡ false → shown_at key (only p rows) ≡ None
not_asked p key rows no' = shown_at-only p key rows ∙ ap (λ (b : Bool). cond b (shown_at key rows) None) no'

pub asked : (p : Key → Bool) (key : Key) (rows : RecordSet) → p key ≡ true → shown_at key (only p rows) ≡ shown_at key rows
asked p key rows is = shown_at-only p key rows ∙ ap (λ (b : Bool). cond b (shown_at key rows) None) is

pub only_one_side : (p : Key → Bool) (rows : RecordSet) → IsOneSide rows → IsOneSide (only p rows)
only_one_side p rows (name, one) = (name, (parts_stay_sides name p rows one).0)

-- ---- a search, whatever stands at the keys

module _ {X : Type 0} where
  keys_rise : (key : Key) (rows : Rows X) → is_rising rows ≡ true → IsNonDecreasingBy (λ e. ordering_index (key_cmp e.0 key)) rows
  keys_rise key rows order =
      searchable_from_sorted key_cmp_total (λ (e : Key × X). e.0) rows key
      (sorted_by key_cmp_total key_cmp key_cmp_total (λ e. e.0) (λ a b e. ap is_gt e) rows (holds _ order))

  pub stands : (key : Key) (rows : Rows X) (r : Result ℕ ℕ) (index : ℕ) (d : Key × X) → is_rising rows ≡ true → r ≡ Ok index
      → IsSearchInRange r (length rows) → IsBinarySearchResult (λ e. key_cmp e.0 key) rows r → StandsAt key_cmp key rows index d
  stands key rows r index d order is within found =
      stands_at key_cmp_total key rows (holds _ order) index d (subst (λ q. IsSearchInRange q (length rows)) is within) (subst (IsBinarySearchResult (λ e. key_cmp e.0 key) rows) is found d)

  pub goes : (key : Key) (rows : Rows X) (r : Result ℕ ℕ) (index : ℕ) → is_rising rows ≡ true → r ≡ Err index
      → IsSearchInRange r (length rows) → IsBinarySearchResult (λ e. key_cmp e.0 key) rows r → GoesTo key_cmp key rows index
  goes key rows r index order is within found =
      let parted = subst (IsBinarySearchResult (λ e. key_cmp e.0 key) rows) is found (keys_rise key rows order) in
      goes_to key_cmp_total key rows index (subst (λ q. IsSearchInRange q (length rows)) is within) parted.0 parted.1
