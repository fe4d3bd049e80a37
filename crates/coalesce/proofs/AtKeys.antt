-- What notices do to what is shown of a key.
use Rattle.std.proofs.Common.{◌≡◌, Bool, true, false, cond, ◌&&◌, ◌||◌, List, [], ◌∷◌, Option, Some, None, ◌∙◌, ap, refl}
use Rattle.std.specs.List.{list_all, list_any}
use Rattle.std.specs.Option.{option_or}
use Rattle.std.specs.FinMap.Entries.{below_all}
use Rattle.std.proofs.lemmas.Bool.{and_parts}
use Rattle.rrset.specs.Records.{key_of, shown_of, rr_of, key_cmp, same_key, matches}
use Rattle.rrset.specs.RecordSet.{RecordSet, without, put, shown_at, is_in_order, shows_its_key}
use Rattle.rrset.specs.declared.record.Rr.{Rr}
use Rattle.rrset.specs.declared.record.Key.{Key}
use Rattle.rrset.specs.declared.record.Shown.{Shown}
use Rattle.rrset.specs.declared.record.Question.{Question}
use Rattle.rrset.proofs.Sets.{shown_at-put}
use Rattle.rrset.proofs.InOrder.{InOrder, in_order-put, in_order-without}
use Rattle.rrset.proofs.SameRows.{same_key-same}
use Rattle.dsotlv.specs.Notices.{removed_by, added_by, applied, applied_all}
use Rattle.dsotlv.specs.declared.message.Notice.{Notice}
use Rattle.dsotlv.specs.declared.message.Notice.TheVariants.{Add, RemoveOne, RemoveSet, RemoveClass, RemoveAll, Odd}
use Rattle.coalesce.specs.Net.{additions}
use Rattle.coalesce.proofs.Filters.{truth, holds, shown_at-without, shown_at-below}

-- ---- order

in_order-added_by : (n : Notice) (q : Question) (set : RecordSet) → InOrder set → InOrder (added_by n q set)
in_order-added_by (Add rr) q set h = by (matches q (key_of rr))
  where
    by : (b : Bool) → InOrder (cond b (put (key_of rr) (shown_of rr) set) set)
    by true = in_order-put (key_of rr) (shown_of rr) set h
    by false = h
in_order-added_by (RemoveOne rr) q set h = h
in_order-added_by (RemoveSet name class kind) q set h = h
in_order-added_by (RemoveClass name class) q set h = h
in_order-added_by (RemoveAll name) q set h = h
in_order-added_by (Odd name ttl) q set h = h

pub in_order-applied_all : (notices : List Notice) (q : Question) (set : RecordSet) → InOrder set → InOrder (applied_all notices q set)
in_order-applied_all [] q set h = h
in_order-applied_all (n ∷ ns) q set h = in_order-applied_all ns q (applied q set n) (in_order-added_by n q _ (in_order-without (removed_by n) set h))

-- ---- additions

shown_at-add : (q : Question) (k : Key) (rr : Rr) (set : RecordSet) → shown_at k (applied q set (Add rr)) ≡ cond (matches q (key_of rr) && same_key k (key_of rr)) (Some (shown_of rr)) (shown_at k set)
shown_at-add q k rr set = by (matches q (key_of rr))
  where
    by : (b : Bool) → shown_at k (cond b (put (key_of rr) (shown_of rr) (without (λ key. false) set)) (without (λ key. false) set)) ≡ cond (b && same_key k (key_of rr)) (Some (shown_of rr)) (shown_at k set)
    by true = shown_at-put k (key_of rr) (shown_of rr) (without (λ key. false) set) ∙ ap (λ o. cond (same_key k (key_of rr)) (Some (shown_of rr)) o) (shown_at-without (λ key. false) k set)
    by false = shown_at-without (λ key. false) k set

-- a record that shows its key is added at that key
shown_at-add_own : (q : Question) (k : Key) (e : Key × Shown) (set : RecordSet) → shows_its_key e ≡ true
    → shown_at k (applied q set (Add (rr_of e.0 e.1))) ≡ cond (matches q e.0 && same_key k e.0) (Some e.1) (shown_at k set)
shown_at-add_own q k e set own =
    shown_at-add q k (rr_of e.0 e.1) set ∙ ap (λ key. cond (matches q key && same_key k key) (Some e.1) (shown_at k set)) (same_key-same (key_of (rr_of e.0 e.1)) e.0 own)

addition_step : (m n s : Bool) (x : Shown) (rest before : Option Shown) → (s ≡ true → m ≡ n) → (s ≡ true → rest ≡ None)
    → cond m (option_or rest (cond (n && s) (Some x) before)) (cond (n && s) (Some x) before) ≡ cond m (option_or (cond s (Some x) rest) before) before
addition_step true true true x None before a b = refl
addition_step true true true x (Some y) before a b = let e : Some y ≡ None = b refl in cc
addition_step true true false x rest before a b = refl
addition_step true false true x rest before a b = let e : true ≡ false = a refl in cc
addition_step true false false x rest before a b = refl
addition_step false true true x rest before a b = let e : false ≡ true = a refl in cc
addition_step false true false x rest before a b = refl
addition_step false false s x rest before a b = refl

-- additions of a set show what it shows, where the question matches
pub shown_at-additions : (q : Question) (k : Key) (part set : RecordSet) → InOrder part → list_all shows_its_key part ≡ true
    → shown_at k (applied_all (additions part) q set) ≡ cond (matches q k) (option_or (shown_at k part) (shown_at k set)) (shown_at k set)
shown_at-additions q k [] set h own = by (matches q k)
  where
    by : (b : Bool) → shown_at k set ≡ cond b (shown_at k set) (shown_at k set)
    by true = refl
    by false = refl
shown_at-additions q k (e ∷ es) set h own =
    shown_at-additions q k es (applied q set (Add (rr_of e.0 e.1))) (holds _ order.1) owns.1
    ∙ ap (λ o. cond (matches q k) (option_or (shown_at k es) o) o) (shown_at-add_own q k e set owns.0)
    ∙ addition_step (matches q k) (matches q e.0) (same_key k e.0) e.1 (shown_at k es) (shown_at k set)
    (λ s. ap (matches q) (same_key-same k e.0 s))
    (λ s. ap (λ key. shown_at key es) (same_key-same k e.0 s) ∙ shown_at-below e.0 es (holds _ order.0))
  where
    order : (below_all key_cmp e.0 es ≡ true) × (is_in_order es ≡ true)
    order = and_parts (below_all key_cmp e.0 es) (is_in_order es) (truth _ h)

    owns : (shows_its_key e ≡ true) × (list_all shows_its_key es ≡ true)
    owns = and_parts (shows_its_key e) (list_all shows_its_key es) own

-- ---- removals

abbrev pub is_removal : Notice → Bool
is_removal (Add rr) = false
is_removal _ = true

pub shown_at-removal : (n : Notice) → is_removal n ≡ true → (q : Question) (k : Key) (set : RecordSet) → shown_at k (applied q set n) ≡ cond (removed_by n k) None (shown_at k set)
shown_at-removal (Add rr) e q k set = cc
shown_at-removal (RemoveOne rr) e q k set = shown_at-without (removed_by (RemoveOne rr)) k set
shown_at-removal (RemoveSet name class kind) e q k set = shown_at-without (removed_by (RemoveSet name class kind)) k set
shown_at-removal (RemoveClass name class) e q k set = shown_at-without (removed_by (RemoveClass name class)) k set
shown_at-removal (RemoveAll name) e q k set = shown_at-without (removed_by (RemoveAll name)) k set
shown_at-removal (Odd name ttl) e q k set = shown_at-without (removed_by (Odd name ttl)) k set

abbrev pub is_taken_out : Key → List Notice → Bool
is_taken_out k ns = list_any (λ n. removed_by n k) ns

-- removals take out what one of them takes out
pub shown_at-removals : (ns : List Notice) → list_all is_removal ns ≡ true → (q : Question) (k : Key) (set : RecordSet)
    → shown_at k (applied_all ns q set) ≡ cond (is_taken_out k ns) None (shown_at k set)
shown_at-removals [] all q k set = refl
shown_at-removals (n ∷ ns) all q k set =
    shown_at-removals ns (and_parts (is_removal n) (list_all is_removal ns) all).1 q k (applied q set n)
    ∙ ap (λ o. cond (is_taken_out k ns) None o) (shown_at-removal n (and_parts (is_removal n) (list_all is_removal ns) all).0 q k set)
    ∙ by (removed_by n k) (is_taken_out k ns)
  where
    by : (a b : Bool) → cond b None (cond a None (shown_at k set)) ≡ cond (a || b) None (shown_at k set)
    by true true = refl
    by true false = refl
    by false b = refl
