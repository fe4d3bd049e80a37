-- The records of an owner and kind stand together in a list in key order.
use Rattle.std.proofs.Common.{◌≡◌, ℕ, ◌≤◌, Bool, true, false, cond, not, ◌&&◌, ◌==◌, T, List, length, take, drop, refl, sym, ap, subst, ◌∙◌, arith}
use Rattle.std.specs.Ordering.{is_lt, is_le, is_gt, is_eq, nat_cmp, ordering_then, ordering_index}
use Rattle.std.specs.Cmp.{IsTotalOrder, then_total, on_total, nat_cmp_total, tied_itself}
use Rattle.std.specs.Cmp.Lexicographic.{nat_list_cmp_total}
use Rattle.std.specs.FinMap.{nat_cmp-IsAntisymmetric}
use Rattle.std.specs.List.{filter, list_any}
use Rattle.push_base.specs.Cases.{is_empty}
use Rattle.std.specs.List.Sorted.{IsNonDecreasingBy, IsPartitionedBy, IsPartitionPoint}
use Rattle.std.specs.declared.cmp.Ordering.{Ordering}
use Rattle.std.specs.declared.cmp.Ordering.TheVariants.{Less, Equal, Greater}
use Rattle.std.proofs.lemmas.Bool.{eq-eqb, eqb-true}
use Rattle.std.proofs.lemmas.List.Sorted.{searchable_from_sorted, IsNonDecreasingBy-drop}
use Rattle.dnsname.specs.Names.{Labels, octets, lower, same_name}
use Rattle.rrset.specs.Kinds.{in_class}
use Rattle.rrset.specs.KeyedRows.{is_rising}
use Rattle.rrset.specs.Records.{key_cmp, octets_cmp}
use Rattle.rrset.specs.RecordSet.{RecordSet, only, at_name, same_keys, is_record_set}
use Rattle.rrset.specs.Tables.{HasLowerOwner, HaveLowerOwners}
use Rattle.rrset.specs.declared.record.Key.{Key}
use Rattle.rrset.specs.declared.record.Shown.{Shown}
use Rattle.rrset.proofs.KeyOrder.{key_cmp_total}
use Rattle.rrset.proofs.Owners.{passing_front, failing_back, filter_both, level_owner}
use Rattle.rrset.proofs.Places.{sorted_by}
use Rattle.rrset.proofs.Sets.{is_eq-Equal}
use Rattle.zoneupdate.specs.Zones.{set_at}
use Rattle.zoneupdate.specs.Checking.{is_of_kind, set_cmp}
use Rattle.zoneupdate.proofs.Filters.{same_truth, and-left}
use Rattle.zoneupdate.proofs.KindSets.{any-only}
use Rattle.zoneupdate.proofs.OneName.{only-only, set-at_name}
use Rattle.zoneupdate.proofs.RecordSets.{set-only, set-lower_owners}

-- ---- owners and kinds in order

abbrev set_order : List ℕ × ℕ → List ℕ × ℕ → Ordering
set_order a b = ordering_then (octets_cmp a.0 b.0) (nat_cmp a.1 b.1)

set_total : IsTotalOrder set_order
set_total = then_total (on_total (λ (p : List ℕ × ℕ). p.0) nat_list_cmp_total) (on_total (λ (p : List ℕ × ℕ). p.1) nat_cmp_total)

first_two : (a b c : Ordering) → ordering_then a (ordering_then b c) ≡ Less → is_gt (ordering_then a b) ≡ false
first_two Less b c e = refl
first_two Equal Less c e = refl
first_two Equal Equal c e = refl
first_two Equal Greater c e = cc
first_two Greater b c e = cc

less_before : (a b : Ordering) → ordering_index a ≤ ordering_index b → is_lt b ≡ true → is_lt a ≡ true
less_before Less b h e = refl
less_before Equal Less h e = absurd (omega arith)
less_before Equal Equal h e = cc
less_before Equal Greater h e = cc
less_before Greater Less h e = absurd (omega arith)
less_before Greater Equal h e = cc
less_before Greater Greater h e = cc

at_most_before : (a b : Ordering) → ordering_index a ≤ ordering_index b → is_le b ≡ true → is_le a ≡ true
at_most_before Less b h e = refl
at_most_before Equal b h e = refl
at_most_before Greater Less h e = absurd (omega arith)
at_most_before Greater Equal h e = absurd (omega arith)
at_most_before Greater Greater h e = cc

-- how an entry's owner and kind compare with others
abbrev pub entry_cmp : Labels → ℕ → Key × Shown → Ordering
entry_cmp owner kind e = set_cmp owner kind e.0

sets_rise : (owner : Labels) (kind : ℕ) (rows : RecordSet) → T (is_rising rows) → IsNonDecreasingBy (λ e. ordering_index (entry_cmp owner kind e)) rows
sets_rise owner kind rows h =
    searchable_from_sorted set_total (λ (e : Key × Shown). (octets e.0.owner, e.0.kind)) rows (octets (lower owner), kind)
    (sorted_by key_cmp_total set_order set_total (λ (e : Key × Shown). (octets e.0.owner, e.0.kind)) (λ a b e. first_two (octets_cmp (octets a.0.owner) (octets b.0.owner)) (nat_cmp a.0.kind b.0.kind) _ e) rows h)

pub less_parted : (owner : Labels) (kind : ℕ) (rows : RecordSet) → T (is_rising rows) → IsPartitionedBy (λ e. is_lt (entry_cmp owner kind e)) rows
less_parted owner kind rows h i j d low within e = less_before _ _ (sets_rise owner kind rows h i j d low within) e

pub at_most_parted : (owner : Labels) (kind : ℕ) (rows : RecordSet) (begin : ℕ) → T (is_rising rows) → IsPartitionedBy (λ e. is_le (entry_cmp owner kind e)) (drop begin rows)
at_most_parted owner kind rows begin h i j d low within e =
    at_most_before _ _ (IsNonDecreasingBy-drop (λ e. ordering_index (entry_cmp owner kind e)) begin rows (sets_rise owner kind rows h) i j d low within) e

-- ---- what is neither less nor greater

level_both : (a b : Ordering) → (not (is_lt (ordering_then a b)) && is_le (ordering_then a b)) ≡ ((not (is_lt a) && is_le a) && is_eq b)
level_both Less b = refl
level_both Equal Less = refl
level_both Equal Equal = refl
level_both Equal Greater = refl
level_both Greater b = refl

same_kind : (m n : ℕ) → is_eq (nat_cmp m n) ≡ (n == m)
same_kind m n =
    same_truth (is_eq (nat_cmp m n)) (n == m) (λ h. eq-eqb n m (sym (nat_cmp-IsAntisymmetric m n (is_eq-Equal (nat_cmp m n) h))))
    (λ h. ap (λ k. is_eq (nat_cmp m k)) (eqb-true n m h) ∙ ap is_eq (tied_itself nat_cmp_total m))

-- a key of this owner and kind, of any class
abbrev pub is_of_set : Labels → ℕ → Key → Bool
is_of_set owner kind key = same_name owner key.owner && kind == key.kind

level_set : (owner : Labels) (kind : ℕ) (e : Key × Shown) → HasLowerOwner e.0 → (not (is_lt (entry_cmp owner kind e)) && is_le (entry_cmp owner kind e)) ≡ is_of_set owner kind e.0
level_set owner kind e low =
    level_both (octets_cmp (octets e.0.owner) (octets (lower owner))) (nat_cmp e.0.kind kind)
    ∙ (λ i. level_owner owner e low i && same_kind e.0.kind kind i)

of_class_in : (owner : Labels) (kind : ℕ) (key : Key) → (is_of_set owner kind key && is_of_kind kind key) ≡ (same_name owner key.owner && in_class == key.class && kind == key.kind)
of_class_in owner kind key = by (same_name owner key.owner) (in_class == key.class) (kind == key.kind)
  where
    by : (a b c : Bool) → ((a && c) && (b && c)) ≡ ((a && b) && c)
    by true true true = refl
    by true true false = refl
    by true false true = refl
    by true false false = refl
    by false b c = refl

-- those from the first that is not less, up to the first that is greater
pub set-among : (owner : Labels) (kind : ℕ) (rows rest found : RecordSet) (begin count : ℕ) → HaveLowerOwners rows
    → IsPartitionPoint (λ e. is_lt (entry_cmp owner kind e) ≡ true) (λ e. is_lt (entry_cmp owner kind e) ≡ false) rows begin → rest ≡ drop begin rows
    → IsPartitionPoint (λ e. is_le (entry_cmp owner kind e) ≡ true) (λ e. is_le (entry_cmp owner kind e) ≡ false) rest count → found ≡ take count rest
    → only (is_of_kind kind) found ≡ set_at owner kind rows
set-among owner kind rows rest found begin count low before rest-is upto found-is =
    ap (only (is_of_kind kind))
    (found-is
    ∙ sym (passing_front (λ e. is_le (entry_cmp owner kind e)) rest count upto.0 upto.1)
    ∙ ap (filter (λ e. is_le (entry_cmp owner kind e))) (rest-is ∙ sym (failing_back (λ e. is_lt (entry_cmp owner kind e)) rows begin before.0 before.1))
    ∙ filter_both (λ e. HasLowerOwner e.0) (λ e. not (is_lt (entry_cmp owner kind e))) (λ e. is_le (entry_cmp owner kind e)) (λ e. is_of_set owner kind e.0) (λ e h. level_set owner kind e h) rows low)
    ∙ only-only (is_of_set owner kind) (is_of_kind kind) (λ key. same_name owner key.owner && in_class == key.class && kind == key.kind) (of_class_in owner kind) rows

-- ---- a set of a zone among the records of its name

-- there are records of the kind where one of those found has it
pub any-among : (owner : Labels) (kind : ℕ) (rows named found : RecordSet) → named ≡ at_name owner rows → only (is_of_kind kind) found ≡ set_at owner kind named
    → list_any (λ e. is_of_kind kind e.0) found ≡ not (is_empty (set_at owner kind rows))
any-among owner kind rows named found at is =
    any-only (is_of_kind kind) found
    ∙ ap (λ (set : RecordSet). not (is_empty set)) (is ∙ ap (set_at owner kind) at ∙ set-at_name owner in_class kind rows)

-- the sets of an owner and kind in two tables, by the records found of them
pub same-among : (owner : Labels) (kind : ℕ) (wanted entries rows named a b : RecordSet) (r : Bool) → entries ≡ wanted → named ≡ at_name owner rows
    → only (is_of_kind kind) a ≡ set_at owner kind entries → only (is_of_kind kind) b ≡ set_at owner kind named
    → r ≡ same_keys (only (is_of_kind kind) a) (only (is_of_kind kind) b) → r ≡ same_keys (set_at owner kind wanted) (set_at owner kind rows)
same-among owner kind wanted entries rows named a b r all at first second is =
    let right : only (is_of_kind kind) b ≡ set_at owner kind rows = second ∙ ap (set_at owner kind) at ∙ set-at_name owner in_class kind rows in
    let left : only (is_of_kind kind) a ≡ set_at owner kind wanted = first ∙ ap (set_at owner kind) all in
    is ∙ (λ i. same_keys (left i) (right i))

-- the records of a name are in order, and their owners are in lower case
pub named-rising : (owner : Labels) (rows named : RecordSet) → is_record_set rows ≡ true → named ≡ at_name owner rows → is_rising named ≡ true
named-rising owner rows named set at = ap is_rising at ∙ and-left _ _ (set-only (λ key. same_name owner key.owner) rows set)

pub named-lower : (owner : Labels) (rows named : RecordSet) → is_record_set rows ≡ true → named ≡ at_name owner rows → HaveLowerOwners named
named-lower owner rows named set at = subst (λ (n : RecordSet). HaveLowerOwners n) (sym at) (set-lower_owners (at_name owner rows) (set-only (λ key. same_name owner key.owner) rows set))
