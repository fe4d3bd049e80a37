-- The changes of an owner stand together where their keys rise.
use Rattle.std.proofs.Common.{◌≡◌, ℕ, zero, suc, ◌+◌, ◌<◌, ◌≤◌, Bool, true, false, cond, not, ◌&&◌, List, [], ◌∷◌, ◌++◌, length, take, drop, get_or, Option, Some, None, is_some, refl, sym, ap, ◌∙◌, arith}
use Rattle.std.specs.Ordering.{is_lt, is_le, is_gt, is_eq, ordering_then, ordering_index}
use Rattle.std.specs.Cmp.{eq_by_cmp_equiv}
use Rattle.std.specs.List.{AllByRecursion, filter}
use Rattle.std.specs.List.Sorted.{IsNonDecreasingBy, IsPartitionedBy, IsPartitionPoint, IsSortedBy}
use Rattle.std.specs.declared.cmp.Ordering.{Ordering}
use Rattle.std.specs.declared.cmp.Ordering.TheVariants.{Less, Equal, Greater}
use Rattle.std.proofs.lemmas.List.{take_more}
use Rattle.std.proofs.lemmas.List.Sorted.{searchable_from_sorted, IsNonDecreasingBy-drop}
use Rattle.dnsname.specs.Names.{Labels}
use Rattle.nametable.specs.Nodes.{name_cmp, count_at, keys_put, rows_after, HaveRisingKeys}
use Rattle.rrset.specs.declared.record.Key.{Key}
use Rattle.rrset.specs.declared.record.Shown.{Shown}
use Rattle.rrset.specs.declared.record.Changed.{Changed}
use Rattle.rrset.proofs.KeyOrder.{key_cmp_total}
use Rattle.rrset.proofs.Places.{sorted_by}
use Rattle.rrset.proofs.Owners.{passing_front, failing_back, filter_both}
use Rattle.nametable.proofs.RisingRows.{is_T}
use Rattle.nametable.proofs.AllRows.{name_cmp_total}
use Rattle.nametable.proofs.KeyRoom.{keys-cons}

first_at_most : (a b : Ordering) → ordering_then a b ≡ Less → is_gt a ≡ false
first_at_most Less b e = refl
first_at_most Equal b e = refl
first_at_most Greater b e = cc

less_before : (a b : Ordering) → ordering_index a ≤ ordering_index b → is_lt b ≡ true → is_lt a ≡ true
less_before Less b h e = refl
less_before Equal Less h e = absurd (omega arith)
less_before Equal Equal h e = cc
less_before Equal Greater h e = cc
less_before Greater Less h e = absurd (omega arith)
less_before Greater Equal h e = cc
less_before Greater Greater h e = cc

at_most_before : (a b : Ordering) → ordering_index a ≤ ordering_index b → is_le b ≡ true → is_le a ≡ true
at_most_before Less b h e = refl
at_most_before Equal b h e = refl
at_most_before Greater Less h e = absurd (omega arith)
at_most_before Greater Equal h e = absurd (omega arith)
at_most_before Greater Greater h e = cc

level : (r : Ordering) → (not (is_lt r) && is_le r) ≡ is_eq r
level Less = refl
level Equal = refl
level Greater = refl

-- how the owner of a change compares with a name
abbrev pub owner_of_change : Labels → Changed → Ordering
owner_of_change name c = name_cmp c.key.owner name

get_or-rows : (changed : List Changed) (i : ℕ) (d : Changed) → get_or (rows_after changed) i (d.key, d.after) ≡ ((get_or changed i d).key, (get_or changed i d).after)
get_or-rows [] i d = refl
get_or-rows (c ∷ cs) zero d = refl
get_or-rows (c ∷ cs) (suc i) d = get_or-rows cs i d

length-rows : (changed : List Changed) → length (rows_after changed) ≡ length changed
length-rows [] = refl
length-rows (c ∷ cs) = ap (λ (n : ℕ). suc n) (length-rows cs)

owners_sorted : (changed : List Changed) → HaveRisingKeys changed → IsSortedBy (λ a b. is_lt (name_cmp a.key.owner b.key.owner)) changed
owners_sorted changed h i d from within =
    let rows = sorted_by key_cmp_total name_cmp name_cmp_total (λ (e : Key × Option Shown). e.0.owner) (λ a b e. first_at_most _ _ e) (rows_after changed) (is_T _ h) i (d.key, d.after) from (let same = length-rows changed in omega (arith, same, within)) in
    sym (λ j. is_lt (name_cmp (get_or-rows changed (i + 1) d j).0.owner (get_or-rows changed i d j).0.owner)) ∙ rows

pub owners_rise_to : (name : Labels) (changed : List Changed) → HaveRisingKeys changed → IsNonDecreasingBy (λ c. ordering_index (owner_of_change name c)) changed
owners_rise_to name changed h = searchable_from_sorted name_cmp_total (λ (c : Changed). c.key.owner) changed name (owners_sorted changed h)

pub changes_parted : (name : Labels) (changed : List Changed) → HaveRisingKeys changed → IsPartitionedBy (λ c. is_lt (owner_of_change name c)) changed
changes_parted name changed h i j d low within e = less_before _ _ (owners_rise_to name changed h i j d low within) e

pub rest_parted : (name : Labels) (changed : List Changed) (begin : ℕ) → HaveRisingKeys changed → IsPartitionedBy (λ c. is_le (owner_of_change name c)) (drop begin changed)
rest_parted name changed begin h i j d low within e =
    at_most_before _ _ (IsNonDecreasingBy-drop (λ c. ordering_index (owner_of_change name c)) begin changed (owners_rise_to name changed h) i j d low within) e

all_yes : (changed : List Changed) → AllByRecursion (λ (c : Changed). Unit {0}) changed
all_yes [] = tt
all_yes (c ∷ cs) = (tt, all_yes cs)

-- the changes of a name: those from the first whose owner is not less, up to the first whose owner is greater
pub run-is : (name : Labels) (changed rest run : List Changed) (begin count : ℕ)
    → IsPartitionPoint (λ c. is_lt (owner_of_change name c) ≡ true) (λ c. is_lt (owner_of_change name c) ≡ false) changed begin → rest ≡ drop begin changed
    → IsPartitionPoint (λ c. is_le (owner_of_change name c) ≡ true) (λ c. is_le (owner_of_change name c) ≡ false) rest count → run ≡ take count rest
    → run ≡ filter (λ c. is_eq (name_cmp name c.key.owner)) changed
run-is name changed rest run begin count before rest-is upto run_is =
    run_is
    ∙ sym (passing_front (λ c. is_le (owner_of_change name c)) rest count upto.0 upto.1)
    ∙ ap (filter (λ c. is_le (owner_of_change name c))) (rest-is ∙ sym (failing_back (λ c. is_lt (owner_of_change name c)) changed begin before.0 before.1))
    ∙ filter_both (λ c. Unit {0}) (λ c. not (is_lt (owner_of_change name c))) (λ c. is_le (owner_of_change name c)) (λ c. is_eq (name_cmp name c.key.owner))
    (λ c h. level (owner_of_change name c) ∙ (eq_by_cmp_equiv name_cmp_total).symm c.key.owner name) changed (all_yes changed)

-- how many of them put something
abbrev pub puts_among : List Changed → ℕ
puts_among changed = length (filter (λ c. is_some c.after) changed)

puts-cons : (c : Changed) (cs : List Changed) (o : Option Shown) → c.after ≡ o → puts_among (c ∷ cs) ≡ cond (is_some o) 1 0 + puts_among cs
puts-cons c cs o is = ap (λ (o : Option Shown). length (cond (is_some o) (c ∷ filter (λ d. is_some d.after) cs) (filter (λ d. is_some d.after) cs))) is ∙ by o
  where
    by : (o : Option Shown) → length (cond (is_some o) (c ∷ filter (λ d. is_some d.after) cs) (filter (λ d. is_some d.after) cs)) ≡ cond (is_some o) 1 0 + puts_among cs
    by None = omega arith
    by (Some s) = omega arith

pub puts_among-is : (name : Labels) (changed : List Changed) → puts_among (filter (λ c. is_eq (name_cmp name c.key.owner)) changed) ≡ count_at name (keys_put changed)
puts_among-is name [] = refl
puts_among-is name (c ∷ cs) =
    by (is_eq (name_cmp name c.key.owner)) (puts_among-is name cs)
    ∙ sym (keys-cons name c cs c.after (is_eq (name_cmp name c.key.owner)) refl refl)
  where
    by : (b : Bool) → puts_among (filter (λ d. is_eq (name_cmp name d.key.owner)) cs) ≡ count_at name (keys_put cs)
        → puts_among (cond b (c ∷ filter (λ d. is_eq (name_cmp name d.key.owner)) cs) (filter (λ d. is_eq (name_cmp name d.key.owner)) cs))
        ≡ cond b (cond (is_some c.after) 1 0) 0 + count_at name (keys_put cs)
    by true rest = puts-cons c (filter (λ d. is_eq (name_cmp name d.key.owner)) cs) c.after refl ∙ ap (λ (n : ℕ). cond (is_some c.after) 1 0 + n) rest
    by false rest = rest ∙ omega arith

-- the changes that put a key of an owner, each by both tests
pub puts_of-is : (name : Labels) (changed : List Changed) → length (filter (λ c. is_some c.after && is_eq (name_cmp name c.key.owner)) changed) ≡ count_at name (keys_put changed)
puts_of-is name [] = refl
puts_of-is name (c ∷ cs) =
    by c.after (is_eq (name_cmp name c.key.owner)) (puts_of-is name cs)
    ∙ sym (keys-cons name c cs c.after (is_eq (name_cmp name c.key.owner)) refl refl)
  where
    by : (o : Option Shown) (b : Bool) → length (filter (λ d. is_some d.after && is_eq (name_cmp name d.key.owner)) cs) ≡ count_at name (keys_put cs)
        → length (cond (is_some o && b) (c ∷ filter (λ d. is_some d.after && is_eq (name_cmp name d.key.owner)) cs) (filter (λ d. is_some d.after && is_eq (name_cmp name d.key.owner)) cs))
        ≡ cond b (cond (is_some o) 1 0) 0 + count_at name (keys_put cs)
    by None true rest = rest ∙ omega arith
    by None false rest = rest ∙ omega arith
    by (Some s) true rest = ap (λ (n : ℕ). suc n) rest ∙ omega arith
    by (Some s) false rest = rest ∙ omega arith

-- ---- counted in turn

puts-push : (some : List Changed) (c : Changed) → puts_among (some ++ c ∷ []) ≡ puts_among some + cond (is_some c.after) 1 0
puts-push [] c = let first : puts_among (c ∷ []) ≡ cond (is_some c.after) 1 0 + 0 = puts-cons c [] c.after refl in omega (arith, first)
puts-push (d ∷ ds) c =
    let longer = puts-cons d (ds ++ c ∷ []) d.after refl in
    let shorter = puts-cons d ds d.after refl in
    let rest = puts-push ds c in
    omega (arith, longer, shorter, rest)

pub puts-more : (all : List Changed) (index : ℕ) (c : Changed) (count now : ℕ) (b : Bool) → count ≡ puts_among (take index all) → c ≡ get_or all index c → index < length all
    → is_some c.after ≡ b → now ≡ count + cond b 1 0 → now ≡ puts_among (take (index + 1) all)
puts-more all index c count now b so_far is within test now-is =
    now-is
    ∙ ap (λ (n : ℕ). n + cond b 1 0) so_far
    ∙ ap (λ (t : Bool). puts_among (take index all) + cond t 1 0) (sym test)
    ∙ sym (puts-push (take index all) c)
    ∙ ap (λ (d : Changed). puts_among (take index all ++ d ∷ [])) is
    ∙ ap puts_among (sym (take_more all index c within))
