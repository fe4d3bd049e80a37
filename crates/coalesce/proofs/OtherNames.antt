-- Notices of one name leave the records of another, so several names in one message don't meet.
use Rattle.std.proofs.Common.{◌≡◌, Bool, true, false, cond, not, List, [], ◌∷◌, ◌++◌, true≢false, sym, ◌∙◌, ap, refl, Ordering, Less, Equal, Greater}
use Rattle.std.specs.List.{list_all}
use Rattle.std.specs.FinMap.Entries.{by_order}
use Rattle.std.proofs.lemmas.Bool.{not-true, and_left, and_from, and_parts}
use Rattle.std.proofs.lemmas.List.Sums.{fold-append}
use Rattle.std.proofs.lemmas.Grind.{flat_map-append}
use Rattle.dnsname.specs.Names.{Labels, same_name}
use Rattle.rrset.specs.Records.{key_of, shown_of, key_cmp, same_key, matches}
use Rattle.rrset.specs.RecordSet.{RecordSet, without, put, matching}
use Rattle.rrset.specs.declared.record.Key.{Key}
use Rattle.rrset.specs.declared.record.Shown.{Shown}
use Rattle.rrset.specs.declared.record.Question.{Question}
use Rattle.rrset.proofs.SameRows.{same_key-same}
use Rattle.dsotlv.specs.Notices.{removed_by, added_by, applied, applied_all}
use Rattle.dsotlv.specs.declared.message.Notice.{Notice}
use Rattle.dsotlv.specs.declared.message.Notice.TheVariants.{Add, RemoveOne, RemoveSet, RemoveClass, RemoveAll, Odd}
use Rattle.coalesce.specs.Net.{Nets}
use Rattle.coalesce.specs.Laws.{all_notices, speaks_of, are_others, OneOfSeveral, OthersChangeNothing}
use Rattle.coalesce.proofs.Filters.{all-filter}
use Rattle.coalesce.proofs.SameNames.{same_name-apart, same_name-lower}

-- ---- sets of the question's name

abbrev pub is_named : Question → Key × Shown → Bool
is_named q e = same_name q.name e.0.owner

abbrev pub AreNamed : Question → RecordSet → Type 0
AreNamed q set = list_all (is_named q) set ≡ true

named-put : (q : Question) (key : Key) (shown : Shown) (set : RecordSet) → same_name q.name key.owner ≡ true → AreNamed q set → AreNamed q (put key shown set)
named-put q key shown [] named h = and_from _ _ named refl
named-put q key shown (e ∷ es) named h = by (named-put q key shown es named (and_parts (is_named q e) (list_all (is_named q) es) h).1) (key_cmp key e.0)
  where
    by : AreNamed q (put key shown es) → (o : Ordering) → AreNamed q (by_order o ((key, shown) ∷ e ∷ es) ((e.0, shown) ∷ es) (e ∷ put key shown es))
    by rest Less = and_from _ _ named h
    by rest Equal = h
    by rest Greater = and_from _ _ (and_parts (is_named q e) (list_all (is_named q) es) h).0 rest

named-added : (q : Question) (n : Notice) (set : RecordSet) → AreNamed q set → AreNamed q (added_by n q set)
named-added q (Add rr) set h = by (matches q (key_of rr)) refl
  where
    by : (b : Bool) → matches q (key_of rr) ≡ b → AreNamed q (cond b (put (key_of rr) (shown_of rr) set) set)
    by true m = named-put q (key_of rr) (shown_of rr) set (and_parts _ _ (and_parts _ _ m).0).0 h
    by false m = h
named-added q (RemoveOne rr) set h = h
named-added q (RemoveSet name class kind) set h = h
named-added q (RemoveClass name class) set h = h
named-added q (RemoveAll name) set h = h
named-added q (Odd name ttl) set h = h

pub named-applied_all : (q : Question) (ns : List Notice) (set : RecordSet) → AreNamed q set → AreNamed q (applied_all ns q set)
named-applied_all q [] set h = h
named-applied_all q (n ∷ ns) set h = named-applied_all q ns (applied q set n) (named-added q n (without (removed_by n) set) (all-filter (is_named q) (λ e. not (removed_by n e.0)) set h))

pub named-matching : (q : Question) (set : RecordSet) → AreNamed q (matching q set)
named-matching q [] = refl
named-matching q (e ∷ es) = by (named-matching q es) (matches q e.0) refl
  where
    by : AreNamed q (matching q es) → (b : Bool) → matches q e.0 ≡ b → AreNamed q (cond b (e ∷ matching q es) (matching q es))
    by rest true m = and_from _ _ (and_parts _ _ (and_parts _ _ m).0).0 rest
    by rest false m = rest

-- ---- notices of another name

-- what takes out no key of the name leaves the set
without_none : (q : Question) (p : Key → Bool) → ((k : Key) → same_name q.name k.owner ≡ true → p k ≡ false) → (set : RecordSet) → AreNamed q set → without p set ≡ set
without_none q p none [] h = refl
without_none q p none (e ∷ es) h =
    let parts = and_parts (is_named q e) (list_all (is_named q) es) h in
    ap (λ b. cond (not b) (e ∷ without p es) (without p es)) (none e.0 parts.0) ∙ ap (λ s. e ∷ s) (without_none q p none es parts.1)

-- a key of the question's name has no owner of another
other_owner : (q : Question) (name owner : Labels) → same_name q.name name ≡ false → same_name name owner ≡ true → (k : Key) → same_name q.name k.owner ≡ true → same_name owner k.owner ≡ false
other_owner q name owner apart of k named = by (same_name owner k.owner) refl
  where
    by : (b : Bool) → same_name owner k.owner ≡ b → b ≡ false
    by true s = absurd (true≢false (sym named ∙ same_name-apart q.name owner k.owner (same_name-apart q.name name owner apart of) s))
    by false s = refl

adds_no_other : (q : Question) (name : Labels) (n : Notice) (set : RecordSet) → same_name q.name name ≡ false → speaks_of name n ≡ true → added_by n q set ≡ set
adds_no_other q name (Add rr) set apart of =
    ap (λ b. cond b (put (key_of rr) (shown_of rr) set) set) (and_left _ _ (and_left _ _ (same_name-lower q.name rr.owner ∙ same_name-apart q.name name rr.owner apart of)))
adds_no_other q name (RemoveOne rr) set apart of = refl
adds_no_other q name (RemoveSet owner class kind) set apart of = refl
adds_no_other q name (RemoveClass owner class) set apart of = refl
adds_no_other q name (RemoveAll owner) set apart of = refl
adds_no_other q name (Odd owner ttl) set apart of = refl

removes_no_other : (q : Question) (name : Labels) (n : Notice) → same_name q.name name ≡ false → speaks_of name n ≡ true → (k : Key) → same_name q.name k.owner ≡ true → removed_by n k ≡ false
removes_no_other q name (Add rr) apart of k named = refl
removes_no_other q name (RemoveOne rr) apart of k named = by (same_key (key_of rr) k) refl
  where
    by : (b : Bool) → same_key (key_of rr) k ≡ b → b ≡ false
    by true s = absurd (true≢false (sym named ∙ sym (ap (λ key. same_name q.name key.owner) (same_key-same (key_of rr) k s)) ∙ same_name-lower q.name rr.owner ∙ same_name-apart q.name name rr.owner apart of))
    by false s = refl
removes_no_other q name (RemoveSet owner class kind) apart of k named = and_left _ _ (and_left _ _ (other_owner q name owner apart of k named))
removes_no_other q name (RemoveClass owner class) apart of k named = and_left _ _ (other_owner q name owner apart of k named)
removes_no_other q name (RemoveAll owner) apart of k named = other_owner q name owner apart of k named
removes_no_other q name (Odd owner ttl) apart of k named = refl

leaves : (q : Question) (name : Labels) (n : Notice) (set : RecordSet) → same_name q.name name ≡ false → speaks_of name n ≡ true → AreNamed q set → applied q set n ≡ set
leaves q name n set apart of h = ap (added_by n q) (without_none q (removed_by n) (removes_no_other q name n apart of) set h) ∙ adds_no_other q name n set apart of

pub all_leave : (q : Question) (name : Labels) (ns : List Notice) (set : RecordSet) → same_name q.name name ≡ false → list_all (speaks_of name) ns ≡ true → AreNamed q set → applied_all ns q set ≡ set
all_leave q name [] set apart of h = refl
all_leave q name (n ∷ ns) set apart of h =
    let parts = and_parts (speaks_of name n) (list_all (speaks_of name) ns) of in
    ap (applied_all ns q) (leaves q name n set apart parts.0 h) ∙ all_leave q name ns set apart parts.1 h

-- ---- several names

others_leave : (q : Question) (names : Nets) (set : RecordSet) → are_others q names ≡ true → AreNamed q set → applied_all (all_notices names) q set ≡ set
others_leave q [] set others h = refl
others_leave q (e ∷ es) set others h =
    let parts = and_parts _ (are_others q es) others in
    let first = and_parts (not (same_name q.name e.0)) (list_all (speaks_of e.0) e.1) parts.0 in
    fold-append (applied q) set e.1 (all_notices es)
    ∙ ap (applied_all (all_notices es) q) (all_leave q e.0 e.1 set (not-true _ first.0) first.1 h)
    ∙ others_leave q es set parts.1 h

pub others_change_nothing : OthersChangeNothing
others_change_nothing names q set others = others_leave q names (matching q set) others (named-matching q set)

pub one_of_several : OneOfSeveral
one_of_several front back name ns q set before behind =
    ap (λ os. applied_all os q (matching q set)) (flat_map-append (λ (e : Labels × List Notice). e.1) front ((name, ns) ∷ back))
    ∙ fold-append (applied q) (matching q set) (all_notices front) (ns ++ all_notices back)
    ∙ ap (applied_all (ns ++ all_notices back) q) (others_leave q front (matching q set) before (named-matching q set))
    ∙ fold-append (applied q) (matching q set) ns (all_notices back)
    ∙ others_leave q back (applied_all ns q (matching q set)) behind (named-applied_all q ns (matching q set) (named-matching q set))
