-- Changes in two parts of a set, one of them before the other.
--     Before p q      each key that passes the first test comes before each that passes the second
use Rattle.std.proofs.Common.{◌≡◌, Bool, true, false, cond, ◌||◌, T, [], ◌∷◌, ◌++◌, Ordering, Less, refl, sym, ap, subst, ◌∙◌, append_assoc}
use Rattle.std.specs.Ordering.{is_eq, is_lt, ordering_reverse, ordering_then, nat_cmp}
use Rattle.std.specs.FinMap.Entries.{below_all}
use Rattle.dnsname.specs.Names.{Labels, octets, lower, same_name}
use Rattle.rrset.specs.Records.{key_cmp, octets_cmp}
use Rattle.rrset.specs.RecordSet.{RecordSet, only, union, shown_at, changes}
use Rattle.rrset.specs.Tables.{HasLowerOwner, HaveLowerOwners}
use Rattle.rrset.specs.declared.record.Key.{Key}
use Rattle.rrset.specs.declared.record.Shown.{Shown}
use Rattle.rrset.proofs.Apart.{AgreeApart, changed_in-apart, shown_at-passed}
use Rattle.rrset.proofs.Differences.{changed_in, changed_in-first, noted}
use Rattle.rrset.proofs.InOrder.{InOrder, in_order-union}
use Rattle.rrset.proofs.KeyOrder.{key_cmp_total}
use Rattle.rrset.proofs.Places.{and_left, and_right}
use Rattle.rrset.proofs.SameRows.{same_key-self}
use Rattle.rrset.proofs.Selected.{only-union}
use Rattle.zoneupdate.proofs.Owners.{same_lower}

abbrev pub Before : (Key → Bool) → (Key → Bool) → Type 0
Before p q = (k l : Key) → HasLowerOwner k → HasLowerOwner l → p k ≡ true → q l ≡ true → key_cmp k l ≡ Less

-- names go before their keys
pub before-names : (p q : Key → Bool) (first second : Labels) → octets_cmp (octets (lower first)) (octets (lower second)) ≡ Less
    → ((k : Key) → p k ≡ true → same_name first k.owner ≡ true) → ((l : Key) → q l ≡ true → same_name second l.owner ≡ true) → Before p q
before-names p q first second less at_first at_second k l low_k low_l is_k is_l =
    let owner_k : k.owner ≡ lower first = sym (same_lower first k.owner (at_first k is_k) ∙ low_k) in
    let owner_l : l.owner ≡ lower second = sym (same_lower second l.owner (at_second l is_l) ∙ low_l) in
    ap (λ (r : Ordering). ordering_then r (ordering_then (nat_cmp k.kind l.kind) (ordering_then (octets_cmp k.rdata l.rdata) (nat_cmp k.class l.class))))
    ((λ i. octets_cmp (octets (owner_k i)) (octets (owner_l i))) ∙ less)

-- behind a key of the second part there is none of the first
none-behind : (p q : Key → Bool) → Before p q → (e : Key × Shown) → q e.0 ≡ true → HasLowerOwner e.0 → (rows : RecordSet) → T (below_all key_cmp e.0 rows) → HaveLowerOwners rows → only p rows ≡ []
none-behind p q before e is low [] below lows = refl
none-behind p q before e is low (x ∷ rows) below lows = by (p x.0) refl (none-behind p q before e is low rows (and_right _ _ below) lows.1)
  where
    by : (b : Bool) → p x.0 ≡ b → only p rows ≡ [] → cond b (x ∷ only p rows) (only p rows) ≡ []
    by true passes rest =
        absurd (subst (λ r. T (is_lt r)) (key_cmp_total.antisymm e.0 x.0 ∙ ap ordering_reverse (before x.0 e.0 lows.0 low passes is)) (and_left _ _ below))
    by false passes rest = rest

-- a set in order is its first part and then its second
pub cut : (p q : Key → Bool) → Before p q → (rows : RecordSet) → InOrder rows → HaveLowerOwners rows → only (λ k. p k || q k) rows ≡ only p rows ++ only q rows
cut p q before [] order lows = refl
cut p q before (e ∷ rows) order lows = by (p e.0) (q e.0) refl refl (cut p q before rows (and_right _ _ order) lows.1)
  where
    either : Key → Bool
    either = λ k. p k || q k

    by : (a b : Bool) → p e.0 ≡ a → q e.0 ≡ b → only either rows ≡ only p rows ++ only q rows
        → cond (a || b) (e ∷ only either rows) (only either rows) ≡ cond a (e ∷ only p rows) (only p rows) ++ cond b (e ∷ only q rows) (only q rows)
    by true true first second rest =
        let both : true ≡ false = sym (same_key-self e.0) ∙ ap is_eq (before e.0 e.0 lows.0 lows.0 first second) in absurd cc
    by true false first second rest = ap (λ l. e ∷ l) rest
    by false true first second rest =
        let none : only p rows ≡ [] = none-behind p q before e second lows.0 rows (and_left _ _ order) lows.1 in
        ap (λ l. e ∷ l) rest ∙ ap (λ l. e ∷ (l ++ only q rows)) none ∙ sym (ap (λ (l : RecordSet). l ++ e ∷ only q rows) none)
    by false false first second rest = rest

changed_in-append : (old new first second : RecordSet) → changed_in old new (first ++ second) ≡ changed_in old new first ++ changed_in old new second
changed_in-append old new [] second = refl
changed_in-append old new (e ∷ first) second =
    changed_in-first old new e (first ++ second)
    ∙ ap (λ l. noted e.0 (shown_at e.0 old) (shown_at e.0 new) ++ l) (changed_in-append old new first second)
    ∙ sym (append_assoc (noted e.0 (shown_at e.0 old) (shown_at e.0 new)) (changed_in old new first) (changed_in old new second))
    ∙ ap (λ l. l ++ changed_in old new second) (sym (changed_in-first old new e first))

-- the changes at keys that pass are those of the parts that pass
changed_in-passed : (p : Key → Bool) (old new rows : RecordSet) → changed_in old new (only p rows) ≡ changed_in (only p old) (only p new) (only p rows)
changed_in-passed p old new [] = refl
changed_in-passed p old new (e ∷ rows) = by (p e.0) refl (changed_in-passed p old new rows)
  where
    by : (b : Bool) → p e.0 ≡ b → changed_in old new (only p rows) ≡ changed_in (only p old) (only p new) (only p rows)
        → changed_in old new (cond b (e ∷ only p rows) (only p rows)) ≡ changed_in (only p old) (only p new) (cond b (e ∷ only p rows) (only p rows))
    by true is rest =
        changed_in-first old new e (only p rows)
        ∙ (λ i. noted e.0 (sym (shown_at-passed p e.0 old is) i) (sym (shown_at-passed p e.0 new is) i) ++ rest i)
        ∙ sym (changed_in-first (only p old) (only p new) e (only p rows))
    by false is rest = rest

-- where all else stays, the changes are those of the first part and then those of the second
pub changes-cut : (p q : Key → Bool) (old new : RecordSet) → Before p q → InOrder old → HaveLowerOwners (union old new) → AgreeApart (λ k. p k || q k) old new
    → changes old new ≡ changes (only p old) (only p new) ++ changes (only q old) (only q new)
changes-cut p q old new before order lows agree =
    changed_in-apart (λ k. p k || q k) old new agree all
    ∙ sym (changed_in-passed (λ k. p k || q k) old new all)
    ∙ ap (changed_in old new) (cut p q before all (in_order-union old new order) lows)
    ∙ changed_in-append old new (only p all) (only q all)
    ∙ (λ i. part p i ++ part q i)
  where
    all : RecordSet
    all = union old new

    part : (r : Key → Bool) → changed_in old new (only r all) ≡ changes (only r old) (only r new)
    part r = changed_in-passed r old new all ∙ ap (changed_in (only r old) (only r new)) (only-union r old new order)
