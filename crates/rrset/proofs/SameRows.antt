-- Two lists of records that have the same keys, shown the same, are one, and a list has no changes to itself.
use Rattle.std.proofs.Common.{◌≡◌, ℕ, Bool, true, cond, not, ◌&&◌, List, [], ◌∷◌, ◌++◌, Option, Some, None, refl, sym, ap, ◌∙◌}
use Rattle.std.specs.Ordering.{is_eq}
use Rattle.std.specs.Cmp.{tied_itself, unsigned_Decides}
use Rattle.std.specs.Cmp.Lexicographic.{pointwise_decides}
use Rattle.std.proofs.lemmas.Cmp.{nat_list_cmp_total}
use Rattle.dnsname.specs.Names.{octets}
use Rattle.rrset.specs.Records.{key_cmp, same_key, same_octets, same_shown}
use Rattle.rrset.specs.RecordSet.{RecordSet, same_rows, shown_the_same, shown_at, union, changes}
use Rattle.rrset.specs.declared.record.Key.{Key}
use Rattle.rrset.specs.declared.record.Shown.{Shown}
use Rattle.rrset.proofs.KeyOrder.{key_cmp_total, key_cmp-IsAntisymmetric}
use Rattle.rrset.proofs.Sets.{both_true, is_eq-Equal, same_shown-same}
use Rattle.rrset.proofs.Differences.{changed_in, changed_in-first, noted}

pub same_key-self : (k : Key) → same_key k k ≡ true
same_key-self k = ap is_eq (tied_itself key_cmp_total k)

pub same_key-same : (k l : Key) → same_key k l ≡ true → k ≡ l
same_key-same k l e = key_cmp-IsAntisymmetric k l (is_eq-Equal (key_cmp k l) e)

pub same_octets-self : (a : List ℕ) → same_octets a a ≡ true
same_octets-self a = ap is_eq (tied_itself nat_list_cmp_total a)

pub same_shown-self : (s : Shown) → same_shown s s ≡ true
same_shown-self s = λ i. same_octets-self (octets s.owner) i && (unsigned_Decides s.ttl s.ttl).1 refl i && same_octets-self s.rdata i

pub shown_the_same-self : (o : Option Shown) → shown_the_same o o ≡ true
shown_the_same-self None = refl
shown_the_same-self (Some s) = same_shown-self s

-- ---- lists of records

abbrev pub same_row : Key × Shown → Key × Shown → Bool
same_row e f = same_key e.0 f.0 && same_shown e.1 f.1

pub same_row-decides : (e f : Key × Shown) → (same_row e f ≡ true → e ≡ f) × (e ≡ f → same_row e f ≡ true)
same_row-decides e f = (same, λ is. ap (same_row e) (sym is) ∙ self)
  where
    same : same_row e f ≡ true → e ≡ f
    same h =
        let parts = both_true _ _ h in
        let key = same_key-same e.0 f.0 parts.0 in
        let shown = same_shown-same e.1 f.1 parts.1 in
        λ i. (key i, shown i)

    self : same_row e e ≡ true
    self = λ i. same_key-self e.0 i && same_shown-self e.1 i

pub same_rows-same : (a b : RecordSet) → same_rows a b ≡ true → a ≡ b
same_rows-same a b e = (pointwise_decides same_row-decides a b).0 e

pub same_rows-self : (a : RecordSet) → same_rows a a ≡ true
same_rows-self a = (pointwise_decides same_row-decides a a).1 refl

-- ---- changes

pub noted-none : (key : Key) (before after : Option Shown) → before ≡ after → noted key before after ≡ []
noted-none key before after e = ap (λ o. noted key o after) e ∙ ap (λ b. cond (not b) (record { key = key; before = after; after = after } ∷ []) []) (shown_the_same-self after)

pub changed_in-self : (set rows : RecordSet) → changed_in set set rows ≡ []
changed_in-self set [] = refl
changed_in-self set (e ∷ rows) = changed_in-first set set e rows ∙ (λ i. noted-none e.0 (shown_at e.0 set) (shown_at e.0 set) refl i ++ changed_in-self set rows i)

pub changes-self : (set : RecordSet) → changes set set ≡ []
changes-self set = changed_in-self set (union set set)
