-- The records of changes that are there are those of the name whose keys the changes have, which is a part for these changes.
use Rattle.std.proofs.Common.{◌≡◌, ℕ, Bool, true, false, cond, not, ◌&&◌, ◌||◌, List, [], ◌∷◌, map, fold, Option, Some, None, refl, sym, ap, subst, ◌∙◌}
use Rattle.std.specs.Prelude.{MatchOption}
use Rattle.std.specs.List.{list_all, list_any}
use Rattle.push_base.specs.Cases.{is_empty}
use Rattle.dnsname.specs.Names.{Labels, lower, same_name}
use Rattle.rrset.specs.Kinds.{in_class, cname_kind}
use Rattle.rrset.specs.Records.{key_of, same_key}
use Rattle.rrset.specs.RecordSet.{RecordSet, only, at_name, put, shown_at, is_record_set}
use Rattle.rrset.specs.Tables.{TableState}
use Rattle.rrset.specs.declared.record.Rr.{Rr}
use Rattle.rrset.specs.declared.record.Key.{Key}
use Rattle.rrset.specs.declared.record.Shown.{Shown}
use Rattle.rrset.proofs.InOrder.{InOrder, in_order-put, in_order-only, same_sets}
use Rattle.rrset.proofs.SameRows.{same_key-same, same_key-self}
use Rattle.rrset.proofs.Sets.{shown_at-only, shown_at-put}
use Rattle.zoneupdate.specs.Zones.{set_at}
use Rattle.zoneupdate.specs.Updates.{as_class_in, changed_by, with_counted_ttl}
use Rattle.zoneupdate.specs.Singles.{is_single, is_plain, seeks, is_named, with_record_of, IsPartFor}
use Rattle.zoneupdate.proofs.Filters.{not-true, and-left, and-right, or-left, or-right, same_truth, all_pass, none_pass}
use Rattle.zoneupdate.proofs.OneName.{set-at_name}
use Rattle.zoneupdate.proofs.Owners.{same_name-on, same_name-lower}
use Rattle.zoneupdate.proofs.PlainChanges.{Fine, fold-only, fold-outside}
use Rattle.zoneupdate.proofs.RecordSets.{IsSet, set-in_order}

key_turned : (a b : Key) → same_key a b ≡ same_key b a
key_turned a b = same_truth (same_key a b) (same_key b a) (turn a b) (turn b a)
  where
    turn : (a b : Key) → same_key a b ≡ true → same_key b a ≡ true
    turn a b e = ap (same_key b) (same_key-same a b e) ∙ same_key-self b

-- ---- the records that are there

module _ (rows : RecordSet) where
  beside : (part : RecordSet) (k : Key) (P : Key → Bool) → ((q : Key) → shown_at q part ≡ cond (P q) (shown_at q rows) None) → (q : Key) (o : Option Shown) → shown_at k rows ≡ o
      → shown_at q (elim o [ None ↦ part | Some shown ↦ put k shown part ]) ≡ cond (P q || same_key k q) (shown_at q rows) None
  beside part k P h q None e = h q ∙ by (P q) (same_key k q) refl
    where
      by : (b t : Bool) → same_key k q ≡ t → cond b (shown_at q rows) None ≡ cond (b || t) (shown_at q rows) None
      by true t is = refl
      by false true is = sym (ap (λ (l : Key). shown_at l rows) (sym (same_key-same k q is)) ∙ e)
      by false false is = refl
  beside part k P h q (Some shown) e = shown_at-put q k shown part ∙ ap (λ b. cond b (Some shown) (shown_at q part)) (key_turned q k) ∙ by (same_key k q) refl
    where
      or_true : (b : Bool) → cond (b || true) (shown_at q rows) None ≡ shown_at q rows
      or_true true = refl
      or_true false = refl

      or_false : (b : Bool) → b ≡ (b || false)
      or_false true = refl
      or_false false = refl

      by : (t : Bool) → same_key k q ≡ t → cond t (Some shown) (shown_at q part) ≡ cond (P q || t) (shown_at q rows) None
      by true is = sym (or_true (P q) ∙ ap (λ (l : Key). shown_at l rows) (sym (same_key-same k q is)) ∙ e)
      by false is = h q ∙ ap (λ b. cond b (shown_at q rows) None) (or_false (P q))

  shown-sought : (rrs : List Rr) (part : RecordSet) (P : Key → Bool) → ((q : Key) → shown_at q part ≡ cond (P q) (shown_at q rows) None) → (q : Key)
      → shown_at q (fold (with_record_of rows) part rrs) ≡ cond (P q || is_named rrs q) (shown_at q rows) None
  shown-sought [] part P h q = h q ∙ ap (λ b. cond b (shown_at q rows) None) (or_false (P q))
    where
      or_false : (b : Bool) → b ≡ (b || false)
      or_false true = refl
      or_false false = refl
  shown-sought (rr ∷ rrs) part P h q =
      shown-sought rrs (with_record_of rows part rr) (λ k. P k || same_key (key_of (as_class_in rr)) k)
      (λ k. beside part (key_of (as_class_in rr)) P h k (shown_at (key_of (as_class_in rr)) rows) refl) q
      ∙ ap (λ b. cond b (shown_at q rows) None) (by (P q) (same_key (key_of (as_class_in rr)) q) (is_named rrs q))
    where
      by : (a b c : Bool) → ((a || b) || c) ≡ (a || (b || c))
      by true b c = refl
      by false b c = refl

  order-sought : (rrs : List Rr) (part : RecordSet) → InOrder part → InOrder (fold (with_record_of rows) part rrs)
  order-sought [] part h = h
  order-sought (rr ∷ rrs) part h = order-sought rrs (with_record_of rows part rr) (by (shown_at (key_of (as_class_in rr)) rows))
    where
      by : (o : Option Shown) → InOrder (elim o [ None ↦ part | Some shown ↦ put (key_of (as_class_in rr)) shown part ])
      by None = h
      by (Some shown) = in_order-put (key_of (as_class_in rr)) shown part h

named-at : (name : Labels) (rrs : List Rr) → list_all (λ rr. same_name name rr.owner) rrs ≡ true → (q : Key) → is_named rrs q ≡ true → same_name name q.owner ≡ true
named-at name [] all q h = absurd cc
named-at name (rr ∷ rrs) all q h = by (same_key (key_of (as_class_in rr)) q) refl h (λ later. named-at name rrs (and-right (same_name name rr.owner) (list_all (λ rr. same_name name rr.owner) rrs) all) q later)
  where
    by : (b : Bool) → same_key (key_of (as_class_in rr)) q ≡ b → (b || is_named rrs q) ≡ true → (is_named rrs q ≡ true → same_name name q.owner ≡ true) → same_name name q.owner ≡ true
    by true e h rest =
        ap (λ (k : Key). same_name name k.owner) (sym (same_key-same (key_of (as_class_in rr)) q e))
        ∙ same_name-on name rr.owner (lower rr.owner) (and-left (same_name name rr.owner) (list_all (λ rr. same_name name rr.owner) rrs) all) (same_name-lower rr.owner)
    by false e h rest = rest h

sought-is : (name : Labels) (rows : RecordSet) (rrs : List Rr) → InOrder rows → list_all (λ rr. same_name name rr.owner) rrs ≡ true
    → fold (with_record_of rows) [] rrs ≡ only (is_named rrs) (at_name name rows)
sought-is name rows rrs sorted all =
    same_sets (fold (with_record_of rows) [] rrs) (only (is_named rrs) (at_name name rows)) (order-sought rows rrs [] tt)
    (in_order-only (is_named rrs) (at_name name rows) (in_order-only (λ key. same_name name key.owner) rows sorted))
    (λ q. shown-sought rows rrs [] (λ k. false) (λ k. refl) q ∙ by q (is_named rrs q) refl
    ∙ sym (shown_at-only (is_named rrs) q (at_name name rows) ∙ ap (λ o. cond (is_named rrs q) o None) (shown_at-only (λ key. same_name name key.owner) q rows)))
  where
    by : (q : Key) (b : Bool) → is_named rrs q ≡ b → cond b (shown_at q rows) None ≡ cond b (cond (same_name name q.owner) (shown_at q rows) None) None
    by q true e = sym (ap (λ b. cond b (shown_at q rows) None) (named-at name rrs all q e))
    by q false e = refl

-- ---- the part

-- each of the changes has a key that all of them have
abbrev Among : List Rr → List Rr → Type 0
Among some rrs = (q : Key) → is_named some q ≡ true → is_named rrs q ≡ true

fine : (name : Labels) (some rrs : List Rr) → Among some rrs → list_all is_plain some ≡ true → list_all (λ rr. same_name name rr.owner) some ≡ true → Fine (is_named rrs) name some
fine name [] rrs among are all = tt
fine name (rr ∷ some) rrs among are all = (
  (
    and-left (is_plain rr) (list_all is_plain some) are,
    and-left (same_name name rr.owner) (list_all (λ rr. same_name name rr.owner) some) all,
    among (key_of (as_class_in rr)) (or-left (same_key (key_of (as_class_in rr)) (key_of (as_class_in rr))) (is_named some (key_of (as_class_in rr))) (same_key-self (key_of (as_class_in rr)))),
  ),
  fine name some rrs (λ q h. among q (or-right (same_key (key_of (as_class_in rr)) q) (is_named some q) h)) (and-right (is_plain rr) (list_all is_plain some) are)
      (and-right (same_name name rr.owner) (list_all (λ rr. same_name name rr.owner) some) all),
)

plain-counted : (rrs : List Rr) → list_all is_plain rrs ≡ true → list_all is_plain (map with_counted_ttl rrs) ≡ true
plain-counted [] h = refl
plain-counted (rr ∷ rrs) h = (λ i. and-left (is_plain rr) (list_all is_plain rrs) h i && plain-counted rrs (and-right (is_plain rr) (list_all is_plain rrs) h) i)

all-counted : (name : Labels) (rrs : List Rr) → list_all (λ rr. same_name name rr.owner) rrs ≡ true → list_all (λ rr. same_name name rr.owner) (map with_counted_ttl rrs) ≡ true
all-counted name [] h = refl
all-counted name (rr ∷ rrs) h = (λ i. and-left (same_name name rr.owner) (list_all (λ rr. same_name name rr.owner) rrs) h i && all-counted name rrs (and-right (same_name name rr.owner) (list_all (λ rr. same_name name rr.owner) rrs) h) i)

empty : (set : RecordSet) → is_empty set ≡ true → set ≡ []
empty [] h = refl
empty (e ∷ es) h = absurd cc

pub sought-part : (apex name : Labels) (rows : RecordSet) (rrs : List Rr) (part : RecordSet) → is_record_set rows ≡ true → seeks name rows rrs ≡ true → is_single apex name rrs ≡ true
    → part ≡ fold (with_record_of rows) [] (map with_counted_ttl rrs) → IsPartFor apex (map with_counted_ttl rrs) (at_name name rows) part
sought-part apex name rows rrs part set sought single part_is =
    let changes : List Rr = map with_counted_ttl rrs in
    let named : RecordSet = at_name name rows in
    let sorted = set-in_order rows set in
    let order : InOrder named = in_order-only (λ key. same_name name key.owner) rows sorted in
    let away = not-true (same_name name apex) (and-left (not (same_name name apex)) (list_all (λ rr. same_name name rr.owner) rrs) single) in
    let all = all-counted name rrs (and-right (not (same_name name apex)) (list_all (λ rr. same_name name rr.owner) rrs) single) in
    let are = plain-counted rrs (and-left (list_all is_plain rrs) (is_empty (set_at name cname_kind rows)) sought) in
    let none : set_at name cname_kind named ≡ [] = set-at_name name in_class cname_kind rows ∙ empty (set_at name cname_kind rows) (and-right (list_all is_plain rrs) (is_empty (set_at name cname_kind rows)) sought) in
    let every = fine name changes changes (λ q h. h) are all in
    let is : part ≡ only (is_named changes) named = part_is ∙ sought-is name rows changes sorted all in
    record {
      test = is_named changes;
      rows = is;
      after = ap (λ (r : RecordSet). fold (changed_by apex) r changes) is ∙ fold-only (is_named changes) apex name away changes named order none every;
      others = fold-outside (is_named changes) apex name away changes named order none every;
    }

-- all of them are a part, too
pub whole-part : (apex : Labels) (changes : List Rr) (named : RecordSet) → IsPartFor apex changes named named
whole-part apex changes named =
    let after : RecordSet = fold (changed_by apex) named changes in
    record {
      test = λ key. true;
      rows = sym (all_pass (λ e. true) named (every named));
      after = sym (all_pass (λ e. true) after (every after));
      others = none_pass (λ e. false) (λ e. refl) named ∙ sym (none_pass (λ e. false) (λ e. refl) after);
    }
  where
    every : (rows : RecordSet) → list_all (λ e. true) rows ≡ true
    every [] = refl
    every (e ∷ es) = every es

pub sought-match : (apex name : Labels) (rrs changes : List Rr) (at named : RecordSet) → named ≡ at → is_single apex name rrs ≡ true → (o : Option (TableState Shown))
    → MatchOption o (Unit {0}) (λ part. (apex : Labels) → is_single apex name rrs ≡ true → IsPartFor apex changes at part.rows) → MatchOption o (Unit {0}) (λ part. IsPartFor apex changes named part.rows)
sought-match apex name rrs changes at named is single None h = tt
sought-match apex name rrs changes at named is single (Some part) h = subst (λ (n : RecordSet). IsPartFor apex changes n part.rows) (sym is) (h apex single)
