-- A zone keeps just one SOA at its apex, from which a serial is read, and class IN alone.
--     one_soa soas      there is one record, and a serial is read from it
use Rattle.std.proofs.Common.{◌≡◌, ℕ, Bool, true, false, cond, not, ◌&&◌, ◌||◌, [], ◌∷◌, length, Option, Some, None, is_some, option_and_then, ◌==◌, refl, sym, ap, subst, ◌∙◌, eqb-true, eq-eqb, arith}
use Rattle.std.specs.List.{list_all}
use Rattle.dnsname.specs.Names.{Labels, lower, same_name}
use Rattle.rrset.specs.Kinds.{in_class, any_class, none_class, cname_kind, soa_kind, ns_kind}
use Rattle.rrset.specs.Records.{key_of, shown_of}
use Rattle.rrset.specs.RecordSet.{RecordSet, is_of_rrset, put_rr, without, only, put}
use Rattle.rrset.specs.declared.record.Rr.{Rr}
use Rattle.rrset.specs.declared.record.Key.{Key}
use Rattle.rrset.specs.declared.record.Shown.{Shown}
use Rattle.rrset.proofs.InOrder.{InOrder, in_order-without}
use Rattle.rrset.proofs.Selected.{only-put-passed, only-put-failed}
use Rattle.rrset.proofs.SameRows.{same_key-same}
use Rattle.zoneupdate.specs.Zones.{set_at, serial_of, first_shown, serial_is_greater}
use Rattle.zoneupdate.specs.Updates.{as_class_in, changed_by}
use Rattle.zoneupdate.proofs.Filters.{not_both, and-left, and-right, and-both, filter_within, not-true, or-left}
use Rattle.zoneupdate.proofs.SomeAndAll.{all-filter}
use Rattle.zoneupdate.proofs.Owners.{same_name-back, same_name-on, same_name-lower}
use Rattle.zoneupdate.proofs.Tables.{chosen-holds}
use Rattle.zoneupdate.proofs.ChangedParts.{of_set, of_all, of_record, cases_of, newer_than, changed_by-cases, changed_by-outcome}
use Rattle.zoneupdate.proofs.RecordSets.{all-put}

-- ---- class IN alone

abbrev pub of_class_in : Key × Shown → Bool
of_class_in e = e.0.class == in_class

pub class_in-changed_by : (apex : Labels) (rr : Rr) (rows : RecordSet) → list_all of_class_in rows ≡ true → list_all of_class_in (changed_by apex rows rr) ≡ true
class_in-changed_by apex rr rows h =
    changed_by-outcome (λ s. list_all of_class_in s ≡ true) apex rr rows h (λ is. all-put of_class_in (key_of rr) (shown_of rr) rows h is)
    (λ is. all-put of_class_in (key_of rr) (shown_of rr) (without (of_set rr) rows) (all-filter of_class_in (λ e. not (of_set rr e.0)) rows h) is)
    (λ t within. all-filter of_class_in (λ e. not (t e.0)) rows h)

-- ---- the set of the SOA

abbrev pub is_soa_at : Labels → Key → Bool
is_soa_at apex = is_of_rrset apex in_class soa_kind

abbrev pub one_soa : RecordSet → Bool
one_soa soas = length soas == 1 && is_some (option_and_then (λ shown. serial_of shown.rdata) (first_shown soas))

abbrev pub HasOneSoa : Labels → RecordSet → Type 0
HasOneSoa apex rows = one_soa (set_at apex soa_kind rows) ≡ true

abbrev pub Apart : (Key → Bool) → (Key → Bool) → Type 0
Apart p q = (key : Key) → p key ≡ true → q key ≡ true → ⊥

pub apart-without : (p q : Key → Bool) → Apart p q → (rows : RecordSet) → only p (without q rows) ≡ only p rows
apart-without p q apart rows = filter_within (λ e. not (q e.0)) (λ e. p e.0) (λ e is. by e.0 is (q e.0) refl) rows
  where
    by : (key : Key) → p key ≡ true → (b : Bool) → q key ≡ b → not (q key) ≡ true
    by key is true e = absurd (apart key is e)
    by key is false e = ap not e

-- an SOA's key, part by part
pub soa-owner : (apex : Labels) (key : Key) → is_soa_at apex key ≡ true → same_name apex key.owner ≡ true
soa-owner apex key e = and-left _ _ (and-left _ _ e)

pub soa-kind : (apex : Labels) (key : Key) → is_soa_at apex key ≡ true → key.kind ≡ soa_kind
soa-kind apex key e = sym (eqb-true soa_kind key.kind (and-right _ _ e))

pub set-owner : (rr : Rr) (key : Key) → of_set rr key ≡ true → same_name rr.owner key.owner ≡ true
set-owner rr key e = and-left _ _ (and-left _ _ e)

pub set-kind : (rr : Rr) (key : Key) → of_set rr key ≡ true → rr.kind ≡ key.kind
set-kind rr key e = eqb-true rr.kind key.kind (and-right _ _ e)

-- a change of another kind, or at another name, leaves the SOA
pub apart-set : (apex : Labels) (rr : Rr) → (same_name rr.owner apex ≡ true → rr.kind ≡ soa_kind → ⊥) → Apart (is_soa_at apex) (of_set rr)
apart-set apex rr other key is e =
    other (same_name-on rr.owner key.owner apex (set-owner rr key e) (same_name-back apex key.owner (soa-owner apex key is))) (set-kind rr key e ∙ soa-kind apex key is)

pub not_soa : (apex : Labels) (rr : Rr) → (same_name rr.owner apex ≡ true → rr.kind ≡ soa_kind → ⊥) → is_soa_at apex (key_of rr) ≡ false
not_soa apex rr other = by (is_soa_at apex (key_of rr)) refl
  where
    by : (b : Bool) → is_soa_at apex (key_of rr) ≡ b → is_soa_at apex (key_of rr) ≡ false
    by false e = e
    by true e = absurd (other (same_name-on rr.owner (lower rr.owner) apex (same_name-lower rr.owner) (same_name-back apex (lower rr.owner) (soa-owner apex (key_of rr) e))) (soa-kind apex (key_of rr) e))

pub soas-put : (apex : Labels) (rr : Rr) (rows : RecordSet) → InOrder rows → (same_name rr.owner apex ≡ true → rr.kind ≡ soa_kind → ⊥) → set_at apex soa_kind (put_rr rows rr) ≡ set_at apex soa_kind rows
soas-put apex rr rows sorted other = only-put-failed (is_soa_at apex) (key_of rr) (shown_of rr) rows sorted (not_soa apex rr other)

pub soas-replaced : (apex : Labels) (rr : Rr) (rows : RecordSet) → InOrder rows → (same_name rr.owner apex ≡ true → rr.kind ≡ soa_kind → ⊥) → set_at apex soa_kind (put_rr (without (of_set rr) rows) rr) ≡ set_at apex soa_kind rows
soas-replaced apex rr rows sorted other = soas-put apex rr (without (of_set rr) rows) (in_order-without (of_set rr) rows sorted) other ∙ apart-without (is_soa_at apex) (of_set rr) (apart-set apex rr other) rows

-- an SOA in the place of those there is the only one
pub soas-new : (apex : Labels) (t : Key → Bool) (rr : Rr) (rows : RecordSet) → InOrder rows → ((key : Key) → is_soa_at apex key ≡ true → t key ≡ true) → is_soa_at apex (key_of rr) ≡ true
    → set_at apex soa_kind (put_rr (without t rows) rr) ≡ (key_of rr, shown_of rr) ∷ []
soas-new apex t rr rows sorted all is =
    only-put-passed (is_soa_at apex) (key_of rr) (shown_of rr) (without t rows) (in_order-without t rows sorted) is ∙ ap (put (key_of rr) (shown_of rr)) (none rows)
  where
    none : (rows : RecordSet) → only (is_soa_at apex) (without t rows) ≡ []
    none [] = refl
    none (e ∷ es) = by (t e.0) (is_soa_at apex e.0) refl refl (none es)
      where
        by : (a b : Bool) → t e.0 ≡ a → is_soa_at apex e.0 ≡ b → only (is_soa_at apex) (without t es) ≡ [] → only (is_soa_at apex) (cond (not a) (e ∷ without t es) (without t es)) ≡ []
        by true b f g rest = rest
        by false true f g rest = absurd (not_both (t e.0) (all e.0 g) f)
        by false false f g rest = ap (λ b. cond b (e ∷ only (is_soa_at apex) (without t es)) (only (is_soa_at apex) (without t es))) g ∙ rest

-- ---- one change keeps the SOA

-- a newer SOA has a serial
pub newer-serial : (rr : Rr) (soas : RecordSet) → newer_than rr soas ≡ true → is_some (serial_of rr.rdata) ≡ true
newer-serial rr soas e = by (option_and_then (λ shown. serial_of shown.rdata) (first_shown soas)) (serial_of rr.rdata) e
  where
    by : (old new : Option ℕ) → elim old [ None ↦ false | Some old ↦ elim new [ None ↦ false | Some new ↦ serial_is_greater new old ] ] ≡ true → is_some new ≡ true
    by None new e = absurd cc
    by (Some old) None e = absurd cc
    by (Some old) (Some new) e = refl

-- the key of an SOA of class IN at the apex
pub soa-key : (apex : Labels) (rr : Rr) → same_name rr.owner apex ≡ true → (rr.class == in_class) ≡ true → (rr.kind == soa_kind) ≡ true → is_soa_at apex (key_of rr) ≡ true
soa-key apex rr at class kind =
    and-both _ _ (and-both _ _ (same_name-on apex rr.owner (lower rr.owner) (same_name-back rr.owner apex at) (same_name-lower rr.owner)) (eq-eqb in_class rr.class (sym (eqb-true rr.class in_class class))))
    (eq-eqb soa_kind rr.kind (sym (eqb-true rr.kind soa_kind kind)))

pub set-all : (apex : Labels) (rr : Rr) → same_name rr.owner apex ≡ true → (rr.kind == soa_kind) ≡ true → (key : Key) → is_soa_at apex key ≡ true → of_set rr key ≡ true
set-all apex rr at kind key is =
    and-both _ _ (and-both _ _ (same_name-on rr.owner apex key.owner at (soa-owner apex key is)) (and-right _ _ (and-left _ _ is)))
    (eq-eqb rr.kind key.kind (eqb-true rr.kind soa_kind kind ∙ sym (soa-kind apex key is)))

pub one_soa-replaced : (apex : Labels) (rr : Rr) (rows : RecordSet) → InOrder rows → HasOneSoa apex rows → (rr.class == in_class) ≡ true → (rr.kind == soa_kind) ≡ true → is_some (serial_of rr.rdata) ≡ true
    → HasOneSoa apex (put_rr (without (of_set rr) rows) rr)
one_soa-replaced apex rr rows sorted one class kind serial = by (same_name rr.owner apex) refl
  where
    by : (b : Bool) → same_name rr.owner apex ≡ b → HasOneSoa apex (put_rr (without (of_set rr) rows) rr)
    by true at = ap one_soa (soas-new apex (of_set rr) rr rows sorted (set-all apex rr at kind) (soa-key apex rr at class kind)) ∙ serial
    by false at = ap one_soa (soas-replaced apex rr rows sorted (λ e _. not_both (same_name rr.owner apex) e at)) ∙ one

pub other_kind : (rr : Rr) → (rr.kind == soa_kind) ≡ false → rr.kind ≡ soa_kind → ⊥
other_kind rr no_soa is = not_both (rr.kind == soa_kind) (eq-eqb rr.kind soa_kind is) no_soa

pub cname_no_soa : (rr : Rr) → (rr.kind == cname_kind) ≡ true → rr.kind ≡ soa_kind → ⊥
cname_no_soa rr is e = let both : 5 ≡ 6 = sym (eqb-true rr.kind cname_kind is) ∙ e in omega (arith, both)

pub second_false : (a b : Bool) → a ≡ true → (a && b) ≡ false → b ≡ false
second_false true b e f = f
second_false false b e f = absurd cc

-- what all sets of a name are taken out of leaves the SOA of the apex
pub apart-all : (apex : Labels) (rr : Rr) → Apart (is_soa_at apex) (of_all apex rr)
apart-all apex rr key is e =
    let at = same_name-on rr.owner key.owner apex (and-left _ _ e) (same_name-back apex key.owner (soa-owner apex key is)) in
    let kind : (key.kind == soa_kind) ≡ true = eq-eqb key.kind soa_kind (soa-kind apex key is) in
    not_both _ (and-both (same_name rr.owner apex) (key.kind == soa_kind || key.kind == ns_kind) at (or-left (key.kind == soa_kind) (key.kind == ns_kind) kind)) (not-true _ (and-right _ _ e))

pub apart-record : (apex : Labels) (rr : Rr) → (rr.kind ≡ soa_kind → ⊥) → Apart (is_soa_at apex) (of_record rr)
apart-record apex rr other key is e =
    other (ap (λ (k : Key). k.kind) (same_key-same (key_of (as_class_in rr)) key e) ∙ soa-kind apex key is)

pub one_soa-changed_by : (apex : Labels) (rr : Rr) (rows : RecordSet) → InOrder rows → HasOneSoa apex rows → HasOneSoa apex (changed_by apex rows rr)
one_soa-changed_by apex rr rows sorted one = subst (HasOneSoa apex) (sym (changed_by-cases apex rr rows)) (chosen-holds (HasOneSoa apex) (cases_of apex rr rows) rows (
  λ _. one,
  λ _. (
    λ e. kept _ (soas-replaced apex rr rows sorted (λ _. cname_no_soa rr (and-right _ _ e))),
    λ _. (
      λ _. one,
      λ _. (
        λ e. one_soa-replaced apex rr rows sorted one (and-left _ _ (and-left _ _ e)) (and-right _ _ (and-left _ _ e)) (newer-serial rr (set_at rr.owner soa_kind rows) (and-right _ _ e)),
        λ _. (
          λ _. one,
          λ not_soa. (
            λ class. kept _ (soas-put apex rr rows sorted (λ _. other_kind rr (second_false (rr.class == in_class) (rr.kind == soa_kind) class not_soa))),
            λ _. (
              λ _. kept _ (apart-without (is_soa_at apex) (of_all apex rr) (apart-all apex rr) rows),
              λ _. (
                λ _. one,
                λ not_kept. (
                  λ class. kept _ (apart-without (is_soa_at apex) (of_set rr) (apart-set apex rr (λ at is. stays at is class not_kept)) rows),
                  λ _. (
                    λ _. one,
                    λ not_soa. (
                      λ _. one,
                      λ _. (
                        λ class. kept _ (apart-without (is_soa_at apex) (of_record rr) (apart-record apex rr (other_kind rr (second_false (rr.class == none_class) (rr.kind == soa_kind) class not_soa))) rows),
                        λ _. one,
                      ),
                    ),
                  ),
                ),
              ),
            ),
          ),
        ),
      ),
    ),
  ),
))
  where
    kept : (soas : RecordSet) → soas ≡ set_at apex soa_kind rows → one_soa soas ≡ true
    kept soas same = ap one_soa same ∙ one

    stays : same_name rr.owner apex ≡ true → rr.kind ≡ soa_kind → (rr.class == any_class) ≡ true → (rr.class == any_class && same_name rr.owner apex && (rr.kind == soa_kind || rr.kind == ns_kind)) ≡ false → ⊥
    stays at is class no_ =
        not_both _ (and-both _ _ (and-both _ _ class at) (or-left (rr.kind == soa_kind) (rr.kind == ns_kind) (eq-eqb rr.kind soa_kind is))) no_
