-- A change looks at one name alone, and changes it alone.
use Rattle.std.proofs.Common.{◌≡◌, ℕ, Bool, true, false, not, ◌&&◌, ◌||◌, List, [], ◌∷◌, Some, None, option_and_then, ◌==◌, refl, sym, ap, subst, ◌∙◌}
use Rattle.push_base.specs.Cases.{chosen, is_empty}
use Rattle.dnsname.specs.Names.{Labels, same_name}
use Rattle.rrset.specs.Kinds.{in_class, any_class, none_class, any_kind, cname_kind, soa_kind, ns_kind}
use Rattle.rrset.specs.Records.{key_of, shown_of, same_key}
use Rattle.rrset.specs.RecordSet.{RecordSet, is_of_rrset, put_rr, without, only}
use Rattle.rrset.specs.declared.record.Rr.{Rr}
use Rattle.rrset.specs.declared.record.Key.{Key}
use Rattle.rrset.proofs.InOrder.{InOrder, in_order-put, in_order-without}
use Rattle.rrset.proofs.Selected.{fails, only-put-passed, only-put-failed}
use Rattle.rrset.proofs.SameRows.{same_key-same}
use Rattle.zoneupdate.specs.Zones.{set_at, serial_of, serial_is_greater, first_shown}
use Rattle.zoneupdate.specs.Updates.{as_class_in, is_only, is_newer_soa, after_addition, after_set_deletion, after_record_deletion, changed_by}
use Rattle.zoneupdate.proofs.Filters.{and-left, filter_swap, filter_within, filter_outside}
use Rattle.zoneupdate.proofs.Owners.{Covers, covers-key_of, of_rrset-owner, same_name-lower}
use Rattle.zoneupdate.proofs.Tables.{Agree, chosen-agree, chosen-holds}

-- ---- the table of changes, as lists of cases

abbrev pub of_set : Rr → Key → Bool
of_set rr = is_of_rrset rr.owner in_class rr.kind

-- the keys of other kinds at the name
abbrev pub of_others : Rr → Key → Bool
of_others rr key = same_name rr.owner key.owner && not (key.kind == rr.kind)

-- the keys that an ANY of all kinds takes out
abbrev pub of_all : Labels → Rr → Key → Bool
of_all apex rr key = same_name rr.owner key.owner && not (same_name rr.owner apex && (key.kind == soa_kind || key.kind == ns_kind))

abbrev pub of_record : Rr → Key → Bool
of_record rr = same_key (key_of (as_class_in rr))

abbrev pub cases_of : Labels → Rr → RecordSet → List (Bool × RecordSet)
cases_of apex rr rows =
    (rr.class == in_class && rr.kind == cname_kind && not (is_empty (only (of_others rr) rows)), rows)
    ∷ (rr.class == in_class && rr.kind == cname_kind, put_rr (without (of_set rr) rows) rr)
    ∷ (rr.class == in_class && not (is_empty (set_at rr.owner cname_kind rows)), rows)
    ∷ (rr.class == in_class && rr.kind == soa_kind && is_newer_soa rr rows, put_rr (without (of_set rr) rows) rr)
    ∷ (rr.class == in_class && rr.kind == soa_kind, rows)
    ∷ (rr.class == in_class, put_rr rows rr)
    ∷ (rr.class == any_class && rr.kind == any_kind, without (of_all apex rr) rows)
    ∷ (rr.class == any_class && same_name rr.owner apex && (rr.kind == soa_kind || rr.kind == ns_kind), rows)
    ∷ (rr.class == any_class, without (of_set rr) rows)
    ∷ (rr.class == none_class && rr.kind == soa_kind, rows)
    ∷ (rr.class == none_class && (same_name rr.owner apex && rr.kind == ns_kind && is_only (as_class_in rr) (set_at rr.owner ns_kind rows)), rows)
    ∷ (rr.class == none_class, without (of_record rr) rows)
    ∷ []

-- the three tables in one, by three tests of the class
pub changed_by-cases : (apex : Labels) (rr : Rr) (rows : RecordSet) → changed_by apex rows rr ≡ chosen (cases_of apex rr rows) rows
changed_by-cases apex rr rows = by (rr.class == in_class) (rr.class == any_class) (rr.class == none_class)
  where
    flat : Bool → Bool → Bool → List (Bool × RecordSet)
    flat adds takes drops =
        (adds && rr.kind == cname_kind && not (is_empty (only (of_others rr) rows)), rows)
        ∷ (adds && rr.kind == cname_kind, put_rr (without (of_set rr) rows) rr)
        ∷ (adds && not (is_empty (set_at rr.owner cname_kind rows)), rows)
        ∷ (adds && rr.kind == soa_kind && is_newer_soa rr rows, put_rr (without (of_set rr) rows) rr)
        ∷ (adds && rr.kind == soa_kind, rows)
        ∷ (adds, put_rr rows rr)
        ∷ (takes && rr.kind == any_kind, without (of_all apex rr) rows)
        ∷ (takes && same_name rr.owner apex && (rr.kind == soa_kind || rr.kind == ns_kind), rows)
        ∷ (takes, without (of_set rr) rows)
        ∷ (drops && rr.kind == soa_kind, rows)
        ∷ (drops && (same_name rr.owner apex && rr.kind == ns_kind && is_only (as_class_in rr) (set_at rr.owner ns_kind rows)), rows)
        ∷ (drops, without (of_record rr) rows)
        ∷ []

    by : (adds takes drops : Bool)
        → chosen ((adds, after_addition rows rr) ∷ (takes, after_set_deletion apex rows rr) ∷ (drops, after_record_deletion apex rows rr) ∷ []) rows ≡ chosen (flat adds takes drops) rows
    by true takes drops = refl
    by false true drops = refl
    by false false true = refl
    by false false false = refl

-- the serial of the record is greater than that of the first of these
abbrev pub newer_than : Rr → RecordSet → Bool
newer_than rr soas = elim (option_and_then (λ shown. serial_of shown.rdata) (first_shown soas)) [
  | None ↦ false
  | Some old ↦ elim (serial_of rr.rdata) [ None ↦ false | Some new ↦ serial_is_greater new old ]
]

-- ---- what each test looks at, and what each change takes out, is at the name

pub set-covered : (p : Key → Bool) (name : Labels) (kind : ℕ) → Covers p name → (key : Key) → is_of_rrset name in_class kind key ≡ true → p key ≡ true
set-covered p name kind covers key e = covers key (of_rrset-owner name in_class kind key e)

pub others-covered : (p : Key → Bool) (rr : Rr) → Covers p rr.owner → (key : Key) → of_others rr key ≡ true → p key ≡ true
others-covered p rr covers key e = covers key (and-left _ _ e)

pub all-covered : (p : Key → Bool) (apex : Labels) (rr : Rr) → Covers p rr.owner → (key : Key) → of_all apex rr key ≡ true → p key ≡ true
all-covered p apex rr covers key e = covers key (and-left _ _ e)

pub record-covered : (p : Key → Bool) (rr : Rr) → Covers p rr.owner → (key : Key) → of_record rr key ≡ true → p key ≡ true
record-covered p rr covers key e = ap p (sym (same_key-same (key_of (as_class_in rr)) key e)) ∙ covers (key_of (as_class_in rr)) (same_name-lower rr.owner)

-- the part of a part at a name, and parts that are taken out
pub only-within : (p q : Key → Bool) → ((key : Key) → q key ≡ true → p key ≡ true) → (rows : RecordSet) → only q (only p rows) ≡ only q rows
only-within p q within rows = filter_within (λ e. p e.0) (λ e. q e.0) (λ e. within e.0) rows

pub only-without : (p q : Key → Bool) (rows : RecordSet) → only p (without q rows) ≡ without q (only p rows)
only-without p q rows = filter_swap (λ e. p e.0) (λ e. not (q e.0)) rows

pub outside-without : (p q : Key → Bool) → ((key : Key) → q key ≡ true → p key ≡ true) → (rows : RecordSet) → only (fails p) (without q rows) ≡ only (fails p) rows
outside-without p q within rows = filter_outside (λ e. p e.0) (λ e. q e.0) (λ e. within e.0) rows

-- ---- the change of a part, and the part that stays

pub changed_by-only : (p : Key → Bool) (apex : Labels) (rr : Rr) (rows : RecordSet) → Covers p rr.owner → InOrder rows → only p (changed_by apex rows rr) ≡ changed_by apex (only p rows) rr
changed_by-only p apex rr rows covers sorted =
    ap (only p) (changed_by-cases apex rr rows)
    ∙ chosen-agree (only p) (cases_of apex rr rows) (cases_of apex rr (only p rows)) rows (only p rows) agree refl
    ∙ sym (changed_by-cases apex rr (only p rows))
  where
    others : only (of_others rr) rows ≡ only (of_others rr) (only p rows)
    others = sym (only-within p (of_others rr) (others-covered p rr covers) rows)

    set : (kind : ℕ) → set_at rr.owner kind rows ≡ set_at rr.owner kind (only p rows)
    set kind = sym (only-within p (is_of_rrset rr.owner in_class kind) (set-covered p rr.owner kind covers) rows)

    added : (some : RecordSet) → InOrder some → only p (put_rr some rr) ≡ put_rr (only p some) rr
    added some e = only-put-passed p (key_of rr) (shown_of rr) some e (covers-key_of p rr covers)

    replaced : only p (put_rr (without (of_set rr) rows) rr) ≡ put_rr (without (of_set rr) (only p rows)) rr
    replaced = added (without (of_set rr) rows) (in_order-without (of_set rr) rows sorted) ∙ ap (λ s. put_rr s rr) (only-without p (of_set rr) rows)

    agree : Agree (only p) (cases_of apex rr rows) (cases_of apex rr (only p rows))
    agree = (
      (ap (λ (s : RecordSet). rr.class == in_class && rr.kind == cname_kind && not (is_empty s)) others, refl),
      (
        (refl, replaced),
        (
          (ap (λ (s : RecordSet). rr.class == in_class && not (is_empty s)) (set cname_kind), refl),
          (
            (ap (λ (s : RecordSet). rr.class == in_class && rr.kind == soa_kind && newer_than rr s) (set soa_kind), replaced),
            (
              (refl, refl),
              (
                (refl, added rows sorted),
                (
                  (refl, only-without p (of_all apex rr) rows),
                  (
                    (refl, refl),
                    (
                      (refl, only-without p (of_set rr) rows),
                      (
                        (refl, refl),
                        (
                          (ap (λ (s : RecordSet). rr.class == none_class && (same_name rr.owner apex && rr.kind == ns_kind && is_only (as_class_in rr) s)) (set ns_kind), refl),
                          ((refl, only-without p (of_record rr) rows), tt),
                        ),
                      ),
                    ),
                  ),
                ),
              ),
            ),
          ),
        ),
      ),
    )

-- What a change gives: the same records, or with the new record, or with it in its set's place, or without some keys of the name.
pub changed_by-outcome : (P : RecordSet → Type 0) (apex : Labels) (rr : Rr) (rows : RecordSet) → P rows
    → ((rr.class == in_class) ≡ true → P (put_rr rows rr))
    → ((rr.class == in_class) ≡ true → P (put_rr (without (of_set rr) rows) rr))
    → ((t : Key → Bool) → ((p : Key → Bool) → Covers p rr.owner → (key : Key) → t key ≡ true → p key ≡ true) → P (without t rows))
    → P (changed_by apex rows rr)
changed_by-outcome P apex rr rows same added replaced taken = subst P (sym (changed_by-cases apex rr rows)) (chosen-holds P (cases_of apex rr rows) rows (
  λ _. same,
  λ _. (
    λ e. replaced (and-left _ _ (e)),
    λ _. (
      λ _. same,
      λ _. (
        λ e. replaced (and-left _ _ (and-left _ _ e)),
        λ _. (
          λ _. same,
          λ _. (
            λ e. added e,
            λ _. (
              λ _. taken (of_all apex rr) (λ p covers. all-covered p apex rr covers),
              λ _. (
                λ _. same,
                λ _. (
                  λ _. taken (of_set rr) (λ p covers. set-covered p rr.owner rr.kind covers),
                  λ _. (
                    λ _. same,
                    λ _. (
                      λ _. same,
                      λ _. (λ _. taken (of_record rr) (λ p covers. record-covered p rr covers), λ _. same),
                    ),
                  ),
                ),
              ),
            ),
          ),
        ),
      ),
    ),
  ),
))

pub changed_by-outside : (p : Key → Bool) (apex : Labels) (rr : Rr) (rows : RecordSet) → Covers p rr.owner → InOrder rows → only (fails p) (changed_by apex rows rr) ≡ only (fails p) rows
changed_by-outside p apex rr rows covers sorted =
    changed_by-outcome (λ s. only (fails p) s ≡ only (fails p) rows) apex rr rows refl (λ _. added rows sorted)
    (λ _. added (without (of_set rr) rows) (in_order-without (of_set rr) rows sorted) ∙ outside-without p (of_set rr) (set-covered p rr.owner rr.kind covers) rows)
    (λ t within. outside-without p t (within p covers) rows)
  where
    added : (some : RecordSet) → InOrder some → only (fails p) (put_rr some rr) ≡ only (fails p) some
    added some e = only-put-failed (fails p) (key_of rr) (shown_of rr) some e (ap not (covers-key_of p rr covers))

pub in_order-changed_by : (apex : Labels) (rr : Rr) (rows : RecordSet) → InOrder rows → InOrder (changed_by apex rows rr)
in_order-changed_by apex rr rows sorted =
    changed_by-outcome InOrder apex rr rows sorted (λ _. in_order-put (key_of rr) (shown_of rr) rows sorted)
    (λ _. in_order-put (key_of rr) (shown_of rr) (without (of_set rr) rows) (in_order-without (of_set rr) rows sorted)) (λ t within. in_order-without t rows sorted)
