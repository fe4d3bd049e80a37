-- Plain changes of one name, which is no alias, each put or take out one key: what they do to some records of the name they do beside all others.
use Rattle.std.proofs.Common.{◌≡◌, ℕ, Bool, true, false, cond, not, ◌&&◌, ◌||◌, ◌==◌, List, [], ◌∷◌, map, fold, Option, Some, None, refl, sym, ap, subst, ◌∙◌, eqb-true}
use Rattle.std.specs.List.{list_all, list_any, AllByRecursion}
use Rattle.push_base.specs.Cases.{chosen, is_empty}
use Rattle.dnsname.specs.Names.{Labels, lower, same_name}
use Rattle.rrset.specs.Kinds.{in_class, any_class, none_class, cname_kind, soa_kind, ns_kind}
use Rattle.rrset.specs.Rdata.{lowered_rdata}
use Rattle.rrset.specs.Records.{key_of, shown_of, same_key}
use Rattle.rrset.specs.RecordSet.{RecordSet, only, without, at_name, put, put_rr, shown_at, is_of_rrset}
use Rattle.rrset.specs.declared.record.Rr.{Rr}
use Rattle.rrset.specs.declared.record.Key.{Key}
use Rattle.rrset.specs.declared.record.Shown.{Shown}
use Rattle.rrset.proofs.InOrder.{InOrder, in_order-put, in_order-only, in_order-without, same_sets}
use Rattle.rrset.proofs.SameRows.{same_key-same, same_key-self}
use Rattle.rrset.proofs.Selected.{fails, only-put-passed, only-put-failed}
use Rattle.rrset.proofs.Sets.{shown_at-only, shown_at-put}
use Rattle.zoneupdate.specs.Zones.{set_at}
use Rattle.zoneupdate.specs.Updates.{as_class_in, is_only, is_newer_soa, after_addition, after_set_deletion, after_record_deletion, changed_by}
use Rattle.zoneupdate.specs.Singles.{is_plain, is_named, with_record_of, IsPartFor}
use Rattle.zoneupdate.proofs.Filters.{not_both, not-true, and-left, and-right, and-both, or-left, or-right, filter_swap, same_truth}
use Rattle.zoneupdate.proofs.ChangedParts.{of_others, of_set, of_record, only-without, outside-without}
use Rattle.zoneupdate.proofs.ComparedOnce.{set_at-same}
use Rattle.zoneupdate.proofs.KindSets.{equal-turned}
use Rattle.zoneupdate.proofs.Owners.{same_name-on, same_name-lower}

-- ---- one change

-- a record that is put, or a key that is taken out
abbrev pub step : RecordSet → Rr → RecordSet
step rows rr = cond (rr.class == in_class) (put_rr rows rr) (without (of_record rr) rows)

added : (rows : RecordSet) (rr : Rr) → (rr.kind == cname_kind) ≡ false → is_empty (set_at rr.owner cname_kind rows) ≡ true → (rr.kind == soa_kind) ≡ false → after_addition rows rr ≡ put_rr rows rr
added rows rr alias none soa = λ i. table (alias i) (none i) (soa i)
  where
    table : Bool → Bool → Bool → RecordSet
    table alias none soa = chosen (
        (alias && not (is_empty (only (of_others rr) rows)), rows)
        ∷ (alias, put_rr (without (of_set rr) rows) rr)
        ∷ (not none, rows)
        ∷ (soa && is_newer_soa rr rows, put_rr (without (of_set rr) rows) rr)
        ∷ (soa, rows)
        ∷ []) (put_rr rows rr)

deleted : (apex : Labels) (rows : RecordSet) (rr : Rr) → (rr.kind == soa_kind) ≡ false → same_name rr.owner apex ≡ false → after_record_deletion apex rows rr ≡ without (of_record rr) rows
deleted apex rows rr soa away = λ i. table (soa i) (away i)
  where
    table : Bool → Bool → RecordSet
    table soa at_apex = chosen (
        (soa, rows)
        ∷ (at_apex && rr.kind == ns_kind && is_only (as_class_in rr) (set_at rr.owner ns_kind rows), rows)
        ∷ []) (without (of_record rr) rows)

record Plain (rr : Rr) : Type 0 where
  class : (rr.class == in_class || rr.class == none_class) ≡ true
  alias : (rr.kind == cname_kind) ≡ false
  soa : (rr.kind == soa_kind) ≡ false

plain : (rr : Rr) → is_plain rr ≡ true → Plain rr
plain rr h =
    let front = and-left ((rr.class == in_class || rr.class == none_class) && not (rr.kind == cname_kind)) (not (rr.kind == soa_kind)) h in
    record {
      class = and-left (rr.class == in_class || rr.class == none_class) (not (rr.kind == cname_kind)) front;
      alias = not-true (rr.kind == cname_kind) (and-right (rr.class == in_class || rr.class == none_class) (not (rr.kind == cname_kind)) front);
      soa = not-true (rr.kind == soa_kind) (and-right ((rr.class == in_class || rr.class == none_class) && not (rr.kind == cname_kind)) (not (rr.kind == soa_kind)) h);
    }

abbrev by_tests : Labels → RecordSet → Rr → Bool → Bool → Bool → RecordSet
by_tests apex rows rr adds takes drops = chosen ((adds, after_addition rows rr) ∷ (takes, after_set_deletion apex rows rr) ∷ (drops, after_record_deletion apex rows rr) ∷ []) rows

plain-step : (apex : Labels) (rows : RecordSet) (rr : Rr) → Plain rr → same_name rr.owner apex ≡ false → is_empty (set_at rr.owner cname_kind rows) ≡ true → changed_by apex rows rr ≡ step rows rr
plain-step apex rows rr p away none = by (rr.class == in_class) refl
  where
    by : (b : Bool) → (rr.class == in_class) ≡ b → changed_by apex rows rr ≡ step rows rr
    by true e =
        (λ i. by_tests apex rows rr (e i) (rr.class == any_class) (rr.class == none_class)) ∙ added rows rr p.alias none p.soa
        ∙ sym (ap (λ b. cond b (put_rr rows rr) (without (of_record rr) rows)) e)
    by false e =
        let drops : (rr.class == none_class) ≡ true = sym (ap (λ b. b || rr.class == none_class) e) ∙ p.class in
        let takes : (rr.class == any_class) ≡ false = ap (λ n. n == any_class) (eqb-true rr.class none_class drops) in
        (λ i. by_tests apex rows rr (e i) (takes i) (drops i)) ∙ deleted apex rows rr p.soa away
        ∙ sym (ap (λ b. cond b (put_rr rows rr) (without (of_record rr) rows)) e)

key-in : (rr : Rr) → (rr.class == in_class) ≡ true → key_of rr ≡ key_of (as_class_in rr)
key-in rr e = ap (λ n. record { owner = lower rr.owner; class = n; kind = rr.kind; rdata = lowered_rdata rr.kind rr.rdata }) (eqb-true rr.class in_class e)

step-order : (rr : Rr) (rows : RecordSet) → InOrder rows → InOrder (step rows rr)
step-order rr rows sorted = by (rr.class == in_class)
  where
    by : (b : Bool) → InOrder (cond b (put_rr rows rr) (without (of_record rr) rows))
    by true = in_order-put (key_of rr) (shown_of rr) rows sorted
    by false = in_order-without (of_record rr) rows sorted

and_false : (a b : Bool) → b ≡ false → (a && b) ≡ false
and_false true b e = e
and_false false b e = refl

-- no alias comes
step-alias : (name : Labels) (rr : Rr) (rows : RecordSet) → InOrder rows → Plain rr → set_at name cname_kind rows ≡ [] → set_at name cname_kind (step rows rr) ≡ []
step-alias name rr rows sorted p none = by (rr.class == in_class)
  where
    other : is_of_rrset name in_class cname_kind (key_of rr) ≡ false
    other = and_false (same_name name (lower rr.owner) && in_class == rr.class) (cname_kind == rr.kind) (equal-turned cname_kind rr.kind ∙ p.alias)

    by : (b : Bool) → set_at name cname_kind (cond b (put_rr rows rr) (without (of_record rr) rows)) ≡ []
    by true = only-put-failed (is_of_rrset name in_class cname_kind) (key_of rr) (shown_of rr) rows sorted other ∙ none
    by false = only-without (is_of_rrset name in_class cname_kind) (of_record rr) rows ∙ ap (without (of_record rr)) none

module _ (p : Key → Bool) (rr : Rr) (rows : RecordSet) (sorted : InOrder rows) (passes : p (key_of (as_class_in rr)) ≡ true) where
  step-only : only p (step rows rr) ≡ step (only p rows) rr
  step-only = by (rr.class == in_class) refl
    where
      by : (b : Bool) → (rr.class == in_class) ≡ b → only p (cond b (put_rr rows rr) (without (of_record rr) rows)) ≡ cond b (put_rr (only p rows) rr) (without (of_record rr) (only p rows))
      by true e = only-put-passed p (key_of rr) (shown_of rr) rows sorted (ap p (key-in rr e) ∙ passes)
      by false e = only-without p (of_record rr) rows

  step-outside : only (fails p) (step rows rr) ≡ only (fails p) rows
  step-outside = by (rr.class == in_class) refl
    where
      by : (b : Bool) → (rr.class == in_class) ≡ b → only (fails p) (cond b (put_rr rows rr) (without (of_record rr) rows)) ≡ only (fails p) rows
      by true e = only-put-failed (fails p) (key_of rr) (shown_of rr) rows sorted (ap not (ap p (key-in rr e) ∙ passes))
      by false e = outside-without p (of_record rr) (λ key is. ap p (sym (same_key-same (key_of (as_class_in rr)) key is)) ∙ passes) rows

-- ---- all changes

-- each change is plain, of the name, and its key passes
abbrev pub Fine : (Key → Bool) → Labels → List Rr → Type 0
Fine p name rrs = AllByRecursion (λ rr. (is_plain rr ≡ true) × (same_name name rr.owner ≡ true) × (p (key_of (as_class_in rr)) ≡ true)) rrs

module _ (p : Key → Bool) (apex name : Labels) (away : same_name name apex ≡ false) where
  elsewhere : (rr : Rr) → same_name name rr.owner ≡ true → same_name rr.owner apex ≡ false
  elsewhere rr same = by (same_name rr.owner apex) refl
    where
      by : (b : Bool) → same_name rr.owner apex ≡ b → same_name rr.owner apex ≡ false
      by true e = absurd (not_both (same_name name apex) (same_name-on name rr.owner apex same e) away)
      by false e = e

  no_alias : (rr : Rr) (rows : RecordSet) → same_name name rr.owner ≡ true → set_at name cname_kind rows ≡ [] → is_empty (set_at rr.owner cname_kind rows) ≡ true
  no_alias rr rows same none = ap (λ (set : RecordSet). is_empty set) (sym (set_at-same name rr.owner cname_kind rows same) ∙ none)

  part_alias : (rows : RecordSet) → set_at name cname_kind rows ≡ [] → set_at name cname_kind (only p rows) ≡ []
  part_alias rows none = filter_swap (λ e. is_of_rrset name in_class cname_kind e.0) (λ e. p e.0) rows ∙ ap (only p) none

  stepped : (rr : Rr) (rows : RecordSet) → is_plain rr ≡ true → same_name name rr.owner ≡ true → set_at name cname_kind rows ≡ [] → changed_by apex rows rr ≡ step rows rr
  stepped rr rows is same none = plain-step apex rows rr (plain rr is) (elsewhere rr same) (no_alias rr rows same none)

  pub fold-only : (rrs : List Rr) (rows : RecordSet) → InOrder rows → set_at name cname_kind rows ≡ [] → Fine p name rrs → fold (changed_by apex) (only p rows) rrs ≡ only p (fold (changed_by apex) rows rrs)
  fold-only [] rows sorted none fine = refl
  fold-only (rr ∷ rrs) rows sorted none fine =
      let here = stepped rr rows fine.0.0 fine.0.1 none in
      let there = stepped rr (only p rows) fine.0.0 fine.0.1 (part_alias rows none) in
      let one : changed_by apex (only p rows) rr ≡ only p (changed_by apex rows rr) = there ∙ sym (step-only p rr rows sorted fine.0.2) ∙ sym (ap (only p) here) in
      ap (λ (r : RecordSet). fold (changed_by apex) r rrs) one
      ∙ fold-only rrs (changed_by apex rows rr) (subst InOrder (sym here) (step-order rr rows sorted))
      (ap (set_at name cname_kind) here ∙ step-alias name rr rows sorted (plain rr fine.0.0) none) fine.1

  pub fold-outside : (rrs : List Rr) (rows : RecordSet) → InOrder rows → set_at name cname_kind rows ≡ [] → Fine p name rrs → only (fails p) rows ≡ only (fails p) (fold (changed_by apex) rows rrs)
  fold-outside [] rows sorted none fine = refl
  fold-outside (rr ∷ rrs) rows sorted none fine =
      let here = stepped rr rows fine.0.0 fine.0.1 none in
      sym (step-outside p rr rows sorted fine.0.2) ∙ sym (ap (only (fails p)) here)
      ∙ fold-outside rrs (changed_by apex rows rr) (subst InOrder (sym here) (step-order rr rows sorted))
      (ap (set_at name cname_kind) here ∙ step-alias name rr rows sorted (plain rr fine.0.0) none) fine.1
