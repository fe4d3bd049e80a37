-- What a part of a name's records shows of changes is what all of them show.
use Rattle.std.proofs.Common.{◌≡◌, ℕ, ◌+◌, ◌≤◌, Bool, true, false, cond, ◌&&◌, nat_le, List, [], ◌∷◌, ◌++◌, map, length, fold, refl, sym, ap, subst, ◌∙◌, arith}
use Rattle.std.proofs.lemmas.Bool.{leb-true, le-leb}
use Rattle.push_base.specs.Limits.{max_octets_at_name}
use Rattle.std.specs.List.{AllByRecursion}
use Rattle.dnsname.specs.Names.{Labels, same_name}
use Rattle.rrset.specs.Kinds.{soa_kind}
use Rattle.rrset.specs.RecordSet.{RecordSet, only, at_name, changes, same_rows, size_of}
use Rattle.rrset.specs.declared.record.Rr.{Rr}
use Rattle.rrset.specs.declared.record.Key.{Key}
use Rattle.rrset.specs.declared.record.Shown.{Shown}
use Rattle.rrset.specs.declared.record.Changed.{Changed}
use Rattle.rrset.proofs.Apart.{length-apart, same_rows-apart, changes-apart}
use Rattle.rrset.proofs.InOrder.{InOrder, in_order-only}
use Rattle.rrset.proofs.Selected.{fails}
use Rattle.zoneupdate.specs.Zones.{ZoneState, is_zone, set_at}
use Rattle.zoneupdate.specs.Updates.{changed_by, with_counted_ttl, rows_after, is_within_limits, max_zone_records}
use Rattle.zoneupdate.specs.Changing.{risen_entry}
use Rattle.zoneupdate.specs.Differing.{differences}
use Rattle.zoneupdate.specs.Singles.{is_single, is_before, changes_beside, is_within_at, is_within_part, IsPartFor, RisesAlike}
use Rattle.zoneupdate.proofs.Filters.{same_truth, and-right}
use Rattle.zoneupdate.proofs.Judging.{length-only, light-only}
use Rattle.zoneupdate.proofs.KeptZone.{zone_parts}
use Rattle.zoneupdate.proofs.LimitedParts.{fits-any}
use Rattle.zoneupdate.proofs.NamePlans.{size_of-parts, plans-nothing, plan-within, plan-changes}
use Rattle.zoneupdate.proofs.RecordSets.{IsSet, set-in_order, set-only, set-changes}
use Rattle.zoneupdate.proofs.SideBySide.{differences-changes}

module _ (zone : ZoneState) (name : Labels) (rrs : List Rr) (named part : RecordSet) (is_kept : is_zone zone ≡ true) (named_is : named ≡ at_name name zone.rows)
    (this : IsPartFor zone.apex rrs named part) (work : RecordSet) (work_is : work ≡ fold (changed_by zone.apex) part rrs) where
  -- all records of the name after the changes
  abbrev pub full : RecordSet
  full = fold (changed_by zone.apex) named rrs

  named_set : IsSet named
  named_set = subst IsSet (sym named_is) (set-only (λ key. same_name name key.owner) zone.rows (zone_parts zone is_kept).set)

  sorted : InOrder named
  sorted = set-in_order named named_set

  sorted_full : InOrder full
  sorted_full = set-in_order full (set-changes zone.apex rrs named named_set)

  work-part : work ≡ only this.test full
  work-part = work_is ∙ this.after

  pub same-part : (r : Bool) (entries : RecordSet) → r ≡ same_rows part entries → entries ≡ work → r ≡ same_rows named full
  same-part r entries is entries_are =
      is ∙ (λ i. same_rows (this.rows i) ((entries_are ∙ work-part) i)) ∙ sym (same_rows-apart this.test named full sorted sorted_full this.others)

  differences-part : differences part work ≡ differences named full
  differences-part =
      (λ i. differences (this.rows i) (work-part i))
      ∙ differences-changes (only this.test named) (only this.test full) (in_order-only this.test named sorted) (in_order-only this.test full sorted_full)
      ∙ sym (changes-apart this.test named full sorted this.others)
      ∙ sym (differences-changes named full sorted sorted_full)

  pub beside-part : (soas rows : RecordSet) (changed : List Changed) → rows ≡ work → changed ≡ changes_beside name soas part rows → changed ≡ changes_beside name soas named full
  beside-part soas rows changed rows_are is =
      is ∙ ap (λ (r : RecordSet). changes_beside name soas part r) rows_are
      ∙ ap (λ (d : List Changed). cond (is_before name soas) (differences soas (map risen_entry soas) ++ d) (d ++ differences soas (map risen_entry soas))) differences-part

  length-part : length full + length part ≡ length named + length work
  length-part = (λ i. length full + length (this.rows i)) ∙ length-apart this.test named full this.others ∙ (λ i. length named + length (sym work-part i))

  size-part : size_of full + size_of part ≡ size_of named + size_of work
  size-part =
      let first = size_of-parts this.test named in
      let second = size_of-parts this.test full in
      let before : size_of part ≡ size_of (only this.test named) = ap size_of this.rows in
      let after : size_of work ≡ size_of (only this.test full) = ap size_of work-part in
      let rest : size_of (only (fails this.test) named) ≡ size_of (only (fails this.test) full) = ap size_of this.others in
      omega (arith, first, second, before, after, rest)

  light : nat_le (size_of work + size_of named) (max_octets_at_name + size_of part) ≡ nat_le (size_of full) max_octets_at_name
  light = same_truth (nat_le (size_of work + size_of named) (max_octets_at_name + size_of part)) (nat_le (size_of full) max_octets_at_name) down up
    where
      down : nat_le (size_of work + size_of named) (max_octets_at_name + size_of part) ≡ true → nat_le (size_of full) max_octets_at_name ≡ true
      down h =
          let few = leb-true (size_of work + size_of named) (max_octets_at_name + size_of part) h in
          le-leb (size_of full) max_octets_at_name (omega (arith, size-part, few))

      up : nat_le (size_of full) max_octets_at_name ≡ true → nat_le (size_of work + size_of named) (max_octets_at_name + size_of part) ≡ true
      up h =
          let few = leb-true (size_of full) max_octets_at_name h in
          le-leb (size_of work + size_of named) (max_octets_at_name + size_of part) (omega (arith, size-part, few))

  pub within-part : (r : Bool) (n : ℕ) → ((all : ℕ) → all + length part ≡ n + length work → r ≡ is_within_part all named part work) → (all : ℕ) → all + length named ≡ n + length full → r ≡ is_within_at all full
  within-part r n test all is = test all (omega (arith, length-part, is)) ∙ ap (λ b. nat_le all max_zone_records && b) light

  pub less-part : size_of part ≤ size_of named
  less-part = let less = light-only this.test named in let is : size_of part ≡ size_of (only this.test named) = ap size_of this.rows in omega (arith, less, is)

  pub shorter-part : length part ≤ length zone.rows
  shorter-part =
      let first = length-only this.test named in
      let second = length-only (λ key. same_name name key.owner) zone.rows in
      let is : length part ≡ length (only this.test named) = ap (λ (r : RecordSet). length r) this.rows in
      let at : length named ≡ length (at_name name zone.rows) = ap (λ (r : RecordSet). length r) named_is in
      omega (arith, first, second, is, at)

  pub light-named : is_within_limits zone.rows ≡ true → size_of named ≤ max_octets_at_name
  light-named limits =
      let fits = leb-true (size_of (at_name name zone.rows)) max_octets_at_name (fits-any zone.rows (and-right _ _ limits) name) in
      let is : size_of named ≡ size_of (at_name name zone.rows) = ap size_of named_is in
      omega (arith, fits, is)

-- ---- the steps, by a part

module _ (zone : ZoneState) (name : Labels) (rrs : List Rr) (named part : RecordSet) (is_kept : is_zone zone ≡ true) (single : is_single zone.apex name rrs ≡ true) (named_is : named ≡ at_name name zone.rows)
    (this : IsPartFor zone.apex (map with_counted_ttl rrs) named part) (work : RecordSet) (work_is : work ≡ fold (changed_by zone.apex) part (map with_counted_ttl rrs))
    (limits : is_within_limits zone.rows ≡ true) (r : Bool) (entries : RecordSet) (is : r ≡ same_rows part entries) (entries_are : entries ≡ work) where
  abbrev all_rows : RecordSet
  all_rows = fold (changed_by zone.apex) named (map with_counted_ttl rrs)

  same_all : r ≡ same_rows named all_rows
  same_all = same-part zone name (map with_counted_ttl rrs) named part is_kept named_is this work work_is r entries is entries_are

  pub part-nothing : r ≡ true → (plan : List Changed) → plan ≡ [] → (is_within_limits (rows_after zone (map with_counted_ttl rrs)) ≡ true) × (plan ≡ changes zone.rows (rows_after zone (map with_counted_ttl rrs)))
  part-nothing same plan plan_is = plans-nothing zone name rrs named all_rows is_kept single named_is refl limits r all_rows same_all refl same plan plan_is

  module _ (differs : r ≡ false) (soas : RecordSet) (soas_are : soas ≡ set_at zone.apex soa_kind zone.rows) where
    pub part-within : AllByRecursion RisesAlike soas → (within : Bool) (n : ℕ) → n ≡ length zone.rows
        → ((all : ℕ) → all + length part ≡ n + length work → within ≡ is_within_part all named part work) → within ≡ is_within_limits (rows_after zone (map with_counted_ttl rrs))
    part-within alike within n n_is test =
        plan-within zone name rrs named all_rows is_kept single named_is refl r all_rows same_all refl differs soas soas_are limits alike within n n_is
        (within-part zone name (map with_counted_ttl rrs) named part is_kept named_is this work work_is within n test)

    pub part-changes : (changed : List Changed) (rows : RecordSet) → rows ≡ work → changed ≡ changes_beside name soas part rows → changed ≡ changes zone.rows (rows_after zone (map with_counted_ttl rrs))
    part-changes changed rows rows_are is_beside =
        plan-changes zone name rrs named all_rows is_kept single named_is refl r all_rows same_all refl differs soas soas_are changed all_rows refl
        (beside-part zone name (map with_counted_ttl rrs) named part is_kept named_is this work work_is soas rows changed rows_are is_beside)
