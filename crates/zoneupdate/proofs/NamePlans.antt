-- What an update of one name, where that isn't the apex, does to a zone: it changes the records of this name, and where these differ the serial rises.
use Rattle.std.proofs.Common.{◌≡◌, ℕ, ◌+◌, ◌≤◌, Bool, true, false, cond, not, ◌&&◌, ◌||◌, nat_le, List, [], ◌∷◌, ◌++◌, map, length, fold, Ordering, Less, Equal, Greater, refl, sym, ap, subst, ◌∙◌, eqb-true, arith}
use Rattle.std.specs.Ordering.{is_lt, ordering_reverse, ordering_then}
use Rattle.std.specs.Cmp.Lexicographic.{nat_list_cmp_total}
use Rattle.std.specs.List.{list_all, AllByRecursion}
use Rattle.push_base.specs.Limits.{max_octets_at_name}
use Rattle.dnsname.specs.Names.{Labels, octets, lower, same_name}
use Rattle.rrset.specs.Kinds.{in_class, soa_kind}
use Rattle.rrset.specs.KeyedRows.{is_rising}
use Rattle.rrset.specs.Records.{key_of, shown_of, octets_cmp, rr_of, rr_size}
use Rattle.rrset.specs.RecordSet.{RecordSet, only, without, at_name, put_rr, union, changes, same_rows, shows_its_key, size_of, size_at}
use Rattle.rrset.specs.Tables.{HaveLowerOwners}
use Rattle.rrset.specs.declared.record.Rr.{Rr}
use Rattle.rrset.specs.declared.record.Key.{Key}
use Rattle.rrset.specs.declared.record.Shown.{Shown}
use Rattle.rrset.specs.declared.record.Changed.{Changed}
use Rattle.rrset.proofs.Apart.{AgreeApart, length-apart, same_rows-apart}
use Rattle.rrset.proofs.InOrder.{InOrder, in_order-only, in_order-without}
use Rattle.rrset.proofs.KeyOrder.{key_cmp-IsAntisymmetric}
use Rattle.rrset.proofs.SameRows.{same_rows-same, same_rows-self, changes-self}
use Rattle.rrset.proofs.Selected.{fails, length-parts, only-put-failed}
use Rattle.rrset.proofs.Sizes.{size_of-cons, size_of-only-cons}
use Rattle.zoneupdate.specs.Zones.{ZoneState, set_at, is_zone}
use Rattle.zoneupdate.specs.Updates.{changed_by, risen_soa, rows_after, is_within_limits, max_zone_records, with_counted_ttl}
use Rattle.zoneupdate.specs.Changing.{risen_entry}
use Rattle.zoneupdate.specs.Differing.{differences}
use Rattle.zoneupdate.specs.Touched.{is_touched, part_after}
use Rattle.zoneupdate.specs.Singles.{is_single, is_within_at, changes_beside, RisesAlike}
use Rattle.zoneupdate.proofs.Filters.{is_true, not_both, not-true, and-left, and-right, and-both, same_truth, filter_swap}
use Rattle.zoneupdate.proofs.SomeAndAll.{all-filter, all_itself}
use Rattle.zoneupdate.proofs.Owners.{same_name-on, same_name-back, same_lower, lower_same}
use Rattle.zoneupdate.proofs.OneName.{set-at_name}
use Rattle.zoneupdate.proofs.OneSoa.{is_soa_at, one_soa, HasOneSoa, soa-owner, soa-kind, soas-new}
use Rattle.zoneupdate.proofs.KeptZone.{ZoneParts, zone_parts, set-risen, risen-key}
use Rattle.zoneupdate.proofs.ChangedParts.{only-within, outside-without}
use Rattle.zoneupdate.proofs.RecordSets.{IsSet, set-in_order, set-only, set-changes, lower_owners, set-lower_owners}
use Rattle.zoneupdate.proofs.RisenEntry.{risen-is}
use Rattle.zoneupdate.proofs.RisenParts.{CoversAll, changes-only, changes-outside}
use Rattle.zoneupdate.proofs.NextSerial.{rises, nothing_changed}
use Rattle.zoneupdate.proofs.TouchedParts.{touched-apex, touched-changes}
use Rattle.zoneupdate.proofs.LimitedParts.{fits, fits-any, fits-same, part-fits, after-limits}
use Rattle.zoneupdate.proofs.Judging.{length-only}
use Rattle.zoneupdate.proofs.Plans.{all-union}
use Rattle.zoneupdate.proofs.SideBySide.{differences-changes}
use Rattle.zoneupdate.proofs.TwoParts.{before-names, changes-cut}

-- the key is of this name
abbrev pub is_at : Labels → Key → Bool
is_at name key = same_name name key.owner

-- ---- the parts of tests

set-shows : (rows : RecordSet) → IsSet rows → list_all shows_its_key rows ≡ true
set-shows rows set = and-right _ _ set

few : (rows : RecordSet) → is_within_limits rows ≡ true → nat_le (length rows) max_zone_records ≡ true
few rows h = and-left _ _ h

all_fit : (rows : RecordSet) → is_within_limits rows ≡ true → list_all (λ e. fits rows e.0.owner) rows ≡ true
all_fit rows h = and-right _ _ h

few_at : (all : ℕ) (work : RecordSet) → is_within_at all work ≡ true → nat_le all max_zone_records ≡ true
few_at all work h = and-left _ _ h

light_at : (all : ℕ) (work : RecordSet) → is_within_at all work ≡ true → nat_le (size_of work) max_octets_at_name ≡ true
light_at all work h = and-right _ _ h

-- ---- lists of records

nor-left : (a b : Bool) → not (a || b) ≡ true → not a ≡ true
nor-left true b h = h
nor-left false b h = refl

nor-right : (a b : Bool) → not (a || b) ≡ true → not b ≡ true
nor-right true b h = absurd cc
nor-right false b h = h

one_of : (soas : RecordSet) → one_soa soas ≡ true → (e : Key × Shown) × (soas ≡ e ∷ [])
one_of [] one = absurd cc
one_of (e ∷ []) one = (e, refl)
one_of (e ∷ f ∷ soas) one = let many = eqb-true (length (e ∷ f ∷ soas)) 1 (and-left _ _ one) in absurd (omega arith)

pub size_of-parts : (p : Key → Bool) (set : RecordSet) → size_of (only p set) + size_of (only (fails p) set) ≡ size_of set
size_of-parts p [] = refl
size_of-parts p (e ∷ es) = by (p e.0) (size_of-only-cons p e es) (size_of-only-cons (fails p) e es) (size_of-cons e es) (size_of-parts p es)
  where
    by : (b : Bool) → size_of (only p (e ∷ es)) ≡ cond b (rr_size (rr_of e.0 e.1)) 0 + size_of (only p es) → size_of (only (fails p) (e ∷ es)) ≡ cond (not b) (rr_size (rr_of e.0 e.1)) 0 + size_of (only (fails p) es)
        → size_of (e ∷ es) ≡ rr_size (rr_of e.0 e.1) + size_of es → size_of (only p es) + size_of (only (fails p) es) ≡ size_of es
        → size_of (only p (e ∷ es)) + size_of (only (fails p) (e ∷ es)) ≡ size_of (e ∷ es)
    by true first second whole rest = omega (arith, first, second, whole, rest)
    by false first second whole rest = omega (arith, first, second, whole, rest)

size_of-risen : (soas : RecordSet) → AllByRecursion RisesAlike soas → size_of (map risen_entry soas) ≡ size_of soas
size_of-risen [] alike = refl
size_of-risen (e ∷ es) alike =
    size_of-cons (risen_entry e) (map risen_entry es)
    ∙ (λ i. length (octets e.1.owner) + 10 + alike.0 i + size_of-risen es alike.1 i)
    ∙ sym (size_of-cons e es)

covers-single : (name : Labels) (rrs : List Rr) → list_all (λ rr. same_name name rr.owner) rrs ≡ true → CoversAll (is_at name) rrs
covers-single name [] all = tt
covers-single name (rr ∷ rrs) all = (
  λ key same. same_name-on name rr.owner key.owner (and-left (same_name name rr.owner) (list_all (λ rr. same_name name rr.owner) rrs) all) same,
  covers-single name rrs (and-right (same_name name rr.owner) (list_all (λ rr. same_name name rr.owner) rrs) all),
)

-- ---- the changes

abbrev pub changed_rows : ZoneState → List Rr → RecordSet
changed_rows zone rrs = fold (changed_by zone.apex) zone.rows rrs

module _ (zone : ZoneState) (name : Labels) (rrs : List Rr) (parts : ZoneParts zone) (away : same_name name zone.apex ≡ false) (all : list_all (λ rr. same_name name rr.owner) rrs ≡ true) where
  sorted : InOrder zone.rows
  sorted = set-in_order zone.rows parts.set

  new_set : IsSet (changed_rows zone rrs)
  new_set = set-changes zone.apex rrs zone.rows parts.set

  pub here-new : only (is_at name) (changed_rows zone rrs) ≡ fold (changed_by zone.apex) (only (is_at name) zone.rows) rrs
  here-new = changes-only (is_at name) zone.apex rrs zone.rows (covers-single name rrs all) sorted

  agree : AgreeApart (is_at name) zone.rows (changed_rows zone rrs)
  agree = sym (changes-outside (is_at name) zone.apex rrs zone.rows (covers-single name rrs all) sorted)

  apart : (key : Key) → same_name zone.apex key.owner ≡ true → fails (is_at name) key ≡ true
  apart key at = by (same_name name key.owner) refl
    where
      by : (b : Bool) → same_name name key.owner ≡ b → not (same_name name key.owner) ≡ true
      by true e = absurd (not_both (same_name name zone.apex) (same_name-on name key.owner zone.apex e (same_name-back zone.apex key.owner at)) away)
      by false e = ap not e

  -- what isn't of the name stays
  kept-outside : (p : Key → Bool) → ((key : Key) → p key ≡ true → fails (is_at name) key ≡ true) → only p (changed_rows zone rrs) ≡ only p zone.rows
  kept-outside p out = sym (only-within (fails (is_at name)) p out (changed_rows zone rrs)) ∙ ap (only p) (sym agree) ∙ only-within (fails (is_at name)) p out zone.rows

  soas : set_at zone.apex soa_kind (changed_rows zone rrs) ≡ set_at zone.apex soa_kind zone.rows
  soas = kept-outside (is_soa_at zone.apex) (λ key is. apart key (soa-owner zone.apex key is))

  at_apex : at_name zone.apex (changed_rows zone rrs) ≡ at_name zone.apex zone.rows
  at_apex = kept-outside (is_at zone.apex) apart

  same-part : same_rows zone.rows (changed_rows zone rrs) ≡ same_rows (only (is_at name) zone.rows) (only (is_at name) (changed_rows zone rrs))
  same-part = same_rows-apart (is_at name) zone.rows (changed_rows zone rrs) sorted (set-in_order (changed_rows zone rrs) new_set) agree

  -- where the records of the name stay, all do
  pub stays : same_rows (only (is_at name) zone.rows) (only (is_at name) (changed_rows zone rrs)) ≡ true → rows_after zone rrs ≡ zone.rows
  stays same =
      let e = same-part ∙ same in
      sym (nothing_changed zone.apex zone.rows (changed_rows zone rrs) e) ∙ sym (same_rows-same zone.rows (changed_rows zone rrs) e)

  -- the rows where the serial rises
  record Risen : Type 0 where
    soas_after : set_at zone.apex soa_kind (rows_after zone rrs) ≡ map risen_entry (set_at zone.apex soa_kind zone.rows)
    others : only (fails (is_soa_at zone.apex)) (rows_after zone rrs) ≡ only (fails (is_soa_at zone.apex)) (changed_rows zone rrs)

  risen : same_rows (only (is_at name) zone.rows) (only (is_at name) (changed_rows zone rrs)) ≡ false → Risen
  risen differ = record {
    soas_after = ap (set_at zone.apex soa_kind) put ∙ soas-new zone.apex (is_soa_at zone.apex) (risen_soa soa) (changed_rows zone rrs) order (λ key h. h) key
        ∙ ap (λ x. x ∷ []) (sym (risen-is soa (soa-kind zone.apex soa.0 at) shows)) ∙ sym (ap (map risen_entry) one.1);
    others = ap (only (fails (is_soa_at zone.apex))) put
        ∙ only-put-failed (fails (is_soa_at zone.apex)) (key_of (risen_soa soa)) (shown_of (risen_soa soa)) (without (is_soa_at zone.apex) (changed_rows zone rrs)) (in_order-without (is_soa_at zone.apex) (changed_rows zone rrs) order) (ap not key)
        ∙ outside-without (is_soa_at zone.apex) (is_soa_at zone.apex) (λ key h. h) (changed_rows zone rrs);
  }
    where
      one : (e : Key × Shown) × (set_at zone.apex soa_kind zone.rows ≡ e ∷ [])
      one = one_of (set_at zone.apex soa_kind zone.rows) parts.one

      soa : Key × Shown
      soa = one.0

      order : InOrder (changed_rows zone rrs)
      order = set-in_order (changed_rows zone rrs) new_set

      shows : shows_its_key soa ≡ true
      shows = and-left (shows_its_key soa) true (ap (list_all shows_its_key) (sym one.1) ∙ all-filter shows_its_key (λ x. is_soa_at zone.apex x.0) zone.rows (set-shows zone.rows parts.set))

      at : is_soa_at zone.apex soa.0 ≡ true
      at = and-left (is_soa_at zone.apex soa.0) true (ap (list_all (λ x. is_soa_at zone.apex x.0)) (sym one.1) ∙ all_itself (λ x. is_soa_at zone.apex x.0) zone.rows)

      key : is_soa_at zone.apex (key_of (risen_soa soa)) ≡ true
      key = risen-key zone.apex soa at shows

      put : rows_after zone rrs ≡ put_rr (without (is_soa_at zone.apex) (changed_rows zone rrs)) (risen_soa soa)
      put =
          sym (rises zone.apex zone.rows (changed_rows zone rrs) (same-part ∙ differ) (ap (same_rows (set_at zone.apex soa_kind zone.rows)) soas ∙ same_rows-self (set_at zone.apex soa_kind zone.rows)))
          ∙ ap (λ (l : RecordSet). fold put_rr (without (is_soa_at zone.apex) (changed_rows zone rrs)) (map risen_soa l)) (soas ∙ one.1)

  module _ (differ : same_rows (only (is_at name) zone.rows) (only (is_at name) (changed_rows zone rrs)) ≡ false) where
    rise : Risen
    rise = risen differ

    no_soa : (key : Key) → is_at name key ≡ true → fails (is_soa_at zone.apex) key ≡ true
    no_soa key at = by (is_soa_at zone.apex key) refl
      where
        by : (b : Bool) → is_soa_at zone.apex key ≡ b → not (is_soa_at zone.apex key) ≡ true
        by true e = absurd (not_both (is_at name key) at (not-true (is_at name key) (apart key (soa-owner zone.apex key e))))
        by false e = ap not e

    here-after : only (is_at name) (rows_after zone rrs) ≡ only (is_at name) (changed_rows zone rrs)
    here-after =
        sym (only-within (fails (is_soa_at zone.apex)) (is_at name) no_soa (rows_after zone rrs)) ∙ ap (only (is_at name)) rise.others
        ∙ only-within (fails (is_soa_at zone.apex)) (is_at name) no_soa (changed_rows zone rrs)

    -- what is neither of the name nor the SOA stays
    agree-after : (p : Key → Bool) → ((key : Key) → fails p key ≡ true → fails (is_soa_at zone.apex) key ≡ true) → ((key : Key) → fails p key ≡ true → fails (is_at name) key ≡ true)
        → AgreeApart p zone.rows (rows_after zone rrs)
    agree-after p no_soa no_name =
        sym (only-within (fails (is_at name)) (fails p) no_name zone.rows) ∙ ap (only (fails p)) agree ∙ only-within (fails (is_at name)) (fails p) no_name (changed_rows zone rrs)
        ∙ sym (only-within (fails (is_soa_at zone.apex)) (fails p) no_soa (changed_rows zone rrs)) ∙ ap (only (fails p)) (sym rise.others)
        ∙ only-within (fails (is_soa_at zone.apex)) (fails p) no_soa (rows_after zone rrs)

    low : HaveLowerOwners (union zone.rows (rows_after zone rrs))
    low = lower_owners (union zone.rows (rows_after zone rrs))
        (all-union shows_its_key zone.rows (rows_after zone rrs) (set-shows zone.rows parts.set) (set-shows (rows_after zone rrs) (set-risen zone.apex zone.rows (changed_rows zone rrs) new_set)))

    soa-first : octets_cmp (octets (lower zone.apex)) (octets (lower name)) ≡ Less → changes zone.rows (rows_after zone rrs)
        ≡ changes (set_at zone.apex soa_kind zone.rows) (map risen_entry (set_at zone.apex soa_kind zone.rows)) ++ changes (only (is_at name) zone.rows) (only (is_at name) (changed_rows zone rrs))
    soa-first less =
        changes-cut (is_soa_at zone.apex) (is_at name) zone.rows (rows_after zone rrs) (before-names (is_soa_at zone.apex) (is_at name) zone.apex name less (soa-owner zone.apex) (λ l h. h)) sorted low
        (agree-after (λ k. is_soa_at zone.apex k || is_at name k) (λ key h. nor-left (is_soa_at zone.apex key) (is_at name key) h) (λ key h. nor-right (is_soa_at zone.apex key) (is_at name key) h))
        ∙ (λ i. changes (set_at zone.apex soa_kind zone.rows) (rise.soas_after i) ++ changes (only (is_at name) zone.rows) (here-after i))

    name-first : octets_cmp (octets (lower name)) (octets (lower zone.apex)) ≡ Less → changes zone.rows (rows_after zone rrs)
        ≡ changes (only (is_at name) zone.rows) (only (is_at name) (changed_rows zone rrs)) ++ changes (set_at zone.apex soa_kind zone.rows) (map risen_entry (set_at zone.apex soa_kind zone.rows))
    name-first less =
        changes-cut (is_at name) (is_soa_at zone.apex) zone.rows (rows_after zone rrs) (before-names (is_at name) (is_soa_at zone.apex) name zone.apex less (λ l h. h) (soa-owner zone.apex)) sorted low
        (agree-after (λ k. is_at name k || is_soa_at zone.apex k) (λ key h. nor-right (is_at name key) (is_soa_at zone.apex key) h) (λ key h. nor-left (is_at name key) (is_soa_at zone.apex key) h))
        ∙ (λ i. changes (only (is_at name) zone.rows) (here-after i) ++ changes (set_at zone.apex soa_kind zone.rows) (rise.soas_after i))

    -- ---- limits

    size-parts : (set : RecordSet) → size_at zone.apex set ≡ size_of (set_at zone.apex soa_kind set) + size_of (at_name zone.apex (only (fails (is_soa_at zone.apex)) set))
    size-parts set =
        sym (size_of-parts (is_soa_at zone.apex) (at_name zone.apex set))
        ∙ (λ i. size_of (set-at_name zone.apex in_class soa_kind set i) + size_of (filter_swap (λ (e : Key × Shown). fails (is_soa_at zone.apex) e.0) (λ e. is_at zone.apex e.0) set i))

    size-apex : AllByRecursion RisesAlike (set_at zone.apex soa_kind zone.rows) → size_at zone.apex (rows_after zone rrs) ≡ size_at zone.apex zone.rows
    size-apex alike =
        size-parts (rows_after zone rrs)
        ∙ (λ i. size_of (rise.soas_after i) + size_of (at_name zone.apex (rise.others i)))
        ∙ ap (λ n. n + size_of (at_name zone.apex (only (fails (is_soa_at zone.apex)) (changed_rows zone rrs)))) (size_of-risen (set_at zone.apex soa_kind zone.rows) alike ∙ ap size_of (sym soas))
        ∙ sym (size-parts (changed_rows zone rrs)) ∙ ap size_of at_apex

    length-rise : length (rows_after zone rrs) ≡ length (changed_rows zone rrs)
    length-rise =
        let one = one_of (set_at zone.apex soa_kind zone.rows) parts.one in
        let first = length-parts (is_soa_at zone.apex) (rows_after zone rrs) in
        let second = length-parts (is_soa_at zone.apex) (changed_rows zone rrs) in
        let first_one : length (set_at zone.apex soa_kind (rows_after zone rrs)) ≡ 1 = ap length (rise.soas_after ∙ ap (map risen_entry) one.1) in
        let second_one : length (set_at zone.apex soa_kind (changed_rows zone rrs)) ≡ 1 = ap length (soas ∙ one.1) in
        let rest : length (only (fails (is_soa_at zone.apex)) (rows_after zone rrs)) ≡ length (only (fails (is_soa_at zone.apex)) (changed_rows zone rrs)) = ap length rise.others in
        omega (arith, first, second, first_one, second_one, rest)

    pub length-after : length (rows_after zone rrs) + length (only (is_at name) zone.rows) ≡ length zone.rows + length (only (is_at name) (changed_rows zone rrs))
    length-after = ap (λ n. n + length (only (is_at name) zone.rows)) length-rise ∙ length-apart (is_at name) zone.rows (changed_rows zone rrs) agree

    owners-fit : fits (rows_after zone rrs) name ≡ true → (some : List Rr) → CoversAll (is_touched zone.apex rrs) some → list_all (λ rr. same_name name rr.owner) some ≡ true
        → list_all (λ rr. fits (part_after zone rrs) rr.owner) some ≡ true
    owners-fit fit [] covers same = refl
    owners-fit fit (rr ∷ some) covers same =
        and-both (fits (part_after zone rrs) rr.owner) (list_all (λ rr. fits (part_after zone rrs) rr.owner) some)
        (part-fits zone rrs parts.set rr.owner covers.0 ∙ fits-same name rr.owner (rows_after zone rrs) (and-left (same_name name rr.owner) (list_all (λ rr. same_name name rr.owner) some) same) fit)
        (owners-fit fit some covers.1 (and-right (same_name name rr.owner) (list_all (λ rr. same_name name rr.owner) some) same))

    pub within-after : is_within_limits zone.rows ≡ true → AllByRecursion RisesAlike (set_at zone.apex soa_kind zone.rows)
        → is_within_limits (rows_after zone rrs) ≡ is_within_at (length (rows_after zone rrs)) (only (is_at name) (changed_rows zone rrs))
    within-after limits alike = same_truth (is_within_limits (rows_after zone rrs)) (is_within_at (length (rows_after zone rrs)) (only (is_at name) (changed_rows zone rrs))) down up
      where
        size-here : fits (rows_after zone rrs) name ≡ nat_le (size_of (only (is_at name) (changed_rows zone rrs))) max_octets_at_name
        size-here = ap (λ (s : RecordSet). nat_le (size_of s) max_octets_at_name) here-after

        down : is_within_limits (rows_after zone rrs) ≡ true → is_within_at (length (rows_after zone rrs)) (only (is_at name) (changed_rows zone rrs)) ≡ true
        down h = and-both (nat_le (length (rows_after zone rrs)) max_zone_records) (nat_le (size_of (only (is_at name) (changed_rows zone rrs))) max_octets_at_name) (few (rows_after zone rrs) h) (sym size-here ∙ fits-any (rows_after zone rrs) (all_fit (rows_after zone rrs) h) name)

        at_zone : fits (part_after zone rrs) zone.apex ≡ true
        at_zone =
            part-fits zone rrs parts.set zone.apex (touched-apex zone.apex rrs) ∙ ap (λ n. nat_le n max_octets_at_name) (size-apex alike)
            ∙ fits-any zone.rows (all_fit zone.rows limits) zone.apex

        up : is_within_at (length (rows_after zone rrs)) (only (is_at name) (changed_rows zone rrs)) ≡ true → is_within_limits (rows_after zone rrs) ≡ true
        up h =
            after-limits zone rrs parts.set limits
            ∙ and-both (nat_le (length (rows_after zone rrs)) max_zone_records && fits (part_after zone rrs) zone.apex) (list_all (λ rr. fits (part_after zone rrs) rr.owner) rrs)
            (and-both (nat_le (length (rows_after zone rrs)) max_zone_records) (fits (part_after zone rrs) zone.apex) (few_at (length (rows_after zone rrs)) (only (is_at name) (changed_rows zone rrs)) h) at_zone)
            (owners-fit (size-here ∙ light_at (length (rows_after zone rrs)) (only (is_at name) (changed_rows zone rrs)) h) rrs (touched-changes zone.apex rrs) all)

-- ---- the steps of the check

all-counted : (name : Labels) (rrs : List Rr) → list_all (λ rr. same_name name rr.owner) rrs ≡ true → list_all (λ rr. same_name name rr.owner) (map with_counted_ttl rrs) ≡ true
all-counted name [] all = refl
all-counted name (rr ∷ rrs) all =
    and-both (same_name name rr.owner) (list_all (λ rr. same_name name rr.owner) (map with_counted_ttl rrs)) (and-left (same_name name rr.owner) (list_all (λ rr. same_name name rr.owner) rrs) all)
    (all-counted name rrs (and-right (same_name name rr.owner) (list_all (λ rr. same_name name rr.owner) rrs) all))

-- the only record of an SOA's set, and its owner
record TheSoa (apex : Labels) (rows : RecordSet) : Type 0 where
  entry : Key × Shown
  only_one : set_at apex soa_kind rows ≡ entry ∷ []
  owner : entry.0.owner ≡ lower apex

the_soa : (apex : Labels) (rows : RecordSet) → IsSet rows → HasOneSoa apex rows → TheSoa apex rows
the_soa apex rows set one =
    let found = one_of (set_at apex soa_kind rows) one in
    let shows : list_all shows_its_key (found.0 ∷ []) ≡ true = ap (list_all shows_its_key) (sym found.1) ∙ all-filter shows_its_key (λ x. is_soa_at apex x.0) rows (set-shows rows set) in
    let at : list_all (λ x. is_soa_at apex x.0) (found.0 ∷ []) ≡ true = ap (list_all (λ x. is_soa_at apex x.0)) (sym found.1) ∙ all_itself (λ x. is_soa_at apex x.0) rows in
    record {
      entry = found.0;
      only_one = found.1;
      owner = sym (same_lower apex found.0.0.owner (soa-owner apex found.0.0 (and-left (is_soa_at apex found.0.0) true at)) ∙ (lower_owners (found.0 ∷ []) shows).0);
    }

less : (r : Ordering) → is_lt r ≡ true → r ≡ Less
less Less h = refl
less Equal h = absurd cc
less Greater h = absurd cc

-- one of two names comes first
greater : (r : Ordering) → is_lt r ≡ false → (r ≡ Equal → ⊥) → ordering_reverse r ≡ Less
greater Less h other = absurd cc
greater Equal h other = absurd (other refl)
greater Greater h other = refl

other_owner : (a b : Labels) → same_name b a ≡ false → octets_cmp (octets (lower a)) (octets (lower b)) ≡ Equal → ⊥
other_owner a b away e =
    let one : record { owner = lower a; class = 0; kind = 0; rdata = [] } ≡ record { owner = lower b; class = 0; kind = 0; rdata = [] } =
    key_cmp-IsAntisymmetric (record { owner = lower a; class = 0; kind = 0; rdata = [] }) (record { owner = lower b; class = 0; kind = 0; rdata = [] }) (ap (λ (r : Ordering). ordering_then r Equal) e) in
    not_both (same_name b a) (lower_same b a (sym (ap (λ (k : Key). k.owner) one))) away

module _ (zone : ZoneState) (name : Labels) (rrs : List Rr) (before work : RecordSet) (is_kept : is_zone zone ≡ true) (single : is_single zone.apex name rrs ≡ true) (before_is : before ≡ at_name name zone.rows)
    (work_is : work ≡ fold (changed_by zone.apex) before (map with_counted_ttl rrs)) where
  parts : ZoneParts zone
  parts = zone_parts zone is_kept

  away : same_name name zone.apex ≡ false
  away = not-true (same_name name zone.apex) (and-left (not (same_name name zone.apex)) (list_all (λ rr. same_name name rr.owner) rrs) single)

  all : list_all (λ rr. same_name name rr.owner) (map with_counted_ttl rrs) ≡ true
  all = all-counted name rrs (and-right (not (same_name name zone.apex)) (list_all (λ rr. same_name name rr.owner) rrs) single)

  work-new : work ≡ only (is_at name) (changed_rows zone (map with_counted_ttl rrs))
  work-new =
      work_is ∙ ap (λ (b : RecordSet). fold (changed_by zone.apex) b (map with_counted_ttl rrs)) before_is
      ∙ sym (here-new zone name (map with_counted_ttl rrs) parts away all)

  pub plans-nothing : is_within_limits zone.rows ≡ true → (r : Bool) (entries : RecordSet) → r ≡ same_rows before entries → entries ≡ work → r ≡ true → (plan : List Changed) → plan ≡ []
      → (is_within_limits (rows_after zone (map with_counted_ttl rrs)) ≡ true) × (plan ≡ changes zone.rows (rows_after zone (map with_counted_ttl rrs)))
  plans-nothing limits r entries is entries_are same plan plan_is =
      let after : rows_after zone (map with_counted_ttl rrs) ≡ zone.rows =
      stays zone name (map with_counted_ttl rrs) parts away all ((λ i. same_rows (sym before_is i) (sym (entries_are ∙ work-new) i)) ∙ sym is ∙ same) in
      (ap is_within_limits after ∙ limits, plan_is ∙ sym (ap (changes zone.rows) after ∙ changes-self zone.rows))

  pub before-length : length before ≤ length zone.rows
  before-length = subst (λ (b : RecordSet). length b ≤ length zone.rows) (sym before_is) (length-only (is_at name) zone.rows)

  module _ (r : Bool) (entries : RecordSet) (is : r ≡ same_rows before entries) (entries_are : entries ≡ work) (differs : r ≡ false) (soas : RecordSet) (soas_are : soas ≡ set_at zone.apex soa_kind zone.rows) where
    differ : same_rows (only (is_at name) zone.rows) (only (is_at name) (changed_rows zone (map with_counted_ttl rrs))) ≡ false
    differ = (λ i. same_rows (sym before_is i) (sym (entries_are ∙ work-new) i)) ∙ sym is ∙ differs

    pub plan-within : is_within_limits zone.rows ≡ true → AllByRecursion RisesAlike soas → (within : Bool) (n : ℕ) → n ≡ length zone.rows
        → ((all : ℕ) → all + length before ≡ n + length work → within ≡ is_within_at all work) → within ≡ is_within_limits (rows_after zone (map with_counted_ttl rrs))
    plan-within limits alike within n n_is test =
        test (length (rows_after zone (map with_counted_ttl rrs)))
        (ap (λ (b : RecordSet). length (rows_after zone (map with_counted_ttl rrs)) + length b) before_is
        ∙ length-after zone name (map with_counted_ttl rrs) parts away all differ
        ∙ (λ i. sym n_is i + length (sym work-new i)))
        ∙ ap (λ (w : RecordSet). is_within_at (length (rows_after zone (map with_counted_ttl rrs))) w) work-new
        ∙ sym (within-after zone name (map with_counted_ttl rrs) parts away all differ limits (subst (λ (s : RecordSet). AllByRecursion RisesAlike s) soas_are alike))

    pub plan-changes : (changed : List Changed) (rows : RecordSet) → rows ≡ work → changed ≡ changes_beside name soas before rows → changed ≡ changes zone.rows (rows_after zone (map with_counted_ttl rrs))
    plan-changes changed rows rows_are is =
        is ∙ (λ i. changes_beside name ((soas_are ∙ soa.only_one) i) before (rows_are i)) ∙ by (is_lt (octets_cmp (octets soa.entry.0.owner) (octets (lower name)))) refl
      where
        soa : TheSoa zone.apex zone.rows
        soa = the_soa zone.apex zone.rows parts.set parts.one

        at_soa : differences (soa.entry ∷ []) (risen_entry soa.entry ∷ []) ≡ changes (set_at zone.apex soa_kind zone.rows) (map risen_entry (set_at zone.apex soa_kind zone.rows))
        at_soa = differences-changes (soa.entry ∷ []) (risen_entry soa.entry ∷ []) tt tt ∙ (λ i. changes (sym soa.only_one i) (map risen_entry (sym soa.only_one i)))

        at_here : differences before work ≡ changes (only (is_at name) zone.rows) (only (is_at name) (changed_rows zone (map with_counted_ttl rrs)))
        at_here =
            differences-changes before work
            (subst (λ (s : RecordSet). InOrder s) (sym before_is) (in_order-only (is_at name) zone.rows (set-in_order zone.rows parts.set)))
            (subst (λ (s : RecordSet). InOrder s) (sym work-new)
            (in_order-only (is_at name) (changed_rows zone (map with_counted_ttl rrs)) (set-in_order (changed_rows zone (map with_counted_ttl rrs)) (set-changes zone.apex (map with_counted_ttl rrs) zone.rows parts.set))))
            ∙ (λ i. changes (before_is i) (work-new i))

        owner : octets_cmp (octets soa.entry.0.owner) (octets (lower name)) ≡ octets_cmp (octets (lower zone.apex)) (octets (lower name))
        owner = ap (λ (o : Labels). octets_cmp (octets o) (octets (lower name))) soa.owner

        by : (b : Bool) → is_lt (octets_cmp (octets soa.entry.0.owner) (octets (lower name))) ≡ b
            → cond b (differences (soa.entry ∷ []) (risen_entry soa.entry ∷ []) ++ differences before work) (differences before work ++ differences (soa.entry ∷ []) (risen_entry soa.entry ∷ []))
            ≡ changes zone.rows (rows_after zone (map with_counted_ttl rrs))
        by true first =
            (λ i. at_soa i ++ at_here i)
            ∙ sym (soa-first zone name (map with_counted_ttl rrs) parts away all differ (less (octets_cmp (octets (lower zone.apex)) (octets (lower name))) (ap is_lt (sym owner) ∙ first)))
        by false behind =
            (λ i. at_here i ++ at_soa i)
            ∙ sym (name-first zone name (map with_counted_ttl rrs) parts away all differ
            (nat_list_cmp_total.antisymm (octets (lower name)) (octets (lower zone.apex))
            ∙ greater (octets_cmp (octets (lower zone.apex)) (octets (lower name))) (ap is_lt (sym owner) ∙ behind) (other_owner zone.apex name away)))

-- ---- what the steps ask for

pub before-rising : (zone : ZoneState) (name : Labels) (before : RecordSet) → is_zone zone ≡ true → before ≡ at_name name zone.rows → is_rising before ≡ true
before-rising zone name before is_kept before_is =
    is_true _ (subst (λ (s : RecordSet). InOrder s) (sym before_is) (in_order-only (is_at name) zone.rows (set-in_order zone.rows (zone_parts zone is_kept).set)))

pub before-lower : (zone : ZoneState) (name : Labels) (before : RecordSet) → is_zone zone ≡ true → before ≡ at_name name zone.rows → HaveLowerOwners before
before-lower zone name before is_kept before_is =
    subst (λ (s : RecordSet). HaveLowerOwners s) (sym before_is) (set-lower_owners (at_name name zone.rows) (set-only (is_at name) zone.rows (zone_parts zone is_kept).set))

pub one-soa : (zone : ZoneState) (named : RecordSet) → is_zone zone ≡ true → named ≡ at_name zone.apex zone.rows → length (set_at zone.apex soa_kind named) ≡ 1
one-soa zone named is_kept named_is =
    let soa = the_soa zone.apex zone.rows (zone_parts zone is_kept).set (zone_parts zone is_kept).one in
    ap (λ (s : RecordSet). length (set_at zone.apex soa_kind s)) named_is ∙ ap length (set-at_name zone.apex in_class soa_kind zone.rows ∙ soa.only_one)
