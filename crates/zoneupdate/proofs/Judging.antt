-- The check of an update by the touched part of a zone, and what it means for the update step.
use Rattle.std.proofs.Common.{◌≡◌, ℕ, ◌+◌, ◌^◌, ◌<◌, ◌≤◌, Bool, true, false, cond, ◌&&◌, ◌||◌, List, [], ◌∷◌, map, length, fold, Option, Some, None, Result, Ok, Err, refl, sym, ap, ◌∙◌, subst, arith}
use Rattle.std.proofs.lemmas.Bool.{leb-true, le-leb}
use Rattle.std.specs.Prelude.{nat_le}
use Rattle.std.specs.List.{list_any, list_all}
use Rattle.push_base.specs.Limits.{max_octets_at_name}
use Rattle.dnsname.specs.Names.{Labels, same_name}
use Rattle.rrset.specs.Rcodes.{refused}
use Rattle.rrset.specs.Records.{rr_of, rr_size}
use Rattle.rrset.specs.RecordSet.{RecordSet, only, changes, size_at, size_of}
use Rattle.rrset.specs.declared.record.Changed.{Changed}
use Rattle.rrset.specs.declared.record.Rr.{Rr}
use Rattle.rrset.specs.declared.record.Key.{Key}
use Rattle.rrset.proofs.Selected.{length-parts}
use Rattle.rrset.proofs.Sizes.{size_of-cons, size_of-only-cons}
use Rattle.dnswire.specs.declared.message.Update.{Update}
use Rattle.zoneupdate.specs.declared.plan.Verdict.TheVariants.{Accept}
use Rattle.zoneupdate.specs.Zones.{ZoneState}
use Rattle.zoneupdate.specs.Updates.{with_counted_ttl, changed_by, with_risen_serial, rows_after, is_within_limits, max_zone_records, accepted_or, refused_first, judged}
use Rattle.zoneupdate.specs.KeptZones.{Judges}
use Rattle.zoneupdate.specs.Touched.{is_touched, part_of, part_after}
use Rattle.zoneupdate.specs.Checking.{is_within, Plans}
use Rattle.zoneupdate.proofs.Filters.{filter_same, and-left, and-both}
use Rattle.zoneupdate.proofs.RecordSets.{IsSet}
use Rattle.zoneupdate.proofs.TouchedParts.{after-changes, after-length}
use Rattle.zoneupdate.proofs.LimitedParts.{after-limits}

pub length-only : (p : Key → Bool) (set : RecordSet) → length (only p set) ≤ length set
length-only p set = let parts = length-parts p set in omega arith

-- ---- where all records have few octets, those of each name have

pub light-only : (p : Key → Bool) (set : RecordSet) → size_of (only p set) ≤ size_of set
light-only p [] = omega arith
light-only p (e ∷ es) = by (p e.0) (size_of-only-cons p e es) (size_of-cons e es) (light-only p es)
  where
    by : (b : Bool) → size_of (only p (e ∷ es)) ≡ cond b (rr_size (rr_of e.0 e.1)) 0 + size_of (only p es) → size_of (e ∷ es) ≡ rr_size (rr_of e.0 e.1) + size_of es → size_of (only p es) ≤ size_of es
        → size_of (only p (e ∷ es)) ≤ size_of (e ∷ es)
    by true first whole rest = omega (arith, first, whole, rest)
    by false first whole rest = omega (arith, first, whole, rest)

light-at : (name : Labels) (work : RecordSet) → size_of work ≤ max_octets_at_name → nat_le (size_at name work) max_octets_at_name ≡ true
light-at name work light = le-leb (size_at name work) max_octets_at_name (let less = light-only (λ key. same_name name key.owner) work in omega (arith, less, light))

pub light-fits : (apex : Labels) (rrs : List Rr) (work : RecordSet) → nat_le (size_of work) max_octets_at_name ≡ true
    → (nat_le (size_at apex work) max_octets_at_name && list_all (λ rr. nat_le (size_at rr.owner work) max_octets_at_name) rrs) ≡ true
light-fits apex rrs work few = and-both _ _ (light-at apex work light) (all rrs)
  where
    light : size_of work ≤ max_octets_at_name
    light = leb-true (size_of work) max_octets_at_name few

    all : (rrs : List Rr) → list_all (λ rr. nat_le (size_at rr.owner work) max_octets_at_name) rrs ≡ true
    all [] = refl
    all (rr ∷ rrs) = and-both (nat_le (size_at rr.owner work) max_octets_at_name) (list_all (λ rr. nat_le (size_at rr.owner work) max_octets_at_name) rrs) (light-at rr.owner work light) (all rrs)

-- a zone within its limits has so few records that they are counted
pub few-records : (rows : RecordSet) → is_within_limits rows ≡ true → length rows ≤ max_zone_records
few-records rows h = leb-true _ _ (and-left _ _ h)

pub counted-records : (rows : RecordSet) (n : ℕ) → is_within_limits rows ≡ true → (length rows < 2 ^ 64 → n ≡ length rows) → n ≡ length rows
counted-records rows n h counted = counted (let few = few-records rows h in omega (arith, few))

-- ---- the counted TTLs leave the owners

any-counted : (key : Key) (rrs : List Rr) → list_any (λ rr. same_name rr.owner key.owner) (map with_counted_ttl rrs) ≡ list_any (λ rr. same_name rr.owner key.owner) rrs
any-counted key [] = refl
any-counted key (rr ∷ rrs) = ap (λ b. same_name rr.owner key.owner || b) (any-counted key rrs)

part-counted : (apex : Labels) (rrs : List Rr) (rows : RecordSet) → part_of apex (map with_counted_ttl rrs) rows ≡ part_of apex rrs rows
part-counted apex rrs rows =
    filter_same (λ e. is_touched apex (map with_counted_ttl rrs) e.0) (λ e. is_touched apex rrs e.0) (λ e. ap (λ b. same_name apex e.0.owner || b) (any-counted e.0 rrs)) rows

all-counted : (work : RecordSet) (rrs : List Rr) → list_all (λ rr. nat_le (size_at rr.owner work) max_octets_at_name) rrs ≡ list_all (λ rr. nat_le (size_at rr.owner work) max_octets_at_name) (map with_counted_ttl rrs)
all-counted work [] = refl
all-counted work (rr ∷ rrs) = ap (λ b. nat_le (size_at rr.owner work) max_octets_at_name && b) (all-counted work rrs)

-- ---- the part before and after the changes

module _ (zone : ZoneState) (rrs : List Rr) (before work : RecordSet) (set : IsSet zone.rows) (before_is : before ≡ part_of zone.apex rrs zone.rows)
    (work_is : work ≡ with_risen_serial zone.apex before (fold (changed_by zone.apex) before (map with_counted_ttl rrs))) where
  before-part : before ≡ part_of zone.apex (map with_counted_ttl rrs) zone.rows
  before-part = before_is ∙ sym (part-counted zone.apex rrs zone.rows)

  work-part : work ≡ part_after zone (map with_counted_ttl rrs)
  work-part = work_is ∙ ap (λ (b : RecordSet). with_risen_serial zone.apex b (fold (changed_by zone.apex) b (map with_counted_ttl rrs))) before-part

  pub before-length : length before ≤ length zone.rows
  before-length = subst (λ (b : RecordSet). length b ≤ length zone.rows) (sym before_is) (length-only (is_touched zone.apex rrs) zone.rows)

  -- the test of the part is that of the whole zone
  pub plan-within : is_within_limits zone.rows ≡ true → (r : Bool) (n : ℕ) → n ≡ length zone.rows
      → ((all : ℕ) → all + length before ≡ n + length work → r ≡ is_within all zone.apex rrs work)
      → r ≡ is_within_limits (rows_after zone (map with_counted_ttl rrs))
  plan-within limits r n n_is test =
      test (length after)
      (ap (λ (b : RecordSet). length after + length b) before-part ∙ after-length zone (map with_counted_ttl rrs) set
      ∙ ap (λ (w : RecordSet). length zone.rows + length w) (sym work-part) ∙ ap (λ m. m + length work) (sym n_is))
      ∙ ap (λ b. nat_le (length after) max_zone_records && nat_le (size_at zone.apex work) max_octets_at_name && b) (all-counted work rrs)
      ∙ ap (λ (w : RecordSet). is_within (length after) zone.apex (map with_counted_ttl rrs) w) work-part
      ∙ sym (after-limits zone (map with_counted_ttl rrs) set limits)
    where
      after : RecordSet
      after = rows_after zone (map with_counted_ttl rrs)

  pub plan-changes : changes before work ≡ changes zone.rows (rows_after zone (map with_counted_ttl rrs))
  plan-changes =
      ap (λ (b : RecordSet). changes b work) before-part ∙ ap (λ (w : RecordSet). changes (part_of zone.apex (map with_counted_ttl rrs) zone.rows) w) work-part
      ∙ sym (after-changes zone (map with_counted_ttl rrs) set)

-- ---- what the steps together mean

pub accepts : (homes : List Labels) (zone : ZoneState) (update : Update) (changed : List Changed) → refused_first homes zone update ≡ None
    → Plans zone (map with_counted_ttl update.changes) (Some changed) → Judges zone (Accept changed) (judged homes zone update)
accepts homes zone update changed passes plan =
    let after : RecordSet = rows_after zone (map with_counted_ttl update.changes) in
    let last : Result RecordSet ℕ = cond (is_within_limits after) (Ok after) (Err refused) in (
      after,
      ap (λ (o : Option ℕ). accepted_or o last) passes ∙ ap (λ (b : Bool). cond {A = Result RecordSet ℕ} b (Ok after) (Err refused)) plan.0,
      plan.1,
    )
