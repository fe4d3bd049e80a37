-- A new zone is a zone within its limits.
use Rattle.std.proofs.Common.{◌≡◌, ℕ, suc, ◌+◌, ◌≤◌, Bool, true, false, cond, List, [], ◌∷◌, ◌++◌, length, codes, is_some, refl, ap, ◌∙◌, le-leb, arith, w32}
use Rattle.std.specs.Int.{to_be_bytes}
use Rattle.std.specs.List.{list_all}
use Rattle.push_base.specs.Limits.{max_home_octets}
use Rattle.std.proofs.lemmas.List.{length-append}
use Rattle.dnsname.specs.Names.{Labels, IsName, octets, same_name}
use Rattle.dnsname.proofs.Octets.{octets-cons}
use Rattle.dnsname.proofs.ReadAgain.{CanStand, labels-can}
use Rattle.rrset.specs.Kinds.{ns_kind, soa_kind}
use Rattle.rrset.specs.Records.{key_of, shown_of, rr_size}
use Rattle.rrset.specs.RecordSet.{RecordSet, put_rr, size_at}
use Rattle.rrset.specs.declared.record.Rr.{Rr}
use Rattle.rrset.specs.declared.record.Changed.{Changed}
use Rattle.rrset.proofs.Sizes.{size_if, size_of-only-put, length-put-le}
use Rattle.zoneupdate.specs.Zones.{ZoneState, first_soa, first_ns, new_zone, serial_of, is_zone}
use Rattle.zoneupdate.specs.Updates.{is_within_limits}
use Rattle.zoneupdate.specs.KeptZones.{IsKept, Leads}
use Rattle.zoneupdate.proofs.Filters.{and-both}
use Rattle.zoneupdate.proofs.Owners.{same_name-itself}
use Rattle.zoneupdate.proofs.RecordSets.{all-put, set-put_rrs}
use Rattle.zoneupdate.proofs.SoaRdata.{serial_of-soa}
use Rattle.zoneupdate.proofs.OneSoa.{of_class_in, one_soa, HasOneSoa, soas-put, soa-key}
use Rattle.zoneupdate.proofs.KeptZone.{zone_of_parts, zone-judged, judged-accepted}

-- ---- the names in the rdata

pub name-behind : (label : List ℕ) (apex : Labels) → length (octets (label ∷ apex)) ≡ suc (length label) + length (octets apex)
name-behind label apex = omega (arith, ap (λ (t : List ℕ). length t) (octets-cons label apex), length-append label (octets apex))

pub label-can : (label : List ℕ) (apex : Labels) → IsName apex → 1 ≤ length label → length label ≤ 20 → length (octets apex) ≤ max_home_octets → CanStand 0 (label ∷ apex)
label-can label apex is some few short = (record { some = some; few = omega arith; fits = omega arith }, labels-can (0 + (1 + length label)) apex is.labels (omega arith))

abbrev pub numbers_of : ℕ → List ℕ
numbers_of serial = to_be_bytes w32 serial ++ to_be_bytes w32 3600 ++ to_be_bytes w32 600 ++ to_be_bytes w32 86400 ++ to_be_bytes w32 60

pub first-serial : (apex : Labels) (serial : ℕ) → IsName apex → length (octets apex) ≤ max_home_octets → is_some (serial_of (first_soa apex serial).rdata) ≡ true
first-serial apex serial is short =
    serial_of-soa (codes "ns" ∷ apex) (codes "hostmaster" ∷ apex) (numbers_of serial) (label-can (codes "ns") apex is (omega arith) (omega arith) short) (label-can (codes "hostmaster") apex is (omega arith) (omega arith) short) refl

-- ---- the zone

abbrev pub soa_alone : Labels → ℕ → RecordSet
soa_alone apex serial = put_rr [] (first_soa apex serial)

pub new-one : (apex : Labels) (serial : ℕ) → IsName apex → length (octets apex) ≤ max_home_octets → HasOneSoa apex (put_rr (soa_alone apex serial) (first_ns apex))
new-one apex serial is short =
    ap one_soa
    (soas-put apex (first_ns apex) (soa_alone apex serial) tt (λ _ e. other e)
    ∙ ap (λ b. cond b ((key_of (first_soa apex serial), shown_of (first_soa apex serial)) ∷ []) []) (soa-key apex (first_soa apex serial) (same_name-itself apex) refl refl))
    ∙ first-serial apex serial is short
  where
    other : ns_kind ≡ soa_kind → ⊥
    other e = omega (arith, e)

pub zone-new : (apex : Labels) (serial : ℕ) (writable : Bool) → IsName apex → length (octets apex) ≤ max_home_octets → is_zone (new_zone apex serial writable) ≡ true
zone-new apex serial writable is short =
    zone_of_parts (new_zone apex serial writable) (record {
      set = set-put_rrs (first_soa apex serial ∷ first_ns apex ∷ []) [] refl;
      class_in = all-put of_class_in (key_of (first_ns apex)) (shown_of (first_ns apex)) (soa_alone apex serial) refl refl;
      one = new-one apex serial is short;
    })

-- ---- its limits

pub all_true : {X : Type 0} (f : X → Bool) → ((x : X) → f x ≡ true) → (xs : List X) → list_all f xs ≡ true
all_true f h [] = refl
all_true f h (x ∷ xs) = and-both (f x) (list_all f xs) (h x) (all_true f h xs)

pub size-most : (b : Bool) (n : ℕ) → cond b n 0 ≤ n
size-most true n = omega arith
size-most false n = omega arith

pub size_at-put : (name : Labels) (rr : Rr) (rows : RecordSet) → size_at name (put_rr rows rr) ≤ size_at name rows + rr_size rr
size_at-put name rr rows =
    let more = size_of-only-put (λ key. same_name name key.owner) (key_of rr) (shown_of rr) rows in
    let most : size_if (λ key. same_name name key.owner) (key_of rr) (shown_of rr) ≤ rr_size rr = size-most (same_name name (key_of rr).owner) (rr_size rr) in
    omega arith

pub soa-size : (apex : Labels) (serial : ℕ) → length (octets apex) ≤ max_home_octets → rr_size (first_soa apex serial) ≤ 1000
soa-size apex serial short =
    let ns : length (octets (codes "ns" ∷ apex)) ≡ 3 + length (octets apex) = name-behind (codes "ns") apex in
    let master : length (octets (codes "hostmaster" ∷ apex)) ≡ 11 + length (octets apex) = name-behind (codes "hostmaster") apex in
    let numbers : length (numbers_of serial) ≡ 20 = refl in
    let front = length-append (octets (codes "ns" ∷ apex)) (octets (codes "hostmaster" ∷ apex)) in
    let whole : length (first_soa apex serial).rdata ≡ length (octets (codes "ns" ∷ apex) ++ octets (codes "hostmaster" ∷ apex)) + length (numbers_of serial) = length-append (octets (codes "ns" ∷ apex) ++ octets (codes "hostmaster" ∷ apex)) (numbers_of serial) in
    let size : rr_size (first_soa apex serial) ≡ length (octets apex) + 10 + length (first_soa apex serial).rdata = refl in
    omega arith

pub ns-size : (apex : Labels) → length (octets apex) ≤ max_home_octets → rr_size (first_ns apex) ≤ 1000
ns-size apex short =
    let ns : length (octets (codes "ns" ∷ apex)) ≡ 3 + length (octets apex) = name-behind (codes "ns") apex in
    let size : rr_size (first_ns apex) ≡ length (octets apex) + 10 + length (octets (codes "ns" ∷ apex)) = refl in
    omega arith

pub new-size : (apex name : Labels) (serial : ℕ) (writable : Bool) → length (octets apex) ≤ max_home_octets → size_at name (new_zone apex serial writable).rows ≤ 2000
new-size apex name serial writable short =
    let first = size_at-put name (first_soa apex serial) [] in
    let none : size_at name [] ≡ 0 = refl in
    let second = size_at-put name (first_ns apex) (soa_alone apex serial) in
    let one = soa-size apex serial short in
    let two = ns-size apex short in
    omega arith

pub limits-new : (apex : Labels) (serial : ℕ) (writable : Bool) → length (octets apex) ≤ max_home_octets → is_within_limits (new_zone apex serial writable).rows ≡ true
limits-new apex serial writable short =
    let first : length (soa_alone apex serial) ≡ 1 = refl in
    let second = length-put-le (key_of (first_ns apex)) (shown_of (first_ns apex)) (soa_alone apex serial) in
    and-both _ _ (le-leb _ _ (omega (arith, first, second)))
    (all_true _ (λ e. le-leb _ _ (omega (arith, new-size apex e.0.owner serial writable short))) (new_zone apex serial writable).rows)

-- ---- what every zone that is kept has

pub kept-new : (apex : Labels) (serial : ℕ) (writable : Bool) → IsName apex → length (octets apex) ≤ max_home_octets → IsKept (new_zone apex serial writable)
kept-new apex serial writable is short = record { zone = zone-new apex serial writable is short; limits = limits-new apex serial writable short; short = short }

-- the rows that an update leads to are kept as well
pub kept-led : (state : ZoneState) (changed : List Changed) (rows : RecordSet) → Leads state changed rows → IsKept state → IsKept (record state { rows = rows })
kept-led state changed rows leads kept = record {
  zone = zone-judged leads.homes state leads.update rows kept.zone leads.step;
  limits = (judged-accepted leads.homes state leads.update rows leads.step).limits;
  short = kept.short;
}
