-- A zone takes a carry, unless it would have too many records.
--     carry-accepted      accepted with the carried rows, but for the serial; refused for their number alone
use Rattle.std.proofs.Common.{◌≡◌, ℕ, ◌+◌, ◌≤◌, ◌<◌, ◌%◌, ◌^◌, Bool, true, false, cond, not, ◌&&◌, ◌||◌, ◌==◌, nat_le, nat_lt, List, [], ◌∷◌, map, fold, length, Option, Some, None, Result, Ok, Err, refl, sym, ap, subst, ◌∙◌, arith}
use Rattle.std.specs.List.{list_all, AllByRecursion}
use Rattle.std.proofs.lemmas.Bool.{eqb-true, le-leb, leb-true, leb-false}
use Rattle.push_base.specs.Cases.{first_refusal, first_refused, is_empty}
use Rattle.push_base.specs.Limits.{max_octets_at_name}
use Rattle.dnsname.specs.Names.{Labels, lower, same_name}
use Rattle.rrset.specs.Kinds.{in_class, any_class, none_class, any_kind, cname_kind, soa_kind, is_meta}
use Rattle.rrset.specs.Rcodes.{refused, notzone, formerr}
use Rattle.rrset.specs.Records.{key_of, shown_of, rr_of, rr_size, counted_ttl}
use Rattle.rrset.specs.RecordSet.{RecordSet, shows_its_key, put_rr, without, only, union, size_of, size_at}
use Rattle.rrset.specs.declared.record.Rr.{Rr}
use Rattle.rrset.specs.declared.record.Key.{Key}
use Rattle.rrset.specs.declared.record.Shown.{Shown}
use Rattle.rrset.proofs.InOrder.{InOrder, in_order-put, in_order-without}
use Rattle.rrset.proofs.Selected.{fails, only-put-failed, only-union, length-parts}
use Rattle.rrset.proofs.Sizes.{size_if, size_of-cons, size_of-only-cons, size_of-only-put, size_of-only-union, size_of-only}
use Rattle.zoneupdate.specs.Zones.{ZoneState, set_at, serial_of, with_serial, is_inside}
use Rattle.zoneupdate.specs.Updates.{with_counted_ttl, change_refusal, changed_by, risen_soa, with_risen_serial, max_zone_records, is_within_limits, accepted_or, refused_first, rows_after, judged}
use Rattle.zoneupdate.specs.KeptZones.{IsKept}
use Rattle.zoneupdate.proofs.Filters.{and-left, and-right, and-both}
use Rattle.zoneupdate.proofs.SomeAndAll.{all-filter, all_itself}
use Rattle.zoneupdate.proofs.Owners.{same_name-back, same_name-on, same_name-for_second, of_rrset-owner, lower_same}
use Rattle.zoneupdate.proofs.ChangedParts.{only-within, only-without, outside-without}
use Rattle.zoneupdate.proofs.RecordSets.{IsSet, set-in_order, set-changes}
use Rattle.zoneupdate.proofs.OneSoa.{is_soa_at, one_soa, HasOneSoa}
use Rattle.zoneupdate.proofs.RisenParts.{with_soas, serial_stays}
use Rattle.zoneupdate.proofs.NameHomes.{is_inside-for}
use Rattle.zoneupdate.proofs.SoaLengths.{length-with_serial}
use Rattle.zoneupdate.proofs.KeptZone.{ZoneParts, zone_parts, risen-key, one_soa-changes, one_soa-risen}
use Rattle.zoneupdate.proofs.LimitedParts.{size_at-same, fits, fits-any}
use Rattle.rrset.proofs.LowerNames.{lower-twice}
use Rattle.relay.specs.Relay.{is_unfit, unfit_kind, deletion, carrying, carried, IsCarriedRow, IsCarriable}
use Rattle.relay.specs.Laws.{but_soa, HaveOctets, Takes}
use Rattle.relay.proofs.Adding.{IsAdded, each-added, fit-all, rows-carried}

-- ---- the serial rises in the SOA alone

puts-soas : (apex : Labels) (soas rows : RecordSet) → InOrder rows → list_all (λ e. is_soa_at apex e.0) soas ≡ true → list_all shows_its_key soas ≡ true
    → without (is_soa_at apex) (fold put_rr rows (map risen_soa soas)) ≡ without (is_soa_at apex) rows
puts-soas apex [] rows sorted are show = refl
puts-soas apex (e ∷ soas) rows sorted are show =
    let rr = risen_soa e in
    puts-soas apex soas (put_rr rows rr) (in_order-put (key_of rr) (shown_of rr) rows sorted) (and-right (is_soa_at apex e.0) _ are) (and-right (shows_its_key e) _ show)
    ∙ only-put-failed (fails (is_soa_at apex)) (key_of rr) (shown_of rr) rows sorted (ap not (risen-key apex e (and-left (is_soa_at apex e.0) _ are) (and-left (shows_its_key e) _ show)))

pub but_soa-risen : (apex : Labels) (old new : RecordSet) → IsSet new → but_soa apex (with_risen_serial apex old new) ≡ but_soa apex new
but_soa-risen apex old new set = by (serial_stays old new (set_at apex soa_kind old) (set_at apex soa_kind new))
  where
    by : (b : Bool) → but_soa apex (cond b new (with_soas apex (set_at apex soa_kind new) new)) ≡ but_soa apex new
    by true = refl
    by false =
        puts-soas apex (set_at apex soa_kind new) (without (is_soa_at apex) new) (in_order-without (is_soa_at apex) new (set-in_order new set))
        (all_itself (λ e. is_soa_at apex e.0) new) (all-filter shows_its_key (λ e. is_soa_at apex e.0) new (and-right _ _ set))
        ∙ outside-without (is_soa_at apex) (is_soa_at apex) (λ key h. h) new

-- so no record comes or goes
one-long : (soas : RecordSet) → one_soa soas ≡ true → length soas ≡ 1
one-long soas one = eqb-true (length soas) 1 (and-left _ _ one)

pub length-risen : (apex : Labels) (old new : RecordSet) → IsSet new → HasOneSoa apex new → length (with_risen_serial apex old new) ≡ length new
length-risen apex old new set one =
    let after = with_risen_serial apex old new in
    omega (
      arith,
      length-parts (is_soa_at apex) after,
      length-parts (is_soa_at apex) new,
      one-long (set_at apex soa_kind after) (one_soa-risen apex old new set one),
      one-long (set_at apex soa_kind new) one,
      ap length (but_soa-risen apex old new set),
    )

-- ---- the size of the SOA stays

-- two parts of a set
size-parts : (q : Key → Bool) (set : RecordSet) → size_of (only q set) + size_of (only (fails q) set) ≡ size_of set
size-parts q [] = refl
size-parts q (e ∷ es) =
    let rest = size-parts q es in
    let whole = size_of-cons e es in
    let first = size_of-only-cons q e es in
    let second = size_of-only-cons (fails q) e es in
    omega (arith, rest, whole, first, second, either (q e.0) (rr_size (rr_of e.0 e.1)))
  where
    either : (b : Bool) (n : ℕ) → cond b n 0 + cond (not b) n 0 ≡ n
    either true n = omega arith
    either false n = omega arith

risen-size : (e : Key × Shown) → AllByRecursion (λ o. o < 256) e.1.rdata → length (risen_soa e).rdata ≡ length e.1.rdata
risen-size e below = by (serial_of e.1.rdata)
  where
    by : (o : Option ℕ) → length {A = ℕ} (elim o [ None ↦ e.1.rdata | Some serial ↦ with_serial ((serial + 1) % 2 ^ 32) e.1.rdata ]) ≡ length e.1.rdata
    by None = refl
    by (Some serial) = length-with_serial ((serial + 1) % 2 ^ 32) e.1.rdata below

most : (b : Bool) (n : ℕ) → cond b n 0 ≤ n
most true n = omega arith
most false n = omega arith

have-only : (p : Key → Bool) (rows : RecordSet) → HaveOctets rows → HaveOctets (only p rows)
have-only p [] have = tt
have-only p (e ∷ rows) have = by (p e.0) (have-only p rows have.1)
  where
    by : (b : Bool) → HaveOctets (only p rows) → HaveOctets (cond b (e ∷ only p rows) (only p rows))
    by true rest = (have.0, rest)
    by false rest = rest

-- at the apex, with one SOA
size-with_soas : (apex : Labels) (new soas : RecordSet) → IsSet new → set_at apex soa_kind new ≡ soas → one_soa soas ≡ true → HaveOctets soas → size_at apex (with_soas apex soas new) ≤ size_at apex new
size-with_soas apex new [] set is one have = absurd cc
size-with_soas apex new (e ∷ f ∷ soas) set is one have = let many = one-long (e ∷ f ∷ soas) one in absurd (omega arith)
size-with_soas apex new (e ∷ []) set is one have =
    let q = is_soa_at apex in
    let p : Key → Bool = λ key. same_name apex key.owner in
    let rr = risen_soa e in
    let left : RecordSet = without q new in
    let whole = size-parts q (only p new) in
    let soa : only q (only p new) ≡ e ∷ [] = only-within p q (λ key h. of_rrset-owner apex in_class soa_kind key h) new ∙ is in
    let others : only (fails q) (only p new) ≡ only p left = sym (only-without p q new) in
    let put_size = size_of-only-put p (key_of rr) (shown_of rr) left in
    let long = risen-size e have.0 in
    omega (arith, whole, ap size_of soa, ap size_of others, put_size, most (p (key_of rr)) (rr_size (rr_of (key_of rr) (shown_of rr))), long, size_of-cons e [])

pub size-risen : (apex : Labels) (old new : RecordSet) → IsSet new → HasOneSoa apex new → HaveOctets (set_at apex soa_kind new) → size_at apex (with_risen_serial apex old new) ≤ size_at apex new
size-risen apex old new set one have = by (serial_stays old new (set_at apex soa_kind old) (set_at apex soa_kind new))
  where
    by : (b : Bool) → size_at apex (cond b new (with_soas apex (set_at apex soa_kind new) new)) ≤ size_at apex new
    by true = omega arith
    by false = size-with_soas apex new (set_at apex soa_kind new) set refl one have

-- ---- other names

-- a name that isn't the apex has no SOA of the zone
other-apart : (apex n : Labels) → same_name n apex ≡ false → (key : Key) → same_name n key.owner ≡ true → is_soa_at apex key ≡ false
other-apart apex n other key here = by (is_soa_at apex key) refl
  where
    by : (b : Bool) → is_soa_at apex key ≡ b → b ≡ false
    by false is = refl
    by true is = sym (same_name-on n key.owner apex here (same_name-back apex key.owner (of_rrset-owner apex in_class soa_kind key is))) ∙ other

only-beside : (p q : Key → Bool) → ((key : Key) → p key ≡ true → q key ≡ false) → (rows : RecordSet) → only p (without q rows) ≡ only p rows
only-beside p q beside [] = refl
only-beside p q beside (e ∷ rows) = by (p e.0) (q e.0) refl refl (only-beside p q beside rows)
  where
    by : (a b : Bool) → p e.0 ≡ a → q e.0 ≡ b → only p (without q rows) ≡ only p rows → only p (cond (not b) (e ∷ without q rows) (without q rows)) ≡ cond a (e ∷ only p rows) (only p rows)
    by true true is of rest = let wrong : true ≡ false = sym of ∙ beside e.0 is in absurd cc
    by false true is of rest = rest
    by a false is of rest = ap (λ (t : Bool). cond t (e ∷ only p (without q rows)) (only p (without q rows))) is ∙ ap (λ (l : RecordSet). cond a (e ∷ l) l) rest

size-beside : (apex n : Labels) (old new : RecordSet) → IsSet new → same_name n apex ≡ false → size_at n (with_risen_serial apex old new) ≡ size_at n new
size-beside apex n old new set other =
    let p : Key → Bool = λ key. same_name n key.owner in
    let beside = other-apart apex n other in
    ap size_of (sym (only-beside p (is_soa_at apex) beside (with_risen_serial apex old new)) ∙ ap (only p) (but_soa-risen apex old new set) ∙ only-beside p (is_soa_at apex) beside new)

-- ---- what is carried

-- nothing of the set is at another name
none-other : (name n : Labels) → same_name n name ≡ false → (set : RecordSet) → AllByRecursion (IsCarriedRow name) set → size_of (only (λ key. same_name n key.owner) set) ≡ 0
none-other name n other [] rows = refl
none-other name n other (e ∷ set) rows =
    let first = size_of-only-cons (λ key. same_name n key.owner) e set in
    let nothing : size_if (λ key. same_name n key.owner) e.0 e.1 ≡ 0 = ap (λ (b : Bool). cond b (rr_size (rr_of e.0 e.1)) 0) elsewhere in
    omega (arith, first, nothing, none-other name n other set rows.1)
  where
    elsewhere : same_name n e.0.owner ≡ false
    elsewhere = ap (same_name n) rows.0.owner ∙ sym (same_name-for_second n name (lower name) (lower_same name (lower name) (sym (lower-twice name)))) ∙ other

-- nothing that passes is left
none-left : (p q : Key → Bool) → ((key : Key) → p key ≡ true → q key ≡ true) → (rows : RecordSet) → only p (without q rows) ≡ []
none-left p q within [] = refl
none-left p q within (e ∷ rows) = by (p e.0) (q e.0) refl refl (none-left p q within rows)
  where
    by : (a b : Bool) → p e.0 ≡ a → q e.0 ≡ b → only p (without q rows) ≡ [] → only p (cond (not b) (e ∷ without q rows) (without q rows)) ≡ []
    by true false is of rest = let wrong : false ≡ true = sym of ∙ within e.0 is in absurd cc
    by a true is of rest = rest
    by false false is of rest = ap (λ (t : Bool). cond t (e ∷ only p (without q rows)) (only p (without q rows))) is ∙ rest

pub size-carried : (name n : Labels) (rows set : RecordSet) → IsCarriable name set → size_at n rows ≤ max_octets_at_name → size_at n (carried rows name set) ≤ max_octets_at_name
size-carried name n rows set can fit = by (same_name n name) refl
  where
    p : Key → Bool
    p key = same_name n key.owner

    q : Key → Bool
    q key = same_name name key.owner

    both : size_of (only p (union (without q rows) set)) ≤ size_of (only p (without q rows)) + size_of (only p set)
    both = size_of-only-union p (without q rows) set

    by : (b : Bool) → same_name n name ≡ b → size_at n (carried rows name set) ≤ max_octets_at_name
    by true is =
        let left : size_of (only p (without q rows)) ≡ 0 = ap size_of (none-left p q (λ key h. same_name-on name n key.owner (same_name-back n name is) h) rows) in
        omega (arith, both, left, size_of-only p set, can.size)
    by false is =
        let beside : (key : Key) → p key ≡ true → q key ≡ false = λ key h. apart key h in
        let left : size_of (only p (without q rows)) ≡ size_of (only p rows) = ap size_of (only-beside p q beside rows) in
        omega (arith, both, left, none-other name n is set can.rows, fit)
      where
        apart : (key : Key) → same_name n key.owner ≡ true → same_name name key.owner ≡ false
        apart key h = test (same_name name key.owner) refl
          where
            test : (b : Bool) → same_name name key.owner ≡ b → b ≡ false
            test false e = refl
            test true e = sym (same_name-on n key.owner name h (same_name-back name key.owner e)) ∙ is

-- ---- the limits

all-hold : {X : Type 0} (f : X → Bool) → ((x : X) → f x ≡ true) → (xs : List X) → list_all f xs ≡ true
all-hold f each [] = refl
all-hold f each (x ∷ xs) = and-both (f x) (list_all f xs) (each x) (all-hold f each xs)

-- what is kept of a zone, and what is known of the carried rows
record Carrying (zone : ZoneState) (name : Labels) (set : RecordSet) : Type 0 where
  pub all_fit : (n : Labels) → size_at n zone.rows ≤ max_octets_at_name
  pub is_set : IsSet (carried zone.rows name set)
  pub one : HasOneSoa zone.apex (carried zone.rows name set)
  pub octets : HaveOctets (set_at zone.apex soa_kind (carried zone.rows name set))
  pub can : IsCarriable name set

size-after : (zone : ZoneState) (name : Labels) (set : RecordSet) → Carrying zone name set → (n : Labels) → size_at n (with_risen_serial zone.apex zone.rows (carried zone.rows name set)) ≤ max_octets_at_name
size-after zone name set c n = by (same_name n zone.apex) refl
  where
    new : RecordSet
    new = carried zone.rows name set

    here : (m : Labels) → size_at m new ≤ max_octets_at_name
    here m = size-carried name m zone.rows set c.can (c.all_fit m)

    by : (b : Bool) → same_name n zone.apex ≡ b → size_at n (with_risen_serial zone.apex zone.rows new) ≤ max_octets_at_name
    by true is = omega (arith, size_at-same n zone.apex (with_risen_serial zone.apex zone.rows new) is, size-risen zone.apex zone.rows new c.is_set c.one c.octets, here zone.apex)
    by false is = omega (arith, size-beside zone.apex n zone.rows new c.is_set is, here n)

limits-after : (zone : ZoneState) (name : Labels) (set : RecordSet) → Carrying zone name set
    → is_within_limits (with_risen_serial zone.apex zone.rows (carried zone.rows name set)) ≡ nat_le (length (carried zone.rows name set)) max_zone_records
limits-after zone name set c =
    let after = with_risen_serial zone.apex zone.rows (carried zone.rows name set) in
    let all : list_all (λ e. fits after e.0.owner) after ≡ true = all-hold (λ (e : Key × Shown). fits after e.0.owner) (λ e. le-leb (size_at e.0.owner after) max_octets_at_name (size-after zone name set c e.0.owner)) after in
    ap (λ (b : Bool). nat_le (length after) max_zone_records && b) all
    ∙ and-true (nat_le (length after) max_zone_records)
    ∙ ap (λ n. nat_le n max_zone_records) (length-risen zone.apex zone.rows (carried zone.rows name set) c.is_set c.one)
  where
    and-true : (b : Bool) → (b && true) ≡ b
    and-true true = refl
    and-true false = refl

-- ---- the SOA is the one that was there

no-soas : (apex name : Labels) → same_name name apex ≡ false → (set : RecordSet) → AllByRecursion (IsCarriedRow name) set → only (is_soa_at apex) set ≡ []
no-soas apex name other [] rows = refl
no-soas apex name other (e ∷ set) rows =
    ap (λ (b : Bool). cond b (e ∷ only (is_soa_at apex) set) (only (is_soa_at apex) set)) (other-apart apex name other e.0 at) ∙ no-soas apex name other set rows.1
  where
    at : same_name name e.0.owner ≡ true
    at = lower_same name e.0.owner (sym (ap lower rows.0.owner ∙ lower-twice name))

soas-carried : (apex name : Labels) (rows set : RecordSet) → same_name name apex ≡ false → InOrder rows → AllByRecursion (IsCarriedRow name) set → set_at apex soa_kind (carried rows name set) ≡ set_at apex soa_kind rows
soas-carried apex name rows set other sorted all =
    only-union (is_soa_at apex) (without q rows) set (in_order-without q rows sorted)
    ∙ ap (union (only (is_soa_at apex) (without q rows))) (no-soas apex name other set all)
    ∙ only-beside (is_soa_at apex) q beside rows
  where
    q : Key → Bool
    q key = same_name name key.owner

    beside : (key : Key) → is_soa_at apex key ≡ true → q key ≡ false
    beside key is = test (q key) refl
      where
        test : (b : Bool) → q key ≡ b → b ≡ false
        test false e = refl
        test true e = let wrong : true ≡ false = sym is ∙ other-apart apex name other key e in absurd cc

-- ---- nothing refuses it

passes-on : {X : Type 0} (refusal : X → Option ℕ) (x : X) (xs : List X) → refusal x ≡ None → first_refused refusal (x ∷ xs) ≡ first_refused refusal xs
passes-on refusal x xs none = ap (λ (o : Option ℕ). elim o [ Some code ↦ Some code | None ↦ first_refused refusal xs ]) none

deletion-passes : (homes : List Labels) (zone : ZoneState) (name : Labels) → is_inside homes zone.apex name ≡ true → change_refusal homes zone (with_counted_ttl (deletion name)) ≡ None
deletion-passes homes zone name inside = ap (λ (b : Bool). cond (not b) (Some notzone) None) inside

no-meta : (set : RecordSet) (e : Key × Shown) → is_unfit set e ≡ false → is_meta e.0.kind ≡ false
no-meta set e fit = by (e.0.kind == soa_kind) (is_meta e.0.kind) (e.0.kind == cname_kind && nat_lt 1 (length set)) fit
  where
    by : (a b c : Bool) → (a || b || c) ≡ false → b ≡ false
    by true b c e = absurd cc
    by false true c e = absurd cc
    by false false c e = refl

row-passes : (homes : List Labels) (zone : ZoneState) (e : Key × Shown) → e.0.class ≡ in_class → is_meta e.0.kind ≡ false → is_inside homes zone.apex e.1.owner ≡ true
    → change_refusal homes zone (with_counted_ttl (rr_of e.0 e.1)) ≡ None
row-passes homes zone e class meta inside i =
    let ttl = counted_ttl e.1.ttl in
    first_refusal (
    (not (inside i), notzone)
    ∷ (class i == in_class && meta i, formerr)
    ∷ (class i == any_class && (not (ttl == 0) || not (is_empty e.1.rdata) || (meta i && not (e.0.kind == any_kind))), formerr)
    ∷ (class i == none_class && (not (ttl == 0) || meta i), formerr)
    ∷ (not (class i == in_class || class i == any_class || class i == none_class), formerr)
    ∷ [])

rows-pass : (homes : List Labels) (zone : ZoneState) (name : Labels) (set es : RecordSet) → is_inside homes zone.apex name ≡ true → AllByRecursion (IsCarriedRow name) es → AllByRecursion (IsAdded name) es → AllByRecursion (λ e. is_unfit set e ≡ false) es
    → first_refused (change_refusal homes zone) (map with_counted_ttl (map (λ e. rr_of e.0 e.1) es)) ≡ None
rows-pass homes zone name set [] inside rows added fit = refl
rows-pass homes zone name set (e ∷ es) inside rows added fit =
    passes-on (change_refusal homes zone) (with_counted_ttl (rr_of e.0 e.1)) (map with_counted_ttl (map (λ e. rr_of e.0 e.1) es))
    (row-passes homes zone e rows.0.class (no-meta set e fit.0) (sym (is_inside-for homes zone.apex name e.1.owner added.0.owner) ∙ inside))
    ∙ rows-pass homes zone name set es inside rows.1 added.1 fit.1

carry-passes : (homes : List Labels) (zone : ZoneState) (name : Labels) (set : RecordSet) (id : ℕ) → zone.writable ≡ true → is_inside homes zone.apex name ≡ true → IsCarriable name set → unfit_kind set ≡ None
    → refused_first homes zone (carrying zone.apex name set id) ≡ None
carry-passes homes zone name set id writable inside can fit =
    ap (λ (b : Bool). cond (not b) (Some refused) (first_refused (change_refusal homes zone) (map with_counted_ttl (carrying zone.apex name set id).changes))) writable
    ∙ passes-on (change_refusal homes zone) (with_counted_ttl (deletion name)) (map with_counted_ttl (map (λ e. rr_of e.0 e.1) set)) (deletion-passes homes zone name inside)
    ∙ rows-pass homes zone name set set inside can.rows (each-added name set can.rows (and-right _ _ can.is_set)) (fit-all set set fit)

-- ---- the whole

pub carry-accepted : (homes : List Labels) (zone : ZoneState) (name : Labels) (set : RecordSet) (id : ℕ) → IsKept zone → HaveOctets zone.rows → zone.writable ≡ true → is_inside homes zone.apex name ≡ true → same_name name zone.apex ≡ false
    → IsCarriable name set → unfit_kind set ≡ None → Takes zone.apex name set zone.rows (judged homes zone (carrying zone.apex name set id))
carry-accepted homes zone name set id kept below writable inside other can fit =
    subst (Takes zone.apex name set zone.rows) (sym judged-is) (by (nat_le (length new) max_zone_records) refl)
  where
    new : RecordSet
    new = carried zone.rows name set

    changes : List Rr
    changes = map with_counted_ttl (carrying zone.apex name set id).changes

    parts : ZoneParts zone
    parts = zone_parts zone kept.zone

    made : fold (changed_by zone.apex) zone.rows changes ≡ new
    made = rows-carried zone.apex name zone.apex id zone.rows set parts.set other can fit

    known : Carrying zone name set
    known = record {
      all_fit = λ n. leb-true (size_at n zone.rows) max_octets_at_name (fits-any zone.rows (and-right (nat_le (length zone.rows) max_zone_records) _ kept.limits) n);
      is_set = subst IsSet made (set-changes zone.apex changes zone.rows parts.set);
      one = subst (HasOneSoa zone.apex) made (one_soa-changes zone.apex changes zone.rows parts.set parts.one);
      octets = subst HaveOctets (sym (soas-carried zone.apex name zone.rows set other (set-in_order zone.rows parts.set) can.rows)) (have-only (is_soa_at zone.apex) zone.rows below);
      can = can;
    }

    after : RecordSet
    after = with_risen_serial zone.apex zone.rows new

    judged-is : judged homes zone (carrying zone.apex name set id) ≡ cond {A = Result RecordSet ℕ} (nat_le (length new) max_zone_records) (Ok after) (Err refused)
    judged-is =
        ap (λ o. accepted_or o (cond {A = Result RecordSet ℕ} (is_within_limits (rows_after zone changes)) (Ok (rows_after zone changes)) (Err refused))) (carry-passes homes zone name set id writable inside can fit)
        ∙ ap (λ (rows : RecordSet). cond {A = Result RecordSet ℕ} (is_within_limits (with_risen_serial zone.apex zone.rows rows)) (Ok (with_risen_serial zone.apex zone.rows rows)) (Err refused)) made
        ∙ ap (λ (b : Bool). cond {A = Result RecordSet ℕ} b (Ok after) (Err refused)) (limits-after zone name set known)

    by : (b : Bool) → nat_le (length new) max_zone_records ≡ b → Takes zone.apex name set zone.rows (cond b (Ok after) (Err refused))
    by true is = (record { are = but_soa-risen zone.apex zone.rows new known.is_set }, leb-true (length new) max_zone_records is)
    by false is = (refl, leb-false (length new) max_zone_records is)
