-- A zone stays a zone.
use Rattle.std.proofs.Common.{◌≡◌, ℕ, ◌+◌, ◌%◌, ◌^◌, Bool, true, false, cond, not, ◌&&◌, eqb, List, [], ◌∷◌, map, length, fold, Option, Some, None, is_some, Result, Ok, Err, ◌==◌, refl, sym, ap, ◌∙◌, eqb-true, arith}
use Rattle.std.specs.Prelude.{if◌then◌else◌}
use Rattle.std.specs.List.{list_all}
use Rattle.push_base.specs.Cases.{first_refused}
use Rattle.dnsname.specs.Names.{Labels, same_name}
use Rattle.rrset.specs.Kinds.{in_class, soa_kind}
use Rattle.rrset.specs.Rcodes.{nxrrset, refused}
use Rattle.rrset.specs.Records.{key_of, shown_of}
use Rattle.rrset.specs.RecordSet.{RecordSet, shows_its_key, is_record_set, put_rr, without}
use Rattle.rrset.specs.declared.record.Rr.{Rr}
use Rattle.rrset.specs.declared.record.Key.{Key}
use Rattle.rrset.specs.declared.record.Shown.{Shown}
use Rattle.dnswire.specs.declared.message.Update.{Update}
use Rattle.zoneupdate.specs.Zones.{ZoneState, set_at, serial_of, with_serial, serial_of_zone, is_zone}
use Rattle.zoneupdate.specs.Updates.{with_counted_ttl, prerequisite_refusal, sets_agree, change_refusal, changed_by, risen_soa, with_risen_serial, is_within_limits, accepted_or, or_later, refused_first, rows_after, judged}
use Rattle.zoneupdate.proofs.Filters.{and-left, and-right, and-both}
use Rattle.zoneupdate.proofs.SomeAndAll.{all-filter, all_itself}
use Rattle.zoneupdate.proofs.RecordSets.{all-put, IsSet, set-in_order, set-without, set-put_rrs, set-changed_by, set-changes, shown_owner}
use Rattle.zoneupdate.proofs.RisenParts.{with_soas, serial_stays}
use Rattle.zoneupdate.proofs.SoaRdata.{serial_of-with_serial}
use Rattle.zoneupdate.proofs.OneSoa.{of_class_in, class_in-changed_by, is_soa_at, one_soa, HasOneSoa, soas-new, one_soa-changed_by}

-- ---- all changes

pub class_in-changes : (apex : Labels) (rrs : List Rr) (rows : RecordSet) → list_all of_class_in rows ≡ true → list_all of_class_in (fold (changed_by apex) rows rrs) ≡ true
class_in-changes apex [] rows h = h
class_in-changes apex (rr ∷ rrs) rows h = class_in-changes apex rrs (changed_by apex rows rr) (class_in-changed_by apex rr rows h)

pub one_soa-changes : (apex : Labels) (rrs : List Rr) (rows : RecordSet) → IsSet rows → HasOneSoa apex rows → HasOneSoa apex (fold (changed_by apex) rows rrs)
one_soa-changes apex [] rows set one = one
one_soa-changes apex (rr ∷ rrs) rows set one = one_soa-changes apex rrs (changed_by apex rows rr) (set-changed_by apex rr rows set) (one_soa-changed_by apex rr rows (set-in_order rows set) one)

-- ---- the serial rises

pub set-risen : (apex : Labels) (old new : RecordSet) → IsSet new → IsSet (with_risen_serial apex old new)
set-risen apex old new set = by (serial_stays old new (set_at apex soa_kind old) (set_at apex soa_kind new))
  where
    by : (b : Bool) → IsSet (cond b new (with_soas apex (set_at apex soa_kind new) new))
    by true = set
    by false = set-put_rrs (map risen_soa (set_at apex soa_kind new)) (without (is_soa_at apex) new) (set-without (is_soa_at apex) new set)

pub class_in-risen_soas : (soas rows : RecordSet) → list_all of_class_in soas ≡ true → list_all of_class_in rows ≡ true → list_all of_class_in (fold put_rr rows (map risen_soa soas)) ≡ true
class_in-risen_soas [] rows all h = h
class_in-risen_soas (e ∷ soas) rows all h =
    class_in-risen_soas soas (put_rr rows (risen_soa e)) (and-right (of_class_in e) (list_all of_class_in soas) all)
    (all-put of_class_in (key_of (risen_soa e)) (shown_of (risen_soa e)) rows h (and-left (of_class_in e) (list_all of_class_in soas) all))

pub class_in-risen : (apex : Labels) (old new : RecordSet) → list_all of_class_in new ≡ true → list_all of_class_in (with_risen_serial apex old new) ≡ true
class_in-risen apex old new h = by (serial_stays old new (set_at apex soa_kind old) (set_at apex soa_kind new))
  where
    by : (b : Bool) → list_all of_class_in (cond b new (with_soas apex (set_at apex soa_kind new) new)) ≡ true
    by true = h
    by false =
        class_in-risen_soas (set_at apex soa_kind new) (without (is_soa_at apex) new) (all-filter of_class_in (λ e. is_soa_at apex e.0) new h)
        (all-filter of_class_in (λ e. not (is_soa_at apex e.0)) new h)

-- the SOA with the next serial has the apex, and a serial
pub risen-key : (apex : Labels) (e : Key × Shown) → is_soa_at apex e.0 ≡ true → shows_its_key e ≡ true → is_soa_at apex (key_of (risen_soa e)) ≡ true
risen-key apex e is shows = ap (λ (owner : Labels). same_name apex owner && (eqb in_class e.0.class) && (eqb soa_kind e.0.kind)) (shown_owner e shows) ∙ is

pub risen-serial : (e : Key × Shown) → is_some (serial_of e.1.rdata) ≡ true → is_some (serial_of (risen_soa e).rdata) ≡ true
risen-serial e some = by (serial_of e.1.rdata) refl
  where
    by : (o : Option ℕ) → serial_of e.1.rdata ≡ o → is_some (serial_of (elim o [ None ↦ e.1.rdata | Some serial ↦ with_serial ((serial + 1) % 2 ^ 32) e.1.rdata ])) ≡ true
    by None is = some
    by (Some serial) is = serial_of-with_serial ((serial + 1) % 2 ^ 32) e.1.rdata some

pub one_soa-with_soas : (apex : Labels) (new soas : RecordSet) → IsSet new → set_at apex soa_kind new ≡ soas → one_soa soas ≡ true → HasOneSoa apex (with_soas apex soas new)
one_soa-with_soas apex new [] set is one = absurd cc
one_soa-with_soas apex new (e ∷ f ∷ soas) set is one = let many = eqb-true (length (e ∷ f ∷ soas)) 1 (and-left _ _ one) in absurd (omega arith)
one_soa-with_soas apex new (e ∷ []) set is one =
    let shows : list_all shows_its_key (e ∷ []) ≡ true = ap (list_all shows_its_key) (sym is) ∙ all-filter shows_its_key (λ x. is_soa_at apex x.0) new (and-right _ _ set) in
    let at : list_all (λ x. is_soa_at apex x.0) (e ∷ []) ≡ true = ap (list_all (λ x. is_soa_at apex x.0)) (sym is) ∙ all_itself (λ x. is_soa_at apex x.0) new in
    ap one_soa (soas-new apex (is_soa_at apex) (risen_soa e) new (set-in_order new set) (λ key h. h) (risen-key apex e (and-left (is_soa_at apex e.0) true at) (and-left (shows_its_key e) true shows)))
    ∙ risen-serial e one

pub one_soa-risen : (apex : Labels) (old new : RecordSet) → IsSet new → HasOneSoa apex new → HasOneSoa apex (with_risen_serial apex old new)
one_soa-risen apex old new set one = by (serial_stays old new (set_at apex soa_kind old) (set_at apex soa_kind new))
  where
    by : (b : Bool) → HasOneSoa apex (cond b new (with_soas apex (set_at apex soa_kind new) new))
    by true = one
    by false = one_soa-with_soas apex new (set_at apex soa_kind new) set refl one

-- ---- the zone

-- what is_zone says
pub record ZoneParts (zone : ZoneState) : Type 0 where
  pub set : IsSet zone.rows
  pub class_in : list_all of_class_in zone.rows ≡ true
  pub one : HasOneSoa zone.apex zone.rows

pub zone_parts : (zone : ZoneState) → is_zone zone ≡ true → ZoneParts zone
zone_parts zone h =
    let set = is_record_set zone.rows in
    let class = list_all of_class_in zone.rows in
    let one = length (set_at zone.apex soa_kind zone.rows) == 1 in
    let serial = is_some (serial_of_zone zone) in
    let front = and-left (set && class && one) serial h in
    let both = and-left (set && class) one front in
    record { set = and-left set class both; class_in = and-right set class both; one = and-both one serial (and-right (set && class) one front) (and-right (set && class && one) serial h) }

pub zone_of_parts : (zone : ZoneState) → ZoneParts zone → is_zone zone ≡ true
zone_of_parts zone parts = and-both _ _ (and-both _ _ (and-both _ _ parts.set parts.class_in) (and-left _ _ parts.one)) (and-right _ _ parts.one)

pub zone-after : (zone : ZoneState) (rrs : List Rr) → is_zone zone ≡ true → is_zone (record zone { rows = rows_after zone rrs }) ≡ true
zone-after zone rrs h =
    let parts = zone_parts zone h in
    let changed = fold (changed_by zone.apex) zone.rows rrs in
    let set = set-changes zone.apex rrs zone.rows parts.set in
    zone_of_parts (record zone { rows = rows_after zone rrs }) (record {
      set = set-risen zone.apex zone.rows changed set;
      class_in = class_in-risen zone.apex zone.rows changed (class_in-changes zone.apex rrs zone.rows parts.class_in);
      one = one_soa-risen zone.apex zone.rows changed set (one_soa-changes zone.apex rrs zone.rows parts.set parts.one);
    })

-- ---- an update that is accepted

-- the changes as they are made
abbrev pub changes_of : Update → List Rr
changes_of update = map with_counted_ttl update.changes

pub record IsAccepted (homes : List Labels) (zone : ZoneState) (update : Update) (rows : RecordSet) : Type 0 where
  pub prereqs : first_refused (prerequisite_refusal homes zone) (map with_counted_ttl update.prereqs) ≡ None
  pub agree : sets_agree (map with_counted_ttl update.prereqs) zone.rows ≡ true
  pub writable : zone.writable ≡ true
  pub passed : first_refused (change_refusal homes zone) (changes_of update) ≡ None
  pub limits : is_within_limits rows ≡ true
  pub after : rows_after zone (changes_of update) ≡ rows

abbrev pub rows_done : RecordSet → Result RecordSet ℕ
rows_done rows = Ok rows

pub not_done : (code : ℕ) (rows : RecordSet) → Err code ≡ rows_done rows → ⊥
not_done code rows e = cc

pub same_done : (a b : RecordSet) → rows_done a ≡ rows_done b → a ≡ b
same_done a b e = cc

pub accepted : (o : Option ℕ) (r : Result RecordSet ℕ) (rows : RecordSet) → accepted_or o r ≡ rows_done rows → (o ≡ None) × (r ≡ rows_done rows)
accepted None r rows e = (refl, e)
accepted (Some code) r rows e = absurd (not_done code rows e)

pub within : (b : Bool) (code : ℕ) (after rows : RecordSet) → cond b (rows_done after) (Err code) ≡ rows_done rows → (b ≡ true) × (after ≡ rows)
within true code after rows e = (refl, same_done after rows e)
within false code after rows e = absurd (not_done code rows e)

-- what nothing refuses has passed each test
none-refuses : (p q : Option ℕ) (agree writable : Bool) → or_later p (if not agree then Some nxrrset else if not writable then Some refused else q) ≡ None
    → (p ≡ None) × (agree ≡ true) × (writable ≡ true) × (q ≡ None)
none-refuses (Some code) q agree writable e = absurd cc
none-refuses None q false writable e = absurd cc
none-refuses None q true false e = absurd cc
none-refuses None (Some code) true true e = absurd cc
none-refuses None None true true e = (refl, refl, refl, refl)

pub judged-accepted : (homes : List Labels) (zone : ZoneState) (update : Update) (rows : RecordSet) → judged homes zone update ≡ Ok rows → IsAccepted homes zone update rows
judged-accepted homes zone update rows e =
    let first = accepted (refused_first homes zone update) _ rows e in
    let tests = none-refuses (first_refused (prerequisite_refusal homes zone) (map with_counted_ttl update.prereqs)) (first_refused (change_refusal homes zone) (changes_of update))
    (sets_agree (map with_counted_ttl update.prereqs) zone.rows) zone.writable first.0 in
    let last = within _ _ _ rows first.1 in
    record { prereqs = tests.0; agree = tests.1; writable = tests.2; passed = tests.3; limits = ap is_within_limits (sym last.1) ∙ last.0; after = last.1 }

pub zone-judged : (homes : List Labels) (zone : ZoneState) (update : Update) (rows : RecordSet) → is_zone zone ≡ true → judged homes zone update ≡ Ok rows → is_zone (record zone { rows = rows }) ≡ true
zone-judged homes zone update rows h e =
    ap (λ (r : RecordSet). is_zone (record zone { rows = r })) (sym (judged-accepted homes zone update rows e).after) ∙ zone-after zone (changes_of update) h
