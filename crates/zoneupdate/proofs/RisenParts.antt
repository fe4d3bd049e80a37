-- All changes of a part of the records, and its serial that rises.
--     CoversAll p changes      the test holds of each key of the owner of a change
use Rattle.std.proofs.Common.{◌≡◌, Bool, true, false, cond, not, ◌||◌, List, [], ◌∷◌, map, fold, refl, sym, ap, ◌∙◌}
use Rattle.std.specs.List.{list_all, AllByRecursion}
use Rattle.dnsname.specs.Names.{Labels, lower, same_name}
use Rattle.rrset.specs.Kinds.{in_class, soa_kind}
use Rattle.rrset.specs.Records.{key_of, shown_of}
use Rattle.rrset.specs.RecordSet.{RecordSet, shows_its_key, is_of_rrset, put_rr, without, only, same_rows}
use Rattle.rrset.specs.declared.record.Rr.{Rr}
use Rattle.rrset.specs.declared.record.Key.{Key}
use Rattle.rrset.specs.declared.record.Shown.{Shown}
use Rattle.rrset.proofs.InOrder.{InOrder, in_order-put, in_order-without}
use Rattle.rrset.proofs.Selected.{fails, only-put-passed, only-put-failed}
use Rattle.rrset.proofs.Apart.{AgreeApart, same_rows-apart}
use Rattle.zoneupdate.specs.Zones.{set_at}
use Rattle.zoneupdate.specs.Updates.{changed_by, risen_soa, with_risen_serial}
use Rattle.zoneupdate.proofs.Filters.{and-left, and-right}
use Rattle.rrset.proofs.LowerNames.{lower-twice}
use Rattle.zoneupdate.proofs.Owners.{Covers, covers-key_of, of_rrset-owner, same_name-on, lower_same}
use Rattle.zoneupdate.proofs.ChangedParts.{changed_by-only, changed_by-outside, in_order-changed_by, only-within, only-without, outside-without, set-covered}
use Rattle.zoneupdate.proofs.RecordSets.{IsSet, set-in_order, shown_owner}

abbrev pub CoversAll : (Key → Bool) → List Rr → Type 0
CoversAll p changes = AllByRecursion (λ rr. Covers p rr.owner) changes

-- ---- all changes

pub changes-only : (p : Key → Bool) (apex : Labels) (changes : List Rr) (rows : RecordSet) → CoversAll p changes → InOrder rows → only p (fold (changed_by apex) rows changes) ≡ fold (changed_by apex) (only p rows) changes
changes-only p apex [] rows covers sorted = refl
changes-only p apex (rr ∷ changes) rows covers sorted =
    changes-only p apex changes (changed_by apex rows rr) covers.1 (in_order-changed_by apex rr rows sorted)
    ∙ ap (λ s. fold (changed_by apex) s changes) (changed_by-only p apex rr rows covers.0 sorted)

pub changes-outside : (p : Key → Bool) (apex : Labels) (changes : List Rr) (rows : RecordSet) → CoversAll p changes → InOrder rows → only (fails p) (fold (changed_by apex) rows changes) ≡ only (fails p) rows
changes-outside p apex [] rows covers sorted = refl
changes-outside p apex (rr ∷ changes) rows covers sorted =
    changes-outside p apex changes (changed_by apex rows rr) covers.1 (in_order-changed_by apex rr rows sorted) ∙ changed_by-outside p apex rr rows covers.0 sorted

-- ---- records that are put

pub puts-only : (p : Key → Bool) (rrs : List Rr) (rows : RecordSet) → CoversAll p rrs → InOrder rows → only p (fold put_rr rows rrs) ≡ fold put_rr (only p rows) rrs
puts-only p [] rows covers sorted = refl
puts-only p (rr ∷ rrs) rows covers sorted =
    puts-only p rrs (put_rr rows rr) covers.1 (in_order-put (key_of rr) (shown_of rr) rows sorted)
    ∙ ap (λ s. fold put_rr s rrs) (only-put-passed p (key_of rr) (shown_of rr) rows sorted (covers-key_of p rr covers.0))

pub puts-outside : (p : Key → Bool) (rrs : List Rr) (rows : RecordSet) → CoversAll p rrs → InOrder rows → only (fails p) (fold put_rr rows rrs) ≡ only (fails p) rows
puts-outside p [] rows covers sorted = refl
puts-outside p (rr ∷ rrs) rows covers sorted =
    puts-outside p rrs (put_rr rows rr) covers.1 (in_order-put (key_of rr) (shown_of rr) rows sorted)
    ∙ only-put-failed (fails p) (key_of rr) (shown_of rr) rows sorted (ap not (covers-key_of p rr covers.0))

-- ---- the serial

-- the owner that a record at a name shows is covered as the name is
pub covers-shown : (p : Key → Bool) (name : Labels) (e : Key × Shown) → Covers p name → same_name name e.0.owner ≡ true → shows_its_key e ≡ true → Covers p e.1.owner
covers-shown p name e covers at shows key same =
    covers key (same_name-on name e.0.owner key.owner at (same_name-on e.0.owner e.1.owner key.owner (lower_same e.0.owner e.1.owner (ap lower (sym (shown_owner e shows)) ∙ lower-twice e.1.owner)) same))

pub covers-risen : (p : Key → Bool) (apex : Labels) (rows : RecordSet) → Covers p apex → list_all shows_its_key rows ≡ true → CoversAll p (map risen_soa (set_at apex soa_kind rows))
covers-risen p apex [] covers shows = tt
covers-risen p apex (e ∷ rows) covers shows = by (is_of_rrset apex in_class soa_kind e.0) refl (covers-risen p apex rows covers (and-right (shows_its_key e) (list_all shows_its_key rows) shows))
  where
    by : (b : Bool) → is_of_rrset apex in_class soa_kind e.0 ≡ b → CoversAll p (map risen_soa (set_at apex soa_kind rows)) → CoversAll p (map risen_soa (cond b (e ∷ set_at apex soa_kind rows) (set_at apex soa_kind rows)))
    by true is rest = (covers-shown p apex e covers (of_rrset-owner apex in_class soa_kind e.0 is) (and-left (shows_its_key e) (list_all shows_its_key rows) shows), rest)
    by false is rest = rest

-- records with another SOA in the place of the one there
abbrev pub with_soas : Labels → RecordSet → RecordSet → RecordSet
with_soas apex soas rows = fold put_rr (without (is_of_rrset apex in_class soa_kind) rows) (map risen_soa soas)

-- the serial stays where nothing has changed, or the SOA has
abbrev pub serial_stays : RecordSet → RecordSet → RecordSet → RecordSet → Bool
serial_stays old new before soas = same_rows old new || not (same_rows before soas)

pub risen-only : (p : Key → Bool) (apex : Labels) (old new : RecordSet) → Covers p apex → InOrder old → IsSet new → AgreeApart p old new
    → only p (with_risen_serial apex old new) ≡ with_risen_serial apex (only p old) (only p new)
risen-only p apex old new covers sorted set agree =
    by (serial_stays old new (soas old) (soas new))
    ∙ (λ i. cond (serial_stays_same i) (only p new) (with_soas apex (soas_same new i) (only p new)))
  where
    soas : RecordSet → RecordSet
    soas rows = set_at apex soa_kind rows

    soas_same : (rows : RecordSet) → soas rows ≡ soas (only p rows)
    soas_same rows = sym (only-within p (is_of_rrset apex in_class soa_kind) (set-covered p apex soa_kind covers) rows)

    serial_stays_same : serial_stays old new (soas old) (soas new) ≡ serial_stays (only p old) (only p new) (soas (only p old)) (soas (only p new))
    serial_stays_same i = same_rows-apart p old new sorted (set-in_order new set) agree i || not (same_rows (soas_same old i) (soas_same new i))

    by : (b : Bool) → only p (cond b new (with_soas apex (soas new) new)) ≡ cond b (only p new) (with_soas apex (soas new) (only p new))
    by true = refl
    by false =
        puts-only p (map risen_soa (soas new)) (without (is_of_rrset apex in_class soa_kind) new) (covers-risen p apex new covers (and-right _ _ set)) (in_order-without (is_of_rrset apex in_class soa_kind) new (set-in_order new set))
        ∙ ap (λ s. fold put_rr s (map risen_soa (soas new))) (only-without p (is_of_rrset apex in_class soa_kind) new)

pub risen-outside : (p : Key → Bool) (apex : Labels) (old new : RecordSet) → Covers p apex → IsSet new → only (fails p) (with_risen_serial apex old new) ≡ only (fails p) new
risen-outside p apex old new covers set = by (serial_stays old new (set_at apex soa_kind old) (set_at apex soa_kind new))
  where
    by : (b : Bool) → only (fails p) (cond b new (with_soas apex (set_at apex soa_kind new) new)) ≡ only (fails p) new
    by true = refl
    by false =
        puts-outside p (map risen_soa (set_at apex soa_kind new)) (without (is_of_rrset apex in_class soa_kind) new) (covers-risen p apex new covers (and-right _ _ set)) (in_order-without (is_of_rrset apex in_class soa_kind) new (set-in_order new set))
        ∙ outside-without p (is_of_rrset apex in_class soa_kind) (set-covered p apex soa_kind covers) new
