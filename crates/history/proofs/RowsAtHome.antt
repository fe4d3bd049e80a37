-- The rows after an update lie in the zone, as those before it do.
use Rattle.std.proofs.Common.{◌≡◌, ℕ, Bool, true, false, cond, not, ◌||◌, List, [], ◌∷◌, map, fold, Option, Some, None, Ok, refl, sym, ap, subst, ◌∙◌}
use Rattle.std.specs.List.{list_all, AllByRecursion}
use Rattle.push_base.specs.Cases.{first_refused}
use Rattle.dnsname.specs.Names.{Labels, lower}
use Rattle.dnswire.specs.declared.message.Update.{Update}
use Rattle.rrset.specs.Kinds.{in_class, soa_kind}
use Rattle.rrset.specs.Records.{key_of, shown_of}
use Rattle.rrset.specs.RecordSet.{RecordSet, is_in_order, shows_its_key, is_of_rrset, put_rr, without, same_rows}
use Rattle.rrset.specs.declared.record.Rr.{Rr}
use Rattle.rrset.specs.declared.record.Key.{Key}
use Rattle.zoneupdate.specs.Zones.{ZoneState, is_inside, set_at}
use Rattle.zoneupdate.specs.Updates.{judged, rows_after, changed_by, with_risen_serial, risen_soa, change_refusal, with_counted_ttl}
use Rattle.zoneupdate.proofs.KeptZone.{judged-accepted}
use Rattle.zoneupdate.proofs.Filters.{and-left, and-right}
use Rattle.zoneupdate.proofs.SomeAndAll.{all-filter}
use Rattle.zoneupdate.proofs.Owners.{same_name-lower}
use Rattle.zoneupdate.proofs.ChangedParts.{changed_by-outcome, of_set}
use Rattle.zoneupdate.proofs.RecordSets.{IsSet, all-put, set-changes, set-put_rrs, set-without, shown_owner}
use Rattle.zoneupdate.proofs.NameHomes.{is_inside-for}
use Rattle.history.specs.AtHome.{IsAtHome}

-- each record lies in the zone
abbrev pub Inside : List Labels → Labels → RecordSet → Type 0
Inside homes apex rows = list_all (λ e. is_inside homes apex e.0.owner) rows ≡ true

abbrev pub AllInside : List Labels → Labels → List Rr → Type 0
AllInside homes apex rrs = AllByRecursion (λ rr. is_inside homes apex rr.owner ≡ true) rrs

pub inside-put_rr : (homes : List Labels) (apex : Labels) (rr : Rr) (rows : RecordSet) → is_inside homes apex rr.owner ≡ true → Inside homes apex rows → Inside homes apex (put_rr rows rr)
inside-put_rr homes apex rr rows is h =
    all-put (λ e. is_inside homes apex e.0.owner) (key_of rr) (shown_of rr) rows h (sym (is_inside-for homes apex rr.owner (lower rr.owner) (same_name-lower rr.owner)) ∙ is)

pub inside-put_rrs : (homes : List Labels) (apex : Labels) (rrs : List Rr) (rows : RecordSet) → AllInside homes apex rrs → Inside homes apex rows → Inside homes apex (fold put_rr rows rrs)
inside-put_rrs homes apex [] rows all h = h
inside-put_rrs homes apex (rr ∷ rrs) rows all h = inside-put_rrs homes apex rrs (put_rr rows rr) all.1 (inside-put_rr homes apex rr rows all.0 h)

pub inside-without : (homes : List Labels) (apex : Labels) (t : Key → Bool) (rows : RecordSet) → Inside homes apex rows → Inside homes apex (without t rows)
inside-without homes apex t rows h = all-filter (λ e. is_inside homes apex e.0.owner) (λ e. not (t e.0)) rows h

pub inside-changed_by : (homes : List Labels) (apex : Labels) (rr : Rr) (rows : RecordSet) → is_inside homes apex rr.owner ≡ true → Inside homes apex rows → Inside homes apex (changed_by apex rows rr)
inside-changed_by homes apex rr rows is h =
    changed_by-outcome (Inside homes apex) apex rr rows h (λ _. inside-put_rr homes apex rr rows is h)
    (λ _. inside-put_rr homes apex rr (without (of_set rr) rows) is (inside-without homes apex (of_set rr) rows h)) (λ t within. inside-without homes apex t rows h)

pub inside-changes : (homes : List Labels) (apex : Labels) (rrs : List Rr) (rows : RecordSet) → AllInside homes apex rrs → Inside homes apex rows → Inside homes apex (fold (changed_by apex) rows rrs)
inside-changes homes apex [] rows all h = h
inside-changes homes apex (rr ∷ rrs) rows all h = inside-changes homes apex rrs (changed_by apex rows rr) all.1 (inside-changed_by homes apex rr rows all.0 h)

-- ---- the serial

pub inside-shown : (homes : List Labels) (apex : Labels) (rows : RecordSet) → Inside homes apex rows → list_all shows_its_key rows ≡ true → AllInside homes apex (map risen_soa rows)
inside-shown homes apex [] h shows = tt
inside-shown homes apex (e ∷ rows) h shows = (
  is_inside-for homes apex e.1.owner (lower e.1.owner) (same_name-lower e.1.owner) ∙ ap (is_inside homes apex) (shown_owner e (and-left (shows_its_key e) (list_all shows_its_key rows) shows)) ∙ and-left _ _ h,
  inside-shown homes apex rows (and-right _ _ h) (and-right (shows_its_key e) (list_all shows_its_key rows) shows),
)

abbrev pub IsGood : List Labels → Labels → RecordSet → Type 0
IsGood homes apex rows = IsSet rows × Inside homes apex rows

pub good-risen : (homes : List Labels) (apex : Labels) (old new : RecordSet) → IsGood homes apex new → IsGood homes apex (with_risen_serial apex old new)
good-risen homes apex old new good = by (same_rows old new || not (same_rows (set_at apex soa_kind old) soas))
  where
    soas : RecordSet
    soas = set_at apex soa_kind new

    others : RecordSet
    others = without (is_of_rrset apex in_class soa_kind) new

    all_inside : AllInside homes apex (map risen_soa soas)
    all_inside = inside-shown homes apex soas (all-filter (λ e. is_inside homes apex e.0.owner) (λ e. is_of_rrset apex in_class soa_kind e.0) new good.1) (all-filter shows_its_key (λ e. is_of_rrset apex in_class soa_kind e.0) new (and-right (is_in_order new) (list_all shows_its_key new) good.0))

    by : (b : Bool) → IsGood homes apex (cond b new (fold put_rr others (map risen_soa soas)))
    by true = good
    by false = (
      set-put_rrs (map risen_soa soas) others (set-without (is_of_rrset apex in_class soa_kind) new good.0),
      inside-put_rrs homes apex (map risen_soa soas) others all_inside (inside-without homes apex (is_of_rrset apex in_class soa_kind) new good.1),
    )

pub good-after : (homes : List Labels) (zone : ZoneState) (rrs : List Rr) → AllInside homes zone.apex rrs → IsGood homes zone.apex zone.rows → IsGood homes zone.apex (rows_after zone rrs)
good-after homes zone rrs all good =
    good-risen homes zone.apex zone.rows (fold (changed_by zone.apex) zone.rows rrs) (set-changes zone.apex rrs zone.rows good.0, inside-changes homes zone.apex rrs zone.rows all good.1)

-- ---- an update that is accepted

pub judged-rows : (homes : List Labels) (zone : ZoneState) (update : Update) (rows : RecordSet) → judged homes zone update ≡ Ok rows
    → (first_refused (change_refusal homes zone) (map with_counted_ttl update.changes) ≡ None) × (rows_after zone (map with_counted_ttl update.changes) ≡ rows)
judged-rows homes zone update rows e = let made = judged-accepted homes zone update rows e in (made.passed, made.after)

none-refused : (refusal : Rr → Option ℕ) (rr : Rr) (rrs : List Rr) → first_refused refusal (rr ∷ rrs) ≡ None → (refusal rr ≡ None) × (first_refused refusal rrs ≡ None)
none-refused refusal rr rrs e = by (refusal rr) e
  where
    by : (o : Option ℕ) → ◌≡◌ {A = Option ℕ} (elim o as (λ _. Option ℕ) [ Some code ↦ Some code | None ↦ first_refused refusal rrs ]) None → (o ≡ None) × (first_refused refusal rrs ≡ None)
    by (Some code) e = cc
    by None e = (refl, e)

-- a change that isn't refused lies in the zone
pub change-inside : (homes : List Labels) (zone : ZoneState) (rr : Rr) → change_refusal homes zone rr ≡ None → is_inside homes zone.apex rr.owner ≡ true
change-inside homes zone rr e = by (is_inside homes zone.apex rr.owner) _ e
  where
    by : (b : Bool) (rest : Option ℕ) → cond (not b) (Some 10) rest ≡ None → b ≡ true
    by true rest e = refl
    by false rest e = cc

pub changes-inside : (homes : List Labels) (zone : ZoneState) (rrs : List Rr) → first_refused (change_refusal homes zone) rrs ≡ None → AllInside homes zone.apex rrs
changes-inside homes zone [] e = tt
changes-inside homes zone (rr ∷ rrs) e =
    let both = none-refused (change_refusal homes zone) rr rrs e in
    (change-inside homes zone rr both.0, changes-inside homes zone rrs both.1)

pub at_home-judged : (homes : List Labels) (zone : ZoneState) (update : Update) (rows : RecordSet) → judged homes zone update ≡ Ok rows → IsAtHome homes zone → IsAtHome homes (record zone { rows = rows })
at_home-judged homes zone update rows e at =
    let parts = judged-rows homes zone update rows e in
    let good = good-after homes zone (map with_counted_ttl update.changes) (changes-inside homes zone (map with_counted_ttl update.changes) parts.0) (at.set, at.inside) in
    record { set = subst IsSet parts.1 good.0; inside = subst (Inside homes zone.apex) parts.1 good.1 }
