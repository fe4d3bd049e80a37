-- What an update does to a zone, it does to the part that it touches.
use Rattle.std.proofs.Common.{◌≡◌, ◌+◌, Bool, true, List, [], ◌∷◌, length, fold, sym, ap, ◌∙◌}
use Rattle.std.specs.List.{list_any}
use Rattle.dnsname.specs.Names.{Labels, same_name}
use Rattle.rrset.specs.RecordSet.{RecordSet, only, changes}
use Rattle.rrset.specs.declared.record.Rr.{Rr}
use Rattle.rrset.specs.declared.record.Key.{Key}
use Rattle.rrset.proofs.Selected.{fails}
use Rattle.rrset.proofs.Apart.{AgreeApart, changes-apart, length-apart}
use Rattle.zoneupdate.specs.Zones.{ZoneState}
use Rattle.zoneupdate.specs.Updates.{changed_by, with_risen_serial, rows_after}
use Rattle.zoneupdate.specs.Touched.{is_touched, part_of, part_after}
use Rattle.zoneupdate.proofs.Filters.{or-left, or-right}
use Rattle.zoneupdate.proofs.Owners.{Covers}
use Rattle.zoneupdate.proofs.RecordSets.{IsSet, set-in_order, set-changes}
use Rattle.zoneupdate.proofs.RisenParts.{CoversAll, changes-only, changes-outside, risen-only, risen-outside}

-- ---- what is touched

pub touched-apex : (apex : Labels) (rrs : List Rr) → Covers (is_touched apex rrs) apex
touched-apex apex rrs key same = or-left (same_name apex key.owner) (list_any (λ rr. same_name rr.owner key.owner) rrs) same

pub touched-change : (apex : Labels) (rrs : List Rr) (key : Key) → list_any (λ rr. same_name rr.owner key.owner) rrs ≡ true → is_touched apex rrs key ≡ true
touched-change apex rrs key some = or-right (same_name apex key.owner) (list_any (λ rr. same_name rr.owner key.owner) rrs) some

-- a test that holds of each owner of some changes covers them all
pub covers-any : (p : Key → Bool) (rrs : List Rr) → ((key : Key) → list_any (λ rr. same_name rr.owner key.owner) rrs ≡ true → p key ≡ true) → CoversAll p rrs
covers-any p [] h = tt
covers-any p (rr ∷ rrs) h = (
  λ key same. h key (or-left (same_name rr.owner key.owner) (list_any (λ x. same_name x.owner key.owner) rrs) same),
  covers-any p rrs (λ key some. h key (or-right (same_name rr.owner key.owner) (list_any (λ x. same_name x.owner key.owner) rrs) some)),
)

pub touched-changes : (apex : Labels) (rrs : List Rr) → CoversAll (is_touched apex rrs) rrs
touched-changes apex rrs = covers-any (is_touched apex rrs) rrs (touched-change apex rrs)

-- ---- the rows after all changes

-- the changes alone leave what isn't touched
pub changed-untouched : (zone : ZoneState) (rrs : List Rr) → IsSet zone.rows → AgreeApart (is_touched zone.apex rrs) zone.rows (fold (changed_by zone.apex) zone.rows rrs)
changed-untouched zone rrs set = sym (changes-outside (is_touched zone.apex rrs) zone.apex rrs zone.rows (touched-changes zone.apex rrs) (set-in_order zone.rows set))

pub after-touched : (zone : ZoneState) (rrs : List Rr) → IsSet zone.rows → part_of zone.apex rrs (rows_after zone rrs) ≡ part_after zone rrs
after-touched zone rrs set =
    risen-only (is_touched zone.apex rrs) zone.apex zone.rows (fold (changed_by zone.apex) zone.rows rrs) (touched-apex zone.apex rrs) (set-in_order zone.rows set) (set-changes zone.apex rrs zone.rows set) (changed-untouched zone rrs set)
    ∙ ap (with_risen_serial zone.apex (part_of zone.apex rrs zone.rows)) (changes-only (is_touched zone.apex rrs) zone.apex rrs zone.rows (touched-changes zone.apex rrs) (set-in_order zone.rows set))

pub after-untouched : (zone : ZoneState) (rrs : List Rr) → IsSet zone.rows → only (fails (is_touched zone.apex rrs)) (rows_after zone rrs) ≡ only (fails (is_touched zone.apex rrs)) zone.rows
after-untouched zone rrs set =
    risen-outside (is_touched zone.apex rrs) zone.apex zone.rows (fold (changed_by zone.apex) zone.rows rrs) (touched-apex zone.apex rrs) (set-changes zone.apex rrs zone.rows set)
    ∙ sym (changed-untouched zone rrs set)

-- ---- what is shown otherwise, and how many records there are

pub after-changes : (zone : ZoneState) (rrs : List Rr) → IsSet zone.rows → changes zone.rows (rows_after zone rrs) ≡ changes (part_of zone.apex rrs zone.rows) (part_after zone rrs)
after-changes zone rrs set =
    changes-apart (is_touched zone.apex rrs) zone.rows (rows_after zone rrs) (set-in_order zone.rows set) (sym (after-untouched zone rrs set))
    ∙ ap (changes (part_of zone.apex rrs zone.rows)) (after-touched zone rrs set)

pub after-length : (zone : ZoneState) (rrs : List Rr) → IsSet zone.rows → length (rows_after zone rrs) + length (part_of zone.apex rrs zone.rows) ≡ length zone.rows + length (part_after zone rrs)
after-length zone rrs set =
    length-apart (is_touched zone.apex rrs) zone.rows (rows_after zone rrs) (sym (after-untouched zone rrs set))
    ∙ ap (λ (s : RecordSet). length zone.rows + length s) (after-touched zone rrs set)
