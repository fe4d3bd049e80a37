-- The limits of a zone after an update, by the part that the update touches.
use Rattle.std.proofs.Common.{◌≡◌, Bool, true, false, not, ◌&&◌, ◌||◌, nat_le, List, [], ◌∷◌, length, refl, sym, ap, ◌∙◌}
use Rattle.std.specs.List.{list_all, list_any}
use Rattle.push_base.specs.Limits.{max_octets_at_name}
use Rattle.dnsname.specs.Names.{Labels, same_name}
use Rattle.rrset.specs.RecordSet.{RecordSet, only, at_name, size_of, size_at}
use Rattle.rrset.specs.declared.record.Rr.{Rr}
use Rattle.rrset.specs.declared.record.Key.{Key}
use Rattle.rrset.proofs.Selected.{fails}
use Rattle.zoneupdate.specs.Zones.{ZoneState}
use Rattle.zoneupdate.specs.Updates.{max_zone_records, is_within_limits, rows_after}
use Rattle.zoneupdate.specs.Touched.{is_touched, part_after}
use Rattle.zoneupdate.proofs.Filters.{same_truth, and-left, and-right, and-both, filter_same}
use Rattle.zoneupdate.proofs.SomeAndAll.{all-filter, all_itself, any_same, any_all, all_follow, all_alike, all_parts}
use Rattle.zoneupdate.proofs.Owners.{Covers, same_name-for, same_name-back, same_name-for_second}
use Rattle.zoneupdate.proofs.ChangedParts.{only-within}
use Rattle.zoneupdate.proofs.RecordSets.{IsSet}
use Rattle.zoneupdate.proofs.RisenParts.{CoversAll}
use Rattle.zoneupdate.proofs.TouchedParts.{touched-apex, touched-changes, after-touched, after-untouched}

-- ---- sizes at names

abbrev pub fits : RecordSet → Labels → Bool
fits rows name = nat_le (size_at name rows) max_octets_at_name

pub size_at-same : (a b : Labels) (rows : RecordSet) → same_name a b ≡ true → size_at a rows ≡ size_at b rows
size_at-same a b rows same = ap size_of (filter_same (λ e. same_name a e.0.owner) (λ e. same_name b e.0.owner) (λ e. same_name-for a b e.0.owner same) rows)

pub size_at-covered : (p : Key → Bool) (name : Labels) (rows : RecordSet) → Covers p name → size_at name (only p rows) ≡ size_at name rows
size_at-covered p name rows covers = ap size_of (only-within p (λ key. same_name name key.owner) covers rows)

pub fits-same : (a b : Labels) (rows : RecordSet) → same_name a b ≡ true → fits rows a ≡ true → fits rows b ≡ true
fits-same a b rows same h = ap (λ n. nat_le n max_octets_at_name) (sym (size_at-same a b rows same)) ∙ h

-- where each name that is there fits, each name does
pub fits-any : (rows : RecordSet) → list_all (λ e. fits rows e.0.owner) rows ≡ true → (name : Labels) → fits rows name ≡ true
fits-any rows all name = by (at_name name rows) refl (all-filter (λ e. fits rows e.0.owner) (λ e. same_name name e.0.owner) rows all) (all_itself (λ e. same_name name e.0.owner) rows)
  where
    by : (there : RecordSet) → at_name name rows ≡ there → list_all (λ e. fits rows e.0.owner) there ≡ true → list_all (λ e. same_name name e.0.owner) there ≡ true → fits rows name ≡ true
    by [] is fit same = ap (λ (s : RecordSet). nat_le (size_of s) max_octets_at_name) is
    by (e ∷ es) is fit same =
        fits-same e.0.owner name rows (same_name-back name e.0.owner (and-left (same_name name e.0.owner) (list_all (λ e. same_name name e.0.owner) es) same))
        (and-left (fits rows e.0.owner) (list_all (λ e. fits rows e.0.owner) es) fit)

-- ---- the test of what is touched answers alike for keys of one owner

pub touched-alike : (apex : Labels) (rrs : List Rr) (k l : Key) → same_name k.owner l.owner ≡ true → is_touched apex rrs k ≡ is_touched apex rrs l
touched-alike apex rrs k l same = λ i. same_name-for_second apex k.owner l.owner same i || any_same (λ rr. same_name rr.owner k.owner) (λ rr. same_name rr.owner l.owner) (λ rr. same_name-for_second rr.owner k.owner l.owner same) rrs i

pub touched-covers : (apex : Labels) (rrs : List Rr) (key : Key) → is_touched apex rrs key ≡ true → Covers (is_touched apex rrs) key.owner
touched-covers apex rrs key is other same = sym (touched-alike apex rrs key other same) ∙ is

pub untouched-covers : (apex : Labels) (rrs : List Rr) (key : Key) → fails (is_touched apex rrs) key ≡ true → Covers (fails (is_touched apex rrs)) key.owner
untouched-covers apex rrs key is other same = ap not (sym (touched-alike apex rrs key other same)) ∙ is

-- ---- all names that are there fit where those of the touched part do

pub all_covered : (p : Key → Bool) (f : Labels → Bool) → ((name : Labels) → Covers p name → f name ≡ true) → (rrs : List Rr) → CoversAll p rrs → list_all (λ rr. f rr.owner) rrs ≡ true
all_covered p f h [] covers = refl
all_covered p f h (rr ∷ rrs) covers = and-both (f rr.owner) (list_all (λ rr. f rr.owner) rrs) (h rr.owner covers.0) (all_covered p f h rrs covers.1)

-- a touched name has the same size in the part
pub part-size : (zone : ZoneState) (rrs : List Rr) → IsSet zone.rows → (name : Labels) → Covers (is_touched zone.apex rrs) name → size_at name (part_after zone rrs) ≡ size_at name (rows_after zone rrs)
part-size zone rrs set name covers = ap (size_at name) (sym (after-touched zone rrs set)) ∙ size_at-covered (is_touched zone.apex rrs) name (rows_after zone rrs) covers

-- another name has the size that it had
pub rest-size : (zone : ZoneState) (rrs : List Rr) → IsSet zone.rows → (name : Labels) → Covers (fails (is_touched zone.apex rrs)) name → size_at name (rows_after zone rrs) ≡ size_at name zone.rows
rest-size zone rrs set name covers =
    sym (size_at-covered (fails (is_touched zone.apex rrs)) name (rows_after zone rrs) covers) ∙ ap (size_at name) (after-untouched zone rrs set) ∙ size_at-covered (fails (is_touched zone.apex rrs)) name zone.rows covers

pub part-fits : (zone : ZoneState) (rrs : List Rr) → IsSet zone.rows → (name : Labels) → Covers (is_touched zone.apex rrs) name → fits (part_after zone rrs) name ≡ fits (rows_after zone rrs) name
part-fits zone rrs set name covers = ap (λ n. nat_le n max_octets_at_name) (part-size zone rrs set name covers)

pub rest-fits : (zone : ZoneState) (rrs : List Rr) → IsSet zone.rows → (name : Labels) → Covers (fails (is_touched zone.apex rrs)) name → fits (rows_after zone rrs) name ≡ fits zone.rows name
rest-fits zone rrs set name covers = ap (λ n. nat_le n max_octets_at_name) (rest-size zone rrs set name covers)

pub all_fit-part : (zone : ZoneState) (rrs : List Rr) → IsSet zone.rows → list_all (λ e. fits (rows_after zone rrs) e.0.owner) (rows_after zone rrs) ≡ true
    → (fits (part_after zone rrs) zone.apex && list_all (λ rr. fits (part_after zone rrs) rr.owner) rrs) ≡ true
all_fit-part zone rrs set all =
    and-both (fits (part_after zone rrs) zone.apex) (list_all (λ rr. fits (part_after zone rrs) rr.owner) rrs) (one zone.apex (touched-apex zone.apex rrs))
    (all_covered (is_touched zone.apex rrs) (fits (part_after zone rrs)) one rrs (touched-changes zone.apex rrs))
  where
    one : (name : Labels) → Covers (is_touched zone.apex rrs) name → fits (part_after zone rrs) name ≡ true
    one name covers = part-fits zone rrs set name covers ∙ fits-any (rows_after zone rrs) all name

pub part-all_fit : (zone : ZoneState) (rrs : List Rr) → IsSet zone.rows → list_all (λ e. fits zone.rows e.0.owner) zone.rows ≡ true
    → fits (part_after zone rrs) zone.apex ≡ true → list_all (λ rr. fits (part_after zone rrs) rr.owner) rrs ≡ true
    → list_all (λ e. fits (rows_after zone rrs) e.0.owner) (rows_after zone rrs) ≡ true
part-all_fit zone rrs set fit at_apex at_changes =
    all_parts (λ e. is_touched zone.apex rrs e.0) (λ e. fits (rows_after zone rrs) e.0.owner) (rows_after zone rrs)
    (all_follow (λ e. is_touched zone.apex rrs e.0) (λ e. fits (rows_after zone rrs) e.0.owner) (λ e is. touched e.0 is) (rows_after zone rrs))
    (ap (list_all (λ e. fits (rows_after zone rrs) e.0.owner)) (after-untouched zone rrs set)
    ∙ all_alike (λ e. fails (is_touched zone.apex rrs) e.0) (λ e. fits (rows_after zone rrs) e.0.owner) (λ e. fits zone.rows e.0.owner) (λ e is. rest-fits zone rrs set e.0.owner (untouched-covers zone.apex rrs e.0 is)) zone.rows
    ∙ all-filter (λ e. fits zone.rows e.0.owner) (λ e. fails (is_touched zone.apex rrs) e.0) zone.rows fit)
  where
    in_part : (key : Key) (b : Bool) → same_name zone.apex key.owner ≡ b → (b || list_any (λ rr. same_name rr.owner key.owner) rrs) ≡ true → fits (part_after zone rrs) key.owner ≡ true
    in_part key true same is = fits-same zone.apex key.owner (part_after zone rrs) same at_apex
    in_part key false same is =
        any_all (λ rr. same_name rr.owner key.owner) (λ rr. fits (part_after zone rrs) rr.owner) (fits (part_after zone rrs) key.owner) (λ rr same fit. fits-same rr.owner key.owner (part_after zone rrs) same fit) rrs is at_changes

    touched : (key : Key) → is_touched zone.apex rrs key ≡ true → fits (rows_after zone rrs) key.owner ≡ true
    touched key is = sym (part-fits zone rrs set key.owner (touched-covers zone.apex rrs key is)) ∙ in_part key (same_name zone.apex key.owner) refl is

pub after-fits : (zone : ZoneState) (rrs : List Rr) → IsSet zone.rows → list_all (λ e. fits zone.rows e.0.owner) zone.rows ≡ true
    → list_all (λ e. fits (rows_after zone rrs) e.0.owner) (rows_after zone rrs) ≡ (fits (part_after zone rrs) zone.apex && list_all (λ rr. fits (part_after zone rrs) rr.owner) rrs)
after-fits zone rrs set fit =
    same_truth (list_all (λ e. fits (rows_after zone rrs) e.0.owner) (rows_after zone rrs)) (fits (part_after zone rrs) zone.apex && list_all (λ rr. fits (part_after zone rrs) rr.owner) rrs)
    (all_fit-part zone rrs set)
    (λ both. part-all_fit zone rrs set fit (and-left (fits (part_after zone rrs) zone.apex) (list_all (λ rr. fits (part_after zone rrs) rr.owner) rrs) both) (and-right (fits (part_after zone rrs) zone.apex) (list_all (λ rr. fits (part_after zone rrs) rr.owner) rrs) both))

pub and_assoc : (a b c : Bool) → (a && (b && c)) ≡ (a && b && c)
and_assoc true b c = refl
and_assoc false b c = refl

pub after-limits : (zone : ZoneState) (rrs : List Rr) → IsSet zone.rows → is_within_limits zone.rows ≡ true
    → is_within_limits (rows_after zone rrs)
    ≡ (nat_le (length (rows_after zone rrs)) max_zone_records && nat_le (size_at zone.apex (part_after zone rrs)) max_octets_at_name && list_all (λ rr. nat_le (size_at rr.owner (part_after zone rrs)) max_octets_at_name) rrs)
after-limits zone rrs set within =
    ap (λ b. nat_le (length (rows_after zone rrs)) max_zone_records && b) (after-fits zone rrs set (and-right (nat_le (length zone.rows) max_zone_records) (list_all (λ e. fits zone.rows e.0.owner) zone.rows) within))
    ∙ and_assoc (nat_le (length (rows_after zone rrs)) max_zone_records) (fits (part_after zone rrs) zone.apex) (list_all (λ rr. fits (part_after zone rrs) rr.owner) rrs)
