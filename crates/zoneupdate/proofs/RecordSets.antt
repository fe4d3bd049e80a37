-- Record sets stay record sets: in order, and each record shows its key.
use Rattle.std.proofs.Common.{◌≡◌, Bool, true, not, List, [], ◌∷◌, fold, Ordering, Less, Equal, Greater, refl, sym, ap, ◌∙◌}
use Rattle.std.specs.List.{list_all}
use Rattle.std.specs.FinMap.Entries.{by_order}
use Rattle.dnsname.specs.Names.{Labels, lower}
use Rattle.rrset.specs.Records.{key_cmp, key_of, shown_of, rr_of}
use Rattle.rrset.specs.RecordSet.{RecordSet, shows_its_key, is_record_set, put, put_rr, without, only}
use Rattle.rrset.specs.Tables.{HaveLowerOwners}
use Rattle.rrset.specs.declared.record.Rr.{Rr}
use Rattle.rrset.specs.declared.record.Key.{Key}
use Rattle.rrset.specs.declared.record.Shown.{Shown}
use Rattle.rrset.proofs.KeyOrder.{key_cmp-IsAntisymmetric}
use Rattle.rrset.proofs.InOrder.{InOrder, in_order-put, in_order-only}
use Rattle.rrset.proofs.SameRows.{same_key-same, same_key-self}
use Rattle.zoneupdate.specs.Updates.{changed_by}
use Rattle.zoneupdate.proofs.Filters.{holds, is_true, and-left, and-right, and-both}
use Rattle.zoneupdate.proofs.SomeAndAll.{all-filter}
use Rattle.rrset.proofs.LowerNames.{lower-twice}
use Rattle.zoneupdate.proofs.ChangedParts.{changed_by-outcome, of_set}

-- ---- what holds of each record

pub all-put : (f : Key × Shown → Bool) (key : Key) (shown : Shown) (set : RecordSet) → list_all f set ≡ true → f (key, shown) ≡ true → list_all f (put key shown set) ≡ true
all-put f key shown [] h new = and-both (f (key, shown)) true new refl
all-put f key shown (e ∷ es) h new = by (key_cmp key e.0) refl (all-put f key shown es (and-right (f e) (list_all f es) h) new)
  where
    by : (o : Ordering) → key_cmp key e.0 ≡ o → list_all f (put key shown es) ≡ true → list_all f (by_order o ((key, shown) ∷ e ∷ es) ((e.0, shown) ∷ es) (e ∷ put key shown es)) ≡ true
    by Less is rest = and-both (f (key, shown)) (list_all f (e ∷ es)) new h
    by Equal is rest = and-both (f (e.0, shown)) (list_all f es) (ap (λ (k : Key). f (k, shown)) (sym (key_cmp-IsAntisymmetric key e.0 is)) ∙ new) (and-right (f e) (list_all f es) h)
    by Greater is rest = and-both (f e) (list_all f (put key shown es)) (and-left (f e) (list_all f es) h) rest

-- ---- record sets

abbrev pub IsSet : RecordSet → Type 0
IsSet rows = is_record_set rows ≡ true

pub shows_key-rr : (rr : Rr) → shows_its_key (key_of rr, shown_of rr) ≡ true
shows_key-rr rr = same_key-self (key_of rr)

pub set-in_order : (rows : RecordSet) → IsSet rows → InOrder rows
set-in_order rows h = holds _ (and-left _ _ h)

pub set-put_rr : (rr : Rr) (rows : RecordSet) → IsSet rows → IsSet (put_rr rows rr)
set-put_rr rr rows h =
    and-both _ _ (is_true _ (in_order-put (key_of rr) (shown_of rr) rows (set-in_order rows h)))
    (all-put shows_its_key (key_of rr) (shown_of rr) rows (and-right _ _ h) (shows_key-rr rr))

pub set-only : (p : Key → Bool) (rows : RecordSet) → IsSet rows → IsSet (only p rows)
set-only p rows h = and-both _ _ (is_true _ (in_order-only p rows (set-in_order rows h))) (all-filter shows_its_key (λ e. p e.0) rows (and-right _ _ h))

pub set-without : (p : Key → Bool) (rows : RecordSet) → IsSet rows → IsSet (without p rows)
set-without p rows h = set-only (λ key. not (p key)) rows h

pub set-put_rrs : (rrs : List Rr) (rows : RecordSet) → IsSet rows → IsSet (fold put_rr rows rrs)
set-put_rrs [] rows h = h
set-put_rrs (rr ∷ rrs) rows h = set-put_rrs rrs (put_rr rows rr) (set-put_rr rr rows h)

pub set-changed_by : (apex : Labels) (rr : Rr) (rows : RecordSet) → IsSet rows → IsSet (changed_by apex rows rr)
set-changed_by apex rr rows h = changed_by-outcome IsSet apex rr rows h (λ _. set-put_rr rr rows h) (λ _. set-put_rr rr (without (of_set rr) rows) (set-without (of_set rr) rows h)) (λ t within. set-without t rows h)

pub set-changes : (apex : Labels) (changes : List Rr) (rows : RecordSet) → IsSet rows → IsSet (fold (changed_by apex) rows changes)
set-changes apex [] rows h = h
set-changes apex (rr ∷ changes) rows h = set-changes apex changes (changed_by apex rows rr) (set-changed_by apex rr rows h)

-- ---- owners

-- the owner that a record shows is its key's, but for case
pub shown_owner : (e : Key × Shown) → shows_its_key e ≡ true → lower e.1.owner ≡ e.0.owner
shown_owner e h = ap (λ (k : Key). k.owner) (same_key-same (key_of (rr_of e.0 e.1)) e.0 h)

pub lower_owners : (rows : RecordSet) → list_all shows_its_key rows ≡ true → HaveLowerOwners rows
lower_owners [] h = tt
lower_owners (e ∷ es) h =
    let first = shown_owner e (and-left (shows_its_key e) (list_all shows_its_key es) h) in
    (ap lower (sym first) ∙ lower-twice e.1.owner ∙ first, lower_owners es (and-right (shows_its_key e) (list_all shows_its_key es) h))

pub set-lower_owners : (rows : RecordSet) → IsSet rows → HaveLowerOwners rows
set-lower_owners rows h = lower_owners rows (and-right _ _ h)
