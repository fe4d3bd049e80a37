-- Which keys the removals of a net take out: those that the new set doesn't show.
use Rattle.std.proofs.Common.{◌≡◌, ℕ, Bool, true, false, cond, not, ◌&&◌, List, [], ◌∷◌, map, Some, None, is_some, true≢false, sym, ◌∙◌, ap, refl}
use Rattle.std.specs.Prelude.{filter, flat_map, ◌==◌}
use Rattle.std.specs.List.{list_all}
use Rattle.std.proofs.lemmas.Bool.{eq-eqb, eqb-true, and_from, and_parts, and_right, or_left, or_right, or_from}
use Rattle.push_base.specs.Cases.{is_empty}
use Rattle.dnsname.specs.Names.{Labels, same_name}
use Rattle.rrset.specs.Kinds.{in_class}
use Rattle.rrset.specs.Records.{key_of, rr_of, same_key}
use Rattle.rrset.specs.RecordSet.{RecordSet, shown_at, shows_its_key}
use Rattle.rrset.specs.declared.record.Key.{Key}
use Rattle.rrset.specs.declared.record.Shown.{Shown}
use Rattle.rrset.proofs.Sets.{shown_at-only}
use Rattle.rrset.proofs.SameRows.{same_key-self, same_key-same}
use Rattle.dsotlv.specs.Notices.{removed_by, remove_one_ttl}
use Rattle.dsotlv.specs.declared.message.Notice.{Notice}
use Rattle.dsotlv.specs.declared.message.Notice.TheVariants.{RemoveOne, RemoveSet, RemoveClass}
use Rattle.coalesce.specs.Net.{of_kind, kinds_of, is_missing, removals_of_kind}
use Rattle.coalesce.proofs.Filters.{own-only, any_shown}
use Rattle.coalesce.proofs.AtKeys.{is_removal, is_taken_out}
use Rattle.coalesce.proofs.KindsOf.{any-flat_map, any_none, any-kinds_of}

-- a notice takes out each record of a set
abbrev pub TakesAll : (Key → Bool) → RecordSet → Type 0
TakesAll p set = (k : Key) → is_some (shown_at k set) ≡ true → p k ≡ true

-- ---- removals of single records

abbrev pub remove_one : Key × Shown → Notice
remove_one e = RemoveOne (record (rr_of e.0 e.1) { ttl = remove_one_ttl })

abbrev pub removed_ones : RecordSet → RecordSet → List Notice
removed_ones new set = map remove_one (filter (is_missing new) set)

all_removed_ones : (set : RecordSet) → list_all is_removal (map remove_one set) ≡ true
all_removed_ones [] = refl
all_removed_ones (e ∷ es) = all_removed_ones es

-- they take out no key that is shown in the new set
ones_stay : (k : Key) (new set : RecordSet) → list_all shows_its_key set ≡ true → is_some (shown_at k new) ≡ true → is_taken_out k (removed_ones new set) ≡ false
ones_stay k new [] own there = refl
ones_stay k new (e ∷ es) own there = by (ones_stay k new es (and_parts (shows_its_key e) (list_all shows_its_key es) own).1 there) (is_missing new e) refl
  where
    own_key : key_of (rr_of e.0 e.1) ≡ e.0
    own_key = same_key-same (key_of (rr_of e.0 e.1)) e.0 (and_parts (shows_its_key e) (list_all shows_its_key es) own).0

    differs : (b : Bool) → same_key (key_of (rr_of e.0 e.1)) k ≡ b → is_missing new e ≡ true → b ≡ false
    differs true s missing =
        let there_too : is_some (shown_at e.0 new) ≡ true = ap (λ key. is_some (shown_at key new)) (sym own_key ∙ same_key-same (key_of (rr_of e.0 e.1)) k s) ∙ there in
        absurd (true≢false (sym missing ∙ ap not there_too))
    differs false s missing = refl

    by : is_taken_out k (removed_ones new es) ≡ false → (b : Bool) → is_missing new e ≡ b
        → is_taken_out k (map remove_one (cond b (e ∷ filter (is_missing new) es) (filter (is_missing new) es))) ≡ false
    by rest true m = or_from _ _ (differs (same_key (key_of (rr_of e.0 e.1)) k) refl m) rest
    by rest false m = rest

-- they take out each key of the set that the new set doesn't show
ones_go : (k : Key) (new set : RecordSet) → list_all shows_its_key set ≡ true → is_some (shown_at k set) ≡ true → shown_at k new ≡ None → is_taken_out k (removed_ones new set) ≡ true
ones_go k new [] own there gone = cc
ones_go k new (e ∷ es) own there gone = by (ones_go k new es (and_parts (shows_its_key e) (list_all shows_its_key es) own).1) (same_key k e.0) refl (is_missing new e) refl there
  where
    own_key : key_of (rr_of e.0 e.1) ≡ e.0
    own_key = same_key-same (key_of (rr_of e.0 e.1)) e.0 (and_parts (shows_its_key e) (list_all shows_its_key es) own).0

    by : (is_some (shown_at k es) ≡ true → shown_at k new ≡ None → is_taken_out k (removed_ones new es) ≡ true)
        → (s : Bool) → same_key k e.0 ≡ s → (m : Bool) → is_missing new e ≡ m → is_some (cond s (Some e.1) (shown_at k es)) ≡ true
        → is_taken_out k (map remove_one (cond m (e ∷ filter (is_missing new) es) (filter (is_missing new) es))) ≡ true
    by later true s true m is = or_left _ _ (ap (λ key. same_key key k) (own_key ∙ sym (same_key-same k e.0 s)) ∙ same_key-self k)
    by later true s false m is = absurd (true≢false (sym (ap (λ o. not (is_some o)) (ap (λ key. shown_at key new) (sym (same_key-same k e.0 s)) ∙ gone)) ∙ m))
    by later false s true m is = or_right _ _ (later is gone)
    by later false s false m is = later is gone

-- ---- removals of a kind

pub all_removals_of_kind : (name : Labels) (old new : RecordSet) (kind : ℕ) → list_all is_removal (removals_of_kind name old new kind) ≡ true
all_removals_of_kind name old new kind = by (is_empty (of_kind kind new))
  where
    by : (b : Bool) → list_all is_removal (cond b (RemoveSet name in_class kind ∷ []) (removed_ones new (of_kind kind old))) ≡ true
    by true = refl
    by false = all_removed_ones (filter (is_missing new) (of_kind kind old))

pub none_of : (k : Key) (kind : ℕ) (set : RecordSet) → is_empty (of_kind kind set) ≡ true → (k.kind == kind) ≡ true → shown_at k set ≡ None
none_of k kind set none same = sym (shown_at-only (λ key. key.kind == kind) k set ∙ ap (λ b. cond b (shown_at k set) None) same) ∙ empty (of_kind kind set) none
  where
    empty : (s : RecordSet) → is_empty s ≡ true → shown_at k s ≡ None
    empty [] e = refl
    empty (e ∷ es) h = cc

kind_stays : (name : Labels) (k : Key) (old new : RecordSet) (kind : ℕ) → list_all shows_its_key old ≡ true → is_some (shown_at k new) ≡ true → is_taken_out k (removals_of_kind name old new kind) ≡ false
kind_stays name k old new kind own there = by (is_empty (of_kind kind new)) refl
  where
    other : is_empty (of_kind kind new) ≡ true → (b : Bool) → (kind == k.kind) ≡ b → b ≡ false
    other none true s = absurd (true≢false (sym there ∙ ap is_some (none_of k kind new none (eq-eqb k.kind kind (sym (eqb-true kind k.kind s))))))
    other none false s = refl

    by : (b : Bool) → is_empty (of_kind kind new) ≡ b → is_taken_out k (cond b (RemoveSet name in_class kind ∷ []) (removed_ones new (of_kind kind old))) ≡ false
    by true none = or_from _ false (and_right (same_name name k.owner && in_class == k.class) (kind == k.kind) (other none (kind == k.kind) refl)) refl
    by false some = ones_stay k new (of_kind kind old) (own-only (λ key. key.kind == kind) old own) there

-- the removals of its kind take out a key that is gone
kind_goes : (name : Labels) (k : Key) (old new : RecordSet) → list_all shows_its_key old ≡ true → removed_by (RemoveClass name in_class) k ≡ true → is_some (shown_at k old) ≡ true → shown_at k new ≡ None
    → is_taken_out k (removals_of_kind name old new k.kind) ≡ true
kind_goes name k old new own named there gone = by (is_empty (of_kind k.kind new))
  where
    its_kind : (k.kind == k.kind) ≡ true
    its_kind = eq-eqb k.kind k.kind refl

    by : (b : Bool) → is_taken_out k (cond b (RemoveSet name in_class k.kind ∷ []) (removed_ones new (of_kind k.kind old))) ≡ true
    by true = or_left _ false (and_from _ _ named its_kind)
    by false = ones_go k new (of_kind k.kind old) (own-only (λ key. key.kind == k.kind) old own) (ap is_some (shown_at-only (λ key. key.kind == k.kind) k old ∙ ap (λ b. cond b (shown_at k old) None) its_kind) ∙ there) gone

-- ---- the removals of all kinds

abbrev pub removals : Labels → RecordSet → RecordSet → List Notice
removals name old new = flat_map (removals_of_kind name old new) (kinds_of old)

pub stays : (name : Labels) (k : Key) (old new : RecordSet) → list_all shows_its_key old ≡ true → is_some (shown_at k new) ≡ true → is_taken_out k (removals name old new) ≡ false
stays name k old new own there =
    any-flat_map (λ n. removed_by n k) (removals_of_kind name old new) (kinds_of old)
    ∙ any_none (λ kind. is_taken_out k (removals_of_kind name old new kind)) (kinds_of old) (λ kind. kind_stays name k old new kind own there)

pub goes : (name : Labels) (k : Key) (old new : RecordSet) → list_all shows_its_key old ≡ true → TakesAll (removed_by (RemoveClass name in_class)) old → is_some (shown_at k old) ≡ true → shown_at k new ≡ None
    → is_taken_out k (removals name old new) ≡ true
goes name k old new own all there gone =
    any-flat_map (λ n. removed_by n k) (removals_of_kind name old new) (kinds_of old)
    ∙ any-kinds_of (λ kind. is_taken_out k (removals_of_kind name old new kind)) old
    ∙ any_shown (λ e. is_taken_out k (removals_of_kind name old new e.0.kind)) k old (λ x. kind_goes name k old new own (all k there) there gone) there
