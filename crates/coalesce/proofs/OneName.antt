-- The notices of a net speak of its name.
use Rattle.std.proofs.Common.{◌≡◌, ℕ, Bool, true, false, cond, ◌&&◌, List, [], ◌∷◌, ◌++◌, map, true≢false, sym, ◌∙◌, ap, refl}
use Rattle.std.specs.Prelude.{filter, flat_map, nat_lt, ◌==◌}
use Rattle.std.specs.List.{list_all}
use Rattle.std.proofs.lemmas.Bool.{and_from, and_parts}
use Rattle.push_base.specs.Cases.{is_empty}
use Rattle.dnsname.specs.Names.{Labels, same_name}
use Rattle.rrset.specs.Kinds.{in_class}
use Rattle.rrset.specs.Records.{key_of, rr_of}
use Rattle.rrset.specs.RecordSet.{RecordSet, shows_its_key, same_rows}
use Rattle.rrset.specs.declared.record.Key.{Key}
use Rattle.rrset.specs.declared.record.Shown.{Shown}
use Rattle.rrset.proofs.SameRows.{same_key-same}
use Rattle.dsotlv.specs.declared.message.Notice.TheVariants.{RemoveSet}
use Rattle.coalesce.specs.Net.{of_kind, kinds_of, is_missing, removals_of_kind, additions, added_or_changed, single_changes, all_anew, all_gone, owner_of, size_of_notices, net}
use Rattle.coalesce.specs.Laws.{speaks_of, NetSpeaksOfItsName}
use Rattle.coalesce.proofs.Filters.{all-filter}
use Rattle.coalesce.proofs.KindsOf.{all-append, all-flat_map}
use Rattle.coalesce.proofs.SameNames.{same_name-lower}
use Rattle.coalesce.proofs.Removals.{remove_one}
use Rattle.coalesce.proofs.Leads.{is_of}
use Rattle.coalesce.proofs.Sides.{side, side-of}

first_same : (name : Labels) (e : Key × Shown) (es : RecordSet) → list_all (is_of name) (e ∷ es) ≡ true → same_name name e.0.owner ≡ true
first_same name e es h = (and_parts _ _ (and_parts (is_of name e) (list_all (is_of name) es) h).0).0

owner_same : (name : Labels) (old new : RecordSet) → list_all (is_of name) old ≡ true → list_all (is_of name) new ≡ true → same_rows old new ≡ false → same_name name (owner_of (old ++ new)) ≡ true
owner_same name (e ∷ es) new h g differ = first_same name e es h
owner_same name [] (e ∷ es) h g differ = first_same name e es g
owner_same name [] [] h g differ = absurd (true≢false differ)

-- a record of the name that shows its key
abbrev pub is_own : Labels → Key × Shown → Bool
is_own name e = shows_its_key e && is_of name e

all_own : (name : Labels) (set : RecordSet) → list_all shows_its_key set ≡ true → list_all (is_of name) set ≡ true → list_all (is_own name) set ≡ true
all_own name [] own named = refl
all_own name (e ∷ es) own named =
    let keys = and_parts (shows_its_key e) (list_all shows_its_key es) own in
    let names = and_parts (is_of name e) (list_all (is_of name) es) named in
    and_from _ _ (and_from _ _ keys.0 names.0) (all_own name es keys.1 names.1)

-- what is shown of a record has the name of its key
shown_name : (name : Labels) (e : Key × Shown) → is_own name e ≡ true → same_name name e.1.owner ≡ true
shown_name name e h =
    let parts = and_parts (shows_its_key e) (is_of name e) h in
    sym (same_name-lower name e.1.owner) ∙ ap (λ k. same_name name k.owner) (same_key-same (key_of (rr_of e.0 e.1)) e.0 parts.0) ∙ (and_parts _ _ parts.1).0

pub additions_speak : (name : Labels) (set : RecordSet) → list_all (is_own name) set ≡ true → list_all (speaks_of name) (additions set) ≡ true
additions_speak name [] own = refl
additions_speak name (e ∷ es) own = let parts = and_parts (is_own name e) (list_all (is_own name) es) own in and_from _ _ (shown_name name e parts.0) (additions_speak name es parts.1)

ones_speak : (name : Labels) (set : RecordSet) → list_all (is_own name) set ≡ true → list_all (speaks_of name) (map remove_one set) ≡ true
ones_speak name [] own = refl
ones_speak name (e ∷ es) own = let parts = and_parts (is_own name e) (list_all (is_own name) es) own in and_from _ _ (shown_name name e parts.0) (ones_speak name es parts.1)

removals_speak : (name owner : Labels) (old new : RecordSet) → list_all (is_own name) old ≡ true → same_name name owner ≡ true → (kind : ℕ) → list_all (speaks_of name) (removals_of_kind owner old new kind) ≡ true
removals_speak name owner old new own same kind = by (is_empty (of_kind kind new))
  where
    by : (b : Bool) → list_all (speaks_of name) (cond b (RemoveSet owner in_class kind ∷ []) (map remove_one (filter (is_missing new) (of_kind kind old)))) ≡ true
    by true = and_from _ _ same refl
    by false = ones_speak name (filter (is_missing new) (of_kind kind old)) (all-filter (is_own name) (is_missing new) (of_kind kind old) (all-filter (is_own name) (λ e. e.0.kind == kind) old own))

all_gone_speaks : (name owner : Labels) (kinds : List ℕ) → same_name name owner ≡ true → list_all (speaks_of name) (all_gone owner kinds) ≡ true
all_gone_speaks name owner [] same = and_from _ _ same refl
all_gone_speaks name owner (kind ∷ []) same = and_from _ _ same refl
all_gone_speaks name owner (kind ∷ other ∷ kinds) same = and_from _ _ same refl

net_speaks : (name : Labels) (old new : RecordSet) → list_all (is_own name) old ≡ true → list_all (is_own name) new ≡ true → (same_rows old new ≡ false → same_name name (owner_of (old ++ new)) ≡ true)
    → list_all (speaks_of name) (net old new) ≡ true
net_speaks name old new own_old own_new same =
    by (same_rows old new) refl (is_empty new) (nat_lt (size_of_notices (all_anew (owner_of (old ++ new)) new)) (size_of_notices (single_changes (owner_of (old ++ new)) old new)))
  where
    by : (a : Bool) → same_rows old new ≡ a → (b c : Bool)
        → list_all (speaks_of name) (cond a [] (cond b (all_gone (owner_of (old ++ new)) (kinds_of old)) (cond c (all_anew (owner_of (old ++ new)) new) (single_changes (owner_of (old ++ new)) old new)))) ≡ true
    by true e b c = refl
    by false e true c = all_gone_speaks name (owner_of (old ++ new)) (kinds_of old) (same e)
    by false e false true = and_from _ _ (same e) (additions_speak name new own_new)
    by false e false false =
        all-append (speaks_of name) (flat_map (removals_of_kind (owner_of (old ++ new)) old new) (kinds_of old)) (additions (added_or_changed old new))
        (all-flat_map (speaks_of name) (removals_of_kind (owner_of (old ++ new)) old new) (kinds_of old) (removals_speak name (owner_of (old ++ new)) old new own_old (same e)))
        (additions_speak name (added_or_changed old new) (all-filter (is_own name) _ new own_new))

pub net_speaks_of_its_name : NetSpeaksOfItsName
net_speaks_of_its_name name old new h g =
    let before = side name old h in
    let after = side name new g in
    let named_old = side-of name old before in
    let named_new = side-of name new after in
    net_speaks name old new (all_own name old before.own named_old) (all_own name new after.own named_new) (owner_same name old new named_old named_new)
