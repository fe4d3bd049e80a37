-- The sets that prerequisites of class IN name are those of the table of what they ask for, each of which is compared once.
use Rattle.std.proofs.Common.{◌≡◌, ℕ, ◌+◌, ◌<◌, Bool, true, false, cond, not, ◌&&◌, ◌||◌, ◌==◌, List, [], ◌∷◌, map, filter, fold, length, get_or, drop, Option, Some, None, Ordering, Less, Equal, Greater, refl, sym, ap, ◌∙◌}
use Rattle.std.specs.List.{list_all}
use Rattle.std.specs.FinMap.Entries.{by_order}
use Rattle.dnsname.specs.Names.{Labels, same_name}
use Rattle.rrset.specs.Kinds.{in_class}
use Rattle.rrset.specs.Records.{key_cmp, key_of, shown_of}
use Rattle.rrset.specs.RecordSet.{RecordSet, put, put_rr, set_of, same_keys, is_of_rrset}
use Rattle.rrset.specs.declared.record.Rr.{Rr}
use Rattle.rrset.specs.declared.record.Key.{Key}
use Rattle.rrset.specs.declared.record.Shown.{Shown}
use Rattle.rrset.proofs.KeyOrder.{key_cmp-IsAntisymmetric}
use Rattle.zoneupdate.specs.Zones.{set_at}
use Rattle.zoneupdate.specs.Checking.{is_in, has_same_set, IsOfSameSet, LastAgrees}
use Rattle.zoneupdate.specs.Updates.{with_counted_ttl, set_wanted, sets_agree}
use Rattle.zoneupdate.proofs.Filters.{filter_same}
use Rattle.zoneupdate.proofs.KindSets.{wanted-set}
use Rattle.zoneupdate.proofs.Owners.{same_name-for, same_name-back, same_name-lower}

-- ---- sets of keys with one owner and kind

pub set_at-same : (a b : Labels) (kind : ℕ) (rows : RecordSet) → same_name a b ≡ true → set_at a kind rows ≡ set_at b kind rows
set_at-same a b kind rows same =
    filter_same (λ e. is_of_rrset a in_class kind e.0) (λ e. is_of_rrset b in_class kind e.0) (λ e. ap (λ t. (t && in_class == e.0.class) && kind == e.0.kind) (same_name-for a b e.0.owner same)) rows

abbrev pub have_same : RecordSet → RecordSet → Labels → ℕ → Bool
have_same wanted rows owner kind = same_keys (set_at owner kind wanted) (set_at owner kind rows)

have_same-for : (wanted rows : RecordSet) (a b : Labels) (kind : ℕ) → same_name a b ≡ true → have_same wanted rows a kind ≡ have_same wanted rows b kind
have_same-for wanted rows a b kind same = λ i. same_keys (set_at-same a b kind wanted same i) (set_at-same a b kind rows same i)

pub same_set : (wanted rows : RecordSet) (last key : Key) → last.kind ≡ key.kind → same_name last.owner key.owner ≡ true → has_same_set wanted rows last ≡ has_same_set wanted rows key
same_set wanted rows last key kind owner = have_same-for wanted rows last.owner key.owner last.kind owner ∙ ap (have_same wanted rows key.owner) kind

pub agrees-behind : (wanted rows last : RecordSet) (key : Key) → IsOfSameSet last key → LastAgrees wanted rows last → has_same_set wanted rows key ≡ true
agrees-behind wanted rows [] key of agrees = absurd of
agrees-behind wanted rows (e ∷ es) key of agrees = sym (same_set wanted rows e.0 key of.0 of.1) ∙ agrees

-- ---- what holds of all keys of a table

swap : (a b c : Bool) → (a && (b && c)) ≡ (b && (a && c))
swap true b c = refl
swap false true c = refl
swap false false c = refl

twice : (a c : Bool) → (a && c) ≡ (a && (a && c))
twice true c = refl
twice false c = refl

all-put : (p : Key → Bool) (key : Key) (shown : Shown) (set : RecordSet) → list_all (λ e. p e.0) (put key shown set) ≡ (p key && list_all (λ e. p e.0) set)
all-put p key shown [] = refl
all-put p key shown (e ∷ es) = by (key_cmp key e.0) refl (all-put p key shown es)
  where
    by : (o : Ordering) → key_cmp key e.0 ≡ o → list_all (λ e. p e.0) (put key shown es) ≡ (p key && list_all (λ e. p e.0) es)
        → list_all (λ e. p e.0) (by_order o ((key, shown) ∷ e ∷ es) ((e.0, shown) ∷ es) (e ∷ put key shown es)) ≡ (p key && (p e.0 && list_all (λ e. p e.0) es))
    by Less is rest = refl
    by Equal is rest = twice (p e.0) (list_all (λ e. p e.0) es) ∙ ap (λ (k : Key). p k && (p e.0 && list_all (λ e. p e.0) es)) (sym (key_cmp-IsAntisymmetric key e.0 is))
    by Greater is rest = ap (λ b. p e.0 && b) rest ∙ swap (p e.0) (p key) (list_all (λ e. p e.0) es)

all-put_rrs : (p : Key → Bool) (set : RecordSet) (rrs : List Rr) → list_all (λ e. p e.0) (fold put_rr set rrs) ≡ (list_all (λ e. p e.0) set && list_all (λ rr. p (key_of rr)) rrs)
all-put_rrs p set [] = by (list_all (λ e. p e.0) set)
  where
    by : (b : Bool) → b ≡ (b && true)
    by true = refl
    by false = refl
all-put_rrs p set (rr ∷ rrs) =
    all-put_rrs p (put_rr set rr) rrs
    ∙ ap (λ b. b && list_all (λ rr. p (key_of rr)) rrs) (all-put p (key_of rr) (shown_of rr) set)
    ∙ by (p (key_of rr)) (list_all (λ e. p e.0) set) (list_all (λ rr. p (key_of rr)) rrs)
  where
    by : (a b c : Bool) → ((a && b) && c) ≡ (b && (a && c))
    by true b c = refl
    by false true c = refl
    by false false c = refl

-- ---- the prerequisites

all-filtered : (p f g : Rr → Bool) → ((rr : Rr) → f rr ≡ g rr) → (rrs : List Rr) → list_all f (filter p rrs) ≡ list_all (λ rr. not (p rr) || g rr) rrs
all-filtered p f g same [] = refl
all-filtered p f g same (rr ∷ rrs) = by (p rr) (all-filtered p f g same rrs)
  where
    by : (b : Bool) → list_all f (filter p rrs) ≡ list_all (λ rr. not (p rr) || g rr) rrs
        → list_all f (cond b (rr ∷ filter p rrs) (filter p rrs)) ≡ ((not b || g rr) && list_all (λ rr. not (p rr) || g rr) rrs)
    by true rest = λ i. same rr i && rest i
    by false rest = rest

-- all sets of what prerequisites ask for are those of the zone where each prerequisite's is
pub all-agree : (prereqs : List Rr) (rows : RecordSet)
    → list_all (λ e. has_same_set (set_of (filter is_in (map with_counted_ttl prereqs))) rows e.0) (set_of (filter is_in (map with_counted_ttl prereqs))) ≡ sets_agree (map with_counted_ttl prereqs) rows
all-agree prereqs rows =
    let counted : List Rr = map with_counted_ttl prereqs in
    let wanted : RecordSet = set_of (filter is_in counted) in
    all-put_rrs (has_same_set wanted rows) [] (filter is_in counted)
    ∙ all-filtered is_in (λ rr. has_same_set wanted rows (key_of rr)) (λ rr. same_keys (set_wanted counted rr) (set_at rr.owner rr.kind rows))
    (λ rr. sym (have_same-for wanted rows rr.owner (key_of rr).owner rr.kind (same_name-lower rr.owner))
    ∙ ap (λ (set : RecordSet). same_keys set (set_at rr.owner rr.kind rows)) (wanted-set counted rr)) counted
