-- What is written for a net is read back.
use Rattle.std.proofs.Common.{◌≡◌, ℕ, ◌<◌, ◌≤◌, ◌^◌, Bool, true, false, cond, not, List, [], ◌∷◌, ◌++◌, map, true≢false, sym, ap, subst, refl, arith, Ok}
use Rattle.std.specs.Prelude.{filter, flat_map, nat_lt, nat_le, ◌==◌, IsTrue}
use Rattle.std.specs.List.{list_all, AllByRecursion, dedup_from}
use Rattle.std.proofs.lemmas.Bool.{and_from, and_parts, leb-true}
use Rattle.std.proofs.lemmas.List.{append-nil}
use Rattle.push_base.specs.Cases.{is_empty}
use Rattle.push_base.specs.Limits.{max_octets_at_name}
use Rattle.dnsname.specs.Names.{Labels, is_name}
use Rattle.dnsname.proofs.Decisions.{is_name-Decides}
use Rattle.rrset.specs.Kinds.{in_class, any_kind, any_class}
use Rattle.rrset.specs.Records.{rr_of}
use Rattle.rrset.specs.RecordSet.{RecordSet, same_rows, size_of}
use Rattle.rrset.specs.declared.record.Key.{Key}
use Rattle.rrset.specs.declared.record.Shown.{Shown}
use Rattle.rrset.proofs.Places.{all_filter}
use Rattle.dsotlv.specs.Notices.{last_ttl, remove_one_ttl, remove_many_ttl, notices_of, notice_octets, push_record}
use Rattle.dsotlv.specs.Spelling.{SpellsPushRecord, SpellsNotice, SpellsPush, is_one_record}
use Rattle.dsotlv.specs.Spelling as spelling
use Rattle.dsotlv.specs.declared.message.Notice.{Notice}
use Rattle.dsotlv.specs.declared.message.Notice.TheVariants.{Add, RemoveSet, RemoveClass}
use Rattle.dsotlv.proofs.PushLaws.{push_read}
use Rattle.coalesce.specs.Net.{of_kind, kinds_of, is_missing, removals_of_kind, additions, added_or_changed, single_changes, all_anew, all_gone, owner_of, size_of_notices, net}
use Rattle.coalesce.specs.Laws.{is_sent_so, can_be_sent, NetIsReadBack}
use Rattle.coalesce.proofs.Removals.{remove_one}
use Rattle.coalesce.proofs.Sides.{Sent, sent, Side, side}
use Rattle.coalesce.proofs.NetSizes.{owner_has_name}

-- ---- lists

pub each-append : {X : Type 0} (P : X → Type 0) (xs ys : List X) → AllByRecursion P xs → AllByRecursion P ys → AllByRecursion P (xs ++ ys)
each-append P [] ys h g = g
each-append P (x ∷ xs) ys h g = (h.0, each-append P xs ys h.1 g)

each-dedup_from : (P : ℕ → Type 0) (k : ℕ) (xs : List ℕ) → P k → AllByRecursion P xs → AllByRecursion P (dedup_from (λ a b. a == b) k xs)
each-dedup_from P k [] one h = (one, tt)
each-dedup_from P k (x ∷ xs) one h = by (x == k) (each-dedup_from P k xs one h.1) (each-dedup_from P x xs h.0 h.1)
  where
    by : (b : Bool) → AllByRecursion P (dedup_from (λ a b. a == b) k xs) → AllByRecursion P (dedup_from (λ a b. a == b) x xs) → AllByRecursion P (cond b (dedup_from (λ a b. a == b) k xs) (k ∷ dedup_from (λ a b. a == b) x xs))
    by true kept later = kept
    by false kept later = (one, later)

-- ---- a notice that is written is spelled

abbrev pub IsWritten : Notice → Type 0
IsWritten n = SpellsNotice (notice_octets n) n

abbrev pub AreWritten : List Notice → Type 0
AreWritten ns = AllByRecursion IsWritten ns

record_spelled : (name : Labels) (e : Key × Shown) (ttl : ℕ) → Sent name e → ttl < 2 ^ 32
    → SpellsPushRecord (push_record e.1.owner e.0.kind e.0.class ttl e.1.rdata) (record { owner = e.1.owner; class = e.0.class; kind = e.0.kind; ttl = ttl; rdata = e.1.rdata })
record_spelled name e ttl is fits = record { owner = is.owner; kind = is.kind_fits; class = let one = is.class in omega (arith, one); ttl = fits; rdata = is.size; whole = refl }

one_record : (name : Labels) (e : Key × Shown) (ttl : ℕ) → Sent name e → IsTrue (is_one_record (record { owner = e.1.owner; class = e.0.class; kind = e.0.kind; ttl = ttl; rdata = e.1.rdata }))
one_record name e ttl is = and_from _ _ (and_from (not (e.0.kind == any_kind)) (not (e.0.class == any_class)) (ap not is.kind) (ap (λ c. not (c == any_class)) is.class)) is.shape

addition : (name : Labels) (e : Key × Shown) → Sent name e → e.1.ttl ≤ last_ttl → IsWritten (Add (rr_of e.0 e.1))
addition name e is low = spelling.SpellsNotice.add (rr_of e.0 e.1) (record_spelled name e e.1.ttl is (omega (arith, low))) low (one_record name e e.1.ttl is)

removal_of_one : (name : Labels) (e : Key × Shown) → Sent name e → IsWritten (remove_one e)
removal_of_one name e is = spelling.SpellsNotice.remove_one (record (rr_of e.0 e.1) { ttl = remove_one_ttl }) (record_spelled name e remove_one_ttl is (omega arith)) refl (one_record name e remove_one_ttl is)

-- a record without rdata
bare : (owner : Labels) (kind : ℕ) → IsTrue (is_name owner) → kind < 2 ^ 16
    → SpellsPushRecord (push_record owner kind in_class remove_many_ttl []) (record { owner = owner; class = in_class; kind = kind; ttl = remove_many_ttl; rdata = [] })
bare owner kind named fits = record { owner = named; kind = fits; class = omega arith; ttl = omega arith; rdata = omega arith; whole = refl }

-- a kind that can be written
abbrev IsKind : ℕ → Type 0
IsKind kind = (kind < 2 ^ 16) × ((kind == any_kind) ≡ false)

removal_of_set : (owner : Labels) (kind : ℕ) → IsTrue (is_name owner) → IsKind kind → IsWritten (RemoveSet owner in_class kind)
removal_of_set owner kind named is =
    spelling.SpellsNotice.remove_set (record { owner = owner; class = in_class; kind = kind; ttl = remove_many_ttl; rdata = [] }) (bare owner kind named is.0) refl refl (and_from (not (kind == any_kind)) (not (in_class == any_class)) (ap not is.1) refl)

removal_of_class : (owner : Labels) → IsTrue (is_name owner) → IsWritten (RemoveClass owner in_class)
removal_of_class owner named =
    spelling.SpellsNotice.remove_class (record { owner = owner; class = in_class; kind = any_kind; ttl = remove_many_ttl; rdata = [] }) (bare owner any_kind named (omega arith)) refl refl refl refl

-- ---- the parts of a net

-- records that can be added
abbrev pub CanBeAdded : Labels → Key × Shown → Type 0
CanBeAdded name e = Sent name e × (e.1.ttl ≤ last_ttl)

pub additions_written : (name : Labels) (set : RecordSet) → AllByRecursion (CanBeAdded name) set → AreWritten (additions set)
additions_written name [] h = tt
additions_written name (e ∷ es) h = (addition name e h.0.0 h.0.1, additions_written name es h.1)

ones_written : (name : Labels) (set : RecordSet) → AllByRecursion (Sent name) set → AreWritten (map remove_one set)
ones_written name [] h = tt
ones_written name (e ∷ es) h = (removal_of_one name e h.0, ones_written name es h.1)

kinds_are : (name : Labels) (set : RecordSet) → AllByRecursion (Sent name) set → AllByRecursion IsKind (kinds_of set)
kinds_are name [] h = tt
kinds_are name (e ∷ es) h = each-dedup_from IsKind e.0.kind (map (λ f. f.0.kind) es) (h.0.kind_fits, h.0.kind) (others es h.1)
  where
    others : (fs : RecordSet) → AllByRecursion (Sent name) fs → AllByRecursion IsKind (map (λ f. f.0.kind) fs)
    others [] h = tt
    others (f ∷ fs) h = ((h.0.kind_fits, h.0.kind), others fs h.1)

removals_written : (name owner : Labels) (old new : RecordSet) → AllByRecursion (Sent name) old → IsTrue (is_name owner) → (kinds : List ℕ) → AllByRecursion IsKind kinds
    → AreWritten (flat_map (removals_of_kind owner old new) kinds)
removals_written name owner old new h named [] is = tt
removals_written name owner old new h named (kind ∷ kinds) is =
    each-append IsWritten (removals_of_kind owner old new kind) (flat_map (removals_of_kind owner old new) kinds) (by (is_empty (of_kind kind new))) (removals_written name owner old new h named kinds is.1)
  where
    by : (b : Bool) → AreWritten (cond b (RemoveSet owner in_class kind ∷ []) (map remove_one (filter (is_missing new) (of_kind kind old))))
    by true = (removal_of_set owner kind named is.0, tt)
    by false = ones_written name (filter (is_missing new) (of_kind kind old)) (all_filter (Sent name) (is_missing new) (of_kind kind old) (all_filter (Sent name) (λ e. e.0.kind == kind) old h))

all_gone_written : (owner : Labels) (kinds : List ℕ) → IsTrue (is_name owner) → AllByRecursion IsKind kinds → AreWritten (all_gone owner kinds)
all_gone_written owner [] named is = (removal_of_class owner named, tt)
all_gone_written owner (kind ∷ []) named is = (removal_of_set owner kind named is.0, tt)
all_gone_written owner (kind ∷ other ∷ kinds) named is = (removal_of_class owner named, tt)

pub anew_written : (name owner : Labels) (new : RecordSet) → IsTrue (is_name owner) → AllByRecursion (CanBeAdded name) new → AreWritten (all_anew owner new)
anew_written name owner new named g = (removal_of_class owner named, additions_written name new g)

-- ---- the net

net_written : (name : Labels) (old new : RecordSet) → AllByRecursion (Sent name) old → AllByRecursion (CanBeAdded name) new → IsTrue (is_name (owner_of (old ++ new))) → AreWritten (net old new)
net_written name old new h g named = by (same_rows old new) (is_empty new) (nat_lt (size_of_notices (all_anew (owner_of (old ++ new)) new)) (size_of_notices (single_changes (owner_of (old ++ new)) old new)))
  where
    by : (a b c : Bool) → AreWritten (cond a [] (cond b (all_gone (owner_of (old ++ new)) (kinds_of old)) (cond c (all_anew (owner_of (old ++ new)) new) (single_changes (owner_of (old ++ new)) old new))))
    by true b c = tt
    by false true c = all_gone_written (owner_of (old ++ new)) (kinds_of old) named (kinds_are name old h)
    by false false true = anew_written name (owner_of (old ++ new)) new named g
    by false false false =
        each-append IsWritten (flat_map (removals_of_kind (owner_of (old ++ new)) old new) (kinds_of old)) (additions (added_or_changed old new))
        (removals_written name (owner_of (old ++ new)) old new h named (kinds_of old) (kinds_are name old h))
        (additions_written name (added_or_changed old new) (all_filter (CanBeAdded name) _ new g))

all_sent : (name : Labels) (set : RecordSet) → list_all (is_sent_so name) set ≡ true → AllByRecursion (Sent name) set
all_sent name [] h = tt
all_sent name (e ∷ es) h = let parts = and_parts (is_sent_so name e) (list_all (is_sent_so name) es) h in (sent name e parts.0, all_sent name es parts.1)

all_can_be_added : (name : Labels) (set : RecordSet) → AllByRecursion (Sent name) set → list_all (λ (e : Key × Shown). nat_le e.1.ttl last_ttl) set ≡ true → AllByRecursion (CanBeAdded name) set
all_can_be_added name [] h g = tt
all_can_be_added name (e ∷ es) h g =
    let parts = and_parts (nat_le e.1.ttl last_ttl) (list_all (λ (f : Key × Shown). nat_le f.1.ttl last_ttl) es) g in
    ((h.0, leb-true e.1.ttl last_ttl parts.0), all_can_be_added name es h.1 parts.1)

pub side_can_be_added : (name : Labels) (set : RecordSet) → Side name set → IsTrue (can_be_sent set) → AllByRecursion (CanBeAdded name) set
side_can_be_added name set is can = all_can_be_added name set (all_sent name set is.sent) (and_parts (list_all (λ (e : Key × Shown). nat_le e.1.ttl last_ttl) set) (nat_le (size_of set) max_octets_at_name) can).0

-- ---- reading

push_spelled : (n : Notice) (ns : List Notice) → IsWritten n → AreWritten ns → SpellsPush (flat_map notice_octets (n ∷ ns)) (n ∷ ns)
push_spelled n [] first rest = subst (λ (text : List ℕ). SpellsNotice text n) (sym (append-nil (notice_octets n))) first
push_spelled n (m ∷ ms) first rest = (notice_octets n, flat_map notice_octets (m ∷ ms), refl, first, push_spelled m ms rest.0 rest.1)

pub written_are_read_back : (ns : List Notice) → AreWritten ns → not (is_empty ns) ≡ true → notices_of (flat_map notice_octets ns) ≡ Ok ns
written_are_read_back [] h some = absurd (true≢false (sym some))
written_are_read_back (n ∷ ns) h some = push_read (flat_map notice_octets (n ∷ ns)) (n ∷ ns) (push_spelled n ns h.0 h.1)

pub net_is_written : (name : Labels) (old new : RecordSet) → Side name old → Side name new → IsTrue (can_be_sent new) → AreWritten (net old new)
net_is_written name old new before after can =
    net_written name old new (all_sent name old before.sent) (side_can_be_added name new after can) ((is_name-Decides (owner_of (old ++ new))).1 (owner_has_name name old new before after))

pub net_is_read_back : NetIsReadBack
net_is_read_back name old new h g can some = written_are_read_back (net old new) (net_is_written name old new (side name old h) (side name new g) can) some
