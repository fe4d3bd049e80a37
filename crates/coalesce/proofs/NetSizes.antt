-- How many octets notices, nets and messages take.
use Rattle.std.proofs.Common.{◌≡◌, ℕ, ◌+◌, ◌<◌, ◌≤◌, Bool, true, false, cond, List, [], ◌∷◌, ◌++◌, length, subst, ◌∙◌, ap, refl, arith}
use Rattle.std.specs.Prelude.{flat_map, nat_lt, nat_le}
use Rattle.std.specs.List.{list_all}
use Rattle.std.proofs.lemmas.Bool.{ltb-false, leb-true, and_parts}
use Rattle.std.proofs.lemmas.List.{length-append}
use Rattle.std.proofs.lemmas.Grind.{flat_map-append}
use Rattle.push_base.specs.Cases.{is_empty}
use Rattle.push_base.specs.Limits.{max_octets_at_name}
use Rattle.dnsname.specs.Names.{Labels, IsName, octets}
use Rattle.dnsname.proofs.Decisions.{is_name-Decides}
use Rattle.dnsname.proofs.Spellings.{IsName-lower}
use Rattle.rrset.specs.Kinds.{in_class, any_kind, any_class}
use Rattle.rrset.specs.Records.{key_of, rr_of, rr_size}
use Rattle.rrset.specs.RecordSet.{RecordSet, size_of, same_rows, shows_its_key}
use Rattle.rrset.specs.declared.record.Key.{Key}
use Rattle.rrset.specs.declared.record.Shown.{Shown}
use Rattle.rrset.proofs.SameRows.{same_key-same}
use Rattle.rrset.proofs.Sizes.{size_of-cons}
use Rattle.dsotlv.specs.Notices.{notice_octets, push_record, last_ttl, remove_one_ttl, remove_many_ttl}
use Rattle.dsotlv.specs.declared.message.Notice.{Notice}
use Rattle.dsotlv.specs.declared.message.Notice.TheVariants.{Add, RemoveOne, RemoveSet, RemoveClass, RemoveAll, Odd}
use Rattle.dsotlv.proofs.PushRecords.{length-record}
use Rattle.dsotlv.specs.Answers.{push_message}
use Rattle.coalesce.specs.Net.{additions, single_changes, all_anew, all_gone, owner_of, size_of_notices, net, kinds_of}
use Rattle.coalesce.specs.Laws.{is_sent_so, NetFitsOneMessage}
use Rattle.coalesce.proofs.Sides.{Sent, sent, Side, side}

-- ---- notices

pub length-push_record : (owner : Labels) (kind class ttl : ℕ) (rdata : List ℕ) → length (push_record owner kind class ttl rdata) ≡ length (octets owner) + 10 + length rdata
length-push_record owner kind class ttl rdata = length-record (record { owner = owner; class = class; kind = kind; ttl = ttl; rdata = rdata })

-- a notice takes some octets
pub notice-takes : (n : Notice) → 0 < length (notice_octets n)
notice-takes (Add rr) = omega (arith, length-push_record rr.owner rr.kind rr.class rr.ttl rr.rdata)
notice-takes (RemoveOne rr) = omega (arith, length-push_record rr.owner rr.kind rr.class remove_one_ttl rr.rdata)
notice-takes (RemoveSet name class kind) = omega (arith, length-push_record name kind class remove_many_ttl [])
notice-takes (RemoveClass name class) = omega (arith, length-push_record name any_kind class remove_many_ttl [])
notice-takes (RemoveAll name) = omega (arith, length-push_record name 0 any_class remove_many_ttl [])
notice-takes (Odd name ttl) = omega (arith, length-push_record name 0 0 ttl [])

pub size_of_notices-append : (xs ys : List Notice) → size_of_notices (xs ++ ys) ≡ size_of_notices xs + size_of_notices ys
size_of_notices-append xs ys = ap (λ (os : List ℕ). length os) (flat_map-append notice_octets xs ys) ∙ length-append (flat_map notice_octets xs) (flat_map notice_octets ys)

pub size_of_notices-cons : (n : Notice) (ns : List Notice) → size_of_notices (n ∷ ns) ≡ length (notice_octets n) + size_of_notices ns
size_of_notices-cons n ns = length-append (notice_octets n) (flat_map notice_octets ns)

pub net-takes : (n : Notice) (ns : List Notice) → 0 < size_of_notices (n ∷ ns)
net-takes n ns = omega (arith, size_of_notices-cons n ns, notice-takes n)

pub length-push_message : (notices : List Notice) → length (push_message notices) ≡ 16 + size_of_notices notices
length-push_message notices = omega arith

-- additions take as many octets as their records
pub size_of-additions : (set : RecordSet) → size_of_notices (additions set) ≡ size_of set
size_of-additions [] = refl
size_of-additions (e ∷ es) =
    size_of_notices-cons (Add (rr_of e.0 e.1)) (additions es)
    ∙ ap (λ n. n + size_of_notices (additions es)) (length-push_record e.1.owner e.0.kind e.0.class e.1.ttl e.1.rdata)
    ∙ ap (λ n. rr_size (rr_of e.0 e.1) + n) (size_of-additions es)
    ∙ sym_cons
  where
    sym_cons : rr_size (rr_of e.0 e.1) + size_of es ≡ size_of (e ∷ es)
    sym_cons = let whole = size_of-cons e es in omega (arith, whole)

-- the removal of a kind or of a class
size_of-removal : (name : Labels) (kind class : ℕ) (n : Notice) (ns : List Notice) → notice_octets n ≡ push_record name kind class remove_many_ttl [] → size_of_notices (n ∷ ns) ≡ length (octets name) + 10 + size_of_notices ns
size_of-removal name kind class n ns is = omega (arith, size_of_notices-cons n ns, ap (λ (os : List ℕ). length os) is, length-push_record name kind class remove_many_ttl [])

pub size_of-all_anew : (name : Labels) (new : RecordSet) → size_of_notices (all_anew name new) ≡ length (octets name) + 10 + size_of new
size_of-all_anew name new = omega (arith, size_of-removal name any_kind in_class (RemoveClass name in_class) (additions new) refl, size_of-additions new)

size_of-all_gone : (name : Labels) (kinds : List ℕ) → size_of_notices (all_gone name kinds) ≡ length (octets name) + 10 + 0
size_of-all_gone name [] = size_of-removal name any_kind in_class (RemoveClass name in_class) [] refl
size_of-all_gone name (kind ∷ []) = size_of-removal name kind in_class (RemoveSet name in_class kind) [] refl
size_of-all_gone name (kind ∷ other ∷ kinds) = size_of-removal name any_kind in_class (RemoveClass name in_class) [] refl

-- A net takes at most the owner's octets, ten more, and those of the new records.
pub size_of-net : (old new : RecordSet) → size_of_notices (net old new) ≤ length (octets (owner_of (old ++ new))) + 10 + size_of new
size_of-net old new = by (same_rows old new) (is_empty new) (nat_lt (size_of_notices (all_anew (owner_of (old ++ new)) new)) (size_of_notices (single_changes (owner_of (old ++ new)) old new))) refl
  where
    by : (a b c : Bool) → nat_lt (size_of_notices (all_anew (owner_of (old ++ new)) new)) (size_of_notices (single_changes (owner_of (old ++ new)) old new)) ≡ c
        → size_of_notices (cond a [] (cond b (all_gone (owner_of (old ++ new)) (kinds_of old)) (cond c (all_anew (owner_of (old ++ new)) new) (single_changes (owner_of (old ++ new)) old new)))) ≤ length (octets (owner_of (old ++ new))) + 10 + size_of new
    by true b c e = omega arith
    by false true c e = omega (arith, size_of-all_gone (owner_of (old ++ new)) (kinds_of old))
    by false false true e = omega (arith, size_of-all_anew (owner_of (old ++ new)) new)
    by false false false e =
        let whole = size_of-all_anew (owner_of (old ++ new)) new in
        let less = ltb-false (size_of_notices (all_anew (owner_of (old ++ new)) new)) (size_of_notices (single_changes (owner_of (old ++ new)) old new)) e in
        omega (arith, whole, less)

-- ---- the owner

-- the key of a record that is sent has a name
key_has_name : (name : Labels) (e : Key × Shown) → shows_its_key e ≡ true → Sent name e → IsName e.0.owner
key_has_name name e own is = subst IsName (ap (λ (k : Key). k.owner) (same_key-same (key_of (rr_of e.0 e.1)) e.0 own)) (IsName-lower e.1.owner ((is_name-Decides e.1.owner).0 is.owner))

first_has_name : (name : Labels) (e : Key × Shown) (es : RecordSet) → Side name (e ∷ es) → IsName e.0.owner
first_has_name name e es is = key_has_name name e (and_parts (shows_its_key e) (list_all shows_its_key es) is.own).0 (sent name e (and_parts (is_sent_so name e) (list_all (is_sent_so name) es) is.sent).0)

pub owner_has_name : (name : Labels) (old new : RecordSet) → Side name old → Side name new → IsName (owner_of (old ++ new))
owner_has_name name (e ∷ es) new h g = first_has_name name e es h
owner_has_name name [] (e ∷ es) h g = first_has_name name e es g
owner_has_name name [] [] h g = record { labels = tt; size = omega arith }

-- ---- one net alone

pub net_fits_one_message : NetFitsOneMessage
net_fits_one_message name old new h g can =
    let parts = and_parts (list_all (λ (e : Key × Shown). nat_le e.1.ttl last_ttl) new) (nat_le (size_of new) max_octets_at_name) can in
    let size : size_of new ≤ max_octets_at_name = leb-true (size_of new) max_octets_at_name parts.1 in
    let owner = (owner_has_name name old new (side name old h) (side name new g)).size in
    omega (arith, size, owner, size_of-net old new, length-push_message (net old new))
