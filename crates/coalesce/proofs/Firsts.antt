-- The frame of what follows an answer to a SUBSCRIBE, as it is written: length and head, the removal of all records of the
-- name in lower case, and the additions.
use Rattle.std.proofs.Common.{◌≡◌, ◌≢◌, ℕ, ◌+◌, ◌-◌, ◌<◌, ◌≤◌, Bool, List, [], ◌∷◌, ◌++◌, map, length, append_assoc, sym, subst, ap, ◌∙◌, arith}
use Rattle.std.specs.Prelude.{flat_map, nat_le, IsTrue}
use Rattle.std.specs.Char.{to_ascii_lowercase}
use Rattle.std.specs.Int.{w16, w32, to_be_bytes}
use Rattle.std.specs.List.{list_all}
use Rattle.std.proofs.lemmas.Bool.{and_parts, leb-true}
use Rattle.std.proofs.lemmas.List.{length-append, length-map}
use Rattle.push_base.specs.Limits.{max_octets_at_name}
use Rattle.dnsname.specs.Names.{Labels, IsName, octets, lower}
use Rattle.dnsname.proofs.Spellings.{octets-lower}
use Rattle.dnsname.proofs.Endings.{length-lower}
use Rattle.rrset.specs.Kinds.{in_class, any_kind}
use Rattle.rrset.specs.RecordSet.{RecordSet, only, size_of}
use Rattle.rrset.specs.Tables.{counted}
use Rattle.rrset.specs.declared.record.Key.{Key}
use Rattle.rrset.specs.declared.record.Shown.{Shown}
use Rattle.dsotlv.specs.Notices.{notice_octets, push_record, last_ttl, remove_many_ttl}
use Rattle.dsotlv.specs.declared.message.Notice.{Notice}
use Rattle.dsotlv.specs.declared.message.Notice.TheVariants.{RemoveClass}
use Rattle.coalesce.specs.Laws.{can_be_sent}
use Rattle.coalesce.specs.Net.{additions, all_anew, size_of_notices, push_frame, max_net_frame, max_net_size}
use Rattle.coalesce.specs.Sides.{IsOneSide, frame_octets}
use Rattle.coalesce.specs.Steps.{behind_owner, head_of}
use Rattle.coalesce.proofs.NetSizes.{length-push_record, size_of_notices-cons, size_of-additions, size_of-all_anew, net-takes}
use Rattle.coalesce.proofs.Sides.{parts_stay_sides}
use Rattle.coalesce.proofs.Forms.{length-head}
use Rattle.coalesce.proofs.Pushing.{push_frame-is}

-- a part of records that can be sent
pub part_can_be_sent : (p : Key → Bool) (rows part : RecordSet) → IsOneSide rows → IsTrue (can_be_sent rows) → part ≡ only p rows → IsTrue (can_be_sent part)
part_can_be_sent p rows part (name, one) can is = subst (λ set. IsTrue (can_be_sent set)) (sym is) ((parts_stay_sides name p rows one).1 can)

-- ---- the removal

pub name_room : (name : Labels) (out text : List ℕ) → text ≡ octets name → length out + length (notice_octets (RemoveClass (lower name) in_class)) ≤ frame_octets → length out + length text ≤ frame_octets
name_room name out text is room =
    let whole = length-push_record (lower name) any_kind in_class remove_many_ttl [] in
    let low = length-lower name in
    let size = ap (λ (l : List ℕ). length l) is in
    omega (arith, whole, low, size, room)

pub fields_room : (name : Labels) (out now text : List ℕ) → text ≡ octets name → now ≡ out ++ map to_ascii_lowercase text
    → length out + length (notice_octets (RemoveClass (lower name) in_class)) ≤ frame_octets → length now + length (behind_owner any_kind in_class remove_many_ttl []) ≤ frame_octets
fields_room name out now text is now-is room =
    let whole = length-push_record (lower name) any_kind in_class remove_many_ttl [] in
    let low = length-lower name in
    let size = ap (λ (l : List ℕ). length l) is in
    let sum = ap (λ (l : List ℕ). length l) now-is ∙ length-append out (map to_ascii_lowercase text) in
    let same = length-map text to_ascii_lowercase in
    omega (arith, whole, low, size, sum, same, room)

split : (o a b c d e : List ℕ) → o ++ (a ++ b ++ c ++ d ++ e) ≡ o ++ a ++ b ++ c ++ d ++ e
split o a b c d e =
    sym (append_assoc o (a ++ b ++ c ++ d) e)
    ∙ ap (λ l. l ++ e) (sym (append_assoc o (a ++ b ++ c) d) ∙ ap (λ l. l ++ d) (sym (append_assoc o (a ++ b) c) ∙ ap (λ l. l ++ c) (sym (append_assoc o a b))))

-- a record is its owner, and what stands behind it
record_is : (owner : Labels) (kind class ttl : ℕ) (rdata : List ℕ) → octets owner ++ behind_owner kind class ttl rdata ≡ push_record owner kind class ttl rdata
record_is owner kind class ttl rdata = split (octets owner) (to_be_bytes w16 kind) (to_be_bytes w16 class) (to_be_bytes w32 ttl) (to_be_bytes w16 (length rdata)) rdata

pub removal_appended : (name : Labels) (out now last text : List ℕ) → IsName name → text ≡ octets name → now ≡ out ++ map to_ascii_lowercase text
    → last ≡ now ++ behind_owner any_kind in_class remove_many_ttl [] → last ≡ out ++ notice_octets (RemoveClass (lower name) in_class)
removal_appended name out now last text named is now-is last-is =
    last-is
    ∙ ap (λ l. l ++ behind_owner any_kind in_class remove_many_ttl []) (now-is ∙ ap (λ l. out ++ l) (ap (map to_ascii_lowercase) is ∙ octets-lower name named.labels))
    ∙ append_assoc out (octets (lower name)) (behind_owner any_kind in_class remove_many_ttl [])
    ∙ ap (λ l. out ++ l) (record_is (lower name) any_kind in_class remove_many_ttl [])

-- ---- sizes

-- so many octets are those of the notices, which go into one message
pub record IsCounted (ns : List Notice) (size : ℕ) : Type 0 where
  pub is : size ≡ size_of_notices ns
  pub most : size ≤ max_net_size

pub records_counted : (records : RecordSet) (all : ℕ) → IsTrue (can_be_sent records) → all ≡ counted (size_of_notices (additions records)) → (all ≡ size_of_notices (additions records)) × (all ≤ 60000)
records_counted records all can is =
    let parts = and_parts (list_all (λ (e : Key × Shown). nat_le e.1.ttl last_ttl) records) (nat_le (size_of records) max_octets_at_name) can in
    let most : size_of records ≤ max_octets_at_name = leb-true (size_of records) max_octets_at_name parts.1 in
    let size = size_of-additions records in
    (omega (arith, is, size, most), omega (arith, is, size, most))

pub additions_counted : (records : RecordSet) (all : ℕ) → IsTrue (can_be_sent records) → all ≡ counted (size_of_notices (additions records)) → IsCounted (additions records) all
additions_counted records all can is = let small = records_counted records all can is in record { is = small.0; most = omega (arith, small.1) }

pub anew_counted : (name : Labels) (records : RecordSet) (first all : ℕ) → IsTrue (can_be_sent records) → first ≡ length (octets name) + 10 + 0 → first ≤ 265 + 0
    → all ≡ counted (size_of_notices (additions records)) → IsCounted (all_anew (lower name) records) (first + all)
anew_counted name records first all can first-is short all-is =
    let small = records_counted records all can all-is in
    let whole = size_of-all_anew (lower name) records in
    let low = length-lower name in
    let size = size_of-additions records in
    record { is = omega (arith, whole, low, size, small.0, first-is); most = omega (arith, short, small.1) }

-- ---- the frame

pub message_fits : (ns : List Notice) (size : ℕ) → IsCounted ns size → 16 + size < 65536
message_fits ns size is = omega (arith, is.most)

-- behind the head there is room for the notices
pub notices_room : (ns : List Notice) (out head : List ℕ) (size : ℕ) → IsCounted ns size → max_net_frame ≤ frame_octets - length out → head ≡ out ++ head_of size → length head + size_of_notices ns ≤ frame_octets
notices_room ns out head size is room head-is =
    let sum = ap (λ (l : List ℕ). length l) head-is ∙ length-append out (head_of size) in
    omega (arith, sum, is.is, is.most, room)

-- for the first of them, and behind it for the others
pub first_room : (n : Notice) (ns : List Notice) (head : List ℕ) → length head + size_of_notices (n ∷ ns) ≤ frame_octets → length head + length (notice_octets n) ≤ frame_octets
first_room n ns head room = let split = size_of_notices-cons n ns in omega (arith, split, room)

pub others_room : (n : Notice) (ns : List Notice) (head now : List ℕ) → length head + size_of_notices (n ∷ ns) ≤ frame_octets → now ≡ head ++ notice_octets n → length now + size_of_notices ns ≤ frame_octets
others_room n ns head now room is =
    let split = size_of_notices-cons n ns in
    let sum = ap (λ (l : List ℕ). length l) is ∙ length-append head (notice_octets n) in
    omega (arith, split, sum, room)

pub both_appended : (n : Notice) (ns : List Notice) (head now last : List ℕ) → now ≡ head ++ notice_octets n → last ≡ now ++ flat_map notice_octets ns → last ≡ head ++ flat_map notice_octets (n ∷ ns)
both_appended n ns head now last now-is last-is =
    last-is ∙ ap (λ l. l ++ flat_map notice_octets ns) now-is ∙ append_assoc head (notice_octets n) (flat_map notice_octets ns)

pub some_counted : (n : Notice) (ns : List Notice) (size : ℕ) → IsCounted (n ∷ ns) size → size ≢ 0
some_counted n ns size is none = omega (arith, is.is, none, net-takes n ns)

pub frame_written : (ns : List Notice) (out head last : List ℕ) (size : ℕ) → IsCounted ns size → size ≢ 0 → head ≡ out ++ head_of size → last ≡ head ++ flat_map notice_octets ns → last ≡ out ++ push_frame ns
frame_written ns out head last size is some head-is last-is =
    last-is
    ∙ ap (λ l. l ++ flat_map notice_octets ns) head-is
    ∙ append_assoc out (head_of size) (flat_map notice_octets ns)
    ∙ ap (λ l. out ++ l) (sym (push_frame-is ns size is.is some))

pub frame_size : (ns : List Notice) (size : ℕ) → IsCounted ns size → size ≢ 0 → 18 + size ≡ length (push_frame ns)
frame_size ns size is some =
    ap (λ n. 18 + n) is.is
    ∙ sym (length-head size (flat_map notice_octets ns))
    ∙ sym (ap (λ (l : List ℕ). length l) (push_frame-is ns size is.is some))
