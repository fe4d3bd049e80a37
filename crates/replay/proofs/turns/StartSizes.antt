-- A new zone has two small records.
--     new_zone-small      the law
use Rattle.std.proofs.Common.{◌≡◌, ℕ, ◌+◌, ◌≤◌, Bool, true, false, cond, List, [], ◌∷◌, ◌++◌, length, ◌∙◌, ap, arith, length-append, append_assoc, codes}
use Rattle.std.specs.Int.{w32, to_be_bytes}
use Rattle.dnsname.specs.Names.{Labels, octets, labels_octets, same_name}
use Rattle.rrset.specs.Records.{key_of, shown_of, rr_size}
use Rattle.rrset.specs.RecordSet.{only, put, size_of}
use Rattle.rrset.specs.declared.record.Rr.{Rr}
use Rattle.rrset.specs.declared.record.Key.{Key}
use Rattle.rrset.proofs.Sizes.{size_of-only-put}
use Rattle.zoneupdate.specs.Zones.{new_zone, first_ns, first_soa}
use Rattle.replay.proofs.turns.ZoneSizes.{IsSmall}

-- ---- the two first records of a zone

-- what a label before a name adds
longer_size : (label : List ℕ) (name : Labels) → length (octets (label ∷ name)) ≡ 1 + (length label + length (octets name))
longer_size label name = ap length (append_assoc (length label ∷ label) (labels_octets name) (0 ∷ [])) ∙ length-append (length label ∷ label) (octets name) ∙ omega arith

ns_size : (apex : Labels) → length (first_ns apex).rdata ≡ length (octets apex) + 3
ns_size apex = longer_size (codes "ns") apex ∙ omega arith

three_size : (a b c : List ℕ) → length (a ++ b ++ c) ≡ length a + (length b + length c)
three_size a b c = simp length-append (omega arith)

soa_size : (apex : Labels) (serial : ℕ) → length (first_soa apex serial).rdata ≡ length (octets apex) + (length (octets apex) + 34)
soa_size apex serial =
    let numbers = to_be_bytes w32 serial ++ to_be_bytes w32 3600 ++ to_be_bytes w32 600 ++ to_be_bytes w32 86400 ++ to_be_bytes w32 60 in
    three_size (octets (codes "ns" ∷ apex)) (octets (codes "hostmaster" ∷ apex)) numbers ∙ sizes (length (octets apex)) _ _ (longer_size (codes "ns") apex) (longer_size (codes "hostmaster") apex)
  where
    sizes : (n m r : ℕ) → m ≡ 1 + (2 + n) → r ≡ 1 + (10 + n) → m + (r + 20) ≡ n + (n + 34)
    sizes n m r e f = omega arith

most : (b : Bool) (n : ℕ) → cond b n 0 ≤ n
most true n = omega arith
most false n = omega arith

-- a set of two records
two_size : (p : Key → Bool) (a b : Rr) → size_of (only p (put (key_of b) (shown_of b) (put (key_of a) (shown_of a) []))) ≤ rr_size a + rr_size b
two_size p a b = sum _ _ _ _ _ _ (size_of-only-put p (key_of b) (shown_of b) (put (key_of a) (shown_of a) [])) (size_of-only-put p (key_of a) (shown_of a) []) (most (p (key_of b)) (rr_size b)) (most (p (key_of a)) (rr_size a))
  where
    sum : (whole part x y m n : ℕ) → whole ≤ part + y → part ≤ 0 + x → y ≤ n → x ≤ m → whole ≤ m + n
    sum whole part x y m n h i j k = omega arith

pub new_zone-small : (apex : Labels) (serial : ℕ) (writable : Bool) → length (octets apex) ≤ 255 → IsSmall (new_zone apex serial writable).rows
new_zone-small apex serial writable few name =
    sum (length (octets apex)) _ _ _ few (two_size (λ key. same_name name key.owner) (first_soa apex serial) (first_ns apex)) (soa_size apex serial) (ns_size apex)
  where
    sum : (n whole soa ns : ℕ) → n ≤ 255 → whole ≤ n + 10 + soa + (n + 10 + ns) → soa ≡ n + (n + 34) → ns ≡ n + 3 → whole ≤ 60000
    sum n whole soa ns few h i j = omega arith
