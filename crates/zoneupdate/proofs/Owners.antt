-- Names that are one but for case, and the tests of keys that go by their owner.
--     Covers p name      the test holds of each key of this owner
use Rattle.std.proofs.Common.{◌≡◌, ℕ, Bool, true, refl, sym, ◌∙◌}
use Rattle.dnsname.specs.Names.{Labels, lower, same_name}
use Rattle.dnsname.proofs.Decisions.{same_name-Decides}
use Rattle.rrset.specs.Records.{key_of}
use Rattle.rrset.specs.RecordSet.{is_of_rrset}
use Rattle.rrset.specs.declared.record.Key.{Key}
use Rattle.rrset.specs.declared.record.Rr.{Rr}
use Rattle.rrset.proofs.LowerNames.{lower-twice}
use Rattle.zoneupdate.proofs.Filters.{same_truth, and-left}

-- ---- names that are one

pub same_lower : (a b : Labels) → same_name a b ≡ true → lower a ≡ lower b
same_lower a b e = (same_name-Decides a b).0 e

pub lower_same : (a b : Labels) → lower a ≡ lower b → same_name a b ≡ true
lower_same a b e = (same_name-Decides a b).1 e

pub same_name-itself : (a : Labels) → same_name a a ≡ true
same_name-itself a = lower_same a a refl

pub same_name-back : (a b : Labels) → same_name a b ≡ true → same_name b a ≡ true
same_name-back a b e = lower_same b a (sym (same_lower a b e))

pub same_name-on : (a b c : Labels) → same_name a b ≡ true → same_name b c ≡ true → same_name a c ≡ true
same_name-on a b c e f = lower_same a c (same_lower a b e ∙ same_lower b c f)

-- one of two names that are one may stand for the other
pub same_name-for : (a b c : Labels) → same_name a b ≡ true → same_name a c ≡ same_name b c
same_name-for a b c e = same_truth (same_name a c) (same_name b c) (λ f. same_name-on b a c (same_name-back a b e) f) (λ f. same_name-on a b c e f)

pub same_name-for_second : (c a b : Labels) → same_name a b ≡ true → same_name c a ≡ same_name c b
same_name-for_second c a b e = same_truth (same_name c a) (same_name c b) (λ f. same_name-on c a b f e) (λ f. same_name-on c b a f (same_name-back a b e))

pub same_name-lower : (name : Labels) → same_name name (lower name) ≡ true
same_name-lower name = lower_same name (lower name) (sym (lower-twice name))

-- ---- tests that hold of each key of an owner

abbrev pub Covers : (Key → Bool) → Labels → Type 0
Covers p name = (key : Key) → same_name name key.owner ≡ true → p key ≡ true

pub covers-key_of : (p : Key → Bool) (rr : Rr) → Covers p rr.owner → p (key_of rr) ≡ true
covers-key_of p rr covers = covers (key_of rr) (same_name-lower rr.owner)

pub of_rrset-owner : (name : Labels) (class kind : ℕ) (key : Key) → is_of_rrset name class kind key ≡ true → same_name name key.owner ≡ true
of_rrset-owner name class kind key e = and-left _ _ (and-left _ _ e)
