-- No owner lies under a reverse domain, and in the link or under its domain.
use Rattle.std.proofs.Common.{◌≡◌, ◌≤◌, Bool, true, false, ◌||◌, List, [], ◌∷◌, length, refl, ap, ◌∙◌, arith}
use Rattle.std.specs.Prelude.{codes}
use Rattle.std.specs.List.{list_any}
use Rattle.dnsname.specs.Names.{Labels, ends_in, lower}
use Rattle.dnsname.proofs.Suffixes.{ends_in-longer, ends_in-through, not-both}
use Rattle.linkmap.specs.Translation.{local}
use Rattle.linkmap.proofs.Suffixes.{ends-as}
use Rattle.reversemap.specs.Reverse.{is_reverse_domain, is_under}
use Rattle.reversemap.specs.BothKinds.{IsApart}
use Rattle.reversemap.specs.Laws.{OwnersStayApart}

-- a name under one of the two roots isn't one of the link
rooted : (name root : Labels) → length local ≤ length root → ends_in root local ≡ false → ends_in name root ≡ true → ends_in name local ≡ false
rooted name root long other e = by (ends_in name local) refl
  where
    by : (b : Bool) → ends_in name local ≡ b → b ≡ false
    by true is = let there = ends_in-longer name root local e is long in absurd cc
    by false is = refl

under-reverse : (name : Labels) → is_reverse_domain name ≡ true → ends_in name local ≡ false
under-reverse name form = by (ends_in name (codes "in-addr" ∷ codes "arpa" ∷ [])) (ends_in name (codes "ip6" ∷ codes "arpa" ∷ [])) refl refl form
  where
    by : (a b : Bool) → ends_in name (codes "in-addr" ∷ codes "arpa" ∷ []) ≡ a → ends_in name (codes "ip6" ∷ codes "arpa" ∷ []) ≡ b → (a || (b || false)) ≡ true → ends_in name local ≡ false
    by true b is other e = rooted name (codes "in-addr" ∷ codes "arpa" ∷ []) (omega arith) refl is
    by false true is other e = rooted name (codes "ip6" ∷ codes "arpa" ∷ []) (omega arith) refl other
    by false false is other e = absurd cc

-- whatever ends in a reverse domain is of its form
form-through : (name reverse : Labels) → ends_in name reverse ≡ true → is_reverse_domain reverse ≡ true → is_reverse_domain name ≡ true
form-through name reverse e form = by (ends_in reverse (codes "in-addr" ∷ codes "arpa" ∷ [])) (ends_in reverse (codes "ip6" ∷ codes "arpa" ∷ [])) refl refl form
  where
    second : (a : Bool) → (a || (true || false)) ≡ true
    second true = refl
    second false = refl

    by : (a b : Bool) → ends_in reverse (codes "in-addr" ∷ codes "arpa" ∷ []) ≡ a → ends_in reverse (codes "ip6" ∷ codes "arpa" ∷ []) ≡ b → (a || (b || false)) ≡ true → is_reverse_domain name ≡ true
    by true b is other f = ap (λ (t : Bool). t || (ends_in name (codes "ip6" ∷ codes "arpa" ∷ []) || false)) (ends_in-through name reverse (codes "in-addr" ∷ codes "arpa" ∷ []) e is)
    by false true is other f =
        ap (λ (t : Bool). ends_in name (codes "in-addr" ∷ codes "arpa" ∷ []) || (t || false)) (ends_in-through name reverse (codes "ip6" ∷ codes "arpa" ∷ []) e other)
        ∙ second (ends_in name (codes "in-addr" ∷ codes "arpa" ∷ []))
    by false false is other f = absurd cc

one : (domain name reverse : Labels) → IsApart domain reverse → ends_in name reverse ≡ true → (ends_in name local ≡ false) × (ends_in name domain ≡ false)
one domain name reverse apart e = (under-reverse name (form-through name reverse e apart.form), by (ends_in name domain) refl)
  where
    by : (b : Bool) → ends_in name domain ≡ b → b ≡ false
    by true is = absurd (not-both name domain reverse apart.over apart.under is e)
    by false is = refl

pub owners-apart : OwnersStayApart
owners-apart domain [] name all e = absurd cc
owners-apart domain (reverse ∷ reverses) name all e = by (λ f. owners-apart domain reverses name all.1 f) (ends_in name reverse) refl e
  where
    by : (is_under reverses name ≡ true → (ends_in name local ≡ false) × (ends_in name domain ≡ false)) → (b : Bool) → ends_in name reverse ≡ b → (b || list_any (ends_in name) reverses) ≡ true → (ends_in name local ≡ false) × (ends_in name domain ≡ false)
    by rest true is f = one domain name reverse all.0 is
    by rest false is f = rest f

pub under-alike : (reverses : List Labels) (name other : Labels) → lower name ≡ lower other → is_under reverses name ≡ is_under reverses other
under-alike [] name other same = refl
under-alike (reverse ∷ reverses) name other same = (λ i. ends-as name other reverse same i || under-alike reverses name other same i)
