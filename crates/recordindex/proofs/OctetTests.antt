-- When octets are one list.
use Rattle.std.proofs.Common.{◌≡◌, ℕ, Bool, true, false, cond, List, refl, sym, ap, ◌∙◌}
use Rattle.std.specs.Cmp.Lexicographic.{bytes_decides, texts_ties}
use Rattle.recordindex.specs.Endings.{same_octets}

pub same-is : (a b : List ℕ) → same_octets a b ≡ true → a ≡ b
same-is a b e = (bytes_decides a b).0 (texts_ties a b ∙ e)

pub same-refl : (a : List ℕ) → same_octets a a ≡ true
same-refl a = sym (texts_ties a a) ∙ (bytes_decides a a).1 refl

pub false-not-true : {A : Type 0} (b : Bool) → b ≡ false → b ≡ true → A
false-not-true b fails passes = absurd cc

-- octets that are those of one list are those of no other
pub same-apart : (os key items : List ℕ) → same_octets key items ≡ false → same_octets os items ≡ true → same_octets os key ≡ false
same-apart os key items apart here = by (same_octets os key) refl
  where
    by : (d : Bool) → same_octets os key ≡ d → d ≡ false
    by false e = refl
    by true e = false-not-true (same_octets key items) apart (ap (same_octets key) (sym (sym (same-is os key e) ∙ same-is os items here)) ∙ same-refl key)

pub cond-same : {X : Type 0} (d : Bool) (x : X) → x ≡ cond d x x
cond-same true x = refl
cond-same false x = refl
