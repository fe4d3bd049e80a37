-- What is counted for three owners, of which one ends in another.
use Rattle.std.proofs.Common.{◌≡◌, ℕ, ◌+◌, ◌≤◌, Bool, true, false, cond, List, [], ◌∷◌, length, Some, None, refl, sym, ap, subst, arith}
use Rattle.std.specs.Prelude.{codes}
use Rattle.dnsname.specs.Names.{Labels, octets}
use Rattle.dnsname.specs.Text.{name}
use Rattle.recordindex.specs.Endings.{above_of, is_used, number_or, same_octets, times, weight, names_above}
use Rattle.recordindex.proofs.OctetTests.{same-is}

abbrev three : List Labels
three = names_above (name (codes "a.example.") ∷ name (codes "b.a.example.") ∷ name (codes "com.") ∷ [])

-- what is counted at octets, where these three have places
abbrev CountsAt : List ℕ → List ℕ → List ℕ → List ℕ → Type 0
CountsAt os root example below =
    number_or (cond (same_octets os root) (Some 2) (cond (same_octets os example) (Some 2) (cond (same_octets os below) (Some 1) None)))
    ≡ times os three
    + (weight (is_used 2) (same_octets os (above_of root)) + (weight (is_used 2) (same_octets os (above_of example)) + (weight (is_used 1) (same_octets os (above_of below)) + 0)))

nowhere : (none root example below : Bool) → none ≡ false → root ≡ false → example ≡ false → below ≡ false
    → number_or (cond root (Some 2) (cond example (Some 2) (cond below (Some 1) None)))
    ≡ (cond example 1 0 + (cond below 1 0 + (cond root 1 0 + 0))) + (cond none 1 0 + (cond root 1 0 + (cond example 1 0 + 0)))
nowhere false false false false none-is root-is example-is below-is = refl
nowhere false false false true none-is root-is example-is below-is = absurd cc
nowhere false false true below none-is root-is example-is below-is = absurd cc
nowhere false true example below none-is root-is example-is below-is = absurd cc
nowhere true root example below none-is root-is example-is below-is = absurd cc

counts-at : (os : List ℕ) → 1 ≤ length os → CountsAt os (octets []) (octets (name (codes "example."))) (octets (name (codes "a.example.")))
counts-at os some =
    at_root (same_octets os (octets [])) refl
  where
    Counts : List ℕ → Type 0
    Counts o = CountsAt o (octets []) (octets (name (codes "example."))) (octets (name (codes "a.example.")))

    some-not : (t : Bool) → same_octets os [] ≡ t → t ≡ false
    some-not true is = absurd (omega (arith, some, ap length (same-is os [] is)))
    some-not false is = refl

    at_below : same_octets os (octets []) ≡ false → same_octets os (octets (name (codes "example."))) ≡ false → (t : Bool) → same_octets os (octets (name (codes "a.example."))) ≡ t → Counts os
    at_below not-root not-example true is = subst Counts (sym (same-is os (octets (name (codes "a.example."))) is)) refl
    at_below not-root not-example false is =
        nowhere (same_octets os []) (same_octets os (octets [])) (same_octets os (octets (name (codes "example.")))) (same_octets os (octets (name (codes "a.example.")))) (some-not (same_octets os []) refl) not-root not-example is

    at_example : same_octets os (octets []) ≡ false → (t : Bool) → same_octets os (octets (name (codes "example."))) ≡ t → Counts os
    at_example not-root true is = subst Counts (sym (same-is os (octets (name (codes "example."))) is)) refl
    at_example not-root false is = at_below not-root is (same_octets os (octets (name (codes "a.example.")))) refl

    at_root : (t : Bool) → same_octets os (octets []) ≡ t → Counts os
    at_root true is = subst Counts (sym (same-is os (octets []) is)) refl
    at_root false is = at_example is (same_octets os (octets (name (codes "example.")))) refl

pub counts : (root example below os : List ℕ) → root ≡ octets [] → example ≡ octets (name (codes "example.")) → below ≡ octets (name (codes "a.example.")) → 1 ≤ length os → CountsAt os root example below
counts root example below os root-is example-is below-is some =
    subst (λ (r : List ℕ). CountsAt os r example below) (sym root-is)
    (subst (λ (e : List ℕ). CountsAt os (octets []) e below) (sym example-is)
    (subst (λ (b : List ℕ). CountsAt os (octets []) (octets (name (codes "example."))) b) (sym below-is) (counts-at os some)))
