-- Names no letter of which is a capital.
--     lower_is      such a name in lower case is itself
--     same_as_spelled      two of them are one where their octets are
use Rattle.std.proofs.Common.{◌≡◌, ℕ, Bool, true, false, not, ◌||◌, List, [], ◌∷◌, map, refl, sym, ap, ◌∙◌, Decides, arith}
use Rattle.std.proofs.lemmas.Bool.{cases_lt}
use Rattle.std.proofs.lemmas.Slice.Eq.{bytes_eq-Decides}
use Rattle.std.specs.Char.{is_ascii_uppercase, to_ascii_lowercase}
use Rattle.std.specs.List.{list_any}
use Rattle.std.specs.Str.{bytes_eq}
use Rattle.dnsname.specs.Names.{Labels, IsSame, octets, lower}
use Rattle.dnsname.specs.Octets.{labels_of, IsSpelling}
use Rattle.dnsname.proofs.Octets.{octets_injective}
use Rattle.dnsname.proofs.Spellings.{octets-lower}

no_capital : (o : ℕ) → is_ascii_uppercase o ≡ false → to_ascii_lowercase o ≡ o
no_capital o e = grind (arith, cases_lt o 65, cases_lt o 91)

no_capitals : (os : List ℕ) → list_any is_ascii_uppercase os ≡ false → map to_ascii_lowercase os ≡ os
no_capitals [] e = refl
no_capitals (o ∷ os) e = by (is_ascii_uppercase o) refl (no_capitals os) e
  where
    by : (b : Bool) → is_ascii_uppercase o ≡ b → (list_any is_ascii_uppercase os ≡ false → map to_ascii_lowercase os ≡ os) → (b || list_any is_ascii_uppercase os) ≡ false → map to_ascii_lowercase (o ∷ os) ≡ o ∷ os
    by true is rest f = absurd cc
    by false is rest f = λ i. no_capital o is i ∷ rest f i

not-true : (b : Bool) → not b ≡ true → b ≡ false
not-true true e = absurd cc
not-true false e = refl

pub lower_is : (bytes : List ℕ) (is_lower : Bool) → IsSpelling bytes is_lower → is_lower ≡ true → lower (labels_of bytes) ≡ labels_of bytes
lower_is bytes is_lower is e =
    let name = labels_of bytes in
    let small : map to_ascii_lowercase bytes ≡ bytes = no_capitals bytes (not-true _ (sym is.lower ∙ e)) in
    octets_injective (lower name) name (sym (octets-lower name is.spells.is_name.labels) ∙ ap (map to_ascii_lowercase) (sym is.spells.spelled) ∙ small ∙ is.spells.spelled)

pub same_as_spelled : (xs ys : List ℕ) (a b : Labels) → xs ≡ octets a → ys ≡ octets b → lower a ≡ a → lower b ≡ b → (r : Bool) → r ≡ bytes_eq xs ys → Decides r (IsSame a b)
same_as_spelled xs ys a b xs-is ys-is a-low b-low r is =
    let test = bytes_eq-Decides xs ys in (
      λ t. ap lower (octets_injective a b (sym xs-is ∙ test.0 (sym is ∙ t) ∙ ys-is)),
      λ e. is ∙ test.1 (xs-is ∙ ap octets (sym a-low ∙ e ∙ b-low) ∙ sym ys-is),
    )
