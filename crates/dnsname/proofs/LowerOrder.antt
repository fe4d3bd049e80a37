-- Octets that are compared one by one with others in lower case.
use Rattle.std.proofs.Common.{◌≡◌, ℕ, ◌+◌, min, List, [], ◌∷◌, length, drop, map, sym, ◌∙◌, arith}
use Rattle.std.specs.Char.{to_ascii_lowercase}
use Rattle.std.specs.Ordering.{nat_cmp}
use Rattle.std.specs.Cmp.{nat_cmp_is}
use Rattle.std.specs.declared.cmp.Ordering.{Ordering}
use Rattle.std.specs.declared.cmp.Ordering.TheVariants.{Less, Equal, Greater}
use Rattle.std.proofs.lemmas.List.{length-drop}
use Rattle.std.specs.Cmp.Lexicographic.{slice_cmp}

abbrev pub lower_cmp : List ℕ → List ℕ → Ordering
lower_cmp a b = slice_cmp nat_cmp a (map to_ascii_lowercase b)

-- one of both is at its end
one_ended : (a b : List ℕ) (m n i : ℕ) → length a + i ≡ m → length b + i ≡ n → i ≡ min m n → lower_cmp a b ≡ nat_cmp m n
one_ended [] [] m n i e f g = nat_cmp_is m n Equal (omega arith)
one_ended [] (y ∷ ys) m n i e f g = nat_cmp_is m n Less (omega arith)
one_ended (x ∷ xs) [] m n i e f g = nat_cmp_is m n Greater (omega arith)
one_ended (x ∷ xs) (y ∷ ys) m n i e f g = absurd (omega arith)

pub lower_end : (a b : List ℕ) (i : ℕ) (whole : Ordering) → i ≡ min (length a) (length b) → lower_cmp (drop i a) (drop i b) ≡ whole → nat_cmp (length a) (length b) ≡ whole
lower_end a b i whole is so_far =
    sym (one_ended (drop i a) (drop i b) (length a) (length b) i (omega (arith, length-drop i a)) (omega (arith, length-drop i b)) is) ∙ so_far
