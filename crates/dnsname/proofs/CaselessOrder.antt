-- The order of names but for case, and octets that are compared one by one in lower case.
--     name_order-total, name_order-same      it is total; names tie in it where they are one
use Rattle.std.proofs.Common.{◌≡◌, ℕ, ◌+◌, min, List, [], ◌∷◌, length, drop, map, sym, ◌∙◌, arith}
use Rattle.std.specs.Char.{to_ascii_lowercase}
use Rattle.std.specs.Ordering.{is_eq, nat_cmp}
use Rattle.std.specs.Cmp.{IsTotalOrder, nat_cmp_is, on_total}
use Rattle.std.specs.Cmp.Lexicographic.{nat_list_cmp_total, slice_cmp, texts_ties}
use Rattle.std.specs.declared.cmp.Ordering.{Ordering}
use Rattle.std.specs.declared.cmp.Ordering.TheVariants.{Less, Equal, Greater}
use Rattle.std.proofs.lemmas.List.{length-drop}
use Rattle.dnsname.specs.Names.{Labels, same_name}
use Rattle.dnsname.specs.Caseless.{caseless_octets, name_order}

pub name_order-total : IsTotalOrder name_order
name_order-total = on_total caseless_octets nat_list_cmp_total

pub name_order-same : (a b : Labels) → is_eq (name_order a b) ≡ same_name a b
name_order-same a b = sym (texts_ties (caseless_octets a) (caseless_octets b))

abbrev pub both_lower_cmp : List ℕ → List ℕ → Ordering
both_lower_cmp a b = slice_cmp nat_cmp (map to_ascii_lowercase a) (map to_ascii_lowercase b)

-- one of both is at its end
one_ended : (a b : List ℕ) (m n i : ℕ) → length a + i ≡ m → length b + i ≡ n → i ≡ min m n → both_lower_cmp a b ≡ nat_cmp m n
one_ended [] [] m n i e f g = nat_cmp_is m n Equal (omega arith)
one_ended [] (y ∷ ys) m n i e f g = nat_cmp_is m n Less (omega arith)
one_ended (x ∷ xs) [] m n i e f g = nat_cmp_is m n Greater (omega arith)
one_ended (x ∷ xs) (y ∷ ys) m n i e f g = absurd (omega arith)

pub both_lower_end : (a b : List ℕ) (i : ℕ) (whole : Ordering) → i ≡ min (length a) (length b) → both_lower_cmp (drop i a) (drop i b) ≡ whole → nat_cmp (length a) (length b) ≡ whole
both_lower_end a b i whole is so_far =
    sym (one_ended (drop i a) (drop i b) (length a) (length b) i (omega (arith, length-drop i a)) (omega (arith, length-drop i b)) is) ∙ so_far
