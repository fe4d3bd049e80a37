-- What is shown is harmless characters alone.
use Rattle.std.proofs.Common.{◌≡◌, ℕ, zero, suc, ◌+◌, ◌<◌, ◌≤◌, ◌/◌, ◌%◌, Bool, true, false, true≢false, cond, ◌&&◌, List, [], ◌∷◌, ◌++◌, length, take, drop, arith, refl, sym, ap, ◌∙◌, append_assoc}
use Rattle.std.proofs.lemmas.Bool.Decides.{nat_tests}
use Rattle.std.specs.Prelude.{◌==◌}
use Rattle.std.specs.List.{AllByRecursion, flat_map}
use Rattle.std.proofs.lemmas.Bool.{and_parts}
use Rattle.std.proofs.lemmas.Grind.{flat_map-append}
use Rattle.dnsname.specs.Text.{backslash, decimal, is_special}
use Rattle.readable.specs.declared.characters.Dots.{Dots}
use Rattle.readable.specs.Shown.{octet_at, is_one, is_two, is_three, is_four, is_tail, is_within, escape, first_size, first_piece, shown_characters, shown}
use Rattle.readable.specs.Laws.{is_character, IsHarmless, ShownIsHarmless}
use Rattle.readable.proofs.Octets.{digit_within, hundreds, tens, ones, special_within, all-drop}

all-append : (first second : List (List ℕ)) → AllByRecursion (λ c. is_character c ≡ true) first → AllByRecursion (λ c. is_character c ≡ true) second → AllByRecursion (λ c. is_character c ≡ true) (first ++ second)
all-append [] second h g = g
all-append (c ∷ cs) second h g = (h.0, all-append cs second h.1 g)

both : (first second : List ℕ) → IsHarmless first → IsHarmless second → IsHarmless (first ++ second)
both first second (cs, h, e) (ds, g, f) = (cs ++ ds, all-append cs ds h g, (λ i. e i ++ f i) ∙ sym (flat_map-append (λ (c : List ℕ). c) cs ds))

character : (c : List ℕ) → is_character c ≡ true → IsHarmless c
character c e = (c ∷ [], (e, tt), sym (none c))
  where
    none : (l : List ℕ) → l ++ [] ≡ l
    none [] = refl
    none (x ∷ xs) = ap (λ (r : List ℕ). x ∷ r) (none xs)

ones_of : (os : List ℕ) → AllByRecursion (λ o. is_within 32 126 o ≡ true) os → IsHarmless os
ones_of [] h = ([], tt, refl)
ones_of (o ∷ os) h = both (o ∷ []) os (character (o ∷ []) h.0) (ones_of os h.1)

escape_harmless : (o : ℕ) → o < 256 → IsHarmless (escape o)
escape_harmless o few = by (is_special o) refl
  where
    by : (b : Bool) → is_special o ≡ b → IsHarmless (cond b (backslash ∷ o ∷ []) (backslash ∷ decimal o))
    by true e = ones_of (backslash ∷ o ∷ []) (refl, (special_within o e, tt))
    by false e =
        ones_of (backslash ∷ decimal o)
        (refl, (digit_within (48 + o / 100) (omega arith) (hundreds o few), (digit_within (48 + o / 10 % 10) (omega arith) (tens o), (digit_within (48 + o % 10) (omega arith) (ones o), tt))))

no_tail : {A : Type 0} → is_tail 0 ≡ true → A
no_tail e = absurd (true≢false (sym e))

one_within : (ds : Dots) (o : ℕ) → is_one ds o ≡ true → is_within 32 126 o ≡ true
one_within ds o e = (and_parts _ _ (and_parts _ _ e).0).0

two_harmless : (o : ℕ) (t : List ℕ) → is_two o (octet_at 0 t) ≡ true → IsHarmless (take 2 (o ∷ t))
two_harmless o [] e = let p0 = and_parts _ _ e in let p1 = and_parts _ _ p0.0 in no_tail (and_parts _ _ p1.0).1
two_harmless o (x ∷ t) e = character (o ∷ x ∷ []) e

three_harmless : (o : ℕ) (t : List ℕ) → is_three o (octet_at 0 t) (octet_at 1 t) ≡ true → IsHarmless (take 3 (o ∷ t))
three_harmless o [] e =
    let p0 = and_parts _ _ e in let p1 = and_parts _ _ p0.0 in let p2 = and_parts _ _ p1.0 in no_tail (and_parts _ _ p2.0).1
three_harmless o (x ∷ []) e =
    let p0 = and_parts _ _ e in let p1 = and_parts _ _ p0.0 in let p2 = and_parts _ _ p1.0 in no_tail (and_parts _ _ p2.0).1
three_harmless o (x ∷ y ∷ t) e = character (o ∷ x ∷ y ∷ []) e

four_harmless : (o : ℕ) (t : List ℕ) → is_four o (octet_at 0 t) (octet_at 1 t) (octet_at 2 t) ≡ true → IsHarmless (take 4 (o ∷ t))
four_harmless o [] e =
    let p0 = and_parts _ _ e in let p1 = and_parts _ _ p0.0 in let p2 = and_parts _ _ p1.0 in no_tail (and_parts _ _ p2.0).1
four_harmless o (x ∷ []) e =
    let p0 = and_parts _ _ e in let p1 = and_parts _ _ p0.0 in let p2 = and_parts _ _ p1.0 in no_tail (and_parts _ _ p2.0).1
four_harmless o (x ∷ y ∷ []) e =
    let p0 = and_parts _ _ e in let p1 = and_parts _ _ p0.0 in let p2 = and_parts _ _ p1.0 in no_tail (and_parts _ _ p2.0).1
four_harmless o (x ∷ y ∷ z ∷ t) e = character (o ∷ x ∷ y ∷ z ∷ []) e

abbrev IsPiece : ℕ → List ℕ → ℕ → Type 0
IsPiece o t n = IsHarmless (cond (n == 0) (escape o) (take n (o ∷ t)))

piece_harmless : (ds : Dots) (o : ℕ) (t : List ℕ) → o < 256 → IsHarmless (first_piece ds (o ∷ t))
piece_harmless ds o t few = by1 (is_one ds o) refl
  where
    by4 : (x : Bool) → is_four o (octet_at 0 t) (octet_at 1 t) (octet_at 2 t) ≡ x → IsPiece o t (cond x 4 0)
    by4 true e = four_harmless o t e
    by4 false e = escape_harmless o few

    by3 : (x : Bool) → is_three o (octet_at 0 t) (octet_at 1 t) ≡ x → IsPiece o t (cond x 3 (cond (is_four o (octet_at 0 t) (octet_at 1 t) (octet_at 2 t)) 4 0))
    by3 true e = three_harmless o t e
    by3 false e = by4 (is_four o (octet_at 0 t) (octet_at 1 t) (octet_at 2 t)) refl

    by2 : (x : Bool) → is_two o (octet_at 0 t) ≡ x → IsPiece o t (cond x 2 (cond (is_three o (octet_at 0 t) (octet_at 1 t)) 3 (cond (is_four o (octet_at 0 t) (octet_at 1 t) (octet_at 2 t)) 4 0)))
    by2 true e = two_harmless o t e
    by2 false e = by3 (is_three o (octet_at 0 t) (octet_at 1 t)) refl

    by1 : (x : Bool) → is_one ds o ≡ x
        → IsPiece o t (cond x 1 (cond (is_two o (octet_at 0 t)) 2 (cond (is_three o (octet_at 0 t) (octet_at 1 t)) 3 (cond (is_four o (octet_at 0 t) (octet_at 1 t) (octet_at 2 t)) 4 0))))
    by1 true e = character (o ∷ []) (one_within ds o e)
    by1 false e = by2 (is_two o (octet_at 0 t)) refl

characters_harmless : (n : ℕ) (ds : Dots) (text : List ℕ) → AllByRecursion (λ o. o < 256) text → IsHarmless (shown_characters n ds text)
characters_harmless zero ds text h = ([], tt, refl)
characters_harmless (suc n) ds [] h = characters_harmless n ds (drop (first_size ds []) []) (all-drop (λ x. x < 256) (first_size ds []) [] tt)
characters_harmless (suc n) ds (o ∷ t) h =
    both (first_piece ds (o ∷ t)) (shown_characters n ds (drop (first_size ds (o ∷ t)) (o ∷ t))) (piece_harmless ds o t h.0)
    (characters_harmless n ds (drop (first_size ds (o ∷ t)) (o ∷ t)) (all-drop (λ x. x < 256) (first_size ds (o ∷ t)) (o ∷ t) h))

pub shown_is_harmless : ShownIsHarmless
shown_is_harmless ds text h = characters_harmless (length text) ds text h
