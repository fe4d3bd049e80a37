-- A text in pieces, each of which ends where an octet is a divider: its lines, and the words of a line.
--     line_at, word_at      the first one ends at the first divider
--     line_alone, word_alone      without one there is one piece
use Rattle.std.proofs.Common.{◌≡◌, ℕ, suc, ◌+◌, ◌-◌, ◌<◌, ◌==◌, Bool, cond, Some, None, List, [], ◌∷◌, length, take, drop, refl, sym, ◌∙◌, ap, arith, inl, inr}
use Rattle.std.specs.List.{position, position_from, onto_first}
use Rattle.std.proofs.lemmas.Bool.{cases_Bool}
use Rattle.std.proofs.lemmas.List.{take_rest}
use Rattle.std.proofs.lemmas.Iterator.Adapters.{position_from-zero}
use Rattle.scripts.specs.Scripts.{lines_in}
use Rattle.scripts.specs.Lines.{words_in}

module _ (divider : ℕ) (pieces : List ℕ → List (List ℕ)) where
  abbrev divides : ℕ → Bool
  divides octet = octet == divider

  abbrev first_by : ℕ → List ℕ → Bool → List (List ℕ)
  first_by x xs b = cond b ([] ∷ pieces xs) (onto_first x (pieces xs))

  module _ (first : (x : ℕ) (xs : List ℕ) → pieces (x ∷ xs) ≡ first_by x xs (divides x)) where
    -- the first divider stands n octets from here
    record EndsAt (i : ℕ) (octets : List ℕ) (place : ℕ) : Type 0 where
      n : ℕ
      is : place ≡ i + n
      parts : pieces octets ≡ take n octets ∷ pieces (drop (n + 1) octets)

    ends_at : (i : ℕ) (octets : List ℕ) (place : ℕ) → position_from divides i octets ≡ Some place → EndsAt i octets place
    ends_at i [] place h = cc h
    ends_at i (x ∷ xs) place h = elim (cases_Bool (divides x)) [
      | inl end ↦
          let found : Some i ≡ Some place = sym (ap (λ b. cond b (Some i) (position_from divides (i + 1) xs)) end) ∙ h in
          let here : i ≡ place = cc found in
          record { n = 0; is = omega arith; parts = first x xs ∙ ap (first_by x xs) end }
      | inr on ↦
          let further = ends_at (i + 1) xs place (sym (ap (λ b. cond b (Some i) (position_from divides (i + 1) xs)) on) ∙ h) in
          let next : suc (further.n + 1) ≡ suc further.n + 1 = omega arith in
          record {
            n = suc further.n;
            is = omega (arith, further.is);
            parts =
                first x xs
                ∙ ap (first_by x xs) on
                ∙ ap (onto_first x) further.parts
                ∙ ap (λ k. (x ∷ take further.n xs) ∷ pieces (drop k (x ∷ xs))) next;
          }
    ]

    piece_at : (octets : List ℕ) (n : ℕ) → Some n ≡ position divides octets → pieces octets ≡ take n octets ∷ pieces (take (length octets - (n + 1)) (drop (n + 1) octets))
    piece_at octets n h =
        let there = ends_at 0 octets n (sym (h ∙ position_from-zero divides octets)) in
        let same : there.n ≡ n = omega (arith, there.is) in
        there.parts
        ∙ ap (λ k. take k octets ∷ pieces (drop (k + 1) octets)) same
        ∙ ap (λ l. take n octets ∷ pieces l) (sym (take_rest octets (n + 1)))

    module _ (last : (x : ℕ) → onto_first x (pieces []) ≡ (x ∷ []) ∷ []) where
      one_piece : (i : ℕ) (x : ℕ) (xs : List ℕ) → position_from divides i (x ∷ xs) ≡ None → pieces (x ∷ xs) ≡ (x ∷ xs) ∷ []
      one_piece i x [] h = elim (cases_Bool (divides x)) [
        | inl end ↦ let found : Some i ≡ None = sym (ap (λ b. cond b (Some i) None) end) ∙ h in cc found
        | inr on ↦ first x [] ∙ ap (first_by x []) on ∙ last x
      ]
      one_piece i x (y ∷ ys) h = elim (cases_Bool (divides x)) [
        | inl end ↦ let found : Some i ≡ None = sym (ap (λ b. cond b (Some i) (position_from divides (i + 1) (y ∷ ys))) end) ∙ h in cc found
        | inr on ↦
            let rest = one_piece (i + 1) y ys (sym (ap (λ b. cond b (Some i) (position_from divides (i + 1) (y ∷ ys))) on) ∙ h) in
            first x (y ∷ ys) ∙ ap (first_by x (y ∷ ys)) on ∙ ap (onto_first x) rest
      ]

-- ---- lines

pub line_at : (octets : List ℕ) (n : ℕ) → Some n ≡ position (λ octet. octet == 10) octets → lines_in octets ≡ take n octets ∷ lines_in (take (length octets - (n + 1)) (drop (n + 1) octets))
line_at octets n h = piece_at 10 lines_in (λ x xs. refl) octets n h

pub line_alone : (octets : List ℕ) → 0 < length octets → None ≡ position (λ octet. octet == 10) octets → lines_in octets ≡ octets ∷ []
line_alone [] some h = absurd (omega arith)
line_alone (x ∷ xs) some h = one_piece 10 lines_in (λ x xs. refl) (λ x. refl) 0 x xs (sym (h ∙ position_from-zero (λ octet. octet == 10) (x ∷ xs)))

-- ---- words

pub word_at : (octets : List ℕ) (n : ℕ) → Some n ≡ position (λ octet. octet == 32) octets → words_in octets ≡ take n octets ∷ words_in (take (length octets - (n + 1)) (drop (n + 1) octets))
word_at octets n h = piece_at 32 words_in (λ x xs. refl) octets n h

pub word_alone : (octets : List ℕ) → None ≡ position (λ octet. octet == 32) octets → words_in octets ≡ octets ∷ []
word_alone [] h = refl
word_alone (x ∷ xs) h = one_piece 32 words_in (λ x xs. refl) (λ x. refl) 0 x xs (sym (h ∙ position_from-zero (λ octet. octet == 32) (x ∷ xs)))
