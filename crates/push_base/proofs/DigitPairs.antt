-- Pairs of hexadecimal digits, and whether one character is no digit.
--     others-more, others-none, all-digits      whether one of the characters that are left is no digit
--     pair-more, pairs-done, pairs-begin      the octets of the pairs so far
--     read, read_so, unread-other      what digits stand for
use Rattle.std.proofs.Common.{◌≡◌, ℕ, zero, suc, ◌+◌, ◌*◌, ◌%◌, ◌<◌, ◌≤◌, Bool, true, false, not, cond, ltb, ◌||◌, Option, Some, None, Ok, List, [], ◌∷◌, ◌++◌, length, take, drop, slice_index, slice_set, refl, sym, ◌∙◌, ap, arith}
use Rattle.std.specs.Prelude.{option_map, is_some, position}
use Rattle.std.specs.List.{AllByRecursion, position_or_len}
use Rattle.std.specs.Char.{is_ascii_hexdigit}
use Rattle.std.specs.Result.{result_ok}
use Rattle.std.proofs.lemmas.Bool.Decides.{nat_tests}
use Rattle.std.proofs.lemmas.List.{append_assoc, append-nil, drop_all, drop_more, take_all, take_more_set}
use Rattle.push_base.specs.Hexadecimal.{first_other, digit_value, octets_of_digits, octets_or_fault, hex_octets}
use Rattle.push_base.proofs.HexLaws.{digits_all}

-- ---- the first of a kind

ltb-suc : (a b : ℕ) → ltb (suc a) (suc b) ≡ ltb a b
ltb-suc a b = grind arith

ltb-zero : (b : ℕ) → ltb 0 (suc b) ≡ true
ltb-zero b = grind arith

position-cons : {X : Type 0} (p : X → Bool) (x : X) (xs : List X) → position p (x ∷ xs) ≡ cond (p x) (Some 0) (option_map suc (position p xs))
position-cons p x xs = by (p x)
  where
    small : (a b : ℕ) → cond (ltb (1 + a) (suc b)) (Some (1 + a)) None ≡ option_map suc (cond (ltb a b) (Some a) None)
    small a b = ap (λ n. cond (ltb n (suc b)) (Some n) None) one ∙ ap (λ t. cond t (Some (suc a)) None) (ltb-suc a b) ∙ more (ltb a b)
      where
        one : 1 + a ≡ suc a
        one = omega arith

        more : (t : Bool) → cond t (Some (suc a)) None ≡ option_map suc (cond t (Some a) None)
        more true = refl
        more false = refl

    by : (b : Bool) → cond (ltb (cond (not b) (1 + position_or_len p xs) 0) (suc (length xs))) (Some (cond (not b) (1 + position_or_len p xs) 0)) None ≡ cond b (Some 0) (option_map suc (position p xs))
    by true = ap (λ t. cond t (Some 0) None) (ltb-zero (length xs))
    by false = small (position_or_len p xs) (length xs)

-- ---- whether an octet is no digit

abbrev pub is_other : ℕ → Bool
is_other c = not (is_ascii_hexdigit c)

abbrev pub has_other : List ℕ → Bool
has_other text = is_some (first_other text)

other-cons : (c : ℕ) (text : List ℕ) → has_other (c ∷ text) ≡ (is_other c || has_other text)
other-cons c text = ap (λ (o : Option ℕ). is_some o) (position-cons is_other c text) ∙ by (is_other c) (first_other text)
  where
    by : (b : Bool) (o : Option ℕ) → is_some (cond {A = Option ℕ} b (Some 0) (option_map suc o)) ≡ (b || is_some o)
    by true o = refl
    by false None = refl
    by false (Some k) = refl

or_assoc : (a b c : Bool) → ((a || b) || c) ≡ (a || (b || c))
or_assoc true b c = refl
or_assoc false b c = refl

or_false : (b : Bool) → (b || false) ≡ b
or_false true = refl
or_false false = refl

pub others-more : (found : Bool) (text : List ℕ) (i : ℕ) → i < length text → (found || has_other (drop i text)) ≡ has_other text → ((found || is_other (slice_index text i)) || has_other (drop (i + 1) text)) ≡ has_other text
others-more found text i small so =
    or_assoc found (is_other (slice_index text i)) (has_other (drop (i + 1) text))
    ∙ ap (λ (b : Bool). found || b) (sym (ap has_other (drop_more text i 0 small) ∙ other-cons (slice_index text i) (drop (i + 1) text)))
    ∙ so

pub others-none : (found : Bool) (text : List ℕ) (i : ℕ) → length text ≤ i → (found || has_other (drop i text)) ≡ has_other text → found ≡ has_other text
others-none found text i end so = sym (or_false found) ∙ ap (λ (os : List ℕ). found || has_other os) (sym (drop_all i text end)) ∙ so

pub all-digits : (text : List ℕ) → has_other text ≡ false → first_other text ≡ None
all-digits text none = by (first_other text) none
  where
    by : (o : Option ℕ) → is_some o ≡ false → o ≡ None
    by None e = refl
    by (Some k) e = absurd cc

-- ---- pairs of digits

value-below : (c : ℕ) → is_ascii_hexdigit c ≡ true → digit_value c < 16
value-below c digit = grind (arith, nat_tests)

digit-at : (text : List ℕ) (i : ℕ) → AllByRecursion (λ c. is_ascii_hexdigit c ≡ true) text → i < length text → is_ascii_hexdigit (slice_index text i) ≡ true
digit-at [] i all small = absurd (omega arith)
digit-at (c ∷ text) zero all small = all.0
digit-at (c ∷ text) (suc i) all small = digit-at text i all.1 (omega arith)

-- the value of two digits, as octets are multiplied and added
abbrev pub wrapped : ℕ → ℕ → ℕ
wrapped high low = (digit_value high * 16 % 256 + digit_value low) % 256

unwrapped : (high low : ℕ) → high < 16 → low < 16 → (high * 16 % 256 + low) % 256 ≡ 16 * high + low
unwrapped high low h l = omega arith

pair-is : (text : List ℕ) (i : ℕ) → first_other text ≡ None → i + 1 < length text → wrapped (slice_index text i) (slice_index text (i + 1)) ≡ 16 * digit_value (slice_index text i) + digit_value (slice_index text (i + 1))
pair-is text i digits small =
    let all = digits_all text digits in
    unwrapped _ _ (value-below _ (digit-at text i all (omega arith))) (value-below _ (digit-at text (i + 1) all small))

abbrev pub behind_front : List ℕ → Option (List ℕ) → Option (List ℕ)
behind_front front rest = option_map (λ (os : List ℕ). front ++ os) rest

one-more : (front : List ℕ) (v : ℕ) (rest : Option (List ℕ)) → behind_front front (option_map (λ os. v ∷ os) rest) ≡ behind_front (front ++ v ∷ []) rest
one-more front v None = refl
one-more front v (Some os) = ap Some (sym (append_assoc front (v ∷ []) os))

none-more : (o : Option (List ℕ)) → o ≡ behind_front [] o
none-more None = refl
none-more (Some os) = refl

pub pairs-begin : (text : List ℕ) → octets_of_digits text ≡ behind_front [] (octets_of_digits text)
pairs-begin text = none-more (octets_of_digits text)

two-more : (text : List ℕ) (i : ℕ) → 2 * i + 1 < length text → drop (2 * i) text ≡ slice_index text (2 * i) ∷ slice_index text (2 * i + 1) ∷ drop (2 * (i + 1)) text
two-more text i small =
    let one = drop_more text (2 * i) 0 (omega arith) in
    let two = drop_more text (2 * i + 1) 0 (omega arith) in
    let next : 2 * i + 1 + 1 ≡ 2 * (i + 1) = omega arith in
    rw (one, two, next) refl

pub pair-more : (text octets : List ℕ) (i : ℕ) → first_other text ≡ None → length text ≡ 2 * length octets → i < length octets
    → octets_of_digits text ≡ behind_front (take i octets) (octets_of_digits (drop (2 * i) text))
    → octets_of_digits text ≡ behind_front (take (i + 1) (slice_set octets i (wrapped (slice_index text (2 * i)) (slice_index text (2 * i + 1))))) (octets_of_digits (drop (2 * (i + 1)) text))
pair-more text octets i digits size small so =
    let v = wrapped (slice_index text (2 * i)) (slice_index text (2 * i + 1)) in
    let rest = octets_of_digits (drop (2 * (i + 1)) text) in
    let value = pair-is text (2 * i) digits (omega (arith, size)) in
    so
    ∙ ap (λ (os : List ℕ). behind_front (take i octets) (octets_of_digits os)) (two-more text i (omega (arith, size)))
    ∙ ap (λ (n : ℕ). behind_front (take i octets) (option_map (λ os. n ∷ os) rest)) (sym value)
    ∙ one-more (take i octets) v rest
    ∙ ap (λ (front : List ℕ). behind_front front rest) (sym (take_more_set octets i v small))

pub pairs-done : (text octets : List ℕ) (i : ℕ) → length text ≡ 2 * length octets → length octets ≤ i → octets_of_digits text ≡ behind_front (take i octets) (octets_of_digits (drop (2 * i) text)) → octets_of_digits text ≡ Some octets
pairs-done text octets i size end so =
    so
    ∙ ap (λ (os : List ℕ). behind_front (take i octets) (octets_of_digits os)) (drop_all (2 * i) text (omega (arith, size)))
    ∙ ap Some (append-nil (take i octets) ∙ take_all i octets end)

-- ---- what digits stand for

pub read : (text octets : List ℕ) → first_other text ≡ None → octets_of_digits text ≡ Some octets → hex_octets text ≡ Ok octets
read text octets digits is = λ i. octets_or_fault (digits i) (is i)

pub read_so : (text octets : List ℕ) → first_other text ≡ None → octets_of_digits text ≡ Some octets → Some octets ≡ result_ok (hex_octets text)
read_so text octets digits is = λ i. result_ok (octets_or_fault (sym digits i) (sym is i))

pub unread-other : (text : List ℕ) → has_other text ≡ true → None ≡ result_ok (hex_octets text)
unread-other text other = by (first_other text) other
  where
    by : (o : Option ℕ) → is_some o ≡ true → None ≡ result_ok (octets_or_fault o (octets_of_digits text))
    by None e = absurd cc
    by (Some k) e = refl
