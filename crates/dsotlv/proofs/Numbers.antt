-- Numbers and octets at a place of a text.
use Rattle.std.proofs.Common.{◌≡◌, ℕ, zero, suc, ◌+◌, ◌-◌, ◌<◌, ◌≤◌, ◌^◌, List, [], ◌∷◌, ◌++◌, length, get_or, take, drop, refl, sym, ap, ◌∙◌, arith}
use Rattle.std.specs.Prelude.{slice_range}
use Rattle.std.specs.Int.{w16, w32, to_be_bytes, from_be_bytes}
use Rattle.std.proofs.lemmas.List.{length-append, length-take, length-drop, take_at, drop_at, drop-drop}
use Rattle.std.proofs.lemmas.List.Elements.{All-head, All-tail, All-drop, All-take}
use Rattle.std.proofs.lemmas.List.Folds.{drop_split}
use Rattle.std.proofs.lemmas.Nat.{from_be_bytes-to_be_bytes_2, from_be_bytes-to_be_bytes_4, be_bytes_2, be_bytes_4}
use Rattle.rrset.specs.Header.{two_octets}
use Rattle.dsotlv.specs.Laws.{AreOctets}

-- the number of four octets at a place
abbrev pub four_octets : List ℕ → ℕ → ℕ
four_octets text at = from_be_bytes w32 (slice_range text at (at + 4))

pub below_everywhere : (xs : List ℕ) → AreOctets xs → (i : ℕ) → get_or xs i 0 < 256
below_everywhere [] below zero = omega arith
below_everywhere [] below (suc i) = omega arith
below_everywhere (x ∷ xs) below zero = All-head (λ o. o < 256) x xs below
below_everywhere (x ∷ xs) below (suc i) = below_everywhere xs (All-tail (λ o. o < 256) x xs below) i

pub nothing : (xs : List ℕ) → length xs ≡ 0 → xs ≡ []
nothing [] h = refl
nothing (x ∷ xs) h = absurd (omega (arith, h))

-- ---- what stands at a place

-- the octets behind those that stand at a place
pub drop_next : (text : List ℕ) (at next : ℕ) (front rest : List ℕ) → drop at text ≡ front ++ rest → next ≡ at + length front → drop next text ≡ rest
drop_next text at next front rest e place = ap (λ (n : ℕ). drop n text) place ∙ sym (drop-drop (length front) at text) ∙ ap (drop (length front)) e ∙ drop_at front rest (length front) refl

pub range_at : (text : List ℕ) (at end : ℕ) (front rest : List ℕ) → drop at text ≡ front ++ rest → end ≡ at + length front → slice_range text at end ≡ front
range_at text at end front rest e place =
    let size : end - at ≡ length front = omega (arith, place) in
    ap (λ (n : ℕ). take n (drop at text)) size ∙ ap (take (length front)) e ∙ take_at front rest (length front) refl

-- what stands at a place leaves room for what follows
pub room : (text : List ℕ) (at : ℕ) (front rest : List ℕ) → drop at text ≡ front ++ rest → length text - at ≡ length front + length rest
room text at front rest e = omega (arith, length-drop at text, ap length e, length-append front rest)

pub length-range : (text : List ℕ) (at end : ℕ) → at ≤ end → end ≤ length text → length (slice_range text at end) ≡ end - at
length-range text at end low high = omega (arith, length-take (end - at) (drop at text), length-drop at text)

range_octets : (text : List ℕ) (at end : ℕ) → AreOctets text → AreOctets (slice_range text at end)
range_octets text at end below = All-take (λ o. o < 256) (end - at) (drop at text) (All-drop (λ o. o < 256) at text below)

-- ---- numbers

pub two_read : (n : ℕ) (text : List ℕ) (at : ℕ) (rest : List ℕ) → n < 2 ^ 16 → drop at text ≡ to_be_bytes w16 n ++ rest → two_octets text at ≡ n
two_read n text at rest small e = ap (from_be_bytes w16) (range_at text at (at + 2) (to_be_bytes w16 n) rest e refl) ∙ from_be_bytes-to_be_bytes_2 n small

pub four_read : (n : ℕ) (text : List ℕ) (at : ℕ) (rest : List ℕ) → n < 2 ^ 32 → drop at text ≡ to_be_bytes w32 n ++ rest → four_octets text at ≡ n
four_read n text at rest small e = ap (from_be_bytes w32) (range_at text at (at + 4) (to_be_bytes w32 n) rest e refl) ∙ from_be_bytes-to_be_bytes_4 n small

pub two_there : (text : List ℕ) (at next : ℕ) → AreOctets text → at + 2 ≤ length text → next ≡ at + 2 → drop at text ≡ to_be_bytes w16 (two_octets text at) ++ drop next text
two_there text at next below fits place =
    let range = slice_range text at (at + 2) in
    let long : length range ≡ 2 = omega (arith, length-range text at (at + 2) (omega arith) fits) in
    let same : to_be_bytes w16 (two_octets text at) ≡ range = be_bytes_2 range (two_octets text at) long (below_everywhere range (range_octets text at (at + 2) below)) refl in
    drop_split text at (at + 2) (omega arith) ∙ ap (λ (xs : List ℕ). xs ++ drop (at + 2) text) (sym same) ∙ ap (λ (n : ℕ). to_be_bytes w16 (two_octets text at) ++ drop n text) (sym place)

pub four_there : (text : List ℕ) (at next : ℕ) → AreOctets text → at + 4 ≤ length text → next ≡ at + 4 → drop at text ≡ to_be_bytes w32 (four_octets text at) ++ drop next text
four_there text at next below fits place =
    let range = slice_range text at (at + 4) in
    let long : length range ≡ 4 = omega (arith, length-range text at (at + 4) (omega arith) fits) in
    let same : to_be_bytes w32 (four_octets text at) ≡ range = be_bytes_4 range (four_octets text at) long (below_everywhere range (range_octets text at (at + 4) below)) refl in
    drop_split text at (at + 4) (omega arith) ∙ ap (λ (xs : List ℕ). xs ++ drop (at + 4) text) (sym same) ∙ ap (λ (n : ℕ). to_be_bytes w32 (four_octets text at) ++ drop n text) (sym place)

pub two_below : (text : List ℕ) (at : ℕ) → AreOctets text → two_octets text at < 2 ^ 16
two_below text at below =
    let each = below_everywhere (slice_range text at (at + 2)) (range_octets text at (at + 2) below) in
    let high = each 0 in
    let low = each 1 in
    omega (arith, high, low)

pub four_below : (text : List ℕ) (at : ℕ) → AreOctets text → four_octets text at < 2 ^ 32
four_below text at below =
    let each = below_everywhere (slice_range text at (at + 4)) (range_octets text at (at + 4) below) in
    omega (arith, each 0, each 1, each 2, each 3)
