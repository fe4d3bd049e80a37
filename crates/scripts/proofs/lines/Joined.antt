-- A text that begins with a front.
use Rattle.std.proofs.Common.{◌≡◌, true, false, List, ℕ, ◌++◌, length, take, drop, refl, sym, ◌∙◌, ap}
use Rattle.std.specs.Str.{bytes_eq}
use Rattle.std.proofs.lemmas.List.{take_at, take-append-drop}
use Rattle.std.proofs.lemmas.Slice.Eq.{bytes_eq-Decides}

pub front_found : (line front rest : List ℕ) → bytes_eq (take (length front) line) front ≡ true → rest ≡ drop (length front) line → line ≡ front ++ rest
front_found line front rest begins is =
    let first : take (length front) line ≡ front = (bytes_eq-Decides (take (length front) line) front).0 begins in
    sym (take-append-drop (length front) line) ∙ ap (λ (t : List ℕ). t ++ drop (length front) line) first ∙ ap (λ (t : List ℕ). front ++ t) (sym is)

pub front_none : (line front : List ℕ) → bytes_eq (take (length front) line) front ≡ false → (rest : List ℕ) → line ≡ front ++ rest → ⊥
front_none line front other rest whole =
    let first : take (length front) line ≡ front = ap (take (length front)) whole ∙ take_at front rest (length front) refl in
    let begins : bytes_eq (take (length front) line) front ≡ true = (bytes_eq-Decides (take (length front) line) front).1 first in
    absurd cc
