-- Octets of digits, and of texts.
use Rattle.std.proofs.Common.{◌≡◌, ℕ, zero, suc, ◌+◌, ◌<◌, ◌≤◌, ◌/◌, ◌%◌, Bool, true, false, ◌&&◌, ◌||◌, List, [], ◌∷◌, drop, arith}
use Rattle.std.proofs.lemmas.Bool.Decides.{nat_tests}
use Rattle.std.specs.Prelude.{◌==◌, nat_le}
use Rattle.std.specs.List.{AllByRecursion}
use Rattle.dnsname.specs.Text.{dot, backslash, is_special, is_visible}
use Rattle.readable.specs.Shown.{is_within}

-- a digit by its code
pub digit_plain : (d : ℕ) → 48 ≤ d → d ≤ 57 → is_special d ≡ false
digit_plain d low high = grind (arith, low, high)

pub digit_seen : (d : ℕ) → 48 ≤ d → d ≤ 57 → is_visible d ≡ true
digit_seen d low high = grind (arith, low, high)

pub digit_within : (d : ℕ) → 48 ≤ d → d ≤ 57 → is_within 32 126 d ≡ true
digit_within d low high = grind (arith, low, high)

pub hundreds : (o : ℕ) → o < 256 → 48 + o / 100 ≤ 57
hundreds o few = omega (arith, few)

pub tens : (o : ℕ) → 48 + o / 10 % 10 ≤ 57
tens o = omega arith

pub ones : (o : ℕ) → 48 + o % 10 ≤ 57
ones o = omega arith

pub special_seen : (o : ℕ) → is_special o ≡ true → is_visible o ≡ true
special_seen o e = grind (arith, e)

pub special_within : (o : ℕ) → is_special o ≡ true → is_within 32 126 o ≡ true
special_within o e = grind (arith, e)

-- octets of characters of several are neither special nor visible
pub high_plain : (o : ℕ) → 128 ≤ o → is_special o ≡ false
high_plain o high = grind (arith, high)

pub all-drop : {X : Type 0} (P : X → Type 0) (n : ℕ) (xs : List X) → AllByRecursion P xs → AllByRecursion P (drop n xs)
all-drop P zero xs h = h
all-drop P (suc n) [] h = tt
all-drop P (suc n) (x ∷ xs) h = all-drop P n xs h.1
