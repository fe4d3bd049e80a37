-- Octets as numbers.
--     spelled      the number that so many octets spell behind another
use Rattle.std.specs.Prelude.{ℕ, zero, suc, ◌+◌, ◌*◌, List, [], ◌∷◌}

-- where there are fewer octets the others count as 0
abbrev pub spelled : ℕ → ℕ → List ℕ → ℕ
spelled before zero octets = before
spelled before (suc more) [] = spelled (before * 256) more []
spelled before (suc more) (o ∷ os) = spelled (before * 256 + o) more os
