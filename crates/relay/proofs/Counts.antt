-- Counts that stop at the greatest number of 64 bits.
--     few-counted      whether there are at most 60,000 is told by the count
use Rattle.std.proofs.Common.{◌≡◌, ℕ, Bool, true, false, arith, ◌∙◌, ap, refl}
use Rattle.std.specs.Prelude.{nat_le}
use Rattle.std.proofs.lemmas.Bool.Decides.{nat_tests}
use Rattle.rrset.specs.Tables.{counted}

few : (n : ℕ) → nat_le (counted n) 60000 ≡ nat_le n 60000
few n = by (nat_le n 60000) refl
  where
    by : (b : Bool) → nat_le n 60000 ≡ b → nat_le (counted n) 60000 ≡ b
    by true e = grind (arith, nat_tests)
    by false e = grind (arith, nat_tests)

pub few-counted : (size count : ℕ) → count ≡ counted size → nat_le count 60000 ≡ nat_le size 60000
few-counted size count is = ap (λ (n : ℕ). nat_le n 60000) is ∙ few size
