-- Bounds on steps: of two pieces of work one behind the other, and larger ones.
use Rattle.std.proofs.Common.{◌≡◌, ℕ, ◌+◌, ◌≤◌, arith}
use Rattle.push_base.specs.Counted.{CountsUpTo}

-- work of which the steps are known exactly
pub counts_exactly : (bound old new : ℕ) → new ≡ old + bound → CountsUpTo bound old new
counts_exactly bound old new is = record { later = omega (arith, is); most = omega (arith, is) }

-- one piece of work and then another
pub counts_both : (first second old mid new : ℕ) → CountsUpTo first old mid → CountsUpTo second mid new → CountsUpTo (first + second) old new
counts_both first second old mid new a b = record { later = omega (arith, a.later, b.later); most = omega (arith, a.most, b.most) }

-- a larger bound
pub counts_within : (few many old new : ℕ) → few ≤ many → CountsUpTo few old new → CountsUpTo many old new
counts_within few many old new small a = record { later = a.later; most = omega (arith, small, a.most) }
