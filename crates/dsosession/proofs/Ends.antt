-- Why and when a session of the server ends, from the moments of its two tests.
use Rattle.std.proofs.Common.{◌≡◌, ◌<◌, ◌≤◌, ℕ, Bool, true, false, ◌||◌, Option, Some, None, IsSome, IfSome, nat_le, sym, ◌∙◌, ap, refl, arith, rules}
use Rattle.push_base.specs.Limits.{max_number}
use Rattle.dsosession.specs.Timing.{Clocks, is_silent, is_idle, reason_of}
use Rattle.dsosession.specs.SessionStates.{IsDeadline, has_come}

-- one of the tests, or neither
pub reason_of-some : (silent idle : Bool) → (silent || idle) ≡ true → IsSome (reason_of silent idle)
reason_of-some true idle e = search rules
reason_of-some false true e = search rules
reason_of-some false false e = cc

pub reason_of-none : (silent idle : Bool) → (silent || idle) ≡ false → reason_of silent idle ≡ None
reason_of-none true idle e = cc
reason_of-none false true e = cc
reason_of-none false false e = refl

pub nat_le-self : (n : ℕ) → nat_le n n ≡ true
nat_le-self n = search (rules, arith)

pub nat_le-before : (n m : ℕ) → m < n → nat_le n m ≡ false
nat_le-before n m below = search (rules, arith)

-- a moment that has come exactly when a test holds is the deadline
module _ (clocks : Clocks) (subscriptions : ℕ) where
  pub is_deadline : (end : Option ℕ) → IfSome end (λ moment. moment ≤ max_number) → ((now : ℕ) → now ≤ max_number → has_come end now ≡ (is_silent clocks now || is_idle clocks now subscriptions)) → IsDeadline clocks subscriptions end
  is_deadline None told comes = λ now small. reason_of-none _ _ (sym (comes now small))
  is_deadline (Some end) told comes = (
    reason_of-some _ _ (sym (comes end told) ∙ nat_le-self end),
    λ now before. reason_of-none _ _ (sym (comes now (omega (arith, told, before))) ∙ nat_le-before end now before),
  )

-- a session's deadline is the earlier of two moments
pub earlier-is_deadline : (clocks : Clocks) (subscriptions : ℕ) (silent idle end : Option ℕ) → IfSome end (λ moment. moment ≤ max_number) → ((now : ℕ) → now ≤ max_number → has_come silent now ≡ is_silent clocks now) → ((now : ℕ) → now ≤ max_number → has_come idle now ≡ is_idle clocks now subscriptions) → ((now : ℕ) → has_come end now ≡ (has_come silent now || has_come idle now)) → IsDeadline clocks subscriptions end
earlier-is_deadline clocks subscriptions silent idle end told of_silent of_idle comes =
    is_deadline clocks subscriptions end told (λ now small. comes now ∙ ap (λ b. b || has_come idle now) (of_silent now small) ∙ ap (λ b. is_silent clocks now || b) (of_idle now small))
