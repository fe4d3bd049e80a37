-- A session of either end (RFC 8490, 5.1 and 6).
--     SessionState      its timers, and whether it is established
--     IsDeadline      the moment at which one of the server ends if no message passes until then
--     has_come      whether a moment that may lie beyond all moments has come
use Rattle.std.specs.Prelude.{◌≡◌, ◌<◌, ◌≤◌, ℕ, Bool, false, Option, Some, None, IsSome, nat_le}
use Rattle.push_base.specs.Limits.{max_number}
use Rattle.dsosession.specs.Timing.{Clocks, server_ends}

-- a session of either end: its timers, and whether it is established (RFC 8490, 5.1)
pub record SessionState : Type 0 where
  pub clocks : Clocks
  pub established : Bool

-- The least moment at which a session of the server ends where no message passes; none where it ends at no moment that can be told.
abbrev pub IsDeadline : Clocks → ℕ → Option ℕ → Type 0
IsDeadline clocks subscriptions None = (now : ℕ) → now ≤ max_number → server_ends clocks now subscriptions ≡ None
IsDeadline clocks subscriptions (Some end) =
    IsSome (server_ends clocks end subscriptions) × ((now : ℕ) → now < end → server_ends clocks now subscriptions ≡ None)

-- whether a moment has come; none never comes
abbrev pub has_come : Option ℕ → ℕ → Bool
has_come None now = false
has_come (Some moment) now = nat_le moment now
