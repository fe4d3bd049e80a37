-- The timers of both ends; all numbers are milliseconds (after RFC 8490, 6).
--     new_clocks, restarted      of either end: from the connection on; after a message
--     server_ends      why the session of a server ends
--     infinite, least_keepalive, least_idle, stop_time      spans
--     has_passed_of, is_short      a timer's span has passed; an interval under the least
--     is_silent, is_idle, reason_of      the two reasons, and which one counts
--     is_inactive, is_quiet, client_due      the timers of a client, and what is due there
use Rattle.std.specs.Prelude.{ℕ, ◌+◌, ◌*◌, Bool, not, ◌&&◌, max, Option, Some, None, nat_lt, nat_le, ◌==◌, if◌then◌else◌}
use Rattle.dsosession.specs.declared.times.TheConstants as times
use Rattle.dsosession.specs.declared.session.Timers.{Timers}
use Rattle.dsosession.specs.declared.session.EndReason.{EndReason}
use Rattle.dsosession.specs.declared.session.EndReason.TheVariants.{Silent, Idle}
use Rattle.dsosession.specs.declared.session.Due.{Due}
use Rattle.dsosession.specs.declared.session.Due.TheVariants as dues

-- the timers that hold, when a message last passed, and when one that is no Keepalive did
pub record Clocks : Type 0 where
  pub timers : Timers
  pub last_message : ℕ
  pub last_other : ℕ

-- the timers until a Keepalive says otherwise (RFC 8490, 6.2)
abbrev pub default_timers : Timers
default_timers = record { inactivity = times.DEFAULT_TIMER; keepalive = times.DEFAULT_TIMER }

abbrev pub new_clocks : ℕ → Clocks
new_clocks now = record { timers = default_timers; last_message = now; last_other = now }

-- a message was reacted to or written (RFC 8490, 6.3)
abbrev pub restarted : Bool → ℕ → Clocks → Clocks
restarted is_keepalive now clocks = record clocks { last_message = now; last_other = if is_keepalive then clocks.last_other else now }

-- a timer that never ends (RFC 8490, 6.4.2 and 6.5.2)
abbrev pub infinite : ℕ
infinite = times.INFINITE

-- the least keepalive interval (RFC 8490, 6.5.2)
abbrev pub least_keepalive : ℕ
least_keepalive = times.LEAST_KEEPALIVE

-- the least span after which a session is idle (RFC 8490, 6.4.1)
abbrev pub least_idle : ℕ
least_idle = times.LEAST_IDLE

-- an interval that a server may not grant (RFC 8490, 6.5.2)
abbrev pub is_short : ℕ → Bool
is_short keepalive = nat_lt keepalive least_keepalive

-- how long a client that was asked to stop keeps its connection at most (RFC 8490, 6.6.1)
abbrev pub stop_time : ℕ
stop_time = times.STOP_TIME

-- so long has passed
abbrev pub has_passed : ℕ → ℕ → ℕ → Bool
has_passed span since now = nat_le (since + span) now

-- a span that belongs to a timer has passed; of an infinite one it never does (RFC 8490, 6.4.2 and 6.5.2)
abbrev pub has_passed_of : ℕ → ℕ → ℕ → ℕ → Bool
has_passed_of timer span since now = not (timer == infinite) && has_passed span since now

-- silent where no message came or went for twice the interval (RFC 8490, 6.5.1)
abbrev pub is_silent : Clocks → ℕ → Bool
is_silent clocks now = has_passed_of clocks.timers.keepalive (2 * clocks.timers.keepalive) clocks.last_message now

-- idle where a session without a subscription had no message but Keepalives for twice the timeout, and for
-- the least span (RFC 8490, 6.4.1)
abbrev pub is_idle : Clocks → ℕ → ℕ → Bool
is_idle clocks now subscriptions =
    subscriptions == 0 && has_passed_of clocks.timers.inactivity (max (2 * clocks.timers.inactivity) least_idle) clocks.last_other now

-- silence comes first
abbrev pub reason_of : Bool → Bool → Option EndReason
reason_of silent idle = if silent then Some Silent else if idle then Some Idle else None

abbrev pub server_ends : Clocks → ℕ → ℕ → Option EndReason
server_ends clocks now subscriptions = reason_of (is_silent clocks now) (is_idle clocks now subscriptions)

-- so much as a timer has passed since a moment
abbrev pub has_run_out : ℕ → ℕ → ℕ → Bool
has_run_out timer since now = has_passed_of timer timer since now

-- no message but Keepalives passed for the inactivity timeout (RFC 8490, 6.4.1); no message at all for the keepalive interval (RFC 8490, 6.5.1)
abbrev pub is_inactive : Clocks → ℕ → Bool
is_inactive clocks now = has_run_out clocks.timers.inactivity clocks.last_other now

abbrev pub is_quiet : Clocks → ℕ → Bool
is_quiet clocks now = has_run_out clocks.timers.keepalive clocks.last_message now

-- a client that asks for nothing closes; one that has been quiet sends a Keepalive (RFC 8490, 6.4 and 6.5)
abbrev pub client_due : Clocks → ℕ → Bool → Bool → Due
client_due clocks now active keepalive_out =
    if not active && is_inactive clocks now then dues.Idle
    else if not keepalive_out && is_quiet clocks now then dues.Keepalive
    else dues.Nothing
