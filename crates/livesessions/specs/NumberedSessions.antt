-- Sessions with their numbers.
--     Numbered, session_in, in_sessions, all_sessions, without_session      in order; that of a number, and all of them, changed; and without one
--     AreApart sessions      no number twice
--     AreBelow given sessions      all numbers were given out
--     WaitBefore point sessions      the names that wait do so since an earlier point, and all that is kept of them is older, too
use Rattle.std.specs.Prelude.{ℕ, ◌<◌, not, List, map, filter, find, cond, Option, ◌==◌, option_map}
use Rattle.std.specs.List.{AllByRecursion, IsDistinct}
use Rattle.pushsession.specs.Kept.{KeptSession}
use Rattle.coalesce.specs.Waiting.{IsOlder}

abbrev pub Numbered : Type 0 → Type 0
Numbered S = List (ℕ × S)

abbrev pub session_in : {S : Type 0} → ℕ → Numbered S → Option S
session_in number sessions = option_map (λ e. e.1) (find (λ e. e.0 == number) sessions)

abbrev pub in_sessions : {S : Type 0} → ℕ → (S → S) → Numbered S → Numbered S
in_sessions number f sessions = map (λ e. (e.0, cond (e.0 == number) (f e.1) e.1)) sessions

abbrev pub all_sessions : {S : Type 0} → (S → S) → Numbered S → Numbered S
all_sessions f sessions = map (λ e. (e.0, f e.1)) sessions

abbrev pub without_session : {S : Type 0} → ℕ → Numbered S → Numbered S
without_session number sessions = filter (λ e. not (e.0 == number)) sessions

-- ---- as they are kept

abbrev pub AreApart : {S : Type 0} → Numbered S → Type 0
AreApart sessions = IsDistinct (λ d e. d.0 == e.0) sessions

abbrev pub AreBelow : ℕ → Numbered KeptSession → Type 0
AreBelow given sessions = AllByRecursion (λ e. e.0 < given) sessions

abbrev pub WaitBefore : ℕ → Numbered KeptSession → Type 0
WaitBefore point sessions = AllByRecursion (λ e. AllByRecursion (IsOlder point) e.1.queue) sessions
