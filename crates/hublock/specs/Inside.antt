-- What the value under the lock tells.
--     LockedState      the hub, the totals of the books, the lines that are over, how many sessions are still to end, and whether all is to stop
--     Holds      the hub stands for a plain one, and the books have its totals
--     AcceptsNone, AcceptsChange, AcceptsMoment, AcceptsHearing      what the journal's counts and a feed's rise by
--     is_live, marked      whether a session lives; the marks with one more
--     is_done      whether nothing is left to do for a role
--     signalled      behind a signal
use Rattle.std.specs.Prelude.{◌≡◌, ℕ, ◌+◌, ◌-◌, ◌⊎◌, ◌||◌, ◌==◌, not, Bool, true, false, cond, List, [], ◌∷◌, ◌++◌, filter, is_some, Result, Ok, Err}
use Rattle.std.specs.List.{list_any, IsDistinct}
use Rattle.history.specs.declared.entry.Totals.{Totals}
use Rattle.pushserver.specs.PlainHubs.{Hub}
use Rattle.pushserver.specs.Hubs.{session_of}
use Rattle.pushserver.specs.KeptHubs.{StandsFor}
use Rattle.pushserver.specs.declared.given.Heard.{Heard}
use Rattle.pushserver.specs.declared.given.Heard.TheVariants.{Entered, Ignored}
use Rattle.pushserver.specs.declared.fault.HubFault.{HubFault}
use Rattle.hubasking.specs.AskingHubs.{AskingHub}
use Rattle.push_base.specs.declared.role.Role.{Role}
use Rattle.push_base.specs.declared.role.Role.TheVariants.{Reader, Writer, Link, Clock}
use Rattle.hublock.specs.declared.signal.Signal.{Signal}
use Rattle.hublock.specs.declared.signal.Signal.TheVariants as signals
use Rattle.hublock.specs.Feeds.{FeedState, one_change_more, one_hearing_more, one_moment_more}

pub record LockedState : Type 0 where
  pub hub : AskingHub
  pub books : Totals
  pub seats : ℕ
  pub over : List ℕ
  pub left : ℕ
  pub quit : Bool

-- how many entries of each group there ever were
abbrev pub counted : AskingHub → Totals
counted hub = hub.hub.seen.counts

-- the hub stands for a plain one, and the books have its totals
pub record Holds (hub : AskingHub) (books : Totals) (seats : ℕ) : Type 0 where
  pub stands : (plain : Hub) × StandsFor hub.hub plain
  pub counts : books ≡ counted hub
  pub made : seats ≡ hub.hub.numbers_given

-- the hub changes, and the books' totals with it
abbrev pub with_hub : LockedState → AskingHub → LockedState
with_hub state hub = record state { hub = hub; books = counted hub; seats = hub.hub.numbers_given }

-- ---- what was accepted

abbrev pub AcceptsNone : AskingHub → AskingHub → FeedState → FeedState → Type 0
AcceptsNone old new feed now = (now ≡ feed) × (counted new ≡ counted old)

abbrev pub AcceptsMoment : AskingHub → AskingHub → FeedState → FeedState → Type 0
AcceptsMoment old new feed now =
    (now ≡ one_moment_more feed)
    × (counted new ≡ record (counted old) { moments = (counted old).moments + 1 })

abbrev pub AcceptsChange : AskingHub → AskingHub → FeedState → FeedState → Type 0
AcceptsChange old new feed now =
    (now ≡ one_change_more feed)
    × (counted new ≡ record (counted old) { changes = (counted old).changes + 1 })

abbrev pub AcceptsHearing : AskingHub → AskingHub → FeedState → FeedState → Type 0
AcceptsHearing old new feed now =
    (now ≡ one_hearing_more feed)
    × (counted new ≡ record (counted old) { heard = (counted old).heard + 1 })

-- a moment was entered and the feed rose by it, or neither
abbrev pub MayAcceptMoment : AskingHub → AskingHub → FeedState → FeedState → Type 0
MayAcceptMoment old new feed now = AcceptsNone old new feed now ⊎ AcceptsMoment old new feed now

-- the same of a change
abbrev pub MayAcceptChange : AskingHub → AskingHub → FeedState → FeedState → Type 0
MayAcceptChange old new feed now = AcceptsNone old new feed now ⊎ AcceptsChange old new feed now

-- a hearing was entered and the feed rose by it exactly where it was answered so
abbrev pub AcceptsAsHeard : Result Heard HubFault → AskingHub → AskingHub → FeedState → FeedState → Type 0
AcceptsAsHeard (Ok Entered) old new feed now = AcceptsHearing old new feed now
AcceptsAsHeard (Ok (Ignored why)) old new feed now = AcceptsNone old new feed now
AcceptsAsHeard (Err fault) old new feed now = AcceptsNone old new feed now

-- a link's going was entered among the hearings and the feed rose by it exactly where it was answered so
abbrev pub AcceptsAsGone : Result Bool HubFault → AskingHub → AskingHub → FeedState → FeedState → Type 0
AcceptsAsGone (Ok true) old new feed now = AcceptsHearing old new feed now
AcceptsAsGone (Ok false) old new feed now = AcceptsNone old new feed now
AcceptsAsGone (Err fault) old new feed now = AcceptsNone old new feed now

-- ---- the lines that are over

abbrev pub is_live : AskingHub → ℕ → Bool
is_live hub session = is_some (session_of hub.hub session)

abbrev pub has_mark : ℕ → List ℕ → Bool
has_mark session over = list_any (λ mark. mark == session) over

-- no session is marked twice
abbrev pub AreMarks : List ℕ → Type 0
AreMarks over = IsDistinct (λ a b. a == b) over

abbrev pub with_mark : ℕ → List ℕ → List ℕ
with_mark session over = cond (has_mark session over) over (over ++ session ∷ [])

abbrev pub without_mark : ℕ → List ℕ → List ℕ
without_mark session over = filter (λ mark. not (mark == session)) over

-- a session that lives is marked, and the marks of those that don't go; else all is as before
abbrev pub marked : AskingHub → ℕ → List ℕ → List ℕ
marked hub session over = cond (is_live hub session) (with_mark session (filter (is_live hub) over)) over

-- whether nothing is left to do for a role
abbrev pub is_done : LockedState → Role → Bool
is_done state (Reader session) = state.quit || not (is_live state.hub session)
is_done state (Writer session) = state.quit || has_mark session state.over
is_done state (Link link) = state.quit || (state.left == 0)
is_done state Clock = state.quit || (state.left == 0)

-- behind a signal
abbrev pub signalled : Signal → LockedState → LockedState
signalled (signals.Begun sessions) state = record state { left = sessions }
signalled (signals.LineOver session) state = record state { over = marked state.hub session state.over }
signalled signals.SessionOver state = record state { left = state.left - 1 }
signalled signals.Quit state = record state { quit = true }
