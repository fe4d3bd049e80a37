use Rattle.std.proofs.Common.{◌≡◌, ◌+◌, ◌≤◌, drop}
use Rattle.subscr.specs.Watching.{watching_of}
use Rattle.pushsession.specs.Sessions.{noted}
use Rattle.pushsession.specs.Kept.{keeping, taken_back}
use Rattle.livesessions.specs.NumberedSessions.{all_sessions, AreApart}
use Rattle.livesessions.specs.Watched.{Watches, noting_steps}
use Rattle.livesessions.proofs.noting.note_all.Given as goal

abbrev pub invariant-changes : goal.invariant-changes
invariant-changes g l = (all_sessions (noted keeping (drop l.change-index l.changed) l.point) l.sessions ≡ all_sessions (noted keeping l.changed l.point) l.fn.sessions)
    × (all_sessions (taken_back l.point) l.sessions ≡ all_sessions (taken_back l.point) l.fn.sessions)
    × AreApart l.sessions
    × Watches (watching_of l.watchers) l.sessions
    × (l.fn.steps ≤ l.steps)
    × (l.steps + noting_steps (drop l.change-index l.changed) l.sessions ≤ l.fn.steps + noting_steps l.changed l.fn.sessions)
