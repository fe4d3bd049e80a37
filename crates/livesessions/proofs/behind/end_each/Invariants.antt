use Rattle.std.proofs.Common.{◌≡◌}
use Rattle.subscr.specs.Watching.{watching_of}
use Rattle.livesessions.specs.Behind.{ended_from}
use Rattle.livesessions.specs.NumberedSessions.{AreApart}
use Rattle.livesessions.specs.Watched.{Watches}
use Rattle.livesessions.proofs.NumberedSessions.{front}
use Rattle.livesessions.proofs.behind.end_each.Given as goal

abbrev pub invariant-sessions : goal.invariant-sessions
invariant-sessions l = (l.numbered ≡ front (ended_from l.floor) l.place l.fn.numbered)
    × (AreApart l.fn.numbered → AreApart l.numbered)
    × (AreApart l.fn.numbered → Watches (watching_of l.fn.watchers) l.fn.numbered → Watches (watching_of l.watchers) l.numbered)
