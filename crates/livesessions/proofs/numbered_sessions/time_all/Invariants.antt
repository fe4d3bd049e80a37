use Rattle.std.proofs.Common.{◌≡◌}
use Rattle.subscr.specs.Watching.{watching_of}
use Rattle.pushsession.specs.Sessions.{timed}
use Rattle.pushsession.specs.Kept.{keeping}
use Rattle.livesessions.specs.NumberedSessions.{AreApart}
use Rattle.livesessions.specs.Watched.{Watches}
use Rattle.livesessions.proofs.NumberedSessions.{front}
use Rattle.livesessions.proofs.numbered_sessions.time_all.Given as goal

abbrev pub invariant-numbered : goal.invariant-numbered
invariant-numbered l = (l.numbered ≡ front (timed keeping l.at) l.place l.fn.numbered)
    × (AreApart l.fn.numbered → AreApart l.numbered)
    × (AreApart l.fn.numbered → Watches (watching_of l.fn.watchers) l.fn.numbered → Watches (watching_of l.watchers) l.numbered)
