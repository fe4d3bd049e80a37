use Rattle.std.proofs.Common.{◌≡◌}
use Rattle.pushsession.specs.Kept.{taken_back}
use Rattle.livesessions.proofs.NumberedSessions.{front}
use Rattle.livesessions.proofs.numbered_sessions.take_back_all.Given as goal

abbrev pub invariant-numbered : goal.invariant-numbered
invariant-numbered l = l.numbered ≡ front (taken_back l.point) l.place l.fn.numbered
