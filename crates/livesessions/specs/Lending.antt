-- A session that is lent out of a list.
--     LendsSession      what it becomes stands in its place
use Rattle.std.specs.Prelude.{◌≡◌, ℕ, Option}
use Rattle.std.specs.Option.{OnSome}
use Rattle.std.specs.Borrow.{LendsSo, MutBor, Fml}
use Rattle.pushsession.specs.Kept.{KeptSession}
use Rattle.pushsession.specs.contracts.session.PushSession.{the_row as session_row}
use Rattle.livesessions.specs.NumberedSessions.{Numbered, in_sessions}
use Rattle.livesessions.specs.contracts.numbered_sessions.Sessions.{the_row}

-- without a session of this number the list stays
abbrev pub LendsSession : MutBor (Numbered KeptSession) → ℕ → Option (MutBor KeptSession) → Fml
LendsSession sessions number lent =
    LendsSo the_row session_row sessions lent (λ list last. OnSome lent (list ≡ in_sessions number (λ _. last) sessions.now)) (λ list. list ≡ sessions.now)
