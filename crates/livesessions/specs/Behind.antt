-- Sessions that are behind, told by the journal's floor: the least point from which on one more entry has room.
--     behind_from floor session, ended_from floor session      the point from which on a session needs the past, where that is before the floor; the session then ends
--     needed_with floor needed session, needed_by floor newest sessions      the least of a point and of those that sessions need which aren't behind
use Rattle.std.specs.Prelude.{ℕ, ◌&&◌, fold, Option, Some, None, cond, nat_lt, nat_le, option_map}
use Rattle.coalesce.specs.Waiting.{first_point}
use Rattle.dsosession.specs.declared.session.EndReason.TheVariants as ends
use Rattle.pushsession.specs.Sessions.{is_open, ended_where}
use Rattle.pushsession.specs.Kept.{KeptSession, keeping}
use Rattle.livesessions.specs.NumberedSessions.{Numbered}

abbrev pub behind_from : ℕ → KeptSession → Option ℕ
behind_from floor session = elim (first_point session.queue) [ None ↦ None | Some point ↦ cond (nat_lt point floor && is_open session.standing) (Some point) None ]

abbrev pub ended_from : ℕ → KeptSession → KeptSession
ended_from floor session = ended_where keeping (option_map (λ point. ends.Behind point) (behind_from floor session)) session

abbrev pub needed_with : ℕ → ℕ → KeptSession → ℕ
needed_with floor needed session = elim (first_point session.queue) [ None ↦ needed | Some point ↦ cond (nat_le floor point && nat_lt point needed) point needed ]

abbrev pub needed_by : ℕ → ℕ → Numbered KeptSession → ℕ
needed_by floor newest sessions = fold (λ needed e. needed_with floor needed e.1) newest sessions
