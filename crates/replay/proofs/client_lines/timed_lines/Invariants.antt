use Rattle.std.proofs.Common.{Global, map, string_bytes}
use Rattle.std.specs.declared.string.String.{String}
use Rattle.replay.specs.KeptWorlds.{seated}
use Rattle.replay.proofs.worlds.TimedSeats.{Timing}
use Rattle.replay.proofs.client_lines.timed_lines.Given as goal

-- the first clients have had their moment
abbrev pub invariant-seats : goal.invariant-seats
invariant-seats l = Timing l.now l.fn.hub (seated l.fn.seats) l.hub (seated l.seats) (map (λ (t : String Global). string_bytes t) l.lines.items) l.place
