use Rattle.history.specs.Longest.{IsLongest}
use Rattle.history.proofs.LongestTurns.{names}
use Rattle.history.proofs.zone_lists.longest_zone.Given as goal

abbrev pub invariant-zones : goal.invariant-zones
invariant-zones l = IsLongest (names (λ z. z.state.apex) l.index l.zones) l.name l.best l.most
