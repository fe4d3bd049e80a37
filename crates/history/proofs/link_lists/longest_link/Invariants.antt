use Rattle.std.proofs.Common.{ℕ, List, Option}
use Rattle.dnsname.specs.Names.{Labels}
use Rattle.history.specs.Longest.{IsLongest}
use Rattle.history.proofs.LongestTurns.{LinksSoFar}
use Rattle.history.proofs.link_lists.longest_link.Given as goal

abbrev pub invariant-links : goal.invariant-links
invariant-links l = (before : List Labels) (best : Option ℕ) → IsLongest before l.name best l.more_than → LinksSoFar before l.links l.name l.index best l.found l.most
