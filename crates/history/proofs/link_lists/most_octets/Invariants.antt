use Rattle.std.proofs.Common.{◌≡◌, drop}
use Rattle.history.specs.Longest.{most_octets}
use Rattle.history.proofs.link_lists.most_octets.Given as goal

abbrev pub invariant-homes : goal.invariant-homes
invariant-homes l = most_octets l.name l.most (drop l.home-index l.homes) ≡ most_octets l.name l.least l.homes
