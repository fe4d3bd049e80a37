use Rattle.std.proofs.Common.{◌≡◌, ◌++◌, drop}
use Rattle.replay.specs.TwoWorlds.{woven}
use Rattle.replay.proofs.two_worlds.woven.Given as goal

-- those so far, and those that are left
abbrev pub invariant-turns : goal.invariant-turns
invariant-turns g l = l.all.items ++ woven (drop l.is_far-index l.fn.order) l.near.items l.far.items ≡ woven l.fn.order l.fn.near.items l.fn.far.items
