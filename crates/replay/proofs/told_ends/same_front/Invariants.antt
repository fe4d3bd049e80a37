use Rattle.std.proofs.Common.{◌≡◌, take}
use Rattle.replay.proofs.told_ends.same_front.Given as goal

-- the first ones are the same
abbrev pub invariant-told : goal.invariant-told
invariant-told l = take l.place l.fn.told ≡ take l.place l.fn.filled
