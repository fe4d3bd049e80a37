use Rattle.std.proofs.Common.{length, ◌-◌}
use Rattle.dsotlv.proofs.PushWalks.{ReadSoFar}
use Rattle.dsotlv.proofs.push.read_push.Given as goal

abbrev pub invariant-notices : goal.invariant-notices
invariant-notices l = ReadSoFar l.octets l.place l.notices

abbrev pub decreases-notices : goal.decreases-notices
decreases-notices l = length l.octets - l.place
