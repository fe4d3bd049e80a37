use Rattle.std.proofs.Common.{◌≡◌, ◌++◌, length}
use Rattle.scripts.specs.Scripts.{lines_in}
use Rattle.scripts.specs.Carrying.{alone_in}
use Rattle.scripts.specs.TextLines.{is_too_long}
use Rattle.scripts.specs.WholeScripts.{named_in, made_by, all_made, all_carried}
use Rattle.scripts.proofs.wholes.Carried.{AreCarried}
use Rattle.scripts.proofs.named.all_named.Given as goal

-- the words and the carriers so far, and those of the lines that are left
abbrev pub invariant-lines : goal.invariant-lines
invariant-lines l =
    (l.clients ++ named_in made_by (is_too_long l.fn.octets) (lines_in l.rest) ≡ all_made l.fn.octets)
    × AreCarried (alone_in l.carriers) (is_too_long l.fn.octets) l.rest (all_carried l.fn.octets)

abbrev pub decreases-lines : goal.decreases-lines
decreases-lines l = length l.rest
