use Rattle.std.proofs.Common.{◌≡◌, ◌++◌}
use Rattle.readable.specs.Shown.{shown_labels, shown_parts}
use Rattle.readable.proofs.naming.push_labels.Given as goal

-- what was written, and the labels that are left
abbrev pub invariant-labels : goal.invariant-labels
invariant-labels l = l.out.items ++ shown_parts l.left l.rest ≡ l.fn.out.items ++ shown_labels l.fn.octets

abbrev pub decreases-labels : goal.decreases-labels
decreases-labels l = l.left
