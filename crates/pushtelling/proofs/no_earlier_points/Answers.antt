use Rattle.pushtelling.proofs.Between.{notes_lie_between, later_ones_are_no_earlier}
use Rattle.pushtelling.proofs.no_earlier_points.Goals as goal

pub returns : goal.returns
returns c = record { between = notes_lie_between; later = later_ones_are_no_earlier }
