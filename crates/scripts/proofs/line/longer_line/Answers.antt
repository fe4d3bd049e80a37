use Rattle.scripts.proofs.lines.Splits.{nothing_behind}
use Rattle.scripts.proofs.line.longer_line.Goals as goal

pub returns-in-Point : goal.returns-in-Point
returns-in-Point c = record { exact = nothing_behind c.args.kind c.args.text.now c.in-Point.is }
