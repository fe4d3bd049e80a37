use Rattle.std.proofs.Common.{All}
use Rattle.push_base.specs.Items.{HasOctets}
use Rattle.subscriber_vectors.proofs.runs.items.Given as goal

abbrev pub invariant-pieces : goal.invariant-pieces
invariant-pieces l = All HasOctets l.items.items
