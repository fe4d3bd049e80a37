use Rattle.std.proofs.Common.{◌<◌, length, All}
use Rattle.commands_vectors.proofs.objects.items.Given as goal

abbrev pub invariant-pieces : goal.invariant-pieces
invariant-pieces l = All (λ item. 0 < length item) l.items.items
