use Rattle.std.proofs.Common.{arith}
use Rattle.linkcache.proofs.room.size_of_address.Goals as goal

pub overflow_add-result : goal.overflow_add-result
overflow_add-result c = omega (arith, c.requires.few)
