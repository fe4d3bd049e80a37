use Rattle.replay.proofs.ClientPieces.{delivers-pieces, feeds-pieces}
use Rattle.replay.proofs.laws.clients_take_pieces.Goals as goal

pub returns-clause-delivered : goal.returns-clause-delivered
returns-clause-delivered c = delivers-pieces

pub returns-clause-fed : goal.returns-clause-fed
returns-clause-fed c = feeds-pieces
