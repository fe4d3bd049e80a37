-- Memory is wanted where a question or a record is read.
use Rattle.hubasking.proofs.ReadyTurns.{wants-memory}
use Rattle.hubasking.proofs.giving.turn_request.Goals as goal

pub returns-in-Live-clause-memory : goal.returns-in-Live-clause-memory
returns-in-Live-clause-memory c =
    wants-memory c.args.hub.now c.args.number c.in-Some.session.now c.standing.result c.has_output.result c.request.result c.in-Some.ensures c.standing.ensures c.in-Live.is c.has_output.ensures c.if-has_output.false c.request.ensures.memory
