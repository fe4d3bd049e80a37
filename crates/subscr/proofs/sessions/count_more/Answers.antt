use Rattle.subscr.proofs.Again.{counted-more}
use Rattle.subscr.proofs.sessions.count_more.Goals as goal

pub returns-clause-ok : goal.returns-clause-ok
returns-clause-ok c = λ one. counted-more c.args.again.now.items c.args.place c.index.result.now c.index_mut.result.now one c.requires c.index.ensures c.index_mut.ensures.value
