use Rattle.std.proofs.Common.{List, ap, ◌∙◌, arith}
use Rattle.subscr.specs.Numbers.{again_of}
use Rattle.subscr.specs.Watching.{times}
use Rattle.subscr.specs.declared.sessions.Again.{Again}
use Rattle.subscr.proofs.Again.{counted-last, counted-less}
use Rattle.subscr.proofs.sessions.count_less.Goals as goal

pub returns-then-besides-eq0 : goal.returns-then-besides-eq0
returns-then-besides-eq0 c = λ one another.
    ap (λ (l : List Again). times another (again_of l)) c.remove.ensures.items
    ∙ (counted-last c.args.again.now.items c.args.place c.index.result.now one c.requires c.index.ensures (omega (arith, c.if-besides-eq0.true)) another)

pub returns : goal.returns
returns c = λ one. counted-less c.args.again.now.items c.args.place c.index.result.now c.index_mut.result.now one c.requires c.index.ensures c.index_mut.ensures.value (omega (arith, c.if-besides-eq0.false))
