use Rattle.std.proofs.Common.{◌∙◌, ap, arith}
use Rattle.coalesce.specs.Net.{size_of_notices}
use Rattle.coalesce.specs.Touched.{new_rows, old_rows}
use Rattle.coalesce.specs.Waiting.{waiting_of}
use Rattle.coalesce.proofs.Pushing.{ready}
use Rattle.coalesce.proofs.waiting.Waiting.size.Goals as goal

pub net_size-requires-clause-touched : goal.net_size-requires-clause-touched
net_size-requires-clause-touched g c = c.sides-touched.ensures.sides c.requires

pub net_size-requires-clause-sides : goal.net_size-requires-clause-sides
net_size-requires-clause-sides g c =
    (ready c.args.questions.now c.args.index.now.rows (waiting_of (c.args.name.now, c.args.self.now)) (old_rows c.sides-touched.result) (new_rows c.sides-touched.result) c.requires c.sides-touched.ensures.old c.sides-touched.ensures.new).sides

pub net_size-requires-clause-sent : goal.net_size-requires-clause-sent
net_size-requires-clause-sent g c =
    (ready c.args.questions.now c.args.index.now.rows (waiting_of (c.args.name.now, c.args.self.now)) (old_rows c.sides-touched.result) (new_rows c.sides-touched.result) c.requires c.sides-touched.ensures.old c.sides-touched.ensures.new).sent

pub returns-clause-size : goal.returns-clause-size
returns-clause-size g c =
    c.net_size.ensures.size
    ∙ ap size_of_notices (ready c.args.questions.now c.args.index.now.rows (waiting_of (c.args.name.now, c.args.self.now)) (old_rows c.sides-touched.result) (new_rows c.sides-touched.result) c.requires c.sides-touched.ensures.old c.sides-touched.ensures.new).same

pub returns-clause-most : goal.returns-clause-most
returns-clause-most g c =
    let is = ready c.args.questions.now c.args.index.now.rows (waiting_of (c.args.name.now, c.args.self.now)) (old_rows c.sides-touched.result) (new_rows c.sides-touched.result) c.requires c.sides-touched.ensures.old c.sides-touched.ensures.new in
    let size = c.net_size.ensures.size ∙ ap size_of_notices is.same in
    let small = is.small in
    omega (arith, size, small)
