use Rattle.std.proofs.Common.{◌++◌, ◌∙◌, ap, arith}
use Rattle.std.specs.Prelude.{flat_map}
use Rattle.dsotlv.specs.Notices.{notice_octets}
use Rattle.coalesce.specs.Net.{size_of_notices}
use Rattle.coalesce.specs.Touched.{new_rows, old_rows}
use Rattle.coalesce.specs.Waiting.{waiting_of}
use Rattle.coalesce.proofs.Pushing.{ready}
use Rattle.coalesce.proofs.waiting.Waiting.append_to.Goals as goal

pub append_net-requires-clause-touched : goal.append_net-requires-clause-touched
append_net-requires-clause-touched g c = c.sides-touched.ensures.sides c.requires.sides

pub append_net-requires-clause-sides : goal.append_net-requires-clause-sides
append_net-requires-clause-sides g c =
    (ready c.args.questions.now c.args.index.now.rows (waiting_of (c.args.name.now, c.args.self.now)) (old_rows c.sides-touched.result) (new_rows c.sides-touched.result) c.requires.sides c.sides-touched.ensures.old c.sides-touched.ensures.new).sides

pub append_net-requires-clause-sent : goal.append_net-requires-clause-sent
append_net-requires-clause-sent g c =
    (ready c.args.questions.now c.args.index.now.rows (waiting_of (c.args.name.now, c.args.self.now)) (old_rows c.sides-touched.result) (new_rows c.sides-touched.result) c.requires.sides c.sides-touched.ensures.old c.sides-touched.ensures.new).sent

pub append_net-requires-clause-room : goal.append_net-requires-clause-room
append_net-requires-clause-room g c =
    let is = ready c.args.questions.now c.args.index.now.rows (waiting_of (c.args.name.now, c.args.self.now)) (old_rows c.sides-touched.result) (new_rows c.sides-touched.result) c.requires.sides c.sides-touched.ensures.old c.sides-touched.ensures.new in
    let size = ap size_of_notices is.same in
    omega (arith, size, c.requires.room)

pub returns-clause-written : goal.returns-clause-written
returns-clause-written g c =
    c.append_net.ensures
    ∙ ap (λ l. c.args.out.now ++ flat_map notice_octets l) (ready c.args.questions.now c.args.index.now.rows (waiting_of (c.args.name.now, c.args.self.now)) (old_rows c.sides-touched.result) (new_rows c.sides-touched.result) c.requires.sides c.sides-touched.ensures.old c.sides-touched.ensures.new).same
