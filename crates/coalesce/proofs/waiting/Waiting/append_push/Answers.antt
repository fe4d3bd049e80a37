use Rattle.std.proofs.Common.{List, ◌++◌, ◌∙◌, ap, length}
use Rattle.dsotlv.specs.declared.message.Notice.{Notice}
use Rattle.coalesce.specs.Net.{push_frame}
use Rattle.coalesce.specs.Touched.{new_rows, old_rows}
use Rattle.coalesce.specs.Waiting.{waiting_of}
use Rattle.coalesce.proofs.Pushing.{ready}
use Rattle.coalesce.proofs.waiting.Waiting.append_push.Goals as goal

pub append_push-requires-clause-touched : goal.append_push-requires-clause-touched
append_push-requires-clause-touched g c = c.sides-touched.ensures.sides c.requires.sides

pub append_push-requires-clause-sides : goal.append_push-requires-clause-sides
append_push-requires-clause-sides g c =
    (ready c.args.questions.now c.args.index.now.rows (waiting_of (c.args.name.now, c.args.self.now)) (old_rows c.sides-touched.result) (new_rows c.sides-touched.result) c.requires.sides c.sides-touched.ensures.old c.sides-touched.ensures.new).sides

pub append_push-requires-clause-sent : goal.append_push-requires-clause-sent
append_push-requires-clause-sent g c =
    (ready c.args.questions.now c.args.index.now.rows (waiting_of (c.args.name.now, c.args.self.now)) (old_rows c.sides-touched.result) (new_rows c.sides-touched.result) c.requires.sides c.sides-touched.ensures.old c.sides-touched.ensures.new).sent

pub returns-clause-written : goal.returns-clause-written
returns-clause-written g c =
    c.append_push.ensures.written
    ∙ ap (λ (l : List Notice). c.args.out.now ++ push_frame l) (ready c.args.questions.now c.args.index.now.rows (waiting_of (c.args.name.now, c.args.self.now)) (old_rows c.sides-touched.result) (new_rows c.sides-touched.result) c.requires.sides c.sides-touched.ensures.old c.sides-touched.ensures.new).same

pub returns-clause-size : goal.returns-clause-size
returns-clause-size g c =
    c.append_push.ensures.size
    ∙ ap (λ (l : List Notice). length (push_frame l)) (ready c.args.questions.now c.args.index.now.rows (waiting_of (c.args.name.now, c.args.self.now)) (old_rows c.sides-touched.result) (new_rows c.sides-touched.result) c.requires.sides c.sides-touched.ensures.old c.sides-touched.ensures.new).same
