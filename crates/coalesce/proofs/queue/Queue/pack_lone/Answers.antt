use Rattle.std.proofs.Common.{List, length, ap, ◌∙◌}
use Rattle.coalesce.specs.Waiting.{WaitingName, names_waiting, left_in}
use Rattle.coalesce.proofs.Entries.{names-dropped}
use Rattle.coalesce.proofs.Pushing.{lone_left}
use Rattle.coalesce.proofs.queue.Queue.pack_lone.Goals as goal

pub returns-clause-left : goal.returns-clause-left
returns-clause-left g c =
    let asked = c.args.questions.now in
    let rows = c.args.index.now.rows in
    let entries = c.self.inside.names.entries in
    let one = ap (λ (q : List WaitingName). length q) c.self.view_is ∙ c.requires.lone in
    ap names_waiting c.drop_front.ensures
    ∙ names-dropped 1 entries
    ∙ lone_left asked rows (names_waiting entries) one
    ∙ ap (left_in asked rows) c.self.view_is
