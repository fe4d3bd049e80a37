-- Where memory runs out all that was kept at the point goes, and what is older stays.
use Rattle.std.proofs.Common.{◌∙◌, ap}
use Rattle.coalesce.specs.Waiting.{before_point}
use Rattle.coalesce.proofs.GoingBack.{older_stay}
use Rattle.coalesce.proofs.queue.Queue.note.Goals as goal

pub returns-in-Err-clause-err : goal.returns-in-Err-clause-err
returns-in-Err-clause-err c = c.keep_before.ensures ∙ c.in-Err.ensures.err ∙ ap (before_point c.args.point) c.self.view_is ∙ older_stay c.args.point c.args.self.now c.requires
