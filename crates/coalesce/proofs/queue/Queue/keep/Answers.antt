use Rattle.std.proofs.Common.{ap, ◌∙◌}
use Rattle.coalesce.specs.Waiting.{names_waiting, with_old_value}
use Rattle.coalesce.proofs.Entries.{on_ok, on_err}
use Rattle.coalesce.proofs.queue.Queue.keep.Goals as goal

pub returns-clause-ok : goal.returns-clause-ok
returns-clause-ok c = on_ok c.keep.result (λ kept point change is. kept ∙ (λ i. with_old_value (c.self.view_is i) (is i))) c.keep.ensures.ok

pub returns-clause-err : goal.returns-clause-err
returns-clause-err c = on_err c.keep.result (λ same. ap names_waiting same ∙ c.self.view_is) c.keep.ensures.err
