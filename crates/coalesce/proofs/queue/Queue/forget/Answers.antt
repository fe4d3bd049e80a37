use Rattle.std.proofs.Common.{◌∙◌, ap}
use Rattle.coalesce.specs.Waiting.{names_waiting, without_name}
use Rattle.coalesce.proofs.Entries.{removed}
use Rattle.coalesce.proofs.queue.Queue.forget.Goals as goal

pub returns : goal.returns
returns c = ap names_waiting c.shift_remove.ensures.entries ∙ removed c.args.name.now c.self.inside.names.entries c.len-len.ensures.unique ∙ ap (without_name c.args.name.now) c.self.view_is
