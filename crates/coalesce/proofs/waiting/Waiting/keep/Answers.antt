use Rattle.coalesce.proofs.Merging.{rising-kept}
use Rattle.coalesce.proofs.waiting.Waiting.keep.Goals as goal

pub invariant_of-self : goal.invariant_of-self
invariant_of-self c = rising-kept c.args.old.now c.self.inside.values.items c.keep_value.new.values.items c.keep_value.result c.self.invariant c.keep_value.ensures.ok c.keep_value.ensures.err
