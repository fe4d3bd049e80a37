use Rattle.std.proofs.Common.{rules}
use Rattle.coalesce.proofs.Entries.{retained}
use Rattle.coalesce.proofs.queue.keep_before.Goals as goal

pub returns : goal.returns
returns c = retained _ c.args.point _ (λ k v b w g call. search rules) _ _ c.retain.ensures.filtered
