use Rattle.std.proofs.Common.{ap, ◌∙◌, nat_lt}
use Rattle.rrset.specs.KeyedRows.{Rows, is_rising}
use Rattle.coalesce.specs.Waiting.{OldValue}
use Rattle.coalesce.proofs.Merging.{rising-filter}
use Rattle.coalesce.proofs.waiting.Waiting.keep_before.Goals as goal

pub invariant_of-self : goal.invariant_of-self
invariant_of-self c = ap (λ (l : Rows OldValue). is_rising l) c.keep_before.ensures ∙ rising-filter (λ e. nat_lt e.1.point c.args.point) c.self.inside.values.items c.self.invariant
