use Rattle.linkcache.proofs.HeardSteps.{flushed-order, flushed-lower}
use Rattle.linkcache.proofs.heard_rows.flushed_table.Goals as goal

pub from_entries-requires-clause-order : goal.from_entries-requires-clause-order
from_entries-requires-clause-order c = flushed-order c.args.now c.args.heard.now _ _ c.into_entries.ensures.order c.in_ok-rows.ensures

pub from_entries-requires-clause-lower : goal.from_entries-requires-clause-lower
from_entries-requires-clause-lower c = flushed-lower c.args.now c.args.heard.now _ _ c.into_entries.ensures.lower c.in_ok-rows.ensures
