use Rattle.linkask.proofs.FirstDue.{asked-set, bound-is, bounds-set, exact-asked}
use Rattle.linkask.proofs.asker.ask_at.Goals as goal

pub returns-clause-asked : goal.returns-clause-asked
returns-clause-asked c =
    asked-set c.args.now c.args.entries.now c.args.place c.index-entries-place-5.result c.index-entries-place-2.result c.index-entries-place.result c.saturating_add.result c.due_moment-due.result c.requires.within c.saturating_add.ensures

pub returns-clause-bounds : goal.returns-clause-bounds
returns-clause-bounds c =
    bounds-set c.args.cache.now.state.rows c.args.entries.now c.args.place _ c.requires.bounds
    (bound-is c.args.cache.now.state.rows _ c.due_moment-due.result
    (exact-asked c.args.cache.now.state.rows c.args.entries.now c.args.place c.index-entries-place-5.result c.index-entries-place-4.result (record { count = c.saturating_add.result; last = c.args.now }) c.rows_at.result.now c.due_moment-due.result c.requires.within c.rows_at.ensures c.due_moment-due.ensures))
