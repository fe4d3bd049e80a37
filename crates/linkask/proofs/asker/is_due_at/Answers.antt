use Rattle.linkask.proofs.FirstDue.{bound-is, bounds-set, due-at, exact-at, idle-at, same-set}
use Rattle.linkask.proofs.asker.is_due_at.Goals as goal

pub returns-then-asks-now-clause-due : goal.returns-then-asks-now-clause-due
returns-then-asks-now-clause-due c = λ d.
    idle-at c.args.cache.now.state.rows c.args.now c.args.entries.now c.args.place c.index-entries-place.result d c.requires.within c.requires.bounds c.if-asks-now.true

pub returns-clause-same : goal.returns-clause-same
returns-clause-same c = same-set c.args.cache.now.state.rows c.args.entries.now c.args.place c.index-entries-place-3.result c.index-entries-place.result c.due_moment-due.result c.requires.within

pub returns-clause-bounds : goal.returns-clause-bounds
returns-clause-bounds c =
    bounds-set c.args.cache.now.state.rows c.args.entries.now c.args.place _ c.requires.bounds
    (bound-is c.args.cache.now.state.rows _ c.due_moment-due.result
    (exact-at c.args.cache.now.state.rows c.args.entries.now c.args.place c.index-entries-place-3.result c.index-entries-place.result c.index-entries-place-2.result c.index-entries-place.result c.rows_at.result.now c.due_moment-due.result c.requires.within
    c.rows_at.ensures c.due_moment-due.ensures))

pub returns-clause-due : goal.returns-clause-due
returns-clause-due c = λ d.
    due-at c.args.cache.now.state.rows c.args.now c.args.entries.now c.args.place c.index-entries-place-2.result c.index-entries-place.result d c.due_moment-due.result c.requires.within c.requires.moment
    (exact-at c.args.cache.now.state.rows c.args.entries.now c.args.place c.index-entries-place-2.result c.index-entries-place.result c.index-entries-place-2.result c.index-entries-place.result c.rows_at.result.now c.due_moment-due.result c.requires.within
    c.rows_at.ensures c.due_moment-due.ensures)
