use Rattle.std.proofs.Common.{sym, subst, set}
use Rattle.linkask.specs.Asking.{asked_for}
use Rattle.linkask.specs.Bounds.{Kept, IsAt, IsGapFor}
use Rattle.linkask.proofs.KeptOrder.{Adds, at-question, gap-question, adds-there, adds-new}
use Rattle.linkask.proofs.entries.add_reason.Goals as goal

there : (c : goal.After-drop-question) → Adds c.args.question c.args.entries.now.items (set c.args.entries.now.items c.in-Ok.place (c.index_mut.result.now.0, record c.index.result.now.1 { reasons = c.saturating_add.result }))
there c =
    adds-there c.args.question c.args.entries.now.items c.in-Ok.place c.index_mut.result.now c.index.result.now c.saturating_add.result c.requires
    (at-question c.args.question _ _ (subst (λ (l : Kept). IsAt (asked_for c.args.question.name c.args.question.kind) l c.in-Ok.place) c.deref.ensures.value c.in-Ok.ensures.found)) c.index_mut.ensures.value c.index.ensures c.saturating_add.ensures

new_one : (c : goal.In_ok-insert-in-Err) → Adds c.args.question c.args.entries.now.items c.insert.new.self.items
new_one c =
    subst (Adds c.args.question c.args.entries.now.items) (sym c.in_ok-insert-in-Err.ensures.items)
    (adds-new c.args.question c.args.entries.now.items c.in-Err.place c.requires (gap-question c.args.question _ _ (subst (λ (l : Kept). IsGapFor (asked_for c.args.question.name c.args.question.kind) l c.in-Err.place) c.deref.ensures.value c.in-Err.ensures.absent)))

pub returns-in-Ok-clause-ok : goal.returns-in-Ok-clause-ok
returns-in-Ok-clause-ok c = (there c).is

pub returns-in-Ok-clause-order : goal.returns-in-Ok-clause-order
returns-in-Ok-clause-order c = (there c).sorted

pub returns-in_ok-insert-in-Err-clause-ok : goal.returns-in_ok-insert-in-Err-clause-ok
returns-in_ok-insert-in-Err-clause-ok c = (new_one c).is

pub returns-in_ok-insert-in-Err-clause-order : goal.returns-in_ok-insert-in-Err-clause-order
returns-in_ok-insert-in-Err-clause-order c = (new_one c).sorted
