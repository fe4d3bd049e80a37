use Rattle.std.proofs.Common.{◌-◌, subst, set}
use Rattle.linkask.specs.Asking.{asked_for}
use Rattle.linkask.specs.Bounds.{Kept, IsAt, IsGapFor}
use Rattle.linkask.proofs.KeptOrder.{Drops, at-question, gap-question, drops-none, drops-one, drops-last, is-several, is-last}
use Rattle.linkask.proofs.entries.drop_reason.Goals as goal

one_of : (c : goal.After-entries-1)
    → Drops c.args.question.now c.args.entries.now.items (set c.args.entries.now.items c.in-Ok.place (c.index_mut.result.now.0, record c.index.result.now.1 { reasons = c.index.result.now.1.reasons - 1 }))
one_of c =
    drops-one c.args.question.now c.args.entries.now.items c.in-Ok.place c.index_mut.result.now c.index.result.now c.requires
    (at-question c.args.question.now _ _ (subst (λ (l : Kept). IsAt (asked_for c.args.question.now.name c.args.question.now.kind) l c.in-Ok.place) c.deref.ensures.value c.in-Ok.ensures.found)) c.index_mut.ensures.value c.index.ensures (is-several c.index.result.now.1.reasons c.if-asks-gt1.true)

last_of : (c : goal.After-drop-remove) → Drops c.args.question.now c.args.entries.now.items c.remove.new.self.items
last_of c =
    drops-last c.args.question.now c.args.entries.now.items c.remove.new.self.items c.in-Ok.place c.index.result.now c.requires
    (at-question c.args.question.now _ _ (subst (λ (l : Kept). IsAt (asked_for c.args.question.now.name c.args.question.now.kind) l c.in-Ok.place) c.deref.ensures.value c.in-Ok.ensures.found)) c.index.ensures (is-last c.index.result.now.1.reasons c.if-asks-gt1.false) c.remove.ensures.items

pub returns-in_default-clause-entries : goal.returns-in_default-clause-entries
returns-in_default-clause-entries c =
    (drops-none c.args.question.now c.args.entries.now.items c.in_default.field-0 c.requires (gap-question c.args.question.now _ _ (subst (λ (l : Kept). IsGapFor (asked_for c.args.question.now.name c.args.question.now.kind) l c.in_default.field-0) c.deref.ensures.value c.in_default.ensures.absent))).is

pub returns-then-asks-gt1-clause-entries : goal.returns-then-asks-gt1-clause-entries
returns-then-asks-gt1-clause-entries c = (one_of c).is

pub returns-then-asks-gt1-clause-order : goal.returns-then-asks-gt1-clause-order
returns-then-asks-gt1-clause-order c = (one_of c).sorted

pub returns-else-asks-gt1-clause-entries : goal.returns-else-asks-gt1-clause-entries
returns-else-asks-gt1-clause-entries c = (last_of c).is

pub returns-else-asks-gt1-clause-order : goal.returns-else-asks-gt1-clause-order
returns-else-asks-gt1-clause-order c = (last_of c).sorted
