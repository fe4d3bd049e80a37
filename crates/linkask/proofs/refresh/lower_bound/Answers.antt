use Rattle.std.proofs.Common.{ℕ, subst, sym}
use Rattle.std.specs.Prelude.{IsTrue, min}
use Rattle.linkask.specs.Asking.{asked_for}
use Rattle.linkask.specs.Bounds.{Kept, are_kept}
use Rattle.linkask.specs.declared.asks.KeptAsks.{KeptAsks}
use Rattle.linkask.proofs.AtOne.{with-none, with-sorted, with-there}
use Rattle.linkask.proofs.refresh.lower_bound.Goals as goal

abbrev low : ℕ → KeptAsks → KeptAsks
low moment asks = record asks { due = min asks.due moment }

pub returns-in_default-clause-entries : goal.returns-in_default-clause-entries
returns-in_default-clause-entries c = with-none (asked_for c.args.name.now c.args.kind) (low c.args.moment) c.args.entries.now c.in_default.field-0 c.in_default.ensures.absent

pub returns-clause-entries : goal.returns-clause-entries
returns-clause-entries c = with-there (asked_for c.args.name.now c.args.kind) (low c.args.moment) c.args.entries.now c.in-Ok.place c.index-entries-place-2.result c.index-entries-place.result c.lowered.result c.requires c.in-Ok.ensures.found c.lowered.ensures

pub returns-clause-order : goal.returns-clause-order
returns-clause-order c =
    subst (λ (l : Kept). IsTrue (are_kept l))
    (sym (with-there (asked_for c.args.name.now c.args.kind) (low c.args.moment) c.args.entries.now c.in-Ok.place c.index-entries-place-2.result c.index-entries-place.result c.lowered.result c.requires c.in-Ok.ensures.found c.lowered.ensures))
    (with-sorted (asked_for c.args.name.now c.args.kind) (low c.args.moment) c.args.entries.now c.requires)
