use Rattle.std.proofs.Common.{subst, sym}
use Rattle.std.specs.Prelude.{IsTrue}
use Rattle.linkask.specs.Bounds.{Kept, are_kept}
use Rattle.linkask.specs.declared.asks.KeptAsks.{KeptAsks}
use Rattle.linkask.proofs.AtOne.{with-none, with-sorted, with-there}
use Rattle.linkask.proofs.KeptOrder.{at-question, gap-question}
use Rattle.linkask.proofs.entries.begin_anew.Goals as goal

abbrev begun : KeptAsks → KeptAsks
begun asks = record asks { count = 0; last = 0; due = 0 }

pub returns-in_default-clause-entries : goal.returns-in_default-clause-entries
returns-in_default-clause-entries c = with-none c.args.question.now begun c.args.entries.now c.in_default.field-0 (gap-question c.args.question.now _ _ c.in_default.ensures.absent)

pub returns-clause-entries : goal.returns-clause-entries
returns-clause-entries c = with-there c.args.question.now begun c.args.entries.now c.in-Ok.place c.index-entries-place-2.result c.index-entries-place.result c.anew.result c.requires (at-question c.args.question.now _ _ c.in-Ok.ensures.found) c.anew.ensures

pub returns-clause-order : goal.returns-clause-order
returns-clause-order c =
    subst (λ (l : Kept). IsTrue (are_kept l))
    (sym (with-there c.args.question.now begun c.args.entries.now c.in-Ok.place c.index-entries-place-2.result c.index-entries-place.result c.anew.result c.requires (at-question c.args.question.now _ _ c.in-Ok.ensures.found) c.anew.ensures))
    (with-sorted c.args.question.now begun c.args.entries.now c.requires)
