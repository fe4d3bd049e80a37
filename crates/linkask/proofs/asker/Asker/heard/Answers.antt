use Rattle.std.proofs.Common.{length, subst, sym, ◌∙◌, ap}
use Rattle.std.specs.Prelude.{IsTrue}
use Rattle.linkask.specs.Bounds.{Kept, all_heard, are_kept, unbounded}
use Rattle.linkask.proofs.Asking.{least-zero, same-long, searched, written}
use Rattle.linkask.proofs.Lowering.{unbounded-all}
use Rattle.linkask.proofs.asker.Asker.heard.Goals as goal

pub hear_all-requires-clause-order : goal.hear_all-requires-clause-order
hear_all-requires-clause-order c = subst (λ (k : Kept). IsTrue (are_kept k)) (sym c.deref_mut.ensures.value) c.self.invariant.0

pub invariant_of-self : goal.invariant_of-self
invariant_of-self c = (
  (searched c.self.inside.entries.items c.deref_mut.result.now c.hear_all.new.entries c.self.inside.entries.len c.deref_mut.ensures.value (sym c.deref_mut.ensures.len)
      (ap unbounded c.hear_all.ensures ∙ unbounded-all c.args.now c.args.hearing.now c.deref_mut.result.now) c.self.invariant.0).sorted,
  least-zero _,
)

pub returns : goal.returns
returns c =
    written c.self.inside.entries.items c.hear_all.new.entries c.self.inside.entries.len (sym c.deref_mut.ensures.len ∙ ap length c.deref_mut.ensures.value)
    (same-long c.self.inside.entries.items c.hear_all.new.entries (ap unbounded c.hear_all.ensures ∙ unbounded-all c.args.now c.args.hearing.now c.deref_mut.result.now ∙ ap unbounded c.deref_mut.ensures.value))
    ∙ c.hear_all.ensures ∙ ap (all_heard c.args.now c.args.hearing.now) (c.deref_mut.ensures.value ∙ c.self.view_is)
