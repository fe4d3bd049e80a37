use Rattle.std.proofs.Common.{length, subst, sym, ◌∙◌, ap}
use Rattle.std.specs.Prelude.{IsTrue}
use Rattle.linkask.specs.Bounds.{Kept, are_kept, begun_anew}
use Rattle.linkask.specs.declared.asks.KeptAsks.{KeptAsks}
use Rattle.linkask.proofs.AtOne.{length-with}
use Rattle.linkask.proofs.Asking.{least-zero, written}
use Rattle.linkask.proofs.asker.Asker.ask_anew.Goals as goal

abbrev begun : KeptAsks → KeptAsks
begun asks = record asks { count = 0; last = 0; due = 0 }

pub begin_anew-requires : goal.begin_anew-requires
begin_anew-requires c = subst (λ (k : Kept). IsTrue (are_kept k)) (sym c.deref_mut.ensures.value) c.self.invariant.0

pub invariant_of-self : goal.invariant_of-self
invariant_of-self c = (
  subst (λ (k : Kept). IsTrue (are_kept k))
      (sym (written c.self.inside.entries.items c.begin_anew.new.entries c.self.inside.entries.len (sym c.deref_mut.ensures.len ∙ ap length c.deref_mut.ensures.value)
      (ap length c.begin_anew.ensures.entries ∙ length-with c.args.question.now begun c.deref_mut.result.now ∙ ap length c.deref_mut.ensures.value)))
      c.begin_anew.ensures.order,
  least-zero _,
)

pub returns : goal.returns
returns c =
    written c.self.inside.entries.items c.begin_anew.new.entries c.self.inside.entries.len (sym c.deref_mut.ensures.len ∙ ap length c.deref_mut.ensures.value)
    (ap length c.begin_anew.ensures.entries ∙ length-with c.args.question.now begun c.deref_mut.result.now ∙ ap length c.deref_mut.ensures.value)
    ∙ c.begin_anew.ensures.entries ∙ ap (begun_anew c.args.question.now) (c.deref_mut.ensures.value ∙ c.self.view_is)
