use Rattle.std.proofs.Common.{◌≡◌, ◌⊎◌, inl, length, sym, ◌∙◌, ap, subst, true, refl, arith}
use Rattle.push_base.specs.Causes.{Rose}
use Rattle.push_outside.specs.Outside.{Telling}
use Rattle.serving.specs.Serving.{has_fault}
use Rattle.commands.proofs.Returning.{back_all, back_begun, back_more}
use Rattle.commands.proofs.Serving.{raised_more, raised_all}
use Rattle.commands.proofs.serve_command.give_back.Goals as goal

pub links-init : goal.links-init
links-init g c = record {
  raised = λ is. inl (subst (λ xs. has_fault g.O.Links.Datagrams.faults xs ≡ true) (sym c.into_iter-fed-iterator.ensures.into_iter_gives.0) is);
  later = omega arith;
  reads = refl;
  back = back_begun (g.O.Outside.told c.args.outside.now).links (length c.into_iter-fed-iterator.result.rest.items) (length c.args.links.items) (ap (λ xs. length xs) c.into_iter-fed-iterator.ensures.into_iter_gives.0);
  told = refl;
}

pub links-preserved : goal.links-preserved
links-preserved g c = record {
  raised = λ is.
      raised_more g.O.Links.Datagrams.faults c.in-Some.fed c.next.new.self.rest.items (g.O.Outside.others c.args.outside.now) (g.O.Outside.others c.links.outside) (g.O.Outside.others c.back_links.new.self)
      c.back_links.ensures.others c.links.invariant.later
      (subst (λ xs. (has_fault g.O.Links.Datagrams.faults xs ≡ true) ⊎ Rose (g.O.Outside.others c.args.outside.now) (g.O.Outside.others c.links.outside)) c.in-Some.ensures.steps.0 (c.links.invariant.raised is));
  later = omega (arith, c.back_links.ensures.others.later, c.links.invariant.later);
  reads = c.back_links.ensures.reads ∙ c.links.invariant.reads;
  back = back_more (g.O.Outside.told c.args.outside.now).links (g.O.Outside.told c.links.outside).links (g.O.Outside.told c.back_links.new.self).links (length c.links.fed-iterator.rest.items) (length c.next.new.self.rest.items)
      (length c.args.links.items) _ c.links.invariant.back c.back_links.ensures.given (ap (λ xs. length xs) c.in-Some.ensures.steps.0);
  told = c.back_links.ensures.told ∙ ap (λ (t : Telling). record t { links = (g.O.Outside.told c.back_links.new.self).links }) c.links.invariant.told;
}

pub returns-clause-raised : goal.returns-clause-raised
returns-clause-raised g c = λ is.
    raised_all g.O.Links.Datagrams.faults c.links.fed-iterator.rest.items (g.O.Outside.others c.args.outside.now) (g.O.Outside.others c.links.outside)
    (sym c.links.fed-iterator.rest.ok.0 ∙ c.in-None.ensures.steps.0) (c.links.invariant.raised is)

pub returns-clause-back : goal.returns-clause-back
returns-clause-back g c =
    back_all (g.O.Outside.told c.args.outside.now).links (g.O.Outside.told c.links.outside).links (length c.links.fed-iterator.rest.items) (length c.args.links.items) c.links.invariant.back
    (sym c.links.fed-iterator.rest.ok.0 ∙ c.in-None.ensures.steps.0)
