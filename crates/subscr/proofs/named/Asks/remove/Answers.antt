use Rattle.std.proofs.Common.{◌≡◌, rules, of_calls, ◌∙◌, ap, sym, subst, not}
use Rattle.std.proofs.lemmas.Fn.{filter_same}
use Rattle.subscr.specs.Named.{AreOrdered, has_id, without_ask}
use Rattle.subscr.proofs.Ordered.{ordered-without}
use Rattle.subscr.proofs.named.Asks.remove.Goals as goal

left : (c : goal.After-retain) → c.retain.new.self.items ≡ without_ask c.args.id c.self.inside.items.items
left c = filter_same _ (λ ask. not (has_id c.args.id ask)) _ (λ x b f k. search (rules, of_calls)) c.self.inside.items.items c.retain.new.self.items c.retain.ensures.filtered

pub invariant_of-self : goal.invariant_of-self
invariant_of-self c = subst AreOrdered (sym (left c)) (ordered-without c.args.id c.self.inside.items.items c.self.invariant)

pub returns : goal.returns
returns c = left c ∙ ap (without_ask c.args.id) c.self.view_is
