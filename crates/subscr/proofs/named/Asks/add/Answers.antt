use Rattle.std.proofs.Common.{ℕ, List, ap, sym, subst, ◌∙◌, arith}
use Rattle.std.specs.List.{insert, position_or_len}
use Rattle.subscr.specs.Named.{AreOrdered, comes_behind}
use Rattle.subscr.specs.declared.named.Ask.{Ask}
use Rattle.subscr.proofs.Ordered.{ordered-with, place-within}
use Rattle.subscr.proofs.named.Asks.add.Goals as goal

pub insert-requires : goal.insert-requires
insert-requires c =
    let many = c.self.inside.items.ok.0 in
    let within = place-within c.args.ask c.self.inside.items.items in
    let at = c.place_for-place.ensures ∙ ap (λ (l : List Ask). position_or_len (comes_behind c.args.ask) l) c.deref.ensures.value in
    omega (arith, many, within, at)

pub invariant_of-self : goal.invariant_of-self
invariant_of-self c = subst AreOrdered (sym c.in_err-insert.ensures.items) c.self.invariant

pub invariant_of-self-2 : goal.invariant_of-self-2
invariant_of-self-2 c =
    let at = c.place_for-place.ensures ∙ ap (λ (l : List Ask). position_or_len (comes_behind c.args.ask) l) c.deref.ensures.value in
    subst AreOrdered
    (sym (c.in_ok-insert.ensures.items ∙ ap (λ (i : ℕ). insert c.self.inside.items.items i c.args.ask) at))
    (ordered-with c.args.ask c.self.inside.items.items c.self.invariant)
