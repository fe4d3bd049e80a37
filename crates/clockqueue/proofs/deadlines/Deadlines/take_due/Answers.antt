use Rattle.std.proofs.Common.{◌∙◌, ℕ, Option, sym, ap, subst, arith}
use Rattle.std.specs.Option.{option_map}
use Rattle.std.specs.List.{slice_get}
use Rattle.clockqueue.specs.Deadlines.{AreDeadlines, due}
use Rattle.clockqueue.proofs.Firsts.{slice_get-within}
use Rattle.clockqueue.proofs.Keyed.{not_due, is_due_at, none_at, behind_first, slice_get-here}
use Rattle.clockqueue.proofs.deadlines.Deadlines.take_due.Goals as goal

pub returns-then-first-moment-clause-key : goal.returns-then-first-moment-clause-key
returns-then-first-moment-clause-key g c =
    sym (ap (λ t. option_map (λ d. d.1) (slice_get (due c.args.moment t.deadlines) 0)) (sym c.self.view_is)
    ∙ ap (λ (o : Option (ℕ × g.row.K.Denot)). option_map (λ d. d.1) o)
    (not_due g.met.K.Ord.total c.args.moment 0 c.self.inside.entries.items c.in_ok-first.first.now c.self.invariant c.in_ok-first.ensures c.if-first-moment.true))

pub remove-key-requires : goal.remove-key-requires
remove-key-requires g c = slice_get-within c.self.inside.entries.items 0 c.in_ok-first.first.now c.in_ok-first.ensures

pub returns-clause-key : goal.returns-clause-key
returns-clause-key g c =
    let items = c.self.inside.entries.items in
    let there = slice_get-within items 0 c.in_ok-first.first.now c.in_ok-first.ensures in
    sym (ap (λ t. option_map (λ d. d.1) (slice_get (due c.args.moment t.deadlines) 0)) (sym c.self.view_is)
    ∙ ap (λ (o : Option (ℕ × g.row.K.Denot)). option_map (λ d. d.1) o)
    (is_due_at g.met.K.Ord.total c.args.moment 0 items c.in_ok-first.first.now c.self.invariant c.in_ok-first.ensures (omega arith)
    ∙ sym c.in_ok-first.ensures ∙ slice_get-here items 0 c.remove-key.result there c.remove-key.ensures.value))

pub invariant_of-self : goal.invariant_of-self
invariant_of-self g c = subst (AreDeadlines g.K.Ord.cmp) (sym c.remove-key.ensures.items) (behind_first g.met.K.Ord.total c.self.inside.entries.items c.self.invariant)

pub returns-in_err-first-clause-key : goal.returns-in_err-first-clause-key
returns-in_err-first-clause-key g c =
    let none = ap (λ t. slice_get (due c.args.moment t.deadlines) 0) (sym c.self.view_is) ∙ none_at g.met.K.Ord.total c.args.moment 0 c.self.inside.entries.items c.self.invariant c.in_err-first.ensures in
    c.from_residual.ensures ∙ sym (ap (λ (o : Option (ℕ × g.row.K.Denot)). option_map (λ d. d.1) o) none)
