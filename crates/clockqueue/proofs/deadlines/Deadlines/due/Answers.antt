use Rattle.std.proofs.Common.{◌∙◌, ℕ, Option, sym, ap, arith}
use Rattle.std.specs.Option.{option_map}
use Rattle.std.specs.List.{slice_get}
use Rattle.clockqueue.specs.Deadlines.{due}
use Rattle.clockqueue.proofs.Keyed.{not_due, is_due_at, none_at}
use Rattle.clockqueue.proofs.deadlines.Deadlines.due.Goals as goal

pub returns : goal.returns
returns g c =
    ap (λ t. option_map (λ d. d.1) (slice_get (due c.args.moment t.deadlines) c.args.number)) (sym c.self.view_is)
    ∙ ap (λ (o : Option (ℕ × g.row.K.Denot)). option_map (λ d. d.1) o)
    (is_due_at g.met.K.Ord.total c.args.moment c.args.number c.self.inside.entries.items c.in_ok-deadline.deadline.now c.self.invariant c.in_ok-deadline.ensures (omega arith))

pub returns-then-deadline-moment : goal.returns-then-deadline-moment
returns-then-deadline-moment g c =
    ap (λ t. slice_get (due c.args.moment t.deadlines) c.args.number) (sym c.self.view_is)
    ∙ not_due g.met.K.Ord.total c.args.moment c.args.number c.self.inside.entries.items c.in_ok-deadline.deadline.now c.self.invariant c.in_ok-deadline.ensures c.if-deadline-moment.true

pub returns-in_err-deadline : goal.returns-in_err-deadline
returns-in_err-deadline g c =
    let none = ap (λ t. slice_get (due c.args.moment t.deadlines) c.args.number) (sym c.self.view_is) ∙ none_at g.met.K.Ord.total c.args.moment c.args.number c.self.inside.entries.items c.self.invariant c.in_err-deadline.ensures in
    rw c.from_residual.ensures none
