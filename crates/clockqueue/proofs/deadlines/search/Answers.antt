use Rattle.std.proofs.Common.{ℕ, ◌∙◌, sym, ap, arith}
use Rattle.clockqueue.specs.Deadlines.{due_cmp}
use Rattle.clockqueue.proofs.Halves.{less_up_to, greater_from}
use Rattle.clockqueue.proofs.Keyed.{due_cmp_total}
use Rattle.clockqueue.proofs.deadlines.search.Goals as goal

pub halves-preserved-in-Less : goal.halves-preserved-in-Less
halves-preserved-in-Less g c =
    let at : ℕ × g.row.K.Denot = (c.args.moment, c.args.key.now) in
    let seen = ap (λ (d : ℕ × g.row.K.Denot). due_cmp g.K.Ord.cmp d at) (sym c.at.ensures) ∙ sym c.in-Less.ensures in
    let there = c.halves.invariant.3 in
    let above = c.look_at-middle.ensures.last in
    (less_up_to (due_cmp_total g.met.K.Ord.total) c.args.entries.now.items at c.look_at-middle.result c.at.result.now c.requires.order (omega (arith, there, above)) seen, c.halves.invariant.1, omega (arith, above), there)

pub halves-preserved : goal.halves-preserved
halves-preserved g c =
    let at : ℕ × g.row.K.Denot = (c.args.moment, c.args.key.now) in
    let seen = ap (λ (d : ℕ × g.row.K.Denot). due_cmp g.K.Ord.cmp d at) (sym c.at.ensures) ∙ sym c.in-Greater.ensures in
    let there = c.halves.invariant.3 in
    let above = c.look_at-middle.ensures.last in
    let from = c.look_at-middle.ensures.first in
    (c.halves.invariant.0, greater_from (due_cmp_total g.met.K.Ord.total) c.args.entries.now.items at c.look_at-middle.result c.at.result.now c.requires.order (omega (arith, there, above)) seen, omega (arith, from), omega (arith, there, above))
