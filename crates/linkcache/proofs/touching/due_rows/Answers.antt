use Rattle.std.proofs.Common.{◌∙◌, ◌+◌, ◌<◌, ℕ, drop, fold, sym, ap, subst, arith}
use Rattle.clockqueue.specs.Deadlines.{Deadlines, due}
use Rattle.rrset.specs.declared.record.Key.{Key}
use Rattle.linkcache.specs.Parts.{copied}
use Rattle.linkcache.specs.Rows.{LinkRows}
use Rattle.linkcache.proofs.DueRows.{due-more, later-none}
use Rattle.linkcache.proofs.touching.due_rows.Goals as goal

pub returns-then-end-now : goal.returns-then-end-now
returns-then-end-now c =
    ap (λ (l : Deadlines Key). fold (λ (part : LinkRows) (d : ℕ × Key). copied c.args.rows.now.rows part d.1) c.ends.part.rows l)
    (sym (later-none c.args.now c.args.ends.now.deadlines c.ends.number c.at-end.result.now c.len-number-end.ensures.order (omega (arith, c.len-number-end.ensures.length, c.ends-test.true)) (subst (λ (d : ℕ × Key). c.args.now < d.0) c.at-end.ensures c.if-end-now.true)))
    ∙ c.ends.invariant

pub ends-preserved : goal.ends-preserved
ends-preserved c =
    ap (λ (l : LinkRows). fold (λ (part : LinkRows) (d : ℕ × Key). copied c.args.rows.now.rows part d.1) l (due c.args.now (drop (c.ends.number + 1) c.args.ends.now.deadlines))) (c.in_ok-copy_row.ensures ∙ ap (λ (k : Key). copied c.args.rows.now.rows c.ends.part.rows k) c.key.ensures)
    ∙ ap (λ (l : Deadlines Key). fold (λ (part : LinkRows) (d : ℕ × Key). copied c.args.rows.now.rows part d.1) c.ends.part.rows l)
    (sym (due-more c.args.now c.args.ends.now.deadlines c.ends.number c.at-end.result.now (omega (arith, c.len-number-end.ensures.length, c.ends-test.true)) c.at-end.ensures c.if-end-now.false))
    ∙ c.ends.invariant
