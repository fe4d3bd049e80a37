use Rattle.std.proofs.Common.{◌∙◌, sym, ap}
use Rattle.std.specs.Option.{option_map}
use Rattle.clockqueue.specs.Deadlines.{moment_of}
use Rattle.rrset.specs.KeyedRows.{row_at}
use Rattle.rrset.specs.Records.{key_cmp}
use Rattle.linkcache.specs.Rows.{LinkRows}
use Rattle.linkcache.specs.declared.row.HeardRow.{HeardRow}
use Rattle.linkcache.proofs.KeptEnds.{end_changed}
use Rattle.linkcache.proofs.RowEnds.{ends_of, kept}
use Rattle.linkcache.proofs.apply_plan.make_change.Goals as goal

pub change_end-requires-clause-before : goal.change_end-requires-clause-before
change_end-requires-clause-before c =
    ap (λ k. moment_of key_cmp k c.args.ends.now.deadlines) c.requires.again
    ∙ c.requires.ends c.args.planned.change.key
    ∙ ap ends_of (sym c.change_row-before.ensures.value)
    ∙ sym c.end_of-ended.ensures

pub returns-clause-ends : goal.returns-clause-ends
returns-clause-ends c key =
    c.change_end.ensures.ends key
    ∙ ap (moment_of key_cmp key) (end_changed c.args.planned.change c.args.planned.again c.end_of-after.result c.args.ends.now.deadlines c.requires.again c.end_of-after.ensures)
    ∙ kept c.args.ends.now.deadlines c.args.rows.now.rows c.args.planned.change c.requires.ends key
    ∙ ap (λ (l : LinkRows). option_map (λ (row : HeardRow). row.ends) (row_at key l)) (sym c.change_row-before.ensures.rows)
