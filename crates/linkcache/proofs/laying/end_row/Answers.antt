use Rattle.std.proofs.Common.{◌∙◌, T, refl, sym, subst}
use Rattle.linkcache.specs.Parts.{laid}
use Rattle.linkcache.proofs.EndedRows.{end_none, end_some}
use Rattle.linkcache.proofs.LaidRows.{order-laid}
use Rattle.linkcache.proofs.laying.end_row.Goals as goal

pub returns-in_default : goal.returns-in_default
returns-in_default c =
    let rows = c.args.rows.now.rows in
    end_none c.args.key.now c.args.moment (laid c.args.over.now.rows rows) (order-laid c.args.over.now.rows rows (subst T (sym c.requires.order) tt)) (sym c.in_ok-row.ensures ∙ c.in_default.is)

pub returns : goal.returns
returns c =
    let rows = c.args.rows.now.rows in
    let work = laid c.args.over.now.rows rows in
    end_some c.args.key.now c.in_ok-copy.field-0 c.args.moment work (laid c.put_over.new.over.rows rows) c.in-Some.row c.in-Some.row c.ended_by.result (order-laid c.args.over.now.rows rows (subst T (sym c.requires.order) tt))
    (sym c.in_ok-row.ensures ∙ c.in-Some.is) c.in_ok-copy.ensures refl c.ended_by.ensures (c.in_ok-put_over.ensures rows c.requires.order)
