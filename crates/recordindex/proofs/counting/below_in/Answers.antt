use Rattle.std.proofs.Common.{Bool, length, nat_lt, ap, sym, ◌∙◌}
use Rattle.std.specs.Prelude.{◌||◌}
use Rattle.rrset.specs.KeyedRows.{rows_of}
use Rattle.recordindex.specs.Owners.{owners_in}
use Rattle.recordindex.proofs.BelowNames.{below-rows, owners-low}
use Rattle.recordindex.proofs.counting.below_in.Goals as goal

pub returns-then-below : goal.returns-then-below
returns-then-below c =
    let rows = c.args.index.now.rows in
    c.if-below.true
    ∙ sym (ap (λ (t : Bool). t || nat_lt 0 (length (rows_of c.args.name.now rows))) c.if-below.true)
    ∙ below-rows c.args.name.now rows c.below.result (c.below.ensures (owners_in rows) (owners-low rows c.tell_order.ensures.lower) c.requires)

pub returns-else-below : goal.returns-else-below
returns-else-below c =
    let rows = c.args.index.now.rows in
    c.has_rows.ensures
    ∙ sym (ap (λ (t : Bool). t || nat_lt 0 (length (rows_of c.args.name.now rows))) c.if-below.false)
    ∙ below-rows c.args.name.now rows c.below.result (c.below.ensures (owners_in rows) (owners-low rows c.tell_order.ensures.lower) c.requires)
