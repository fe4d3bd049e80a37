use Rattle.std.proofs.Common.{◌∙◌, ◌||◌, sym, ap}
use Rattle.linkcache.specs.Rows.{has_key}
use Rattle.linkcache.proofs.LaidRows.{has-laid}
use Rattle.linkcache.proofs.laying.has.Goals as goal

pub returns-then-is_over : goal.returns-then-is_over
returns-then-is_over c = ap (λ b. b || has_key c.args.key.now c.args.rows.now.rows) (sym (sym c.is_over.ensures ∙ c.if-is_over.true)) ∙ has-laid c.args.key.now c.args.over.now.rows c.args.rows.now.rows

pub returns : goal.returns
returns c = c.has_row.ensures ∙ ap (λ b. b || has_key c.args.key.now c.args.rows.now.rows) (sym (sym c.is_over.ensures ∙ c.if-is_over.false)) ∙ has-laid c.args.key.now c.args.over.now.rows c.args.rows.now.rows
