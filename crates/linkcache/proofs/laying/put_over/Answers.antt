use Rattle.std.proofs.Common.{◌∙◌, T, sym, ap, subst}
use Rattle.linkcache.specs.Parts.{laid}
use Rattle.linkcache.specs.Rows.{LinkRows}
use Rattle.linkcache.proofs.LaidRows.{laid-put}
use Rattle.linkcache.proofs.laying.put_over.Goals as goal

pub returns : goal.returns
returns c rows order = ap (λ (l : LinkRows). laid l rows) c.in_ok-put.ensures.rows ∙ laid-put c.args.key c.args.row c.args.over.now.rows rows (subst T (sym order) tt)
