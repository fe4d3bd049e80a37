use Rattle.std.proofs.Common.{◌∙◌, ◌+◌, ◌&&◌, nat_lt, sym, ap}
use Rattle.std.specs.List.{list_any}
use Rattle.linkcache.specs.Rows.{LinkRows, is_of_set, second}
use Rattle.linkcache.proofs.FlushedOver.{none-flushed}
use Rattle.linkcache.proofs.heard_rows.flushed_over.Goals as goal

pub returns-then-not-some_old : goal.returns-then-not-some_old
returns-then-not-some_old c =
    sym (none-flushed c.args.now c.args.heard.now c.args.over.rows
    (ap (λ (l : LinkRows). list_any (λ row. is_of_set c.args.heard.now.rr row && nat_lt (row.1.heard + second) c.args.now) l) (sym c.at.ensures) ∙ sym c.some_old.ensures ∙ c.if-not-some_old.true))
