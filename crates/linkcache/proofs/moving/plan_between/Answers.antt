use Rattle.std.proofs.Common.{◌∙◌, sym, subst}
use Rattle.rrset.specs.RecordSet.{changes}
use Rattle.rrset.specs.Tables.{HaveLowerOwners}
use Rattle.linkcache.specs.Plans.{HaveLowerKeys}
use Rattle.linkcache.specs.Rows.{LinkRows, shown_rows}
use Rattle.linkcache.proofs.Moves.{lower_moves}
use Rattle.linkcache.proofs.moving.plan_between.Goals as goal

pub returns-clause-between : goal.returns-clause-between
returns-clause-between c =
    let part = c.args.part.now.rows in
    let work = c.args.work.now.rows in
    let rules = c.args.rules.now in
    let moved = c.in_ok-rows.ensures.rows ∙ c.in_ok-moves.ensures in
    record {
      keys = subst HaveLowerKeys (sym moved) (lower_moves part work (subst (λ (l : LinkRows). HaveLowerOwners l) c.entries.ensures.rows c.entries.ensures.lower) (subst (λ (l : LinkRows). HaveLowerOwners l) c.entries-2.ensures.rows c.entries-2.ensures.lower));
      moved = moved;
      shown = c.in_ok-changed.ensures ∙ (λ i. changes (shown_rows rules (c.entries.ensures.rows i)) (shown_rows rules (c.entries-2.ensures.rows i)));
    }
