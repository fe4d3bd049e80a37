use Rattle.std.proofs.Common.{sym, ◌∙◌}
use Rattle.zoneupdate.proofs.SoughtParts.{sought-part}
use Rattle.zoneupdate.proofs.sought.sought_for.Goals as goal

pub returns : goal.returns
returns c = λ apex single.
    sought-part apex c.args.name.now c.args.rows.now.rows c.args.changes.now c.in_ok-part.part.rows c.requires (sym c.seeks.ensures ∙ c.if-not-seeks.false) single c.in_ok-part.ensures
