use Rattle.std.proofs.Common.{◌∙◌, ap, length}
use Rattle.rrset.specs.KeyedRows.{Rows}
use Rattle.nametable.proofs.KeyRoom.{count_at-rows}
use Rattle.nametable.proofs.reserving.rows_at.Goals as goal

pub returns : goal.returns
returns g c = ap (λ (l : Rows _). length l) c.at.ensures ∙ count_at-rows c.args.owner.now c.args.rows.now.rows c.requires.owner c.requires.rows
