use Rattle.std.proofs.Common.{arith}
use Rattle.rrset.specs.Parts.{changed_name}
use Rattle.rrset.proofs.ChangedNames.{changed_turn, changed_stop}
use Rattle.rrset.proofs.renaming.changed_parts.Goals as goal

pub returns-in_default : goal.returns-in_default
returns-in_default c =
    changed_stop (changed_name c.args.change.now) c.args.parts.now _ _ c.parts.part-index _ _ _ _ _ (omega arith) c.in_ok-after.ensures.appended c.in_default.is c.parts.invariant.1

pub parts-preserved : goal.parts-preserved
parts-preserved c = (
  rw c.in-Some.is at c.in_ok-after.ensures.within,
  changed_turn (changed_name c.args.change.now) c.args.parts.now _ _ c.parts.part-index _ _ _ _ _ _ (omega arith) c.in_ok-after.ensures.appended c.in-Some.is c.parts.invariant.1,
)
