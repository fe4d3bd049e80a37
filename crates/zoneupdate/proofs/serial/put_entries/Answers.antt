use Rattle.std.proofs.Common.{◌∙◌, sym, ap, subst}
use Rattle.rrset.specs.RecordSet.{RecordSet, union}
use Rattle.rrset.specs.Tables.{HaveLowerOwners}
use Rattle.zoneupdate.proofs.serial.put_entries.Goals as goal

pub put-requires : goal.put-requires
put-requires c = (subst (λ (l : RecordSet). HaveLowerOwners l) c.in-Some.ensures.steps.0 c.entries.invariant.0).0

pub entries-preserved : goal.entries-preserved
entries-preserved c =
    let rest = c.next.new.self.rest.items in
    let steps = c.in-Some.ensures.steps.0 in (
      (subst (λ (l : RecordSet). HaveLowerOwners l) steps c.entries.invariant.0).1,
      ap (λ (l : RecordSet). union l rest) c.in_ok-put.ensures.rows ∙ ap (union c.entries.work.rows) (sym steps) ∙ c.entries.invariant.1,
    )
