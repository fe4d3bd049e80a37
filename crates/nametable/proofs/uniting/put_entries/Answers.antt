use Rattle.std.proofs.Common.{◌∙◌, sym, ap, subst}
use Rattle.rrset.specs.RecordSet.{RecordSet, union}
use Rattle.rrset.specs.Tables.{HaveLowerOwners}
use Rattle.nametable.proofs.uniting.put_entries.Goals as goal

pub entries-preserved : goal.entries-preserved
entries-preserved c =
    let steps = c.in-Some.ensures.steps.0 in (
      (subst HaveLowerOwners steps c.entries.invariant.0).1,
      ap (λ (l : RecordSet). union l c.next.new.self.rest.items) c.in_ok-put.ensures.rows
          ∙ ap (λ (l : RecordSet). union c.entries.rows.rows l) (sym steps)
          ∙ c.entries.invariant.1,
    )
