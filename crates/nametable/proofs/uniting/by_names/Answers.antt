use Rattle.std.proofs.Common.{◌∙◌, ap}
use Rattle.rrset.specs.RecordSet.{RecordSet, union}
use Rattle.nametable.proofs.RisingRows.{is_T}
use Rattle.nametable.proofs.NodeUnions.{union-none}
use Rattle.nametable.proofs.uniting.by_names.Goals as goal

pub returns : goal.returns
returns c =
    let entries = c.into_entries-entries.result.items in
    c.in_ok-put_entries.ensures
    ∙ ap (λ (l : RecordSet). union l entries) c.new-rows.ensures
    ∙ union-none entries (is_T _ c.into_entries-entries.ensures.order)
    ∙ c.into_entries-entries.ensures.rows
