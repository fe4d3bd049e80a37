use Rattle.std.proofs.Common.{◌∙◌, ap, ℕ, ◌+◌, refl, arith}
use Rattle.std.proofs.lemmas.List.{take_all}
use Rattle.rrset.specs.RecordSet.{RecordSet, size_of}
use Rattle.rrset.specs.Tables.{counted}
use Rattle.rrset.proofs.Rows.{record_size, sized_more}
use Rattle.zoneupdate.proofs.planning.size_of.Goals as goal

pub entries-init : goal.entries-init
entries-init c = refl

pub entries-preserved : goal.entries-preserved
entries-preserved c =
    sized_more c.args.entries.now c.entry-item.result c.entries.entry-index c.entries.size c.saturating_add-size.result (omega arith) c.entries.invariant
    (c.saturating_add-size.ensures ∙ ap (λ (n : ℕ). counted (c.entries.size + n)) (c.size_of_shown.ensures c.entry-item.result.0 ∙ ap record_size c.entry-item.is))

pub returns : goal.returns
returns c = c.entries.invariant ∙ ap (λ (l : RecordSet). counted (size_of l)) (take_all c.entries.entry-index c.args.entries.now c.entries-test.false)
