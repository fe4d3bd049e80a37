use Rattle.std.proofs.Common.{◌≡◌, ◌∙◌, ℕ, ◌+◌, ap, refl, arith}
use Rattle.std.specs.Prelude.{nat_le}
use Rattle.std.proofs.lemmas.List.{take_all}
use Rattle.rrset.specs.RecordSet.{RecordSet, size_of}
use Rattle.rrset.specs.Tables.{counted}
use Rattle.rrset.proofs.Rows.{record_size, sized_more}
use Rattle.relay.proofs.Counts.{few-counted}
use Rattle.relay.proofs.relay.fits_message.Goals as goal

pub entries-init : goal.entries-init
entries-init c = refl

pub entries-preserved : goal.entries-preserved
entries-preserved c =
    let rows = c.entries-entry-items.result.now in
    sized_more rows c.entry-item.result c.entries.entry-index c.entries.size c.saturating_add-size.result (omega arith) c.entries.invariant
    (c.saturating_add-size.ensures ∙ ap (λ (n : ℕ). counted (c.entries.size + n)) (c.record_size.ensures ∙ ap record_size c.entry-item.is))

pub returns : goal.returns
returns c =
    let rows = c.entries-entry-items.result.now in
    few-counted (size_of c.args.set.now.rows) c.entries.size
    (c.entries.invariant ∙ ap (λ (l : RecordSet). counted (size_of l)) (take_all c.entries.entry-index rows c.entries-test.false ∙ c.entries-entry-items.ensures.rows))
