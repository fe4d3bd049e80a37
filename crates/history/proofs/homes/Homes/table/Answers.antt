-- The records of the zones and links are those of the homes.
use Rattle.std.proofs.Common.{◌∙◌, ap}
use Rattle.rrset.specs.Tables.{TableState}
use Rattle.rrset.specs.declared.record.Shown.{Shown}
use Rattle.history.specs.Kept.{HomesKept}
use Rattle.history.proofs.AllRecords.{all-kept}
use Rattle.history.proofs.homes.Homes.table.Goals as goal

pub returns : goal.returns
returns c =
    all-kept (λ (v : TableState Shown). v.rows) c.args.self.now c.deref.result.now c.deref-2.result.now c.united.result (c.deref.ensures.value ∙ ap (λ (h : HomesKept). h.zones) c.self.view_is) (c.deref-2.ensures.value ∙ ap (λ (h : HomesKept). h.links) c.self.view_is) c.united.ensures
