use Rattle.std.proofs.Common.{refl, sym, ap, ◌∙◌}
use Rattle.std.specs.Prelude.{option_to_list}
use Rattle.linkreasons.specs.Changing.{settled}
use Rattle.linkreasons.proofs.PoppedRows.{settles-link}
use Rattle.linkreasons.proofs.SessionParts.{popped}
use Rattle.linkreasons.proofs.asked_link.AskedLink.settle.Goals as goal

pub returns : goal.returns
returns c =
    let out = popped c.self.inside.rows.items c.pop.new.self.items c.pop.result _ _ c.pop.ensures.items c.pop.ensures.rest c.pop.ensures.cases in
    settles-link (record { kept = c.self.inside.asker; reconfirmed = c.self.inside.rows.items }) c.pop.new.self.items c.pop.new.self.items c.in-Some.row c.settle_row.new.asker c.settle_row.new.rows.items
    (out.0, sym (ap option_to_list c.in-Some.is) ∙ out.1) refl c.settle_row.ensures.kept c.settle_row.ensures.rows
    ∙ ap settled c.self.view_is
