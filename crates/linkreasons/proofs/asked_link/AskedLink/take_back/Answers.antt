use Rattle.std.proofs.Common.{sym, ap, ◌∙◌}
use Rattle.std.specs.Prelude.{option_to_list}
use Rattle.linkask.specs.Bounds.{without_reason}
use Rattle.rrset.specs.declared.record.Question.{Question}
use Rattle.linkreasons.specs.Changing.{undoubted}
use Rattle.linkreasons.proofs.PoppedRows.{undoubts}
use Rattle.linkreasons.proofs.SessionParts.{popped}
use Rattle.linkreasons.proofs.asked_link.AskedLink.take_back.Goals as goal

pub returns-in-Some : goal.returns-in-Some
returns-in-Some c =
    let out = popped c.self.inside.rows.items c.pop.new.self.items c.pop.result _ _ c.pop.ensures.items c.pop.ensures.rest c.pop.ensures.cases in
    undoubts (record { kept = c.self.inside.asker; reconfirmed = c.self.inside.rows.items }) c.pop.new.self.items c.in-Some.row c.unwant.new.self
    (out.0, sym (ap option_to_list c.in-Some.is) ∙ out.1)
    (c.unwant.ensures ∙ ap (λ (q : Question). without_reason q c.self.inside.asker) c.question.ensures)
    ∙ ap undoubted c.self.view_is
