use Rattle.std.proofs.Common.{◌∙◌, sym}
use Rattle.coalesce.proofs.Forms.{newly_planned, singly_planned}
use Rattle.coalesce.proofs.form.shorter_form.Goals as goal

pub returns-then-anew-single-clause-form : goal.returns-then-anew-single-clause-form
returns-then-anew-single-clause-form c =
    (newly_planned c.args.name.now c.args.old.now c.args.new.now c.args.single c.record_size-all_gone.result c.all_size_up_to.result c.saturating_add-anew.result
    c.requires.sides c.requires.sent c.requires.name c.requires.other (sym c.is_empty.ensures ∙ c.if-is_empty.false) c.requires.single c.record_size-all_gone.ensures.size
    (record { within = c.all_size_up_to.ensures.within; beyond = c.all_size_up_to.ensures.beyond }) c.saturating_add-anew.ensures c.if-anew-single.true).is_net

pub returns-then-anew-single-clause-size : goal.returns-then-anew-single-clause-size
returns-then-anew-single-clause-size c =
    (newly_planned c.args.name.now c.args.old.now c.args.new.now c.args.single c.record_size-all_gone.result c.all_size_up_to.result c.saturating_add-anew.result
    c.requires.sides c.requires.sent c.requires.name c.requires.other (sym c.is_empty.ensures ∙ c.if-is_empty.false) c.requires.single c.record_size-all_gone.ensures.size
    (record { within = c.all_size_up_to.ensures.within; beyond = c.all_size_up_to.ensures.beyond }) c.saturating_add-anew.ensures c.if-anew-single.true).is_size

pub returns-else-anew-single-clause-form : goal.returns-else-anew-single-clause-form
returns-else-anew-single-clause-form c =
    (singly_planned c.args.name.now c.args.old.now c.args.new.now c.args.single c.record_size-all_gone.result c.all_size_up_to.result c.saturating_add-anew.result
    c.requires.sides c.requires.sent c.requires.name c.requires.other (sym c.is_empty.ensures ∙ c.if-is_empty.false) c.requires.single c.record_size-all_gone.ensures.size
    (record { within = c.all_size_up_to.ensures.within; beyond = c.all_size_up_to.ensures.beyond }) c.saturating_add-anew.ensures c.if-anew-single.false).is_net

pub returns-else-anew-single-clause-size : goal.returns-else-anew-single-clause-size
returns-else-anew-single-clause-size c =
    (singly_planned c.args.name.now c.args.old.now c.args.new.now c.args.single c.record_size-all_gone.result c.all_size_up_to.result c.saturating_add-anew.result
    c.requires.sides c.requires.sent c.requires.name c.requires.other (sym c.is_empty.ensures ∙ c.if-is_empty.false) c.requires.single c.record_size-all_gone.ensures.size
    (record { within = c.all_size_up_to.ensures.within; beyond = c.all_size_up_to.ensures.beyond }) c.saturating_add-anew.ensures c.if-anew-single.false).is_size
