use Rattle.std.proofs.Common.{◌∙◌, ap, sym, None}
use Rattle.rrset.specs.RecordSet.{RecordSet}
use Rattle.rrset.specs.Tables.{counted}
use Rattle.coalesce.specs.Net.{size_of_notices}
use Rattle.coalesce.specs.Steps.{removals_behind}
use Rattle.coalesce.proofs.Forms.{same_false, single_counted}
use Rattle.coalesce.proofs.form.plan_of.Goals as goal

pub shorter_form-requires-clause-other : goal.shorter_form-requires-clause-other
shorter_form-requires-clause-other c =
    same_false c.args.old.now c.args.new.now c.records.result c.records-2.result c.records.ensures.rows c.records-2.ensures.rows (sym c.same_records.ensures ∙ c.if-same_records.false)

pub shorter_form-requires-clause-single : goal.shorter_form-requires-clause-single
shorter_form-requires-clause-single c =
    single_counted c.args.name.now c.args.old.now c.args.new.now c.removals_size-removals.result c.changed_size.result c.saturating_add-single.result
    (c.requires.sides.0, c.requires.sides.1)
    (c.removals_size-removals.ensures ∙ ap (λ (l : RecordSet). counted (size_of_notices (removals_behind c.args.name.now c.args.new.now None l))) c.records-3.ensures.rows)
    c.changed_size.ensures c.saturating_add-single.ensures
