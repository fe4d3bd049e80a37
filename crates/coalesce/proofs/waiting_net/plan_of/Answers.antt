use Rattle.std.proofs.Common.{◌∙◌, ap, sym, None}
use Rattle.rrset.specs.RecordSet.{RecordSet}
use Rattle.rrset.specs.Tables.{counted}
use Rattle.coalesce.specs.Net.{size_of_notices}
use Rattle.coalesce.specs.Steps.{removals_behind}
use Rattle.coalesce.specs.Touched.{new_rows, old_rows}
use Rattle.coalesce.proofs.Forms.{same_false}
use Rattle.coalesce.proofs.TouchedSides.{single_at}
use Rattle.coalesce.proofs.waiting_net.plan_of.Goals as goal

pub shorter_form-requires-clause-other : goal.shorter_form-requires-clause-other
shorter_form-requires-clause-other c =
    same_false c.args.old.now c.args.new.now (old_rows c.args.touched.now) (new_rows c.args.touched.now) (sym c.requires.old) (sym c.requires.new) (sym c.is_same.ensures ∙ c.if-is_same.false)

pub shorter_form-requires-clause-single : goal.shorter_form-requires-clause-single
shorter_form-requires-clause-single c =
    single_at c.args.touched.now c.args.name.now c.args.old.now c.args.new.now c.removals_size-removals.result c.came_size.result c.saturating_add-single.result c.requires.touched c.requires.old c.requires.new
    (c.removals_size-removals.ensures ∙ ap (λ (l : RecordSet). counted (size_of_notices (removals_behind c.args.name.now c.args.new.now None l))) c.gone_records.ensures)
    c.came_size.ensures c.saturating_add-single.ensures
