-- Where none of the others has its key.
use Rattle.std.proofs.Common.{◌≡◌, sym, ap, ◌∙◌}
use Rattle.rrset.specs.declared.record.Question.{Question}
use Rattle.linkask.specs.Bounds.{begun_anew}
use Rattle.linkreasons.proofs.PoppedRows.{has_same, kept-new, rows-new}
use Rattle.linkreasons.proofs.asked_link.settle_row.Goals as goal

pub returns-clause-kept : goal.returns-clause-kept
returns-clause-kept c =
    c.ask_anew.ensures
    ∙ ap (λ (q : Question). begun_anew q c.args.asker.now) c.question.ensures
    ∙ kept-new c.args.row c.args.rows.now.items c.args.asker.now (sym (c.if-has_key.ensures ∙ ap (has_same c.args.row) c.deref.ensures.value))

pub returns-clause-rows : goal.returns-clause-rows
returns-clause-rows c = c.push_reserved.ensures.items ∙ rows-new c.args.row c.args.rows.now.items (sym (c.if-has_key.ensures ∙ ap (has_same c.args.row) c.deref.ensures.value))
