use Rattle.std.proofs.Common.{◌≡◌, ◌∙◌, ap, sym, subst}
use Rattle.std.specs.Prelude.{IsTrue}
use Rattle.rrset.specs.KeyedRows.{Rows, is_rising}
use Rattle.rrset.specs.RecordSet.{RecordSet, only, with_values}
use Rattle.subscr.specs.Asked.{wants}
use Rattle.coalesce.specs.Laws.{is_side}
use Rattle.coalesce.specs.Waiting.{IsPackable, OldValue, OldValues, records_then, values_of, waiting_of}
use Rattle.coalesce.proofs.waiting.Waiting.sides.Goals as goal

pub returns-clause-old : goal.returns-clause-old
returns-clause-old g c =
    let seen = c.deref.ensures.value ∙ ap (λ (w : OldValues). w.values) c.self.view_is in
    (λ i. only (λ key. wants key c.args.questions.now) (with_values (values_of (seen i)) (c.at-rows.ensures.rows i)))

pub returns-clause-new : goal.returns-clause-new
returns-clause-new g c = ap (only (λ key. wants key c.args.questions.now)) c.at-rows.ensures.rows

pub returns-clause-sides : goal.returns-clause-sides
returns-clause-sides g c = λ (ready : IsPackable c.args.index.now.rows (waiting_of (c.args.name.now, c.args.self.now))).
    let seen = c.deref.ensures.value ∙ ap (λ (w : OldValues). w.values) c.self.view_is in
    let old : with_values (values_of c.deref.result.now) c.at-rows.result.now ≡ records_then c.args.index.now.rows (waiting_of (c.args.name.now, c.args.self.now)) = λ i. with_values (values_of (seen i)) (c.at-rows.ensures.rows i) in (
      (c.at-rows.ensures.order, subst (λ (l : Rows OldValue). IsTrue (is_rising l)) (sym c.deref.ensures.value) c.self.invariant),
      (ready.0.0, subst (λ (l : RecordSet). IsTrue (is_side ready.0.0 l)) (sym old) ready.0.1),
      (ready.0.0, subst (λ (l : RecordSet). IsTrue (is_side ready.0.0 l)) (sym c.at-rows.ensures.rows) ready.0.2),
    )
