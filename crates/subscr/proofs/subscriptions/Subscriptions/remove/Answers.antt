use Rattle.std.proofs.Common.{◌≡◌, ◌∙◌, ℕ, sym, ap, subst, false, Option, Some}
use Rattle.std.specs.List.{position, list_any}
use Rattle.std.specs.Option.{option_map}
use Rattle.rrset.specs.declared.record.Question.{Question}
use Rattle.rrset.proofs.Distinct.{TakesOut, no_place, none_found, none_left_out}
use Rattle.subscr.specs.Asked.{Asked, AreAsked, is_id, question_of, without}
use Rattle.subscr.specs.Named.{IsKept}
use Rattle.subscr.proofs.AskedAt.{kept-left}
use Rattle.subscr.proofs.Asking.{left, taken_out}
use Rattle.subscr.proofs.subscriptions.Subscriptions.remove.Goals as goal

-- no question has the ID
no_id : (c : goal.After-from_residual) → list_any (is_id c.args.id) c.args.self.now ≡ false
no_id c =
    no_place (is_id c.args.id) c.args.self.now
    (ap (λ (l : Asked). position (is_id c.args.id) l) (sym (c.deref.ensures.value ∙ c.self.view_is)) ∙ sym c.in_err-index.ensures)

-- the ID's question is taken out
takes : (c : goal.After-remove) → TakesOut (is_id c.args.id) c.self.inside.entries.items c.in_ok-index.index c.remove-question.result
takes c =
    taken_out c.args.id c.self.inside.entries.items c.in_ok-index.index c.remove-question.result c.self.invariant.0
    (ap (λ (l : Asked). position (is_id c.args.id) l) (sym c.deref.ensures.value) ∙ sym c.in_ok-index.ensures)

others : (c : goal.After-remove) → c.remove-question.new.self.items ≡ without c.args.id c.self.inside.entries.items
others c = c.remove-question.ensures.items ∙ (takes c).left

pub returns-in_err-index-clause-question : goal.returns-in_err-index-clause-question
returns-in_err-index-clause-question c = c.from_residual.ensures ∙ sym (ap (λ (o : Option (ℕ × Question)). option_map (λ e. e.1) o) (none_found (is_id c.args.id) c.args.self.now (no_id c)))

pub returns-in_err-index-clause-others : goal.returns-in_err-index-clause-others
returns-in_err-index-clause-others c = sym (none_left_out (is_id c.args.id) c.args.self.now (no_id c))

pub invariant_of-self : goal.invariant_of-self
invariant_of-self c = (
  subst AreAsked (sym (others c)) (left c.args.id c.self.inside.entries.items c.self.invariant.0),
  subst (λ (l : Asked). IsKept c.remove.new.self l) (sym (others c))
      (kept-left c.args.id c.remove-question.result c.self.inside.entries.items c.self.inside.keeping c.remove.new.self c.self.invariant.0 c.self.invariant.1
      ((takes c).found ∙ sym (ap (λ (e : ℕ × Question). Some e) c.remove-question.ensures.value)) c.remove.ensures),
)

pub returns-clause-question : goal.returns-clause-question
returns-clause-question c =
    ap (λ (e : ℕ × Question). Some e.1) c.remove-question.ensures.value
    ∙ sym (ap (λ (o : Option (ℕ × Question)). option_map (λ e. e.1) o) (takes c).found)
    ∙ ap (question_of c.args.id) c.self.view_is

pub returns-clause-others : goal.returns-clause-others
returns-clause-others c = others c ∙ ap (without c.args.id) c.self.view_is

pub returns-in_err-index-clause-asked : goal.returns-in_err-index-clause-asked
returns-in_err-index-clause-asked c = subst AreAsked c.self.view_is c.self.invariant.0

pub returns-clause-asked : goal.returns-clause-asked
returns-clause-asked c = subst AreAsked c.self.view_is c.self.invariant.0
