use Rattle.std.proofs.Common.{◌≡◌, ◌∙◌, false, not, Some, sym, ap, subst}
use Rattle.std.specs.List.{list_any, position}
use Rattle.std.proofs.lemmas.List.Folds.{list_any_at}
use Rattle.std.proofs.lemmas.List.Quantifiers.{position-Some}
use Rattle.rrset.proofs.Distinct.{TakesOut, none_left_out, distinct_filter}
use Rattle.mirror.specs.Held.{AreHeld, AreAsked, held_of, is_of, has, ended}
use Rattle.mirror.proofs.Asked.{asked_ended}
use Rattle.mirror.proofs.Entries.{held_any, held_left}
use Rattle.mirror.proofs.Questions.{nowhere, there, taken_out}
use Rattle.mirror.proofs.holding.Mirror.end.Goals.{In-None}
use Rattle.mirror.proofs.holding.Mirror.end.Goals as goal

-- where the question is
place : (c : goal.After-drop-remove-in-Some) → position (is_of c.args.question.now) c.self.inside.entries.items ≡ Some c.in-Some.index
place c = there c.args.question.now c.self.inside.entries.items c.deref.result.now c.in-Some.index c.deref.ensures.value c.in-Some.ensures

takes : (c : goal.After-drop-remove-in-Some) → TakesOut (is_of c.args.question.now) c.self.inside.entries.items c.in-Some.index c.remove.result
takes c = taken_out c.args.question.now c.self.inside.entries.items c.in-Some.index c.remove.result c.self.invariant.0 (place c)

-- the question isn't there
none : (c : In-None) → list_any (is_of c.args.question.now) c.self.inside.entries.items ≡ false
none c = nowhere c.args.question.now c.self.inside.entries.items c.deref.result.now c.deref.ensures.value c.in-None.ensures

others : (c : goal.After-drop-remove-in-Some) → held_of c.remove.new.self.items ≡ ended c.args.question.now (held_of c.self.inside.entries.items)
others c = ap held_of (c.remove.ensures.items ∙ (takes c).left) ∙ sym (held_left c.args.question.now c.self.inside.entries.items)

pub invariant_of-self : goal.invariant_of-self
invariant_of-self c = (
  subst AreHeld (sym (c.remove.ensures.items ∙ (takes c).left))
      (distinct_filter (λ e f. is_of f.0 e) (λ e. not (is_of c.args.question.now e)) c.self.inside.entries.items c.self.invariant.0),
  subst AreAsked (sym (others c)) (asked_ended c.args.question.now (held_of c.self.inside.entries.items) c.self.invariant.1),
)

pub returns-in-Some-clause-there : goal.returns-in-Some-clause-there
returns-in-Some-clause-there c =
    let at = position-Some (is_of c.args.question.now) c.self.inside.entries.items c.in-Some.index c.remove.result (place c) in
    sym (list_any_at (is_of c.args.question.now) c.self.inside.entries.items c.in-Some.index c.remove.result at.0 at.1)
    ∙ sym (held_any c.args.question.now c.self.inside.entries.items)
    ∙ ap (has c.args.question.now) c.self.view_is

pub returns-in-Some-clause-others : goal.returns-in-Some-clause-others
returns-in-Some-clause-others c =
    others c ∙ ap (ended c.args.question.now) c.self.view_is

pub returns-in-None-clause-there : goal.returns-in-None-clause-there
returns-in-None-clause-there c =
    sym (none c) ∙ sym (held_any c.args.question.now c.self.inside.entries.items) ∙ ap (has c.args.question.now) c.self.view_is

pub returns-in-None-clause-others : goal.returns-in-None-clause-others
returns-in-None-clause-others c =
    sym c.self.view_is
    ∙ ap held_of (sym (none_left_out (is_of c.args.question.now) c.self.inside.entries.items (none c)))
    ∙ sym (held_left c.args.question.now c.self.inside.entries.items)
    ∙ ap (ended c.args.question.now) c.self.view_is
