use Rattle.std.proofs.Common.{◌≡◌, ◌∙◌, false, get_or, set, sym, ap, subst}
use Rattle.rrset.specs.Tables.{TableState}
use Rattle.rrset.specs.declared.record.Shown.{Shown}
use Rattle.rrset.specs.declared.record.Question.{Question}
use Rattle.rrset.proofs.Distinct.{distinct_push}
use Rattle.mirror.specs.Held.{AreHeld, AreAsked, held_of, is_of, has, begun}
use Rattle.mirror.proofs.Asked.{asked_begun}
use Rattle.mirror.proofs.Entries.{held_any, begun_behind, begun_there}
use Rattle.mirror.proofs.Questions.{same_questions, questions_of-set, nowhere, there}
use Rattle.mirror.proofs.holding.Mirror.begin.Goals as goal

set_is : (c : goal.After-drop-question)
    → set c.self.inside.entries.items c.in-Some.index (c.index_mut.result.now.0, c.new-set.result)
    ≡ set c.self.inside.entries.items c.in-Some.index ((get_or c.self.inside.entries.items c.in-Some.index c.index_mut.result.now).0, c.new-set.result)
set_is c = ap (λ (e : Question × TableState Shown). set c.self.inside.entries.items c.in-Some.index (e.0, c.new-set.result)) c.index_mut.ensures.value

in-place : (c : goal.After-drop-question)
    → held_of (set c.self.inside.entries.items c.in-Some.index (c.index_mut.result.now.0, c.new-set.result)) ≡ begun c.args.question (held_of c.self.inside.entries.items)
in-place c =
    ap held_of (set_is c)
    ∙ begun_there c.args.question c.self.inside.entries.items c.in-Some.index c.index_mut.result.now c.new-set.result (there c.args.question c.self.inside.entries.items c.deref.result.now c.in-Some.index c.deref.ensures.value c.in-Some.ensures) c.new-set.ensures

pub invariant_of-self : goal.invariant_of-self
invariant_of-self c = (
  subst AreHeld (sym (set_is c))
      (same_questions c.self.inside.entries.items _ (questions_of-set c.self.inside.entries.items c.in-Some.index c.index_mut.result.now c.new-set.result) c.self.invariant.0),
  subst AreAsked (sym (in-place c)) (asked_begun c.args.question (held_of c.self.inside.entries.items) c.self.invariant.1),
)

behind : (c : goal.In_ok-push-in-None) → held_of c.push.new.self.items ≡ begun c.args.question (held_of c.self.inside.entries.items)
behind c =
    ap held_of c.in_ok-push-in-None.ensures.items
    ∙ begun_behind c.args.question c.self.inside.entries.items c.new-set.result (nowhere c.args.question c.self.inside.entries.items c.deref.result.now c.deref.ensures.value c.in-None.ensures) c.new-set.ensures

pub invariant_of-self-in-Continue-1 : goal.invariant_of-self-in-Continue-1
invariant_of-self-in-Continue-1 c = (
  subst AreHeld (sym c.in_ok-push-in-None.ensures.items)
      (distinct_push (λ e f. is_of f.0 e) c.self.inside.entries.items (c.args.question, c.new-set.result) c.self.invariant.0 (nowhere c.args.question c.self.inside.entries.items c.deref.result.now c.deref.ensures.value c.in-None.ensures)),
  subst AreAsked (sym (behind c)) (asked_begun c.args.question (held_of c.self.inside.entries.items) c.self.invariant.1),
)

pub returns-in-Some-clause-ok : goal.returns-in-Some-clause-ok
returns-in-Some-clause-ok c = in-place c ∙ ap (begun c.args.question) c.self.view_is

pub returns-in_ok-push-in-None-clause-ok : goal.returns-in_ok-push-in-None-clause-ok
returns-in_ok-push-in-None-clause-ok c = behind c ∙ ap (begun c.args.question) c.self.view_is

pub returns-in_err-push-in-None-clause-there : goal.returns-in_err-push-in-None-clause-there
returns-in_err-push-in-None-clause-there c =
    let none : has c.args.question c.args.self.now ≡ false =
    sym (ap (has c.args.question) c.self.view_is) ∙ held_any c.args.question c.self.inside.entries.items
    ∙ nowhere c.args.question c.self.inside.entries.items c.deref.result.now c.deref.ensures.value c.in-None.ensures in
    λ some. absurd cc
