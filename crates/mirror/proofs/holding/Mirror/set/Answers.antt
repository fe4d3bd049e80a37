use Rattle.std.proofs.Common.{◌≡◌, ◌∙◌, Option, Some, None, MatchOption, sym, ap, subst, Bor}
use Rattle.std.specs.Option.{option_map}
use Rattle.rrset.specs.RecordSet.{RecordSet}
use Rattle.rrset.specs.Tables.{TableState}
use Rattle.rrset.specs.declared.record.Shown.{Shown}
use Rattle.rrset.specs.declared.record.Question.{Question}
use Rattle.rrset.proofs.Distinct.{none_found}
use Rattle.mirror.specs.Held.{is_of, set_of}
use Rattle.mirror.proofs.Entries.{held_found}
use Rattle.mirror.proofs.Questions.{nowhere, there, taken_out}
use Rattle.mirror.proofs.holding.Mirror.set.Goals as goal

abbrev shown : Option (Question × TableState Shown) → Option RecordSet
shown found = option_map (λ e. e.1.rows) found

pub returns-in_err-index : goal.returns-in_err-index
returns-in_err-index c =
    let gone = nowhere c.args.question.now c.self.inside.entries.items c.deref.result.now c.deref.ensures.value c.in_err-index.ensures in
    let none : set_of c.args.question.now c.args.self.now ≡ None =
    ap (set_of c.args.question.now) (sym c.self.view_is) ∙ held_found c.args.question.now c.self.inside.entries.items ∙ ap shown (none_found (is_of c.args.question.now) c.self.inside.entries.items gone) in
    subst (λ (o : Option (Bor (TableState Shown))). MatchOption o (set_of c.args.question.now c.args.self.now ≡ None) (λ set. set_of c.args.question.now c.args.self.now ≡ Some set.now.rows)) (sym c.from_residual.ensures) none

pub returns : goal.returns
returns c =
    let takes = taken_out c.args.question.now c.self.inside.entries.items c.in_ok-index.index c.index.result.now c.self.invariant.0
    (there c.args.question.now c.self.inside.entries.items c.deref.result.now c.in_ok-index.index c.deref.ensures.value c.in_ok-index.ensures) in
    ap (set_of c.args.question.now) (sym c.self.view_is)
    ∙ held_found c.args.question.now c.self.inside.entries.items
    ∙ ap shown takes.found
    ∙ ap (λ (e : Question × TableState Shown). Some e.1.rows) (sym c.index.ensures)
