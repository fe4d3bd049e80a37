use Rattle.std.proofs.Common.{◌≡◌, Bool, true, false, ◌&&◌, length, sym, ap, subst, ◌∙◌, arith}
use Rattle.push_base.specs.Cases.{is_empty}
use Rattle.scripts.specs.TextLines.{TakesHeld}
use Rattle.scripts.proofs.lines.LineByLine.{begins, outside, unfit, more, ends}
use Rattle.scripts.proofs.text_lines.take_lines.Goals as goal

pub lines-init : goal.lines-init
lines-init g c = begins g.D.TakeLines.line (g.D.TakeLines.Holds c.args.draft.now) c.args.octets.now

pub returns-then-is_outside : goal.returns-then-is_outside
returns-then-is_outside g c made held =
    let last = ap (λ (b : Bool). b && is_empty c.split_line.result.1.now) (sym c.is_too_long-too_long.ensures) ∙ sym c.is_outside.ensures ∙ c.if-is_outside.true in
    outside g.D.TakeLines.line _ _ _ c.lines.number _ _ _ c.lines.invariant c.split_line.ensures.lines last made held

pub returns-then-not-branch : goal.returns-then-not-branch
returns-then-not-branch g c made held =
    let line = g.D.TakeLines.line in
    let Holds = g.D.TakeLines.Holds in
    let inside = ap (λ (b : Bool). b && is_empty c.split_line.result.1.now) (sym c.is_too_long-too_long.ensures) ∙ sym c.is_outside.ensures ∙ c.if-is_outside.false in
    let refused : (now : g.D.TakeLines.Made) → Holds c.lines.draft now → TakesHeld (line now c.split_line.result.0.now) (Holds c.take.new.self) false = λ now holds. subst (TakesHeld (line now c.split_line.result.0.now) (Holds c.take.new.self)) c.if-not-branch.true (c.in_ok-take.ensures now holds) in
    unfit line _ _ _ c.lines.number _ _ _ c.lines.invariant c.split_line.ensures.lines (Holds c.take.new.self) inside refused made held

pub lines-preserved : goal.lines-preserved
lines-preserved g c =
    let line = g.D.TakeLines.line in
    let Holds = g.D.TakeLines.Holds in
    let inside = ap (λ (b : Bool). b && is_empty c.split_line.result.1.now) (sym c.is_too_long-too_long.ensures) ∙ sym c.is_outside.ensures ∙ c.if-is_outside.false in
    let taken : (now : g.D.TakeLines.Made) → Holds c.lines.draft now → TakesHeld (line now c.split_line.result.0.now) (Holds c.take.new.self) true = λ now holds. subst (TakesHeld (line now c.split_line.result.0.now) (Holds c.take.new.self)) c.if-not-branch.false (c.in_ok-take.ensures now holds) in
    more line _ _ _ c.lines.number _ _ _ c.lines.invariant c.split_line.ensures.lines (Holds c.take.new.self) inside taken c.split_line.ensures.shorter

pub returns : goal.returns
returns g c made held =
    let none : length c.lines.rest.now ≡ 0 = grind arith in
    ends g.D.TakeLines.line _ _ _ c.lines.number _ c.lines.invariant none made held
