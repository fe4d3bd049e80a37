use Rattle.std.proofs.Common.{◌≡◌, ◌++◌, ◌∙◌, ℕ, List, Global, ap, string_bytes}
use Rattle.replay.proofs.halves.Closing.{text-more, text-begins, text-ends}
use Rattle.replay.proofs.event_lines.joined_lines.Goals as goal

pub lines-init : goal.lines-init
lines-init c = text-begins c.args.lines.now (string_bytes c.new-text.result) c.new-text.ensures.bytes

pub lines-preserved : goal.lines-preserved
lines-preserved c =
    text-more c.args.lines.now c.lines.line-index c.line-item.result (string_bytes c.lines.text) (string_bytes c.push_str.new.self) _ c.lines-test.true c.line-item.is
    (c.in_ok-push_str.ensures.bytes ∙ ap (λ (l : List ℕ). string_bytes c.lines.text ++ l) c.as_str.ensures.value) c.lines.invariant

pub returns : goal.returns
returns c = text-ends c.args.lines.now c.lines.line-index (string_bytes c.lines.text) _ c.lines-test.false c.lines.invariant
