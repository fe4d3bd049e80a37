use Rattle.std.proofs.Common.{[], ◌∷◌, ◌++◌, ◌-◌, codes, sym, ◌∙◌, ap, refl, string_bytes}
use Rattle.scripts.specs.Words.{ended_lines}
use Rattle.subscriber.proofs.MessageTurns.{one_fewer, reacting-begins, reacts-waiting, reacts-closed, reacts-counted, reacts-used_up, reacting-more}
use Rattle.subscriber.proofs.reacting.react.Goals as goal

pub steps-init : goal.steps-init
steps-init c = reacting-begins c.args.client.now c.args.messages.now (string_bytes c.new-text.result) c.new-text.ensures.bytes

-- no message is whole
pub returns-then-is_waiting : goal.returns-then-is_waiting
returns-then-is_waiting c =
    reacts-waiting c.args.client.now c.steps.client c.step.new.self c.args.messages.now c.steps.messages c.steps.left (string_bytes c.steps.text) c.in_ok-step.step c.steps.invariant c.in_ok-step.ensures.ok
    (sym c.is_waiting.ensures ∙ c.if-is_waiting.true)

-- the client has closed
pub returns-then-is_closed : goal.returns-then-is_closed
returns-then-is_closed c =
    reacts-closed c.args.client.now c.steps.client c.step.new.self c.args.messages.now c.steps.messages c.steps.left (string_bytes c.steps.text) c.in_ok-step.step c.steps.invariant c.in_ok-step.ensures.ok
    (string_bytes c.in_ok-lines.lines) (string_bytes c.push_str.new.self) (sym c.is_waiting.ensures ∙ c.if-is_waiting.false) (sym c.is_closed.ensures ∙ c.if-is_closed.true) c.in_ok-lines.ensures
    (c.in_ok-push_str.ensures.bytes ∙ ap (λ l. string_bytes c.steps.text ++ l) c.as_str.ensures.value)

-- no further message is counted
pub returns-then-is_used_up : goal.returns-then-is_used_up
returns-then-is_used_up c =
    reacts-counted c.args.client.now c.steps.client c.step.new.self c.args.messages.now c.steps.messages c.steps.left (string_bytes c.steps.text) c.in_ok-step.step c.steps.invariant c.in_ok-step.ensures.ok
    c.one_less.result (string_bytes c.in_ok-lines.lines) (string_bytes c.push_str.new.self) (ended_lines (codes "ended messages" ∷ [])) (string_bytes c.push_str-then-is_used_up.new.self)
    (sym c.is_waiting.ensures ∙ c.if-is_waiting.false) (sym c.is_closed.ensures ∙ c.if-is_closed.false) c.in_ok-lines.ensures
    (c.in_ok-push_str.ensures.bytes ∙ ap (λ l. string_bytes c.steps.text ++ l) c.as_str.ensures.value) c.one_less.ensures (sym c.is_used_up.ensures ∙ c.if-is_used_up.true) refl c.in_ok-push_str-2.ensures.bytes

-- no turn is ever the last
pub returns-then-left-eq0 : goal.returns-then-left-eq0
returns-then-left-eq0 c =
    reacts-used_up c.args.client.now c.steps.client c.step.new.self c.args.messages.now c.steps.messages c.steps.left (string_bytes c.steps.text) c.in_ok-step.step c.steps.invariant c.in_ok-step.ensures.ok
    c.if-left-eq0.true (sym c.is_waiting.ensures ∙ c.if-is_waiting.false) c.one_less.result (string_bytes c.push_str.new.self) _

pub steps-preserved-else-left-eq0 : goal.steps-preserved-else-left-eq0
steps-preserved-else-left-eq0 c =
    reacting-more c.args.client.now c.steps.client c.step.new.self c.args.messages.now c.steps.messages c.steps.left (string_bytes c.steps.text) c.in_ok-step.step c.steps.invariant c.in_ok-step.ensures.ok
    c.one_less.result (string_bytes c.in_ok-lines.lines) (string_bytes c.push_str.new.self) (sym c.is_waiting.ensures ∙ c.if-is_waiting.false) (sym c.is_closed.ensures ∙ c.if-is_closed.false) c.in_ok-lines.ensures
    (c.in_ok-push_str.ensures.bytes ∙ ap (λ l. string_bytes c.steps.text ++ l) c.as_str.ensures.value) c.one_less.ensures (sym c.is_used_up.ensures ∙ c.if-is_used_up.false) (c.steps.left - 1) (one_fewer c.steps.left c.if-left-eq0.false)

pub steps-preserved : goal.steps-preserved
steps-preserved c =
    reacting-more c.args.client.now c.steps.client c.step.new.self c.args.messages.now c.steps.messages c.steps.left (string_bytes c.steps.text) c.in_ok-step.step c.steps.invariant c.in_ok-step.ensures.ok
    c.one_less.result (string_bytes c.in_ok-lines.lines) (string_bytes c.push_str.new.self) (sym c.is_waiting.ensures ∙ c.if-is_waiting.false) (sym c.is_closed.ensures ∙ c.if-is_closed.false) c.in_ok-lines.ensures
    (c.in_ok-push_str.ensures.bytes ∙ ap (λ l. string_bytes c.steps.text ++ l) c.as_str.ensures.value) c.one_less.ensures (sym c.is_used_up.ensures ∙ c.if-is_used_up.false) (c.steps.left - 1) (one_fewer c.steps.left c.if-left-eq0.false)
