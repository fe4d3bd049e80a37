use Rattle.std.proofs.Common.{ℕ, ◌<◌, List, [], ◌∷◌, codes, length, take, Option, Some, None, ◌++◌, ◌∙◌, ap, arith, sym, subst, string_bytes}
use Rattle.scripts.specs.Words.{octets_text}
use Rattle.pushserver.specs.Hubs.{state_now}
use Rattle.pushserver.specs.KeptHubs.{KeptHub}
use Rattle.hubasking.specs.AskingHubs.{given_by}
use Rattle.hubasking.specs.LinkAskings.{asks_all}
use Rattle.replay.proofs.asking.Loop.{asking-begins, asking-more, asking-ends, longer}
use Rattle.replay.proofs.asking.Turns.{asks-fewer}
use Rattle.replay.proofs.hear_lines.ask_all.Goals as goal

pub questions-init : goal.questions-init
questions-init c = record {
  once = c.schedule.ensures.once;
  not_due = c.schedule.ensures.asked;
  counted = omega arith;
  asking = asking-begins c.args.hub.now c.args.link (string_bytes c.new-lines.result) c.new-lines.ensures.bytes;
}

pub overflow_add-count : goal.overflow_add-count
overflow_add-count c =
    let line = c.in_ok-line.ensures ∙ ap (λ (o : List ℕ). codes "out " ++ (octets_text o ++ 10 ∷ [])) c.front_of.ensures in
    let lines = c.in_ok-push_str.ensures.bytes ∙ ap (λ (l : List ℕ). string_bytes c.questions.lines ++ l) c.as_str.ensures.value in
    let text = c.push_str.new.self.bytes in
    let counted = longer c.questions.count (string_bytes c.questions.lines) (string_bytes c.in_ok-line.line) (string_bytes c.push_str.new.self) (take c.in-Some.size c.ask.new.buf) c.questions.invariant.counted line lines in
    omega (arith, counted, text.ok.0, text.ok.1, text.small)

pub questions-preserved : goal.questions-preserved
questions-preserved c =
    let sent = take c.in-Some.size c.ask.new.buf in
    let asked = ap (λ (o : Option ℕ). (given_by o c.ask.new.buf, c.ask.new.self.askings)) (sym c.in-Some.is) ∙ c.in_ok-size.ensures.asked in
    let line = c.in_ok-line.ensures ∙ ap (λ (o : List ℕ). codes "out " ++ (octets_text o ++ 10 ∷ [])) c.front_of.ensures in
    let lines = c.in_ok-push_str.ensures.bytes ∙ ap (λ (l : List ℕ). string_bytes c.questions.lines ++ l) c.as_str.ensures.value in
    record {
      once = c.questions.invariant.once;
      not_due = c.questions.invariant.not_due;
      counted = longer c.questions.count (string_bytes c.questions.lines) (string_bytes c.in_ok-line.line) (string_bytes c.push_str.new.self) sent c.questions.invariant.counted line lines;
      asking = asking-more c.questions.invariant.once c.args.hub.now c.questions.hub c.ask.new.self c.args.link c.questions.count sent (string_bytes c.in_ok-line.line) (string_bytes c.questions.lines) (string_bytes c.push_str.new.self)
          c.questions.invariant.asking c.in_ok-size.ensures.hub asked line lines;
    }

pub questions-smaller : goal.questions-smaller
questions-smaller c =
    let asked = ap (λ (o : Option ℕ). (given_by o c.ask.new.buf, c.ask.new.self.askings)) (sym c.in-Some.is) ∙ c.in_ok-size.ensures.asked in
    let now = c.questions.hub in
    subst (λ (h : KeptHub). length (asks_all (state_now h) c.ask.new.self.askings c.args.link).0 < length (asks_all (state_now now.hub) now.askings c.args.link).0) (sym c.in_ok-size.ensures.hub)
    (asks-fewer c.questions.invariant.not_due (state_now now.hub) now.askings c.args.link (take c.in-Some.size c.ask.new.buf) c.ask.new.self.askings asked)

pub returns : goal.returns
returns c =
    let asked = ap (λ (o : Option ℕ). (given_by o c.ask.new.buf, c.ask.new.self.askings)) (sym c.in_default.is) ∙ c.in_ok-size.ensures.asked in
    asking-ends c.questions.invariant.once c.args.hub.now c.questions.hub c.ask.new.self c.args.link c.questions.count (string_bytes c.questions.lines) c.questions.invariant.asking c.in_ok-size.ensures.hub asked
