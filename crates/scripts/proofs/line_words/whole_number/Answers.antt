use Rattle.std.proofs.Common.{ℕ, List, sym, subst, ◌∙◌}
use Rattle.std.specs.Str.Parse.{ParsesUnsigned}
use Rattle.scripts.proofs.lines.LineWords.{number_utf8, number_read}
use Rattle.scripts.proofs.line_words.whole_number.Goals as goal

pub returns-in_default : goal.returns-in_default
returns-in_default c = absurd (c.in_default.ensures.cases.0 (number_utf8 c.args.text.now (sym c.if-not-is_number.ensures)))

pub returns : goal.returns
returns c =
    let text = c.args.text.now in
    c.ok.ensures.value
    ∙ number_read text c.parse.result (sym c.if-not-is_number.ensures) (subst (λ (t : List ℕ). ParsesUnsigned 64 10 t c.parse.result) c.in-Ok.ensures.cases.0 c.parse.ensures.value.0)
