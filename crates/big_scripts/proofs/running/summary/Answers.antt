use Rattle.std.proofs.Common.{◌≡◌, ◌∙◌, ap, subst, IfOk, string_bytes}
use Rattle.scripts.specs.Words.{line}
use Rattle.big_scripts.specs.Replies.{summary_of}
use Rattle.big_scripts.specs.declared.sums.Sums.{Sums}
use Rattle.big_scripts.proofs.Telling.{line_is}
use Rattle.big_scripts.proofs.running.summary.Goals as goal

pub returns : goal.returns
returns c =
    subst (λ t. IfOk c.line_of.result (λ text. string_bytes text ≡ t)) (line_is _ _ _ _ ∙ ap (λ (sums : Sums). line (summary_of c.args.number sums)) c.in_ok-points.ensures) c.line_of.ensures
