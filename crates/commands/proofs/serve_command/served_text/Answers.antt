use Rattle.std.proofs.Common.{◌≡◌, IfOk, string_bytes, subst}
use Rattle.commands.proofs.Serving.{line_is}
use Rattle.commands.proofs.serve_command.served_text.Goals as goal

pub returns : goal.returns
returns c = subst (λ t. IfOk c.line_of.result (λ text. string_bytes text ≡ t)) (line_is _ _ _ _) c.line_of.ensures
