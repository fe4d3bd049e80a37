use Rattle.std.proofs.Common.{sym, ◌∙◌, arith}
use Rattle.push_base.proofs.HexLemmas.{unread-odd}
use Rattle.push_base.proofs.DigitPairs.{unread-other}
use Rattle.push_base.proofs.digits.octets_in_hex.Goals as goal

pub returns-then-text-eq1 : goal.returns-then-text-eq1
returns-then-text-eq1 c = unread-odd c.args.text.now (omega arith)

pub returns-then-has_other : goal.returns-then-has_other
returns-then-has_other c = unread-other c.args.text.now (sym c.has_other.ensures ∙ c.if-has_other.true)
