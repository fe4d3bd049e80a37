use Rattle.std.proofs.Common.{◌∙◌, arith}
use Rattle.dnsname.proofs.LowerOrder.{lower_end}
use Rattle.dnsname.proofs.comparing.compare_with_lower.Goals as goal

pub returns : goal.returns
returns c = c.cmp.ensures ∙ lower_end c.args.octets.now c.args.other.now c.octets.index _ (omega arith) c.octets.invariant.1
