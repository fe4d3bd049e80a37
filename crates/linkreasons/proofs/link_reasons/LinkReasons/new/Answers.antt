use Rattle.std.proofs.Common.{sym, ap}
use Rattle.linkreasons.specs.Changing.{have_reasons}
use Rattle.linkreasons.proofs.Calls.{begins}
use Rattle.linkreasons.proofs.link_reasons.LinkReasons.new.Goals as goal

pub invariant_of-result : goal.invariant_of-result
invariant_of-result c = (begins c.args.links c.in_ok-made.made.items _ c.in_ok-made.ensures c.new.ensures.items, ap have_reasons (sym c.new.ensures.items))
