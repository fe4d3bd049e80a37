use Rattle.std.proofs.Common.{◌≡◌, drop}
use Rattle.linkreasons.specs.Changing.{all_gone}
use Rattle.linkreasons.proofs.leaving.drop_all.Given as goal

abbrev pub invariant-reasons : goal.invariant-reasons
invariant-reasons l = all_gone (drop l.reason-index l.reasons) l.links.items ≡ all_gone l.reasons l.fn.links.items
