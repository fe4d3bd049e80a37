use Rattle.std.proofs.Common.{◌≡◌, drop, not}
use Rattle.std.specs.Prelude.{filter}
use Rattle.subscr.specs.Asked.{has}
use Rattle.linkreasons.specs.Changing.{all_gone}
use Rattle.linkreasons.proofs.leaving.drop_others.Given as goal

abbrev pub invariant-reasons : goal.invariant-reasons
invariant-reasons l = all_gone (filter (λ r. not (has r.id l.asked)) (drop l.reason-index l.reasons)) l.links.items ≡ all_gone (filter (λ r. not (has r.id l.asked)) l.reasons) l.fn.links.items
