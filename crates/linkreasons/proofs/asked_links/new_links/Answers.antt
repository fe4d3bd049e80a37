use Rattle.std.proofs.Common.{List, [], ◌++◌, ◌-◌, replicate, ap, ◌∙◌}
use Rattle.linkreasons.specs.AllReasons.{ReasonsOfLink}
use Rattle.linkreasons.proofs.OneAsked.{new-begins, new-ends, new-turn}
use Rattle.linkreasons.proofs.asked_links.new_links.Goals as goal

abbrev none : ReasonsOfLink
none = record { kept = []; reconfirmed = [] }

pub links-init : goal.links-init
links-init c = ap (λ (ls : List ReasonsOfLink). ls ++ replicate (c.args.links - 0) none) c.new-made.ensures.items ∙ new-begins none c.args.links

pub links-preserved : goal.links-preserved
links-preserved c = new-turn none _ c.links.made.items _ c.args.links c.links.counter c.links-test.true c.new.ensures c.in_ok-push.ensures.items c.links.invariant

pub returns : goal.returns
returns c = new-ends none c.links.made.items c.args.links c.links.counter c.links-test.false c.links.invariant
