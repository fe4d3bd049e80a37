-- One link more has been looked at.
use Rattle.std.proofs.Common.{ltb-false}
use Rattle.history.proofs.LongestTurns.{links-begin, links-longer, links-kept, links-end}
use Rattle.history.proofs.link_lists.longest_link.Goals as goal
use Rattle.history.proofs.link_lists.longest_link.Goals.{then-octets-most, else-octets-most}

pub links-init : goal.links-init
links-init c = λ before best longest. links-begin before c.args.links.now c.args.name.now best c.args.more_than longest

pub links-preserved : goal.links-preserved
links-preserved c = λ before best longest.
    let so_far = c.links.invariant before best longest in
    elim c.if-octets-most.branch [
      | then-octets-most w ↦ links-longer before c.args.links.now c.args.name.now c.links.index c.index-links-index.result c.links-test.true c.index-links-index.is best c.links.found _ c.links.most _ c.most_octets_of-octets.result so_far c.most_octets_of-octets.ensures w.if-octets-most.true w.found-is w.most-is
      | else-octets-most w ↦ links-kept before c.args.links.now c.args.name.now c.links.index c.index-links-index.result c.links-test.true c.index-links-index.is best c.links.found _ c.links.most _ c.most_octets_of-octets.result so_far c.most_octets_of-octets.ensures w.if-octets-most.false w.found-is w.most-is
    ]

pub returns : goal.returns
returns c = λ before best longest. links-end before c.args.links.now c.args.name.now c.links.index best c.links.found c.links.most c.links-test.false (c.links.invariant before best longest)
