use Rattle.zoneupdate.proofs.SideBySide.{at_first, at_none}
use Rattle.zoneupdate.proofs.differing.append_at.Goals as goal

pub returns-in_ok-append_other-in-Some : goal.returns-in_ok-append_other-in-Some
returns-in_ok-append_other-in-Some c =
    at_first c.args.row c.in-Some.before.now c.args.old.now c.in-Some.rest.now _ _ c.in-Some.ensures.0 c.in-Some.ensures.1 c.in_ok-append_other-in-Some.ensures

pub returns-in_ok-append_new-in-None : goal.returns-in_ok-append_new-in-None
returns-in_ok-append_new-in-None c = at_none c.args.row c.args.old.now _ _ c.in-None.ensures c.in_ok-append_new-in-None.ensures
