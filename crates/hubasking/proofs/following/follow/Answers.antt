-- What is asked behind a call.
use Rattle.std.proofs.Common.{List, sym, subst}
use Rattle.linkask.specs.Reasons.{Reconfirmed}
use Rattle.pushserver.specs.Hubs.{state_now}
use Rattle.hubasking.specs.Following.{StillBut}
use Rattle.hubasking.proofs.Clearing.{ask-fewer}
use Rattle.hubasking.proofs.Refreshing.{follow-ends}
use Rattle.hubasking.proofs.Followed.{followed-behind}
use Rattle.hubasking.proofs.following.follow.Goals as goal

pub refresh_links-requires-clause-still : goal.refresh_links-requires-clause-still
refresh_links-requires-clause-still c = subst (λ (ds : List Reconfirmed). StillBut c.args.touched (state_now c.args.hub.now).links ds) (sym c.clear_rested.ensures.doubts) c.requires.still

pub returns-clause-askings : goal.returns-clause-askings
returns-clause-askings c =
    follow-ends c.reasons_are_followed.ensures.none c.args.hub.now c.args.reasons.now c.clear_rested.new.reasons c.refresh_links.new.reasons c.clear_rested.ensures.sessions c.clear_rested.ensures.leads
    c.refresh_links.ensures.sessions c.refresh_links.ensures.leads c.refresh_links.ensures.links c.tell-2.ensures.follows

pub returns-clause-behind : goal.returns-clause-behind
returns-clause-behind c = followed-behind c.reasons_are_followed.ensures.follows c.args.hub.now c.args.reasons.now (ask-fewer c.args.hub.now c.args.reasons.now.sessions c.requires.follows.sessions) c.tell.ensures.follows
