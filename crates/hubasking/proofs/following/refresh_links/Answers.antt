-- No link is looked at, or one.
use Rattle.std.proofs.Common.{subst}
use Rattle.linkreasons.specs.AllReasons.{askings_of}
use Rattle.pushserver.specs.Hubs.{state_now}
use Rattle.hubasking.specs.Following.{StillBut, doubts_in}
use Rattle.hubasking.specs.declared.following.Touched.{Touched}
use Rattle.hubasking.proofs.Touching.{refresh-none, refresh-one}
use Rattle.hubasking.proofs.following.refresh_links.Goals as goal

pub returns-in-Nothing-clause-leads : goal.returns-in-Nothing-clause-leads
returns-in-Nothing-clause-leads c =
    (refresh-none (state_now c.args.hub.now).links c.args.reasons.now c.requires.bounds
    (subst (λ (t : Touched). StillBut t (state_now c.args.hub.now).links (doubts_in (askings_of c.args.reasons.now))) c.in-Nothing.is c.requires.still)).leads

pub returns-in-Nothing-clause-links : goal.returns-in-Nothing-clause-links
returns-in-Nothing-clause-links c =
    (refresh-none (state_now c.args.hub.now).links c.args.reasons.now c.requires.bounds
    (subst (λ (t : Touched). StillBut t (state_now c.args.hub.now).links (doubts_in (askings_of c.args.reasons.now))) c.in-Nothing.is c.requires.still)).matched

pub returns-in-Link-clause-leads : goal.returns-in-Link-clause-leads
returns-in-Link-clause-leads c =
    (refresh-one c.reasons_are_followed.ensures.fewer (state_now c.args.hub.now).links c.args.reasons.now c.refresh_at.new.reasons c.in-Link.link c.requires.bounds
    (subst (λ (t : Touched). StillBut t (state_now c.args.hub.now).links (doubts_in (askings_of c.args.reasons.now))) c.in-Link.is c.requires.still) c.refresh_at.ensures).leads

pub returns-in-Link-clause-links : goal.returns-in-Link-clause-links
returns-in-Link-clause-links c =
    (refresh-one c.reasons_are_followed.ensures.fewer (state_now c.args.hub.now).links c.args.reasons.now c.refresh_at.new.reasons c.in-Link.link c.requires.bounds
    (subst (λ (t : Touched). StillBut t (state_now c.args.hub.now).links (doubts_in (askings_of c.args.reasons.now))) c.in-Link.is c.requires.still) c.refresh_at.ensures).matched
