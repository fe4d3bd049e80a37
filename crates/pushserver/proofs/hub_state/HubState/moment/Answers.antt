-- A later moment is entered, but at the last point, and then it is one for each session.
use Rattle.std.proofs.Common.{◌<◌, ◌≤◌, sym, subst, ◌∙◌}
use Rattle.pushsession.specs.Sessions.{timed}
use Rattle.pushsession.specs.Kept.{keeping}
use Rattle.history.specs.declared.entry.Entry.TheVariants as entries
use Rattle.pushserver.specs.Hubs.{moment}
use Rattle.pushserver.specs.HubState.{kept_of}
use Rattle.pushserver.specs.KeptHubs.{KeptHub, Forgets}
use Rattle.pushserver.specs.Offering.{offered}
use Rattle.pushserver.proofs.ForgottenEntries.{forgets-same, forgets-each, timed-since}
use Rattle.pushserver.proofs.Offering.{moment-early, moment-last, moment-made}
use Rattle.pushserver.proofs.hub_state.HubState.moment.Goals as goal

pub returns-then-at-now-clause-hub : goal.returns-then-at-now-clause-hub
returns-then-at-now-clause-hub g c = forgets-same (moment (kept_of c.args.self.now) c.args.at) (kept_of c.args.self.now) (sym (moment-early (kept_of c.args.self.now) c.args.at (subst (λ n. c.args.at ≤ n) c.now.ensures c.if-at-now.true)))

pub returns-then-not-can_enter-clause-hub : goal.returns-then-not-can_enter-clause-hub
returns-then-not-can_enter-clause-hub g c = forgets-same (moment (kept_of c.args.self.now) c.args.at) (kept_of c.args.self.now) (sym (moment-last (kept_of c.args.self.now) c.args.at (sym c.can_enter.ensures ∙ c.if-not-can_enter.true)))

pub returns-clause-hub : goal.returns-clause-hub
returns-clause-hub g c =
    subst (λ (k : KeptHub). Forgets k (record (kept_of c.offer.new.self) { sessions = c.moment.new.self }))
    (moment-made (kept_of c.args.self.now) c.args.at (subst (λ n. n < c.args.at) c.now.ensures c.if-at-now.false) (sym c.can_enter.ensures ∙ c.if-not-can_enter.false))
    (forgets-each (offered (entries.Moment c.args.at) (kept_of c.args.self.now)).1 (kept_of c.offer.new.self) c.in_ok-offer.ensures.hub (timed keeping c.args.at) (timed-since c.args.at) c.moment.new.self c.moment.ensures.timed)

pub returns-clause-watched : goal.returns-clause-watched
returns-clause-watched g c = c.moment.ensures.watched c.offer.ensures.watched
