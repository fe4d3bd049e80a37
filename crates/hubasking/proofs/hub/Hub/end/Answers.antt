-- Links follow the call.
use Rattle.std.proofs.Common.{◌≡◌, ap, ◌∙◌, None}
use Rattle.linkreasons.specs.AllReasons.{AllReasons, askings_of}
use Rattle.pushserver.specs.Calls.{ends}
use Rattle.pushserver.specs.Hubs.{disconnect}
use Rattle.pushserver.specs.KeptHubs.{KeptHub}
use Rattle.hubasking.specs.LinkAskings.{behind, kept_questions}
use Rattle.hubasking.proofs.Ending.{EndsWith, end-asked, end-follow}
use Rattle.hubasking.proofs.HubCalls.{asked-seen, ended-alike, stood}
use Rattle.hubasking.proofs.Touching.{end-still}
use Rattle.hubasking.proofs.hub.Hub.end.Goals as goal

pub follow-requires-clause-follows : goal.follow-requires-clause-follows
follow-requires-clause-follows c =
    end-follow c.self.inside.hub c.end.new.self c.args.session c.self.inside.reasons c.end-2.new.self c.self.invariant c.end.ensures.kept
    (record { sessions = c.end-2.ensures.sessions; askings = c.end-2.ensures.askings; bounds = c.end-2.ensures.bounds })
    (disconnect c.self.invariant.plain c.args.session) (c.end.ensures.hub c.self.invariant.plain c.self.invariant.stands)

pub follow-requires-clause-still : goal.follow-requires-clause-still
follow-requires-clause-still c =
    end-still c.self.inside.hub c.end.new.self c.args.session c.self.inside.reasons c.end-2.new.self c.self.invariant c.end.ensures.kept
    (record { sessions = c.end-2.ensures.sessions; askings = c.end-2.ensures.askings; bounds = c.end-2.ensures.bounds })

pub returns-clause-hub : goal.returns-clause-hub
returns-clause-hub c = λ hub stands. c.end.ensures.hub hub (stood c.self.inside.hub c.self.inside.reasons c.args.self.now hub c.self.view_is stands)

pub returns-clause-kept : goal.returns-clause-kept
returns-clause-kept c = rw (← c.self.view_is) c.end.ensures.kept

asked : (c : goal.After-follow) → askings_of c.follow.new.reasons ≡ behind kept_questions None (disconnect c.self.inside.hub c.args.session) (askings_of c.self.inside.reasons)
asked c =
    c.follow.ensures.askings
    ∙ end-asked c.self.inside.hub c.end.new.self c.args.session c.self.inside.reasons c.end-2.new.self c.self.invariant c.end.ensures.kept
    (record { sessions = c.end-2.ensures.sessions; askings = c.end-2.ensures.askings; bounds = c.end-2.ensures.bounds })
    c.reasons_are_followed.ensures.fewer c.reasons_are_followed.ensures.follows c.tell.ensures.follows
    ∙ ap (λ (k : KeptHub). behind kept_questions None k (askings_of c.self.inside.reasons)) c.end.ensures.kept

pub returns-clause-asking : goal.returns-clause-asking
returns-clause-asking c = asked-seen (ends c.args.session) c.self.inside.hub c.self.inside.reasons c.args.self.now (askings_of c.follow.new.reasons) c.self.view_is (asked c)

pub returns-clause-asks : goal.returns-clause-asks
returns-clause-asks c =
    ended-alike (ends c.args.session) c.self.inside.hub c.end.new.self c.self.inside.reasons c.args.self.now (askings_of c.follow.new.reasons) c.self.view_is (asked c) c.end.ensures.kept c.end.ensures.hub
