-- A session comes.
use Rattle.std.proofs.Common.{◌≡◌, ℕ, ap, ◌∙◌}
use Rattle.linkreasons.specs.AllReasons.{without_session}
use Rattle.pushserver.specs.Hubs.{connect}
use Rattle.pushserver.specs.KeptHubs.{KeptHub}
use Rattle.hubasking.proofs.HubCalls.{kept-same}
use Rattle.hubasking.proofs.Seated.{left-askings, left-kept, placed-kept}
use Rattle.hubasking.proofs.seating.seated.Goals as goal

pub returns-in-Ok-clause-kept : goal.returns-in-Ok-clause-kept
returns-in-Ok-clause-kept c =
    (placed-kept c.args.hub.now c.connect.new.self c.args.reasons.now c.make_place.new.reasons c.in-Ok.number (connect c.requires.plain).1 c.requires c.in_ok-make_place.ensures.place c.in-Ok.ensures.kept.0 c.in-Ok.ensures.kept.1 (c.in-Ok.ensures.ok c.requires.plain c.requires.stands).1).0

pub returns-in-Err-clause-kept : goal.returns-in-Err-clause-kept
returns-in-Err-clause-kept c =
    kept-same c.args.hub.now c.connect.new.self c.end.new.self c.in-Err.ensures.same
    (left-kept c.reasons_are_followed.ensures.fewer c.reasons_are_followed.ensures.none c.reasons_are_followed.ensures.follows c.args.hub.now c.args.reasons.now c.make_place.new.reasons c.end.new.self c.requires c.in_ok-make_place.ensures.place
    (c.end.ensures.sessions ∙ ap (λ (n : ℕ). without_session n c.make_place.new.reasons.sessions) (c.made.ensures.kept ∙ ap (λ (k : KeptHub). k.numbers_given) c.in-Err.ensures.same)) c.end.ensures.askings c.tell.ensures.follows c.end.ensures.bounds)

pub returns-in-Err-clause-askings : goal.returns-in-Err-clause-askings
returns-in-Err-clause-askings c =
    left-askings c.reasons_are_followed.ensures.fewer c.reasons_are_followed.ensures.none c.reasons_are_followed.ensures.follows c.args.hub.now c.args.reasons.now c.make_place.new.reasons c.end.new.self c.requires c.in_ok-make_place.ensures.place
    (c.end.ensures.sessions ∙ ap (λ (n : ℕ). without_session n c.make_place.new.reasons.sessions) (c.made.ensures.kept ∙ ap (λ (k : KeptHub). k.numbers_given) c.in-Err.ensures.same)) c.end.ensures.askings c.tell.ensures.follows
