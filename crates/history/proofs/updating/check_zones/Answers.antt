-- The update gets what the zone that it names gets.
use Rattle.std.proofs.Common.{sym, ap, subst, ◌∙◌}
use Rattle.zoneupdate.specs.KeptZones.{HasRoom}
use Rattle.history.specs.States.{zone_asked}
use Rattle.history.proofs.CheckedZones.{JudgesAt, checked-none, checked-refused, checked-accepted, room-at}
use Rattle.history.proofs.updating.check_zones.Goals as goal

pub returns-in_default-clause-checked : goal.returns-in_default-clause-checked
returns-in_default-clause-checked c = λ t home. checked-none c.args.zones.now c.args.links.now c.args.update.now c.in-Ok.apex.now (sym (ap zone_asked c.as_slice.ensures) ∙ c.in-Ok.ensures) c.in_default.ensures t

pub returns-in-Refuse-clause-checked : goal.returns-in-Refuse-clause-checked
returns-in-Refuse-clause-checked c = λ t home.
    checked-refused c.args.zones.now c.args.links.now c.args.update.now c.in-Ok.apex.now c.in-Some.index c.in_ok-under.under c.in-Refuse.code (sym (ap zone_asked c.as_slice.ensures) ∙ c.in-Ok.ensures) c.in-Some.ensures c.in_ok-under.ensures
    (subst (JudgesAt c.args.zones.now c.in-Some.index c.in_ok-under.under c.args.update.now) c.in-Refuse.is c.in_ok-code.ensures.verdict) t

pub returns-clause-checked : goal.returns-clause-checked
returns-clause-checked c =
    checked-accepted c.args.zones.now c.args.links.now c.args.update.now c.in-Ok.apex.now c.in-Some.index c.in_ok-under.under c.in-Accept.plan (sym (ap zone_asked c.as_slice.ensures) ∙ c.in-Ok.ensures) c.in-Some.ensures c.in_ok-under.ensures
    (subst (JudgesAt c.args.zones.now c.in-Some.index c.in_ok-under.under c.args.update.now) c.in-Accept.is c.in_ok-code.ensures.verdict)

pub returns-clause-room : goal.returns-clause-room
returns-clause-room c =
    room-at c.args.zones.now c.check_at.new.zones c.args.links.now c.args.update.now c.in-Ok.apex.now c.in-Some.index c.in_ok-under.under c.in-Accept.plan c.in-Some.ensures c.in_ok-under.ensures
    (subst (JudgesAt c.args.zones.now c.in-Some.index c.in_ok-under.under c.args.update.now) c.in-Accept.is c.in_ok-code.ensures.verdict) c.in_ok-code.ensures.states
    (λ zone at. subst (HasRoom zone.nodes) c.in-Accept.is (c.in_ok-code.ensures.room zone at))
