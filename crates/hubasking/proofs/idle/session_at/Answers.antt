use Rattle.std.proofs.Common.{Bool, Some, ap, ◌∙◌}
use Rattle.hubasking.proofs.Places.{idle-none, idle-there}
use Rattle.hubasking.proofs.idle.session_at.Goals as goal

pub returns-in-Some : goal.returns-in-Some
returns-in-Some c =
    ap (λ (b : Bool). Some (c.in-Some.number, b)) c.is_idle.ensures
    ∙ idle-there c.args.hub.now c.requires.plain c.requires.stands c.args.place (c.in-Some.number, c.in-Some.session.now) c.in-Some.ensures

pub returns-in-None : goal.returns-in-None
returns-in-None c = idle-none c.args.hub.now c.args.place c.in-None.ensures
