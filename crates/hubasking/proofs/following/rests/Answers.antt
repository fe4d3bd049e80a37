use Rattle.std.proofs.Common.{◌∙◌}
use Rattle.hubasking.proofs.Places.{rests-of}
use Rattle.hubasking.proofs.following.rests.Goals as goal

pub returns : goal.returns
returns c = c.rests_at.ensures ∙ rests-of c.args.hub.now c.args.reasons.now c.requires.follows c.args.place c.args.number c.requires.there
