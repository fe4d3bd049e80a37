use Rattle.std.proofs.Common.{sym, ◌∙◌}
use Rattle.std.specs.Prelude.{slice_get}
use Rattle.hubasking.proofs.Places.{number-there}
use Rattle.hubasking.proofs.following.clear_at.Goals as goal

pub rests-requires-clause-there : goal.rests-requires-clause-there
rests-requires-clause-there c = number-there (slice_get c.args.reasons.now.sessions c.args.place) c.in-Some.number c.in-Some.count (sym c.session.ensures ∙ c.in-Some.is)
