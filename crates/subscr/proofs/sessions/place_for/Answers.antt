use Rattle.subscr.proofs.Counts.{place-none, place-some}
use Rattle.subscr.proofs.sessions.place_for.Goals as goal

pub returns-in-Some : goal.returns-in-Some
returns-in-Some c = place-some c.args.session c.args.numbers.now c.in-Some.place c.in-Some.ensures

pub returns-in-None : goal.returns-in-None
returns-in-None c = place-none c.args.session c.args.numbers.now c.in-None.ensures
