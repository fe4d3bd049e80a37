-- It watches nothing any more, if it is there.
use Rattle.subscr.specs.Watching.{watching_of}
use Rattle.livesessions.proofs.Watched.{watched-gone, watched-none}
use Rattle.livesessions.proofs.numbered_sessions.Sessions.unwatch.Goals as goal

pub returns-in-Some : goal.returns-in-Some
returns-in-Some c = watched-gone c.args.number c.in-Some.session.now (watching_of c.args.watchers.now) (watching_of c.unwatch.new.watchers) c.args.self.now c.in-Some.ensures c.unwatch.ensures

pub returns-in-None : goal.returns-in-None
returns-in-None c = watched-none c.args.number (watching_of c.args.watchers.now) c.args.self.now c.in-None.ensures
