-- One session after the other is changed, and watches so.
use Rattle.std.proofs.Common.{ℕ, ◌<◌, ◌≤◌, get_or, sym, ap, subst}
use Rattle.subscr.specs.Watching.{watching_of}
use Rattle.pushsession.specs.Sessions.{timed}
use Rattle.pushsession.specs.Kept.{keeping}
use Rattle.livesessions.proofs.NumberedSessions.{turn-entry, ends}
use Rattle.livesessions.proofs.Watched.{apart-entry, watched-entry}
use Rattle.livesessions.proofs.numbered_sessions.time_all.Goals as goal

pub numbered-preserved : goal.numbered-preserved
numbered-preserved c =
    let within = subst (λ (n : ℕ). c.numbered.place < n) (sym c.numbered.auto.numbered) c.numbered-test.true in
    let here = get_or c.numbered.numbered c.numbered.place c.index-numbered-place.result in
    let is = ap (get_or c.numbered.numbered c.numbered.place) c.index-numbered-place.is in
    let new = timed keeping c.args.at here.1 in (
      turn-entry (timed keeping c.args.at) c.args.numbered.now c.numbered.numbered c.numbered.place c.index-numbered-place.result c.time_one.new.entry within c.index-numbered-place.is c.time_one.ensures.timed c.numbered.invariant.0,
      (λ apart. apart-entry c.numbered.numbered c.numbered.place here c.time_one.new.entry new (c.numbered.invariant.1 apart) within is c.time_one.ensures.timed),
      (λ apart w. watched-entry c.numbered.numbered c.numbered.place here c.time_one.new.entry new (c.numbered.invariant.1 apart) within is c.time_one.ensures.timed (watching_of c.numbered.watchers) (watching_of c.time_one.new.watchers) c.time_one.ensures.watched (c.numbered.invariant.2 apart w)),
    )

pub returns-clause-timed : goal.returns-clause-timed
returns-clause-timed c = ends (timed keeping c.args.at) c.args.numbered.now c.numbered.numbered c.numbered.place (subst (λ (n : ℕ). n ≤ c.numbered.place) (sym c.numbered.auto.numbered) c.numbered-test.false) c.numbered.invariant.0

pub returns-clause-watched : goal.returns-clause-watched
returns-clause-watched c = c.numbered.invariant.2
