-- One session after the other is changed, and watches so.
use Rattle.std.proofs.Common.{ℕ, ◌<◌, ◌≤◌, get_or, sym, ap, subst}
use Rattle.subscr.specs.Watching.{watching_of}
use Rattle.livesessions.specs.Behind.{ended_from}
use Rattle.livesessions.proofs.NumberedSessions.{turn-entry, ends}
use Rattle.livesessions.proofs.Watched.{apart-entry, watched-entry}
use Rattle.livesessions.proofs.behind.end_each.Goals as goal

pub sessions-preserved : goal.sessions-preserved
sessions-preserved c =
    let within = subst (λ (n : ℕ). c.sessions.place < n) (sym c.sessions.auto.numbered) c.sessions-test.true in
    let here = get_or c.sessions.numbered c.sessions.place c.index-numbered-place.result in
    let is = ap (get_or c.sessions.numbered c.sessions.place) c.index-numbered-place.is in
    let new = ended_from c.args.floor here.1 in (
      turn-entry (ended_from c.args.floor) c.args.numbered.now c.sessions.numbered c.sessions.place c.index-numbered-place.result c.end_one.new.entry within c.index-numbered-place.is c.end_one.ensures.ended c.sessions.invariant.0,
      (λ apart. apart-entry c.sessions.numbered c.sessions.place here c.end_one.new.entry new (c.sessions.invariant.1 apart) within is c.end_one.ensures.ended),
      (λ apart w. watched-entry c.sessions.numbered c.sessions.place here c.end_one.new.entry new (c.sessions.invariant.1 apart) within is c.end_one.ensures.ended (watching_of c.sessions.watchers) (watching_of c.end_one.new.watchers) c.end_one.ensures.watched (c.sessions.invariant.2 apart w)),
    )

pub returns-clause-ended : goal.returns-clause-ended
returns-clause-ended c = ends (ended_from c.args.floor) c.args.numbered.now c.sessions.numbered c.sessions.place (subst (λ (n : ℕ). n ≤ c.sessions.place) (sym c.sessions.auto.numbered) c.sessions-test.false) c.sessions.invariant.0

pub returns-clause-watched : goal.returns-clause-watched
returns-clause-watched c = c.sessions.invariant.2
