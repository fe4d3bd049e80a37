-- What an entry makes of the table, and how it is undone.
use Rattle.std.proofs.Common.{ℕ, ◌+◌, List, length, refl, sym, ap, subst, ◌∙◌}
use Rattle.rrset.specs.RecordSet.{with_changes}
use Rattle.rrset.specs.declared.record.Changed.{Changed}
use Rattle.nametable.specs.Nodes.{HaveRisingKeys}
use Rattle.recordindex.specs.Owners.{HasRoomForChanges}
use Rattle.zoneupdate.proofs.Plans.{HaveLowerKeys}
use Rattle.history.specs.Kept.{PointsKept, state_now}
use Rattle.history.specs.States.{records, entry_size}
use Rattle.pushsession.specs.Kept.{KeptSession, keeping, taken_back}
use Rattle.livesessions.specs.Behind.{ended_from}
use Rattle.livesessions.specs.NumberedSessions.{Numbered, all_sessions, WaitBefore}
use Rattle.pushserver.specs.Hubs.{entry_changes}
use Rattle.pushserver.specs.HubState.{kept_of, seen_of}
use Rattle.subscr.specs.Watching.{watching_of}
use Rattle.pushsession.specs.Sessions.{noted}
use Rattle.push_base.specs.Counted.{CountsUpTo}
use Rattle.livesessions.specs.Watched.{Watches, noting_steps}
use Rattle.livesessions.proofs.Watched.{watched-all}
use Rattle.pushserver.proofs.Stepping.{within-reserved, within-noted, within-made}
use Rattle.pushserver.proofs.EntrySteps.{entry-lower, entry-rising, entry-rows, on_is_err, on_not_err}
use Rattle.pushserver.proofs.ForgottenEntries.{enters, size-fits, not-last, keep-since, keep-within, keep-room, forgets-entered}
use Rattle.livesessions.proofs.NotedSessions.{all_back-noted, all_back-kept}
use Rattle.pushserver.proofs.hub_state.HubState.enter.Goals as goal

pub floor-floor-requires : goal.floor-floor-requires
floor-floor-requires g c = size-fits c.size.result (entry_size c.args.entry) c.size.ensures c.requires.fits

pub append-requires-clause-last : goal.append-requires-clause-last
append-requires-clause-last g c = not-last (kept_of c.args.self.now) c.requires.room

pub append-requires-clause-since : goal.append-requires-clause-since
append-requires-clause-since g c =
    keep-since c.args.self.now c.args.entry c.floor-floor.result c.needed-keep.result
    (enters c.args.self.now c.args.entry c.size.result c.point-point.result c.floor-floor.result c.needed-keep.result c.size.ensures c.requires.fits c.point-point.ensures c.floor-floor.ensures.from c.floor-floor.ensures.within c.floor-floor.ensures.least c.needed-keep.ensures)

pub append-requires-clause-within : goal.append-requires-clause-within
append-requires-clause-within g c =
    keep-within c.args.self.now c.args.entry c.floor-floor.result c.needed-keep.result
    (enters c.args.self.now c.args.entry c.size.result c.point-point.result c.floor-floor.result c.needed-keep.result c.size.ensures c.requires.fits c.point-point.ensures c.floor-floor.ensures.from c.floor-floor.ensures.within c.floor-floor.ensures.least c.needed-keep.ensures)

pub append-requires-clause-room : goal.append-requires-clause-room
append-requires-clause-room g c =
    keep-room c.args.self.now c.args.entry c.floor-floor.result c.needed-keep.result
    (enters c.args.self.now c.args.entry c.size.result c.point-point.result c.floor-floor.result c.needed-keep.result c.size.ensures c.requires.fits c.point-point.ensures c.floor-floor.ensures.from c.floor-floor.ensures.within c.floor-floor.ensures.least c.needed-keep.ensures)

pub returns-then-is_err-clause-err : goal.returns-then-is_err-clause-err
returns-then-is_err-clause-err g c =
    let past = ap (λ (p : PointsKept). p.past) (on_is_err c.append.result c.is_err.result c.is_err.ensures.value c.if-is_err.true c.append.ensures.none) in
    let sessions =
    c.take_back.ensures ∙ ap (all_sessions (taken_back c.point-point.result)) c.in_ok-note.ensures.ok
    ∙ all_back-noted c.as_slice-2.result.now c.point-point.result c.args.self.now.sessions
    ∙ all_back-kept c.point-point.result c.args.self.now.sessions (subst (λ (n : ℕ). WaitBefore n c.args.self.now.sessions) (sym c.point-point.ensures) c.requires.sound.waiting) in
    λ i. record { start = (past i).start; timers = c.args.self.now.timers; history = (past i).history; seen = seen_of (past i); sessions = sessions i; numbers_given = c.args.self.now.numbers_given }

pub returns-clause-ok : goal.returns-clause-ok
returns-clause-ok g c =
    let e = enters c.args.self.now c.args.entry c.size.result c.point-point.result c.floor-floor.result c.needed-keep.result c.size.ensures c.requires.fits c.point-point.ensures c.floor-floor.ensures.from c.floor-floor.ensures.within c.floor-floor.ensures.least c.needed-keep.ensures in
    forgets-entered c.args.self.now c.args.entry c.floor-floor.result c.needed-keep.result e c.append.new.self.past c.end_behind.new.self c.requires.sound
    (on_not_err c.append.result c.is_err.result c.is_err.ensures.value c.if-is_err.false c.append.ensures.appended)
    (on_not_err c.append.result c.is_err.result c.is_err.ensures.value c.if-is_err.false c.append.ensures.state)
    (on_not_err c.append.result c.is_err.result c.is_err.ensures.value c.if-is_err.false c.append.ensures.point)
    (c.end_behind.ensures.ended ∙ ap (all_sessions (ended_from c.floor-floor.result)) (c.in_ok-note.ensures.ok
    ∙ (λ i. all_sessions (noted keeping ((c.as_slice-2.ensures ∙ c.requires.changes) i) (c.point-point.ensures i)) c.args.self.now.sessions)))

pub reserve_for-requires-clause-lower : goal.reserve_for-requires-clause-lower
reserve_for-requires-clause-lower g c = subst HaveLowerKeys (sym (c.as_slice.ensures ∙ c.requires.changes)) (entry-lower (state_now c.args.self.now.points.past) c.args.entry c.requires.sound.home)

pub reserve_for-requires-clause-order : goal.reserve_for-requires-clause-order
reserve_for-requires-clause-order g c = subst HaveRisingKeys (sym (c.as_slice.ensures ∙ c.requires.changes)) (entry-rising (state_now c.args.self.now.points.past) c.args.entry c.requires.sound.home)

pub make_changes-requires-clause-room : goal.make_changes-requires-clause-room
make_changes-requires-clause-room g c =
    subst (λ (changed : List Changed). HasRoomForChanges changed c.reserve_for.new.self) (c.as_slice.ensures ∙ sym c.into_vec.ensures) c.in_ok-reserve_for.ensures.room

pub make_changes-requires-clause-lower : goal.make_changes-requires-clause-lower
make_changes-requires-clause-lower g c = subst HaveLowerKeys (sym (c.into_vec.ensures ∙ c.requires.changes)) (entry-lower (state_now c.args.self.now.points.past) c.args.entry c.requires.sound.home)

pub returns-clause-index : goal.returns-clause-index
returns-clause-index g c =
    let state = on_not_err c.append.result c.is_err.result c.is_err.ensures.value c.if-is_err.false c.append.ensures.state in
    c.make_changes.ensures.rows ∙ ap (λ cs. with_changes cs c.reserve_for.new.self.rows) (c.into_vec.ensures ∙ c.requires.changes)
    ∙ ap (with_changes (entry_changes c.args.entry (kept_of c.args.self.now))) (c.in_ok-reserve_for.ensures.rows ∙ c.requires.sound.index)
    ∙ entry-rows (state_now c.args.self.now.points.past) c.args.entry c.requires.sound.home
    ∙ ap records (sym state)

pub returns-in_err-reserve_for-clause-steps : goal.returns-in_err-reserve_for-clause-steps
returns-in_err-reserve_for-clause-steps g c =
    let same = c.as_slice.ensures ∙ c.requires.changes in
    within-reserved (kept_of c.args.self.now) (entry_changes c.args.entry (kept_of c.args.self.now)) c.args.steps.now c.reserve_for.new.steps (c.reserve_for.ensures.steps ∙ ap (λ (cs : List Changed). c.args.steps.now + length cs) same)

pub returns-in_err-note-clause-watched : goal.returns-in_err-note-clause-watched
returns-in_err-note-clause-watched g c = subst (λ (xs : Numbered KeptSession). Watches (watching_of c.args.self.now.watchers) xs) (sym c.in_err-note.ensures.err) c.requires.sound.watched

pub returns-then-is_err-clause-watched : goal.returns-then-is_err-clause-watched
returns-then-is_err-clause-watched g c =
    subst (λ (xs : Numbered KeptSession). Watches (watching_of c.args.self.now.watchers) xs) (sym (c.take_back.ensures ∙ ap (all_sessions (taken_back c.point-point.result)) c.in_ok-note.ensures.ok))
    (watched-all (taken_back c.point-point.result) (λ s. refl) (watching_of c.args.self.now.watchers) (all_sessions (noted keeping c.as_slice-2.result.now c.point-point.result) c.args.self.now.sessions)
    (watched-all (noted keeping c.as_slice-2.result.now c.point-point.result) (λ s. refl) (watching_of c.args.self.now.watchers) c.args.self.now.sessions c.requires.sound.watched))

pub returns-clause-watched : goal.returns-clause-watched
returns-clause-watched g c =
    c.end_behind.ensures.watched (subst (λ (xs : Numbered KeptSession). Watches (watching_of c.args.self.now.watchers) xs) (sym c.in_ok-note.ensures.ok)
    (watched-all (noted keeping c.as_slice-2.result.now c.point-point.result) (λ s. refl) (watching_of c.args.self.now.watchers) c.args.self.now.sessions c.requires.sound.watched))

pub returns-in_err-note-clause-steps : goal.returns-in_err-note-clause-steps
returns-in_err-note-clause-steps g c =
    within-noted (kept_of c.args.self.now) (entry_changes c.args.entry (kept_of c.args.self.now)) c.args.steps.now c.reserve_for.new.steps c.note.new.steps (c.in_ok-reserve_for.ensures.steps ∙ ap (λ (cs : List Changed). c.args.steps.now + length cs) (c.as_slice.ensures ∙ c.requires.changes))
    (subst (λ (cs : List Changed). CountsUpTo (noting_steps cs c.args.self.now.sessions) c.reserve_for.new.steps c.note.new.steps) (c.as_slice-2.ensures ∙ c.requires.changes) c.in_err-note.ensures.steps)

pub returns-then-is_err-clause-steps : goal.returns-then-is_err-clause-steps
returns-then-is_err-clause-steps g c =
    within-noted (kept_of c.args.self.now) (entry_changes c.args.entry (kept_of c.args.self.now)) c.args.steps.now c.reserve_for.new.steps c.note.new.steps (c.in_ok-reserve_for.ensures.steps ∙ ap (λ (cs : List Changed). c.args.steps.now + length cs) (c.as_slice.ensures ∙ c.requires.changes))
    (subst (λ (cs : List Changed). CountsUpTo (noting_steps cs c.args.self.now.sessions) c.reserve_for.new.steps c.note.new.steps) (c.as_slice-2.ensures ∙ c.requires.changes) c.in_ok-note.ensures.steps)

pub returns-clause-steps : goal.returns-clause-steps
returns-clause-steps g c =
    within-made (kept_of c.args.self.now) (entry_changes c.args.entry (kept_of c.args.self.now)) c.args.steps.now c.reserve_for.new.steps c.note.new.steps c.make_changes.new.steps (c.in_ok-reserve_for.ensures.steps ∙ ap (λ (cs : List Changed). c.args.steps.now + length cs) (c.as_slice.ensures ∙ c.requires.changes))
    (subst (λ (cs : List Changed). CountsUpTo (noting_steps cs c.args.self.now.sessions) c.reserve_for.new.steps c.note.new.steps) (c.as_slice-2.ensures ∙ c.requires.changes) c.in_ok-note.ensures.steps)
    (c.make_changes.ensures.steps ∙ ap (λ (cs : List Changed). c.note.new.steps + length cs) (c.into_vec.ensures ∙ c.requires.changes))
