-- One session after the other is cleared where it asks nothing.
use Rattle.std.proofs.Common.{ℕ, ◌≤◌, sym, subst}
use Rattle.linkreasons.specs.AllReasons.{askings_of}
use Rattle.pushserver.specs.Hubs.{state_now}
use Rattle.hubasking.proofs.Clearing.{all-found, bounds-length, clear-begins, clear-ends, clear-nobody, clear-turn}
use Rattle.hubasking.proofs.Leading.{lead-itself}
use Rattle.hubasking.proofs.following.clear_rested.Goals as goal

pub returns-then-not-has_reasons-clause-sessions : goal.returns-then-not-has_reasons-clause-sessions
returns-then-not-has_reasons-clause-sessions c = clear-nobody c.args.hub.now (all-found c.args.hub.now c.requires.plain c.requires.stands) c.args.reasons.now c.requires (sym c.if-not-has_reasons.ensures)

pub returns-then-not-has_reasons-clause-leads : goal.returns-then-not-has_reasons-clause-leads
returns-then-not-has_reasons-clause-leads c = lead-itself 0 _ (state_now c.args.hub.now).links (askings_of c.args.reasons.now) (bounds-length (state_now c.args.hub.now).links c.args.reasons.now.links c.requires.links)

pub sessions-init : goal.sessions-init
sessions-init c = clear-begins c.args.hub.now c.args.reasons.now c.requires

pub sessions-preserved : goal.sessions-preserved
sessions-preserved c =
    clear-turn c.reasons_are_followed.ensures.fewer c.args.hub.now (all-found c.args.hub.now c.requires.plain c.requires.stands) c.args.reasons.now c.sessions.reasons c.clear_at.new.reasons c.sessions.place c.sessions.invariant c.clear_at.ensures

pub clear_at-requires : goal.clear_at-requires
clear_at-requires c = record {
  plain = c.requires.plain;
  stands = c.requires.stands;
  timely = c.requires.timely;
  sessions = c.sessions.invariant.sessions;
  links = c.sessions.invariant.bounds;
}

pub returns-clause-sessions : goal.returns-clause-sessions
returns-clause-sessions c =
    clear-ends c.args.hub.now (all-found c.args.hub.now c.requires.plain c.requires.stands) c.args.reasons.now c.sessions.reasons c.sessions.place (subst (λ (n : ℕ). n ≤ c.sessions.place) c.len-place-end.ensures c.sessions-test.false) c.sessions.invariant

pub returns-clause-leads : goal.returns-clause-leads
returns-clause-leads c = c.sessions.invariant.leads

pub returns-clause-bounds : goal.returns-clause-bounds
returns-clause-bounds c = c.sessions.invariant.bounds

pub returns-clause-doubts : goal.returns-clause-doubts
returns-clause-doubts c = c.sessions.invariant.doubts
