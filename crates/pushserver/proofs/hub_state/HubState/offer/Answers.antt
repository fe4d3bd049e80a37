-- An entry becomes what the answer to its plan says, but at the last point.
use Rattle.std.proofs.Common.{sym, ap, subst, ◌∙◌}
use Rattle.pushserver.specs.Hubs.{entered_keeping}
use Rattle.pushserver.specs.HubState.{kept_of}
use Rattle.pushserver.specs.KeptHubs.{KeptHub, Forgets}
use Rattle.pushserver.specs.declared.entering.Offered.{Offered}
use Rattle.pushserver.specs.Offering.{offered, offered_changes}
use Rattle.pushserver.specs.Watched.{allowed}
use Rattle.pushserver.proofs.EntrySteps.{same_past}
use Rattle.pushserver.proofs.ForgottenEntries.{forgets-same}
use Rattle.pushserver.proofs.GiveSteps.{sound-planned}
use Rattle.livesessions.proofs.NotedSessions.{counts-nothing}
use Rattle.pushserver.proofs.Stepping.{offer-steps}
use Rattle.pushserver.proofs.Offering.{by_room, offered-refused, offered-idle, offered-room, plan-changes, plan-held}
use Rattle.pushserver.proofs.hub_state.HubState.offer.Goals as goal

pub returns-in-Refuse-clause-offered : goal.returns-in-Refuse-clause-offered
returns-in-Refuse-clause-offered g c = sym (ap (λ (r : Offered × KeptHub). r.0) (offered-refused (kept_of c.args.self.now) c.args.entry c.in-Refuse.code (sym c.in-Refuse.is ∙ c.in_ok-code.ensures.planned)))

pub returns-in-Refuse-clause-hub : goal.returns-in-Refuse-clause-hub
returns-in-Refuse-clause-hub g c =
    forgets-same (offered c.args.entry (kept_of c.args.self.now)).1 _
    (same_past c.args.self.now c.plan.new.self.past c.plan.ensures.past
    ∙ sym (ap (λ (r : Offered × KeptHub). r.1) (offered-refused (kept_of c.args.self.now) c.args.entry c.in-Refuse.code (sym c.in-Refuse.is ∙ c.in_ok-code.ensures.planned))))

pub returns-in-Idle-clause-offered : goal.returns-in-Idle-clause-offered
returns-in-Idle-clause-offered g c = sym (ap (λ (r : Offered × KeptHub). r.0) (offered-idle (kept_of c.args.self.now) c.args.entry (sym c.in-Idle.is ∙ c.in_ok-code.ensures.planned)))

pub returns-in-Idle-clause-hub : goal.returns-in-Idle-clause-hub
returns-in-Idle-clause-hub g c =
    forgets-same (offered c.args.entry (kept_of c.args.self.now)).1 _
    (same_past c.args.self.now c.plan.new.self.past c.plan.ensures.past
    ∙ sym (ap (λ (r : Offered × KeptHub). r.1) (offered-idle (kept_of c.args.self.now) c.args.entry (sym c.in-Idle.is ∙ c.in_ok-code.ensures.planned))))

pub returns-then-not-can_enter-clause-offered : goal.returns-then-not-can_enter-clause-offered
returns-then-not-can_enter-clause-offered g c =
    sym (ap (λ (r : Offered × KeptHub). r.0)
    (offered-room c.args.self.now c.plan.new.self.past c.plan.ensures.past c.args.entry c.in-Accept.changed (sym c.in-Accept.is ∙ c.in_ok-code.ensures.planned) c.can_enter.result c.can_enter.ensures
    ∙ ap (by_room (kept_of c.args.self.now) c.args.entry) c.if-not-can_enter.true))

pub returns-then-not-can_enter-clause-hub : goal.returns-then-not-can_enter-clause-hub
returns-then-not-can_enter-clause-hub g c =
    forgets-same (offered c.args.entry (kept_of c.args.self.now)).1 _
    (same_past c.args.self.now c.plan.new.self.past c.plan.ensures.past
    ∙ sym (ap (λ (r : Offered × KeptHub). r.1)
    (offered-room c.args.self.now c.plan.new.self.past c.plan.ensures.past c.args.entry c.in-Accept.changed (sym c.in-Accept.is ∙ c.in_ok-code.ensures.planned) c.can_enter.result c.can_enter.ensures
    ∙ ap (by_room (kept_of c.args.self.now) c.args.entry) c.if-not-can_enter.true)))

pub enter-requires-clause-sound : goal.enter-requires-clause-sound
enter-requires-clause-sound g c = sound-planned c.args.self.now c.plan.new.self c.plan.ensures.past c.requires.sound

pub enter-requires-clause-held : goal.enter-requires-clause-held
enter-requires-clause-held g c =
    plan-held c.args.self.now c.plan.new.self.past c.plan.ensures.past c.args.entry c.in-Accept.changed (sym c.in-Accept.is ∙ c.in_ok-code.ensures.planned) c.plan.new.self (λ i. c.plan.new.self.past) c.in_ok-code.ensures.held

pub enter-requires-clause-changes : goal.enter-requires-clause-changes
enter-requires-clause-changes g c =
    plan-changes c.args.self.now c.plan.new.self.past c.plan.ensures.past c.args.entry c.in-Accept.changed (sym c.in-Accept.is ∙ c.in_ok-code.ensures.planned)

pub returns-in_ok-enter-in-Accept-clause-offered : goal.returns-in_ok-enter-in-Accept-clause-offered
returns-in_ok-enter-in-Accept-clause-offered g c =
    sym (ap (λ (r : Offered × KeptHub). r.0)
    (offered-room c.args.self.now c.plan.new.self.past c.plan.ensures.past c.args.entry c.in-Accept.changed (sym c.in-Accept.is ∙ c.in_ok-code.ensures.planned) c.can_enter.result c.can_enter.ensures
    ∙ ap (by_room (kept_of c.args.self.now) c.args.entry) c.if-not-can_enter.false))

pub returns-in_ok-enter-in-Accept-clause-hub : goal.returns-in_ok-enter-in-Accept-clause-hub
returns-in_ok-enter-in-Accept-clause-hub g c =
    subst (λ (k : KeptHub). Forgets k (kept_of c.enter.new.self))
    (ap (entered_keeping c.args.entry) (same_past c.args.self.now c.plan.new.self.past c.plan.ensures.past)
    ∙ sym (ap (λ (r : Offered × KeptHub). r.1)
    (offered-room c.args.self.now c.plan.new.self.past c.plan.ensures.past c.args.entry c.in-Accept.changed (sym c.in-Accept.is ∙ c.in_ok-code.ensures.planned) c.can_enter.result c.can_enter.ensures
    ∙ ap (by_room (kept_of c.args.self.now) c.args.entry) c.if-not-can_enter.false)))
    c.in_ok-enter-in-Accept.ensures.ok

pub returns-in_err-code-clause-steps : goal.returns-in_err-code-clause-steps
returns-in_err-code-clause-steps g c = counts-nothing (allowed (kept_of c.args.self.now) (offered_changes c.args.entry (kept_of c.args.self.now))) c.args.steps.now

pub returns-in-Refuse-clause-steps : goal.returns-in-Refuse-clause-steps
returns-in-Refuse-clause-steps g c = counts-nothing (allowed (kept_of c.args.self.now) (offered_changes c.args.entry (kept_of c.args.self.now))) c.args.steps.now

pub returns-in-Idle-clause-steps : goal.returns-in-Idle-clause-steps
returns-in-Idle-clause-steps g c = counts-nothing (allowed (kept_of c.args.self.now) (offered_changes c.args.entry (kept_of c.args.self.now))) c.args.steps.now

pub returns-then-not-can_enter-clause-steps : goal.returns-then-not-can_enter-clause-steps
returns-then-not-can_enter-clause-steps g c = counts-nothing (allowed (kept_of c.args.self.now) (offered_changes c.args.entry (kept_of c.args.self.now))) c.args.steps.now

pub returns-in_err-enter-in-Accept-clause-steps : goal.returns-in_err-enter-in-Accept-clause-steps
returns-in_err-enter-in-Accept-clause-steps g c =
    offer-steps c.args.self.now c.plan.new.self.past c.plan.ensures.past c.args.entry c.in-Accept.changed (sym c.in-Accept.is ∙ c.in_ok-code.ensures.planned) c.args.steps.now c.enter.new.steps c.enter.ensures.steps

pub returns-in_ok-enter-in-Accept-clause-steps : goal.returns-in_ok-enter-in-Accept-clause-steps
returns-in_ok-enter-in-Accept-clause-steps g c =
    offer-steps c.args.self.now c.plan.new.self.past c.plan.ensures.past c.args.entry c.in-Accept.changed (sym c.in-Accept.is ∙ c.in_ok-code.ensures.planned) c.args.steps.now c.enter.new.steps c.enter.ensures.steps
