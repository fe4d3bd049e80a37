-- The homes are the state after the entry, too.
use Rattle.std.proofs.Common.{ap, ◌∙◌}
use Rattle.history.specs.Kept.{PointsKept, state_now}
use Rattle.history.specs.States.{after}
use Rattle.history.proofs.Pasts.{state-appended}
use Rattle.history.proofs.Present.{appended-present, held-led}
use Rattle.history.proofs.points.Points.append.Goals as goal

pub invariant_of-self-2 : goal.invariant_of-self-2
invariant_of-self-2 c =
    let lead = held-led c.self.inside.past c.self.inside.homes c.self.inside.moment c.self.inside.held c.args.entry c.args.self.now c.self.view_is c.self.invariant c.requires.held in
    appended-present c.self.inside.past c.append.new.self c.args.keep c.self.inside.homes c.apply_held-self-inside.new.homes c.self.inside.moment c.apply_held-self-inside.result c.self.inside.held c.take.result c.take.new.self c.args.entry lead
    c.self.invariant c.in_ok-append.ensures.appended c.take.ensures.value c.take.ensures.after c.apply_held-self-inside.ensures.state

pub returns-clause-state : goal.returns-clause-state
returns-clause-state c =
    state-appended c.args.keep c.self.inside.past c.args.entry c.append.new.self c.in_ok-append.ensures.appended ∙ ap (λ (p : PointsKept). after (state_now p.past) c.args.entry) c.self.view_is
