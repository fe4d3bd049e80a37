use Rattle.std.proofs.Common.{◌<◌, ◌≡◌, ℕ, refl, sym, subst, ◌∙◌, arith}
use Rattle.hubloops.specs.Loops.{observed}
use Rattle.hubloops.specs.Gates.{GoesOn}
use Rattle.hubloops.proofs.Leading.{goes_on_by}
use Rattle.hubloops.proofs.Ticks.{done_at_once, turns_at_once, turns_at_tick, starved_at_pass, passed_on}
use Rattle.hubloops.proofs.ticker.tick_on.Goals as goal

pub returns-then-done : goal.returns-then-done
returns-then-done g c = done_at_once (observed (g.G.Gate.state c.args.gate.now) (g.T.Clock.moments c.args.clock.now) (g.T.Clock.calls c.args.clock.now)) (observed (g.G.Gate.state c.done.new.self) (g.T.Clock.moments c.args.clock.now) (g.T.Clock.calls c.args.clock.now)) c.args.turns c.done.result c.done.ensures.same refl refl c.done.ensures.answer c.if-done.true

pub returns-then-turns-eq0 : goal.returns-then-turns-eq0
returns-then-turns-eq0 g c =
    let on : GoesOn (g.G.Gate.state c.done.new.self) = goes_on_by (g.G.Gate.state c.args.gate.now) (g.G.Gate.state c.done.new.self) c.done.result c.done.ensures.same c.done.ensures.answer c.if-done.false in
    turns_at_once (observed (g.G.Gate.state c.args.gate.now) (g.T.Clock.moments c.args.clock.now) (g.T.Clock.calls c.args.clock.now)) (observed (g.G.Gate.state c.done.new.self) (g.T.Clock.moments c.args.clock.now) (g.T.Clock.calls c.args.clock.now)) c.args.turns c.done.ensures.same refl refl c.if-turns-eq0.true on

pub returns-then-turns-eq1 : goal.returns-then-turns-eq1
returns-then-turns-eq1 g c =
    let on : GoesOn (g.G.Gate.state c.done.new.self) = goes_on_by (g.G.Gate.state c.args.gate.now) (g.G.Gate.state c.done.new.self) c.done.result c.done.ensures.same c.done.ensures.answer c.if-done.false in
    turns_at_tick (observed (g.G.Gate.state c.args.gate.now) (g.T.Clock.moments c.args.clock.now) (g.T.Clock.calls c.args.clock.now)) (observed (g.G.Gate.state c.done.new.self) (g.T.Clock.moments c.tick.new.self) (g.T.Clock.calls c.tick.new.self)) c.tick.result c.args.turns c.done.ensures.same c.tick.ensures.moments c.tick.ensures.counted c.if-turns-eq1.true on

pub returns-in-Ok : goal.returns-in-Ok
returns-in-Ok g c =
    let some : 1 < c.args.turns = omega (arith, c.if-turns-eq0.false, c.if-turns-eq1.false) in
    let on : GoesOn (g.G.Gate.state c.done.new.self) = goes_on_by (g.G.Gate.state c.args.gate.now) (g.G.Gate.state c.done.new.self) c.done.result c.done.ensures.same c.done.ensures.answer c.if-done.false in
    passed_on (observed (g.G.Gate.state c.args.gate.now) (g.T.Clock.moments c.args.clock.now) (g.T.Clock.calls c.args.clock.now)) (observed (g.G.Gate.state c.moment.new.self) (g.T.Clock.moments c.tick.new.self) (g.T.Clock.calls c.tick.new.self)) (g.G.Gate.state c.done.new.self) c.tick.result c.min-moment.result c.args.turns c.done.ensures.same c.tick.ensures.moments c.tick.ensures.counted c.min-moment.ensures some c.in-Ok.ensures.call on

pub returns-in-Err-NoMemory : goal.returns-in-Err-NoMemory
returns-in-Err-NoMemory g c =
    let some : 1 < c.args.turns = omega (arith, c.if-turns-eq0.false, c.if-turns-eq1.false) in
    let on : GoesOn (g.G.Gate.state c.done.new.self) = goes_on_by (g.G.Gate.state c.args.gate.now) (g.G.Gate.state c.done.new.self) c.done.result c.done.ensures.same c.done.ensures.answer c.if-done.false in
    starved_at_pass (observed (g.G.Gate.state c.args.gate.now) (g.T.Clock.moments c.args.clock.now) (g.T.Clock.calls c.args.clock.now)) (observed (g.G.Gate.state c.moment.new.self) (g.T.Clock.moments c.tick.new.self) (g.T.Clock.calls c.tick.new.self)) (g.G.Gate.state c.done.new.self) c.tick.result c.min-moment.result c.args.turns c.in-Err-NoMemory.field-0 c.done.ensures.same c.tick.ensures.moments c.tick.ensures.counted c.min-moment.ensures some c.in-Err-NoMemory.ensures.call on
