use Rattle.std.proofs.Common.{arith, ◌<◌, ◌≡◌}
use Rattle.hubloops.proofs.Leading.{goes_on_by, idle_after_none}
use Rattle.hubloops.proofs.LineReads.{ended_at_once, ended_at_turns, ended_after_none, offered_none}
use Rattle.hubloops.proofs.reader.offer.Goals as goal

pub returns-then-done : goal.returns-then-done
returns-then-done g c = record { run = ended_at_once c.args.session (g.G.Gate.state c.args.gate.now) (g.G.Gate.state c.done.new.self) c.args.piece.now c.args.turns c.done.result c.done.ensures.same c.done.ensures.answer c.if-done.true c.requires.goes_on }

pub returns-then-turns-eq0 : goal.returns-then-turns-eq0
returns-then-turns-eq0 g c = record { run = ended_at_turns c.args.session (g.G.Gate.state c.args.gate.now) (g.G.Gate.state c.done.new.self) c.args.piece.now c.args.turns c.done.ensures.same c.if-turns-eq0.true (goes_on_by (g.G.Gate.state c.args.gate.now) (g.G.Gate.state c.done.new.self) c.done.result c.done.ensures.same c.done.ensures.answer c.if-done.false) }

pub returns-then-done-2 : goal.returns-then-done-2
returns-then-done-2 g c =
    let more : 0 < c.args.turns = omega (arith, c.if-turns-eq0.false) in
    let none : c.take-count.result ≡ 0 = omega (arith, c.if-count-gt0.false) in
    record { run = ended_after_none c.args.session (g.G.Gate.state c.args.gate.now) (g.G.Gate.state c.done.new.self) (g.G.Gate.state c.take-count.new.self) (g.G.Gate.state c.done-2.new.self) c.args.piece.now c.args.turns c.take-count.result c.done-2.result c.requires.some more none c.done.ensures.same c.take-count.ensures.call c.done-2.ensures.same c.done-2.ensures.answer c.if-done-2.true c.requires.goes_on }

pub pause-requires : goal.pause-requires
pause-requires g c =
    let none : c.take-count.result ≡ 0 = omega (arith, c.if-count-gt0.false) in
    idle_after_none (g.G.Gate.state c.take-count.new.self) (g.G.Gate.state c.done-2.new.self) c.take-count.result none c.done-2.ensures.same c.take-count.ensures.idle

pub returns : goal.returns
returns g c =
    let more : 0 < c.args.turns = omega (arith, c.if-turns-eq0.false) in
    let none : c.take-count.result ≡ 0 = omega (arith, c.if-count-gt0.false) in
    record { run = offered_none c.args.session (g.G.Gate.state c.args.gate.now) (g.G.Gate.state c.done.new.self) (g.G.Gate.state c.take-count.new.self) (g.G.Gate.state c.done-2.new.self) (g.G.Gate.state c.pause.new.self) c.args.piece.now c.args.turns c.take-count.result none more c.done.ensures.same c.take-count.ensures.call c.done-2.ensures.same c.pause.ensures }
