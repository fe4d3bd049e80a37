use Rattle.std.proofs.Common.{sym, ◌∙◌}
use Rattle.scripts.specs.KeptLines.{said}
use Rattle.scripts.specs.WholeLines.{one}
use Rattle.scripts.specs.declared.line.Line.TheVariants as lines
use Rattle.scripts.proofs.wholes.Growing.{takes_halves, fits_whole, is_far_line, is_shared_line, is_near_line}
use Rattle.scripts.proofs.whole_script.WholeDraft.take_one.Goals as goal

pub returns-then-names_far : goal.returns-then-names_far
returns-then-names_far c =
    let draft = c.args.self.now in
    let later = c.take_halves.new.self in
    let line = c.args.line in
    let turn = c.turn_of-turn.result in
    let is = is_far_line draft line turn (sym c.names_far.ensures ∙ c.if-names_far.true) c.turn_of-turn.ensures in
    fits_whole draft later (one (said line)) c.take_halves.result (λ may. takes_halves draft later (one (said line)) lines.Silent line turn c.take_halves.result is may c.take_halves.ensures)

pub returns-in-Some : goal.returns-in-Some
returns-in-Some c =
    let draft = c.args.self.now in
    let later = c.take_halves-in-Some.new.self in
    let line = c.args.line in
    let turn = c.turn_of-turn-in-Some.result in
    let is = is_shared_line draft line turn c.in-Some.same c.in-Some.ensures.both.0 (sym c.names_far.ensures ∙ c.if-names_far.false) c.in-Some.ensures.both.1 c.turn_of-turn-in-Some.ensures in
    fits_whole draft later (one (said line)) c.take_halves-in-Some.result (λ may. takes_halves draft later (one (said line)) line c.in-Some.same turn c.take_halves-in-Some.result is may c.take_halves-in-Some.ensures)

pub returns-in-None : goal.returns-in-None
returns-in-None c =
    let draft = c.args.self.now in
    let later = c.take_halves-in-None.new.self in
    let line = c.args.line in
    let turn = c.turn_of-turn-in-None.result in
    let is = is_near_line draft line turn (sym c.names_far.ensures ∙ c.if-names_far.false) c.in-None.ensures.one c.turn_of-turn-in-None.ensures in
    fits_whole draft later (one (said line)) c.take_halves-in-None.result (λ may. takes_halves draft later (one (said line)) line lines.Silent turn c.take_halves-in-None.result is may c.take_halves-in-None.ensures)
