use Rattle.std.proofs.Common.{false, Some, None, refl, sym, ◌∙◌, ap, string_bytes}
use Rattle.scripts.specs.KeptLines.{said}
use Rattle.scripts.specs.KeptWhole.{carry_said, far_zone_line, whole_said}
use Rattle.scripts.specs.WholeLines.{one, far_zone, far_client}
use Rattle.scripts.specs.declared.line.Line.TheVariants as lines
use Rattle.scripts.specs.declared.whole_script.Turn.TheVariants as turns
use Rattle.scripts.proofs.wholes.Growing.{refused, takes_as, takes_fit, takes_halves}
use Rattle.scripts.proofs.whole_script.WholeDraft.take_whole.Goals as goal

pub returns-then-not-may_follow : goal.returns-then-not-may_follow
returns-then-not-may_follow c so_far held = refused c.args.self.now (whole_said c.args.line) so_far held c.args.self.now (sym c.may_follow.ensures ∙ c.if-not-may_follow.true)

pub returns-in-One : goal.returns-in-One
returns-in-One c =
    let draft = c.args.self.now in
    let later = c.take_one.new.self in
    let line = one (said c.in-One.line) in
    takes_as draft later (whole_said c.args.line) line c.take_one.result (ap whole_said c.in-One.is) (sym c.may_follow.ensures ∙ c.if-not-may_follow.false) (λ may. takes_fit draft later line c.take_one.result may c.take_one.ensures)

pub returns-in-FarZone : goal.returns-in-FarZone
returns-in-FarZone c =
    let draft = c.args.self.now in
    let later = c.take_far_zone.new.self in
    let line = far_zone c.in-FarZone.apex c.in-FarZone.serial in
    takes_as draft later (whole_said c.args.line) line c.take_far_zone.result (ap whole_said c.in-FarZone.is) (sym c.may_follow.ensures ∙ c.if-not-may_follow.false)
    (λ may. takes_halves draft later line lines.Silent (far_zone_line c.in-FarZone.apex c.in-FarZone.serial) None c.take_far_zone.result (refl, refl, refl) may c.take_far_zone.ensures)

pub returns-in-FarClient : goal.returns-in-FarClient
returns-in-FarClient c =
    let draft = c.args.self.now in
    let later = c.take_halves.new.self in
    let line = far_client (string_bytes c.in-FarClient.word) in
    takes_as draft later (whole_said c.args.line) line c.take_halves.result (ap whole_said c.in-FarClient.is) (sym c.may_follow.ensures ∙ c.if-not-may_follow.false)
    (λ may. takes_halves draft later line lines.Silent (lines.Joining c.in-FarClient.word false) (Some turns.Far) c.take_halves.result (refl, refl, refl) may c.take_halves.ensures)

pub returns-in-Carry : goal.returns-in-Carry
returns-in-Carry c =
    let draft = c.args.self.now in
    let later = c.take_halves-in-Carry.new.self in
    let line = carry_said c.in-Carry.line in
    takes_as draft later (whole_said c.args.line) line c.take_halves-in-Carry.result (ap whole_said c.in-Carry.is) (sym c.may_follow.ensures ∙ c.if-not-may_follow.false)
    (λ may. takes_halves draft later line _ lines.Silent (Some turns.Carry) c.take_halves-in-Carry.result (c.shown-line.ensures, refl, refl) may c.take_halves-in-Carry.ensures)
