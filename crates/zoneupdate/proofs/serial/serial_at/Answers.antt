use Rattle.std.proofs.Common.{◌∙◌, sym, ap}
use Rattle.zoneupdate.specs.Zones.{serial_of}
use Rattle.zoneupdate.proofs.OneName.{serial_shown, serial-at_name}
use Rattle.zoneupdate.proofs.serial.serial_at.Goals as goal

pub returns-in-Some : goal.returns-in-Some
returns-in-Some c = c.serial_of.ensures ∙ ap serial_of c.as_slice.ensures ∙ ap serial_shown (sym c.in-Some.ensures) ∙ serial-at_name c.args.rows.now.rows c.at.result.now c.args.name.now c.at.ensures

pub returns-in-None : goal.returns-in-None
returns-in-None c = ap serial_shown (sym c.in-None.ensures) ∙ serial-at_name c.args.rows.now.rows c.at.result.now c.args.name.now c.at.ensures
