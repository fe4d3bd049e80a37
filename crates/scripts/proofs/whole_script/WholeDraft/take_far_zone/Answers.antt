use Rattle.std.proofs.Common.{IfOk, None, subst}
use Rattle.dnsname.specs.Names.{Labels}
use Rattle.scripts.specs.KeptWhole.{TakesHalves, far_zone_line, with_apex}
use Rattle.scripts.specs.declared.line.Line.TheVariants as lines
use Rattle.scripts.proofs.whole_script.WholeDraft.take_far_zone.Goals as goal

pub returns : goal.returns
returns c =
    let before = with_apex c.args.self.now c.args.apex in
    subst (λ (name : Labels). IfOk c.take_halves.result (λ taken. TakesHalves before lines.Silent (far_zone_line name c.args.serial) None c.take_halves.new.self taken)) c.in_ok-name.ensures c.take_halves.ensures
