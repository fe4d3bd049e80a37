use Rattle.scripts.proofs.lines.LineByLine.{holds}
use Rattle.configurations.specs.Configurations.{serving_line}
use Rattle.configurations.specs.Kept.{serving_drafted}
use Rattle.configurations.proofs.server_config.ServeDraftTakeLines.take.Goals as goal

pub returns : goal.returns
returns c = holds serving_line (serving_drafted c.args.self.now) c.args.text.now (serving_drafted c.take_text.new.self) c.take_text.result c.take_text.ensures
