use Rattle.scripts.proofs.lines.LineByLine.{holds}
use Rattle.configurations.specs.Configurations.{subscribing_line}
use Rattle.configurations.specs.Kept.{subscribing_drafted}
use Rattle.configurations.proofs.subscriber_config.SubscribeDraftTakeLines.take.Goals as goal

pub returns : goal.returns
returns c = holds subscribing_line (subscribing_drafted c.args.self.now) c.args.text.now (subscribing_drafted c.take_text.new.self) c.take_text.result c.take_text.ensures
