use Rattle.std.proofs.Common.{sym, subst}
use Rattle.scripts.specs.Lines.{words_in}
use Rattle.scripts.specs.TextLines.{Takes}
use Rattle.configurations.specs.Configurations.{subscribing_behind}
use Rattle.configurations.specs.Kept.{subscribing_drafted}
use Rattle.configurations.specs.declared.subscriber_config.SubscribingKind.{SubscribingKind}
use Rattle.configurations.proofs.TakenLines.{takes_with}
use Rattle.configurations.proofs.subscriber_config.SubscribeDraft.take_words.Goals as goal

pub returns-in-Messages : goal.returns-in-Messages
returns-in-Messages c =
    let draft = subscribing_drafted c.args.self.now in
    subst (λ (kind : SubscribingKind). Takes (subscribing_behind kind draft c.args.text.now (words_in c.args.rest.now)) (record draft { messages = c.take_number.new.said }) c.take_number.result) (sym c.in-Messages.is)
    (takes_with (λ n. record draft { messages = n }) _ _ c.take_number.result c.take_number.ensures)

pub returns-in-Turns : goal.returns-in-Turns
returns-in-Turns c =
    let draft = subscribing_drafted c.args.self.now in
    subst (λ (kind : SubscribingKind). Takes (subscribing_behind kind draft c.args.text.now (words_in c.args.rest.now)) (record draft { turns = c.take_number-in-Turns.new.said }) c.take_number-in-Turns.result) (sym c.in-Turns.is)
    (takes_with (λ n. record draft { turns = n }) _ _ c.take_number-in-Turns.result c.take_number-in-Turns.ensures)
