use Rattle.std.proofs.Common.{sym, subst}
use Rattle.scripts.specs.Lines.{words_in}
use Rattle.scripts.specs.TextLines.{Takes}
use Rattle.configurations.specs.Configurations.{serving_behind}
use Rattle.configurations.specs.Kept.{serving_drafted}
use Rattle.configurations.specs.declared.server_config.ServingKind.{ServingKind}
use Rattle.configurations.proofs.TakenLines.{takes_with}
use Rattle.configurations.proofs.server_config.ServeDraft.take_words.Goals as goal

pub returns-in-Sessions : goal.returns-in-Sessions
returns-in-Sessions c =
    let draft = serving_drafted c.args.self.now in
    subst (λ (kind : ServingKind). Takes (serving_behind kind draft c.args.text.now (words_in c.args.rest.now)) (record draft { sessions = c.take_number.new.said }) c.take_number.result) (sym c.in-Sessions.is)
    (takes_with (λ n. record draft { sessions = n }) _ _ c.take_number.result c.take_number.ensures)

pub returns-in-Turns : goal.returns-in-Turns
returns-in-Turns c =
    let draft = serving_drafted c.args.self.now in
    subst (λ (kind : ServingKind). Takes (serving_behind kind draft c.args.text.now (words_in c.args.rest.now)) (record draft { turns = c.take_number-in-Turns.new.said }) c.take_number-in-Turns.result) (sym c.in-Turns.is)
    (takes_with (λ n. record draft { turns = n }) _ _ c.take_number-in-Turns.result c.take_number-in-Turns.ensures)
