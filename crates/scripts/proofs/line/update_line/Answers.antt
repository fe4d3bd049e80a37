use Rattle.std.proofs.Common.{sym, ◌∙◌}
use Rattle.scripts.specs.Lines.{hub_event}
use Rattle.scripts.specs.declared.line.HubEvent.TheVariants as hub_events
use Rattle.scripts.proofs.lines.OneWord.{digits_alone}
use Rattle.scripts.proofs.line.update_line.Goals as goal

pub returns-in-Some : goal.returns-in-Some
returns-in-Some c =
    record { exact = digits_alone (λ o. hub_event (hub_events.Update o)) c.args.text.now c.in-Some.octets (sym c.in-Some.is ∙ c.in_ok-octets.ensures) }
