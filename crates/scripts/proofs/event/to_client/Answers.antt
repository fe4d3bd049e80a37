use Rattle.std.proofs.Common.{Option, sym, ◌∙◌, ap, subst}
use Rattle.std.specs.Prelude.{position}
use Rattle.std.specs.Str.{bytes_eq}
use Rattle.scripts.specs.Lines.{Word}
use Rattle.scripts.specs.Scripts.{may_happen_to}
use Rattle.scripts.specs.declared.line.EventLine.TheVariants as event_lines
use Rattle.scripts.specs.declared.event.Event.{Event}
use Rattle.scripts.specs.Events.{known_clients, words_known}
use Rattle.scripts.specs.Drafts.{Numbered}
use Rattle.scripts.proofs.lines.Numbers.{numbered-client, unnumbered-client}
use Rattle.scripts.proofs.event.to_client.Goals as goal

pub returns-in_err-client : goal.returns-in_err-client
returns-in_err-client c all links =
    let clients = known_clients c.args.clients.now in
    let none = ap (λ (w : Word). position (bytes_eq w) (words_known clients)) (sym c.as_bytes.ensures.value) ∙ sym c.place.ensures ∙ c.in_err-client.was in
    subst (λ (o : Option Event). Numbered all links clients (event_lines.Client c.args.word c.args.event) o) (sym c.from_residual.ensures) (unnumbered-client all links clients c.args.word c.args.event none)

pub returns : goal.returns
returns c all links =
    let clients = known_clients c.args.clients.now in
    let at = ap (λ (w : Word). position (bytes_eq w) (words_known clients)) (sym c.as_bytes.ensures.value) ∙ sym c.place.ensures ∙ c.in_ok-client.was in
    let may = ap (λ (w : Word). may_happen_to clients w c.args.event) (sym c.as_bytes-2.ensures.value) ∙ sym c.may_happen_to.ensures ∙ c.if-not-may_happen_to.false in
    numbered-client all links clients c.args.word c.args.event c.in_ok-client.client at may
