use Rattle.std.proofs.Common.{Option, sym, ◌∙◌, ap, subst}
use Rattle.std.specs.Prelude.{position}
use Rattle.std.specs.Str.{bytes_eq}
use Rattle.scripts.specs.Lines.{Word}
use Rattle.scripts.specs.declared.line.EventLine.TheVariants as event_lines
use Rattle.scripts.specs.declared.event.Event.{Event}
use Rattle.scripts.specs.Events.{known_clients, words_known}
use Rattle.scripts.specs.Drafts.{Numbered}
use Rattle.scripts.proofs.lines.Numbers.{numbered-call, unnumbered-call}
use Rattle.scripts.proofs.event.call_of.Goals as goal

pub returns-in_err-client : goal.returns-in_err-client
returns-in_err-client c all links =
    let clients = known_clients c.args.clients.now in
    let none = ap (λ (w : Word). position (bytes_eq w) (words_known clients)) (sym c.as_bytes.ensures.value) ∙ sym c.place.ensures ∙ c.in_err-client.was in
    subst (λ (o : Option Event). Numbered all links clients (event_lines.Call c.args.word c.args.call) o) (sym c.from_residual.ensures) (unnumbered-call all links clients c.args.word c.args.call none)

pub returns : goal.returns
returns c all links =
    let clients = known_clients c.args.clients.now in
    let at = ap (λ (w : Word). position (bytes_eq w) (words_known clients)) (sym c.as_bytes.ensures.value) ∙ sym c.place.ensures ∙ c.in_ok-client.was in
    numbered-call all links clients c.args.word c.args.call c.in_ok-client.client at
