use Rattle.std.proofs.Common.{Option, sym, ◌∙◌, ap, subst}
use Rattle.std.specs.Prelude.{position}
use Rattle.std.specs.Str.{bytes_eq}
use Rattle.scripts.specs.Lines.{Word}
use Rattle.scripts.specs.declared.line.EventLine.TheVariants as event_lines
use Rattle.scripts.specs.declared.event.Event.{Event}
use Rattle.scripts.specs.KeptLines.{words_of}
use Rattle.scripts.specs.Drafts.{Numbered}
use Rattle.scripts.proofs.lines.Numbers.{numbered-link, unnumbered-link}
use Rattle.scripts.proofs.event.on_link.Goals as goal

pub returns-in_err-link : goal.returns-in_err-link
returns-in_err-link c all clients =
    let links = words_of c.args.links.now in
    let none = ap (λ (w : Word). position (bytes_eq w) links) (sym c.as_bytes.ensures.value) ∙ sym c.place_among.ensures ∙ c.in_err-link.was in
    subst (λ (o : Option Event). Numbered all links clients (event_lines.Link c.args.word c.args.event) o) (sym c.from_residual.ensures) (unnumbered-link all links clients c.args.word c.args.event none)

pub returns : goal.returns
returns c all clients =
    let links = words_of c.args.links.now in
    let at = ap (λ (w : Word). position (bytes_eq w) links) (sym c.as_bytes.ensures.value) ∙ sym c.place_among.ensures ∙ c.in_ok-link.was in
    numbered-link all links clients c.args.word c.args.event c.in_ok-link.link at
