use Rattle.std.proofs.Common.{sym, ◌∙◌, ap, string_bytes}
use Rattle.std.specs.Prelude.{position}
use Rattle.std.specs.Str.{bytes_eq}
use Rattle.scripts.specs.Lines.{Word}
use Rattle.scripts.specs.Events.{known_clients, words_known}
use Rattle.scripts.proofs.lines.Numbers.{client-party}
use Rattle.scripts.proofs.event.party_of.Goals as goal

pub returns-in-Some : goal.returns-in-Some
returns-in-Some c =
    let clients = known_clients c.args.clients.now in
    let at = ap (λ (w : Word). position (bytes_eq w) (words_known clients)) (sym c.as_bytes.ensures.value) ∙ sym c.place.ensures ∙ c.in-Some.is in
    client-party clients (string_bytes c.args.word) c.in-Some.client at
