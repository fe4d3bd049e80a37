use Rattle.std.proofs.Common.{Bool, sym, ap, ◌∙◌, string_bytes}
use Rattle.scripts.specs.Lines.{Word}
use Rattle.scripts.specs.declared.clients.KnownClient.{KnownClient}
use Rattle.replay.proofs.worlds.SeatNumbers.{known-at}
use Rattle.replay.proofs.event_lines.word_of.Goals as goal

pub returns : goal.returns
returns c =
    c.as_str.ensures.value
    ∙ ap (λ (k : KnownClient). string_bytes k.word) (sym c.index-clients-client.is)
    ∙ ap (λ (known : Word × Bool). known.0) (sym (known-at c.args.clients.now c.args.client c.index-clients-client.result c.requires c.index-clients-client.is))
