use Rattle.std.proofs.Common.{◌++◌, ◌∙◌, ap, codes, string_bytes}
use Rattle.scripts.specs.Words.{octets_text}
use Rattle.replay.specs.KeptSeats.{closing_text}
use Rattle.replay.proofs.worlds.Doing.{two_parts}
use Rattle.replay.proofs.worlds.FedDoing.{fed-line}
use Rattle.replay.proofs.feed_lines.fed_lines.Goals as goal

pub returns : goal.returns
returns c =
    let w = c.args.word.now in
    let fed = c.args.fed.now in
    let closed = closing_text w fed.closing in
    c.in_ok-push_str.ensures.bytes
    ∙ ap (λ l. string_bytes c.in_ok-text.text ++ l) (c.as_str.ensures.value ∙ c.in_ok-closed.ensures)
    ∙ ap (λ l. l ++ closed) c.in_ok-text.ensures
    ∙ ap (λ o. (codes "bytes " ++ two_parts w (octets_text o)) ++ closed) c.as_slice.ensures.value
    ∙ fed-line w fed.octets.items fed.closing
