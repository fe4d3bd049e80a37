use Rattle.std.proofs.Common.{List, ℕ}
use Rattle.replay.specs.KeptWorlds.{parties_of}
use Rattle.replay.specs.KeptSeats.{TimesWorld}
use Rattle.replay.specs.KeptTwoWorlds.{ClosesSo}
use Rattle.replay.proofs.halves.Closing.{closes-so, if_texts}
use Rattle.replay.proofs.event_lines.moment_closes.Goals as goal

pub returns-in-Ok : goal.returns-in-Ok
returns-in-Ok c =
    let known = parties_of c.args.world.now in
    let hub = c.args.world.now.hub in
    let between = c.moment_uncounted.new.self in
    let later = c.clients_timed.new.world.hub in
    let known_later = parties_of c.clients_timed.new.world in
    if_texts (λ (told : List (List ℕ)). TimesWorld between known later known_later told) (λ (told : List (List ℕ)). ClosesSo c.args.moment hub known told later known_later) c.clients_timed.result
    (λ told timed. closes-so hub between later known known_later c.args.moment told c.in-Ok.ensures.ok c.in-Ok.ensures.asks timed) c.clients_timed.ensures
