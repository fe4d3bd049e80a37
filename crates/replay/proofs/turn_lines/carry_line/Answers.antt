use Rattle.std.proofs.Common.{◌≡◌, Some, sym, subst}
use Rattle.std.specs.Prelude.{position}
use Rattle.scripts.specs.Lines.{Word}
use Rattle.scripts.specs.KeptLines.{words_of}
use Rattle.scripts.specs.Events.{client_at, known_clients, IsNamed}
use Rattle.replay.specs.KeptWorlds.{seated, words_seated}
use Rattle.replay.specs.KeptSeats.{has_word}
use Rattle.replay.proofs.halves.FirstEvents.{carries-so}
use Rattle.replay.proofs.worlds.SeatNumbers.{seat-at, seat-within, few-known}
use Rattle.replay.proofs.turn_lines.carry_line.Goals as goal

pub word_of-requires : goal.word_of-requires
word_of-requires c =
    let links = words_of c.args.worlds.now.near.links.items in
    let clients = known_clients c.args.clients.now in
    let before = words_seated (seated c.args.worlds.now.near.seats.items) in
    few-known c.args.clients.now c.in-Client.client (subst (IsNamed links clients before) c.in-Client.is c.requires.named).0

pub shown_line-requires-clause-at : goal.shown_line-requires-clause-at
shown_line-requires-clause-at c =
    let links = words_of c.args.worlds.now.near.links.items in
    let clients = known_clients c.args.clients.now in
    let items = c.args.worlds.now.near.seats.items in
    let before = words_seated (seated items) in
    let number = c.in-Client.client in
    subst (λ (w : Word). position (has_word w) (seated items) ≡ Some number) (sym c.word_of.ensures) (seat-at items (client_at clients number).0 number (subst (IsNamed links clients before) c.in-Client.is c.requires.named).1)

pub shown_line-requires-clause-within : goal.shown_line-requires-clause-within
shown_line-requires-clause-within c =
    let links = words_of c.args.worlds.now.near.links.items in
    let clients = known_clients c.args.clients.now in
    let items = c.args.worlds.now.near.seats.items in
    let before = words_seated (seated items) in
    let number = c.in-Client.client in
    seat-within items (client_at clients number).0 number (subst (IsNamed links clients before) c.in-Client.is c.requires.named).1

pub returns : goal.returns
returns c =
    carries-so c.args.clients.now c.args.event.now c.in-Client.event c.in-Client.client c.word_of.result.now c.args.worlds.now _ c.shown_line.result c.in-Client.is c.word_of.ensures c.shown_line.ensures
