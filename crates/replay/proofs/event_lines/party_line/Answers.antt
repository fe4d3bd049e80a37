use Rattle.std.proofs.Common.{◌≡◌, Option, Some, None, sym, ap, subst, ◌∙◌, string_bytes}
use Rattle.std.specs.Prelude.{position}
use Rattle.scripts.specs.Lines.{Word}
use Rattle.scripts.specs.Events.{client_at, known_clients, IsNamedParty}
use Rattle.replay.specs.KeptWorlds.{seated, words_seated}
use Rattle.replay.specs.KeptSeats.{has_word}
use Rattle.replay.proofs.worlds.SeatNumbers.{seat-at, seat-within, no-seat, few-known}
use Rattle.replay.proofs.event_lines.party_line.Goals as goal

pub word_of-requires : goal.word_of-requires
word_of-requires c =
    let clients = known_clients c.args.clients.now in
    let before = words_seated (seated c.args.world.now.seats.items) in
    few-known c.args.clients.now c.in-Client.client (subst (IsNamedParty clients before) c.in-Client.is c.requires).0

pub session_line-requires-clause-at : goal.session_line-requires-clause-at
session_line-requires-clause-at c =
    let clients = known_clients c.args.clients.now in
    let items = c.args.world.now.seats.items in
    let n = c.in-Client.client in
    subst (λ (w : Word). position (has_word w) (seated items) ≡ Some n) (sym c.word_of.ensures) (seat-at items (client_at clients n).0 n (subst (IsNamedParty clients (words_seated (seated items))) c.in-Client.is c.requires).1)

pub session_line-requires-clause-within : goal.session_line-requires-clause-within
session_line-requires-clause-within c =
    let clients = known_clients c.args.clients.now in
    let items = c.args.world.now.seats.items in
    let n = c.in-Client.client in
    seat-within items (client_at clients n).0 n (subst (IsNamedParty clients (words_seated (seated items))) c.in-Client.is c.requires).1

pub returns-in-Client : goal.returns-in-Client
returns-in-Client c = rw (c.in-Client.is, ← c.word_of.ensures) c.session_line.ensures

pub session_line-requires-in-Peer-clause-at : goal.session_line-requires-in-Peer-clause-at
session_line-requires-in-Peer-clause-at c =
    let clients = known_clients c.args.clients.now in
    let items = c.args.world.now.seats.items in
    let w = string_bytes c.in-Peer.word in
    subst (λ (v : Word). position (has_word v) (seated items) ≡ None) (sym c.as_str.ensures.value) (no-seat items w (subst (IsNamedParty clients (words_seated (seated items))) c.in-Peer.is c.requires))

pub returns-in-Peer : goal.returns-in-Peer
returns-in-Peer c = rw (c.in-Peer.is, ← c.as_str.ensures.value) c.session_line-in-Peer.ensures
