use Rattle.std.proofs.Common.{◌≡◌, ℕ, Bool, List, [], Some, refl, sym, ap, subst, ◌∙◌, string_bytes}
use Rattle.std.specs.Prelude.{position}
use Rattle.scripts.specs.Lines.{Word, joining, hub_event, client_call, client_passing, client_event, session_event}
use Rattle.scripts.specs.KeptLines.{words_of}
use Rattle.scripts.specs.Events.{client_at, known_clients, link_at, party_word, IsNamed}
use Rattle.replay.specs.TextWords.{by_notices}
use Rattle.replay.specs.LineCalls.{client_calls, hub_calls, passes_calls, session_calls}
use Rattle.replay.specs.KeptWorlds.{parties_of, seated, words_seated}
use Rattle.replay.specs.KeptSeats.{has_word}
use Rattle.replay.proofs.asking.Lines.{if_runs}
use Rattle.replay.proofs.worlds.HearDoing.{few-links}
use Rattle.replay.proofs.worlds.SeatNumbers.{seat-at, seat-within, known-at, few-known}
use Rattle.replay.proofs.event_lines.event_line.Goals as goal

pub bounds-clients-client : goal.bounds-clients-client
bounds-clients-client c =
    let links = words_of c.args.world.now.links.items in
    let clients = known_clients c.args.clients.now in
    let items = c.args.world.now.seats.items in
    let before = words_seated (seated items) in
    few-known c.args.clients.now c.in-Joining.client (subst (IsNamed links clients before) c.in-Joining.is c.requires)

pub word_of-requires : goal.word_of-requires
word_of-requires c =
    let links = words_of c.args.world.now.links.items in
    let clients = known_clients c.args.clients.now in
    let items = c.args.world.now.seats.items in
    let before = words_seated (seated items) in
    few-known c.args.clients.now c.in-Call.client (subst (IsNamed links clients before) c.in-Call.is c.requires).0

pub call_line-requires-clause-at : goal.call_line-requires-clause-at
call_line-requires-clause-at c =
    let links = words_of c.args.world.now.links.items in
    let clients = known_clients c.args.clients.now in
    let items = c.args.world.now.seats.items in
    let before = words_seated (seated items) in
    subst (λ (w : Word). position (has_word w) (seated items) ≡ Some c.in-Call.client) (sym c.word_of.ensures) (seat-at items (client_at clients c.in-Call.client).0 c.in-Call.client (subst (IsNamed links clients before) c.in-Call.is c.requires).1)

pub call_line-requires-clause-within : goal.call_line-requires-clause-within
call_line-requires-clause-within c =
    let links = words_of c.args.world.now.links.items in
    let clients = known_clients c.args.clients.now in
    let items = c.args.world.now.seats.items in
    let before = words_seated (seated items) in
    seat-within items (client_at clients c.in-Call.client).0 c.in-Call.client (subst (IsNamed links clients before) c.in-Call.is c.requires).1

pub returns-in-Call : goal.returns-in-Call
returns-in-Call c =
    let world = c.args.world.now in
    let later = c.call_line.new.world in
    rw (c.in-Call.is, ← c.word_of.ensures) (if_runs by_notices (client_call c.word_of.result.now c.in-Call.call) (λ v. []) world.hub later.hub (parties_of world) (parties_of later) c.call_line.result (λ v a. refl) (λ v a. refl) c.call_line.ensures)

pub word_of-requires-in-Passing : goal.word_of-requires-in-Passing
word_of-requires-in-Passing c =
    let links = words_of c.args.world.now.links.items in
    let clients = known_clients c.args.clients.now in
    let items = c.args.world.now.seats.items in
    let before = words_seated (seated items) in
    few-known c.args.clients.now c.in-Passing.client (subst (IsNamed links clients before) c.in-Passing.is c.requires).0

pub passing_line-requires-clause-at : goal.passing_line-requires-clause-at
passing_line-requires-clause-at c =
    let links = words_of c.args.world.now.links.items in
    let clients = known_clients c.args.clients.now in
    let items = c.args.world.now.seats.items in
    let before = words_seated (seated items) in
    subst (λ (w : Word). position (has_word w) (seated items) ≡ Some c.in-Passing.client) (sym c.word_of-in-Passing.ensures) (seat-at items (client_at clients c.in-Passing.client).0 c.in-Passing.client (subst (IsNamed links clients before) c.in-Passing.is c.requires).1)

pub passing_line-requires-clause-within : goal.passing_line-requires-clause-within
passing_line-requires-clause-within c =
    let links = words_of c.args.world.now.links.items in
    let clients = known_clients c.args.clients.now in
    let items = c.args.world.now.seats.items in
    let before = words_seated (seated items) in
    seat-within items (client_at clients c.in-Passing.client).0 c.in-Passing.client (subst (IsNamed links clients before) c.in-Passing.is c.requires).1

pub returns-in-Passing : goal.returns-in-Passing
returns-in-Passing c =
    let world = c.args.world.now in
    let later = c.passing_line.new.world in
    let w = c.word_of-in-Passing.result.now in
    let way = c.in-Passing.way in
    rw (c.in-Passing.is, ← c.word_of-in-Passing.ensures) (if_runs by_notices (client_passing w way) (passes_calls way w) world.hub later.hub (parties_of world) (parties_of later) c.passing_line.result (λ v a. refl) (λ v a. refl) c.passing_line.ensures)

pub word_of-requires-in-Client : goal.word_of-requires-in-Client
word_of-requires-in-Client c =
    let links = words_of c.args.world.now.links.items in
    let clients = known_clients c.args.clients.now in
    let items = c.args.world.now.seats.items in
    let before = words_seated (seated items) in
    few-known c.args.clients.now c.in-Client.client (subst (IsNamed links clients before) c.in-Client.is c.requires).0

pub client_line-requires-clause-at : goal.client_line-requires-clause-at
client_line-requires-clause-at c =
    let links = words_of c.args.world.now.links.items in
    let clients = known_clients c.args.clients.now in
    let items = c.args.world.now.seats.items in
    let before = words_seated (seated items) in
    subst (λ (w : Word). position (has_word w) (seated items) ≡ Some c.in-Client.client) (sym c.word_of-in-Client.ensures) (seat-at items (client_at clients c.in-Client.client).0 c.in-Client.client (subst (IsNamed links clients before) c.in-Client.is c.requires).1)

pub client_line-requires-clause-within : goal.client_line-requires-clause-within
client_line-requires-clause-within c =
    let links = words_of c.args.world.now.links.items in
    let clients = known_clients c.args.clients.now in
    let items = c.args.world.now.seats.items in
    let before = words_seated (seated items) in
    seat-within items (client_at clients c.in-Client.client).0 c.in-Client.client (subst (IsNamed links clients before) c.in-Client.is c.requires).1

pub returns-in-Client : goal.returns-in-Client
returns-in-Client c =
    let world = c.args.world.now in
    let later = c.client_line.new.world in
    let w = c.word_of-in-Client.result.now in
    let event = c.in-Client.event in
    rw (c.in-Client.is, ← c.word_of-in-Client.ensures) (if_runs by_notices (client_event w event) (client_calls event w) world.hub later.hub (parties_of world) (parties_of later) c.client_line.result (λ v a. refl) (λ v a. refl) c.client_line.ensures)

pub returns-in-Joining : goal.returns-in-Joining
returns-in-Joining c =
    let world = c.args.world.now in
    let later = c.client_joins.new.world in
    let client = c.index-clients-client.result in
    let named = known-at c.args.clients.now c.in-Joining.client client (few-known c.args.clients.now c.in-Joining.client (subst (IsNamed (words_of world.links.items) (known_clients c.args.clients.now) (words_seated (seated world.seats.items))) c.in-Joining.is c.requires)) c.index-clients-client.is in
    rw (c.in-Joining.is, named) (if_runs by_notices (joining (string_bytes client.word) client.is_lone) (λ v. []) world.hub later.hub (parties_of world) (parties_of later) c.client_joins.result (λ v a. refl) (λ v a. refl) c.client_joins.ensures)

pub returns-in-Hub : goal.returns-in-Hub
returns-in-Hub c =
    let world = c.args.world.now in
    let later = c.hub_line.new.world in
    let event = c.in-Hub.event in
    rw c.in-Hub.is (if_runs by_notices (hub_event event) (hub_calls event) world.hub later.hub (parties_of world) (parties_of later) c.hub_line.result (λ v a. refl) (λ v a. refl) c.hub_line.ensures)

pub link_line-requires : goal.link_line-requires
link_line-requires c =
    let items = c.args.world.now.links.items in
    let links = words_of items in
    let clients = known_clients c.args.clients.now in
    let before = words_seated (seated c.args.world.now.seats.items) in
    few-links items (link_at links c.in-Link.link) c.in-Link.link (subst (IsNamed links clients before) c.in-Link.is c.requires)

pub returns-in-Link : goal.returns-in-Link
returns-in-Link c =
    let links = words_of c.args.world.now.links.items in
    let clients = known_clients c.args.clients.now in
    let items = c.args.world.now.seats.items in
    let before = words_seated (seated items) in
    rw c.in-Link.is (c.link_line.ensures (link_at links c.in-Link.link) (subst (IsNamed links clients before) c.in-Link.is c.requires))

pub party_line-requires : goal.party_line-requires
party_line-requires c =
    let links = words_of c.args.world.now.links.items in
    let clients = known_clients c.args.clients.now in
    let items = c.args.world.now.seats.items in
    let before = words_seated (seated items) in
    subst (IsNamed links clients before) c.in-Session.is c.requires

pub returns-in-Session : goal.returns-in-Session
returns-in-Session c =
    let world = c.args.world.now in
    let later = c.party_line.new.world in
    let w = party_word (known_clients c.args.clients.now) c.in-Session.party in
    let event = c.in-Session.event in
    rw c.in-Session.is (if_runs by_notices (session_event w event) (session_calls event w) world.hub later.hub (parties_of world) (parties_of later) c.party_line.result (λ v a. refl) (λ v a. refl) c.party_line.ensures)
