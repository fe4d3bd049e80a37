-- What the lines of a script do, and what they print.
--     by_seat act w world      what is done and printed of the client of a word
--     passing_of way, passes_way way      the passing of a way, with a session and without
--     link_calls event w, link_lines event w      the calls of the hub that an event on a link is, and what is printed of it; what a link is asked is printed apart (Askings)
--     hub_does event, link_does event w, client_does records event w, session_does event w      what happens at the hub, on a link, to a client and to a session
--     closes_of t seats      of each client the line of its close at a moment, if it closes
--     line_does records line world      the world after a line, and the lines that it prints
--     world_after lines world      the world after lines
use Rattle.std.specs.Prelude.{ℕ, Bool, cond, List, [], ◌∷◌, ◌++◌, map, fold, position, Option, Some, None, option_map, codes, decimal, unwrap_or, if◌then◌else◌}
use Rattle.std.specs.Str.{bytes_eq}
use Rattle.rrset.specs.declared.record.Question.{Question}
use Rattle.rrset.specs.declared.record.Rr.{Rr}
use Rattle.dsosession.specs.declared.session.EndReason.{EndReason}
use Rattle.dsosession.specs.declared.session.CloseReason.{CloseReason}
use Rattle.pushserver.specs.declared.given.Heard.{Heard}
use Rattle.pushserver.specs.declared.given.Heard.TheVariants.{Entered, Ignored}
use Rattle.pushserver.specs.Hubs as hubs
use Rattle.pushserver.specs.Hubs.{newest, now, connect}
use Rattle.pushserver.specs.Calls as hub_calls
use Rattle.pushserver.specs.Calls.{HubCall}
use Rattle.pushclient.specs.declared.client.Asked.{Asked}
use Rattle.pushclient.specs.declared.client.Asked.TheVariants as asked
use Rattle.pushclient.specs.Clients as clients
use Rattle.pushclient.specs.Clients.{Client, is_connected, output_of, closed_as, connected}
use Rattle.pushclient.specs.Steps as steps
use Rattle.scripts.specs.Lines.{Word, ScriptLine, joining, hub_event, link_event, client_call, client_passing, client_event, session_event}
use Rattle.scripts.specs.declared.line.HubEvent.{HubEvent}
use Rattle.scripts.specs.declared.line.HubEvent.TheVariants as hub_events
use Rattle.scripts.specs.declared.line.LinkEvent.{LinkEvent}
use Rattle.scripts.specs.declared.line.LinkEvent.TheVariants as link_events
use Rattle.scripts.specs.declared.line.Call.{Call}
use Rattle.scripts.specs.declared.line.Call.TheVariants as calls
use Rattle.scripts.specs.declared.line.Way.{Way}
use Rattle.scripts.specs.declared.line.Way.TheVariants as ways
use Rattle.scripts.specs.declared.line.ClientEvent.{ClientEvent}
use Rattle.scripts.specs.declared.line.ClientEvent.TheVariants as client_events
use Rattle.scripts.specs.declared.line.SessionEvent.{SessionEvent}
use Rattle.scripts.specs.declared.line.SessionEvent.TheVariants as session_events
use Rattle.scripts.specs.Words.{spaced}
use Rattle.replay.specs.World.{Seat, World, new_seat, seat_of, with_seat, session_number, with_client, joined, stopped_hub, cut_connection, cut_peer, is_over, world_cut_if}
use Rattle.replay.specs.PassedOctets as running
use Rattle.replay.specs.PassedOctets.{Passed, passed, by_session, enough, exchanged, settled, reached_by, fed_client}
use Rattle.replay.specs.TextWords.{why_words, bytes_words, bytes_line, open_words, noseat_words, end_line, closed_line, shown_lines, HeldRecords, by_history, by_notices, show_at}

-- a world, and the lines that were printed on the way to it
abbrev pub Printed : Type 0
Printed = World × List (List ℕ)

abbrev pub quietly : World → Printed
quietly world = (world, [])

abbrev pub printing : List (List ℕ) → World → Printed
printing words world = (world, spaced words ∷ [])

-- what is done and printed of the client of a word, if there is one
abbrev pub by_seat : (Seat → World → Printed) → Word → World → Printed
by_seat act w world = elim (seat_of world w) [ None ↦ quietly world | Some seat ↦ act seat world ]

abbrev pub number_or_zero : Option ℕ → ℕ
number_or_zero o = unwrap_or o 0

abbrev pub yes_or_no : Bool → List ℕ
yes_or_no b = cond b (codes "yes") (codes "no")

-- the lines on an end and on a close
abbrev pub end_lines : Word → Option EndReason → List (List ℕ)
end_lines w None = []
end_lines w (Some reason) = end_line w reason ∷ []

abbrev pub close_lines : Word → Option CloseReason → List (List ℕ)
close_lines w None = []
close_lines w (Some reason) = closed_line w reason ∷ []

-- behind the printed line the end and the close are told, and then the connection is cut
abbrev pub finished : List (List ℕ) → Passed → Printed
finished words p =
    let closing = closed_as p.seat.client in
    (world_cut_if (is_over p.over closing) p.seat (with_seat p.seat p.world), spaced words ∷ (end_lines p.seat.word p.over ++ close_lines p.seat.word closing))

-- the passing of a way, by the number of the session
abbrev pub passing_of : Way → ℕ → World → Seat → Passed
passing_of (ways.Say n) = λ number. running.say n
passing_of (ways.Up n) = λ number. running.up number n
passing_of (ways.Emit n) = λ number. running.emit number n
passing_of (ways.Down n) = λ number. running.down n
passing_of ways.Settle = λ number world seat. settled enough number world seat None

-- on a client that isn't connected, and on a lone one, nothing passes
abbrev pub passes_way : Way → World → Seat → Passed
passes_way way world seat = by_session (passing_of way) world seat

-- the words of its line, where so many octets passed
abbrev pub way_words : Way → Word → ℕ → List (List ℕ)
way_words (ways.Say n) w count = codes "say" ∷ w ∷ decimal count ∷ []
way_words (ways.Up n) w count = codes "up" ∷ w ∷ decimal count ∷ []
way_words (ways.Emit n) w count = codes "emit" ∷ w ∷ decimal count ∷ []
way_words (ways.Down n) w count = codes "down" ∷ w ∷ decimal count ∷ []
way_words ways.Settle w count = codes "settle" ∷ w ∷ []

-- octets of a client pass
abbrev pub passes : Way → Word → World → Printed
passes way w world = by_seat (λ seat there. (let p = passes_way way there seat in finished (way_words way w p.count) p)) w world

abbrev pub asked_words : Asked → List ℕ
asked_words asked.New = codes "new"
asked_words asked.Already = codes "already"
asked_words asked.Many = codes "many"

-- the word of a client's call, and what the client answers to it
abbrev pub call_word : Call → List ℕ
call_word (calls.Ask question) = codes "asked"
call_word (calls.Drop question) = codes "dropped"
call_word (calls.Reconfirm rr) = codes "reconfirm"

abbrev pub subscribing : Question → Client → List ℕ × Client
subscribing question c = (let r = clients.subscribe c question in (asked_words r.0, r.1))

abbrev pub unsubscribing : Question → Client → List ℕ × Client
unsubscribing question c = (let r = clients.unsubscribe c question in (yes_or_no r.0, r.1))

abbrev pub reconfirming : Rr → Client → List ℕ × Client
reconfirming rr c = (let r = clients.reconfirm c rr in (yes_or_no r.0, r.1))

abbrev pub called : Call → Client → List ℕ × Client
called (calls.Ask question) c = subscribing question c
called (calls.Drop question) c = unsubscribing question c
called (calls.Reconfirm rr) c = reconfirming rr c

-- a call of the client, which answers a word
abbrev pub asks : Call → Word → World → Printed
asks call w world = by_seat (λ seat there. printing (call_word call ∷ w ∷ (called call seat.client).0 ∷ []) (with_seat (with_client (λ c. (called call c).1) seat) there)) w world

abbrev pub heard_words : Heard → List ℕ
heard_words Entered = codes "heard"
heard_words (Ignored why) = spaced (codes "ignored" ∷ why_words why ∷ [])

-- the number of a link, by its word
abbrev pub link_number : Word → World → ℕ
link_number w world = number_or_zero (position (bytes_eq w) world.links)

-- the calls of the hub that an event on a link is, and what is printed of it
abbrev pub link_calls : LinkEvent → Word → World → List HubCall
link_calls (link_events.Hear datagram) w world = hub_calls.hears (link_number w world) datagram ∷ []
link_calls link_events.Gone w world = hub_calls.goes (link_number w world) ∷ []
link_calls link_events.Asks w world = []

abbrev pub link_lines : LinkEvent → Word → World → List (List ℕ)
link_lines (link_events.Hear datagram) w world = heard_words (hubs.hear world.hub (link_number w world) datagram).0 ∷ []
link_lines link_events.Gone w world = spaced (codes "gone" ∷ w ∷ yes_or_no (hubs.link_gone world.hub (link_number w world)).0 ∷ []) ∷ []
link_lines link_events.Asks w world = []

abbrev pub updates : List ℕ → World → Printed
updates message world = (let r = hubs.update world.hub message in printing (codes "update" ∷ decimal r.0 ∷ []) (record world { hub = r.1 }))

-- a client at the hub's moment; one that closes is told and cut
abbrev pub timed : ℕ → Printed → Seat → Printed
timed t so_far seat =
    let later = with_client (λ c. steps.moment c t) seat in
    let closing = closed_as later.client in
    (world_cut_if (is_over None closing) later (with_seat later so_far.0), so_far.1 ++ close_lines seat.word closing)

-- of each client the line of its close at a moment, if it closes
abbrev pub closes_of : ℕ → List Seat → List (List (List ℕ))
closes_of t seats = map (λ (seat : Seat). close_lines seat.word (closed_as (steps.moment seat.client t))) seats

abbrev pub moments : ℕ → World → Printed
moments t world =
    let later = hubs.moment world.hub t in
    fold (timed (now later)) (quietly (record world { hub = later })) world.seats

abbrev pub opens_lone : Seat → World → Printed
opens_lone seat world = printing (open_words seat.word) (with_seat (with_client (connected (now world.hub)) seat) world)

abbrev pub opens_hub : Seat → World → Printed
opens_hub seat world = (let r = connect world.hub in elim r.0 [
  | None ↦ printing (noseat_words seat.word) world
  | Some number ↦ printing (open_words seat.word) (with_seat (joined (now world.hub) number seat) (record world { hub = r.1 }))
])

abbrev pub opens : Word → World → Printed
opens w world = by_seat (λ seat there. if is_connected seat.client then printing (codes "already" ∷ w ∷ []) there else if seat.is_lone then opens_lone seat there else opens_hub seat there) w world

abbrev pub cuts : Word → World → Printed
cuts w world = printing (codes "cut" ∷ w ∷ []) (elim (seat_of world w) [ None ↦ cut_peer w world | Some seat ↦ cut_connection seat world ])

-- octets to the session of a peer and back
abbrev pub exchanges : Word → ℕ → List ℕ → World → Printed
exchanges w number octets world =
    let x = exchanged enough number octets world.hub [] in
    let ending = end_lines w x.over in
    let later = record world { hub = x.hub } in
    (elim x.over [ None ↦ later | Some reason ↦ cut_peer w later ], bytes_line w x.octets ∷ ending)

-- the number of a peer's session, and the world with it: the session that it has, or else a new one
abbrev pub placed : Word → World → Option (ℕ × World)
placed w world = elim (session_number world w) [
  | Some number ↦ Some (number, world)
  | None ↦ option_map (λ number. (number, record world { hub = (connect world.hub).1; peers = world.peers ++ (w, number) ∷ [] })) (connect world.hub).0
]

abbrev pub sends : Word → List ℕ → World → Printed
sends w octets world = elim (placed w world) [
  | None ↦ printing (noseat_words w) world
  | Some place ↦ exchanges w place.0 octets place.1
]

-- octets to a lone client, and what it has to send
abbrev pub feeds_connected : List ℕ → World → Seat → Printed
feeds_connected octets world seat = finished (bytes_words seat.word (output_of (reached_by octets seat.client))) (passed world (with_client (fed_client octets) seat) 0)

abbrev pub feeds : Word → List ℕ → World → Printed
feeds w octets world = by_seat (λ seat there. if is_connected seat.client then feeds_connected octets there seat else printing (bytes_words w []) there) w world

abbrev pub session_of_word : World → Word → Option ℕ
session_of_word world w = elim (seat_of world w) [ Some seat ↦ seat.session | None ↦ session_number world w ]

-- a session is asked to stop, if there is one
abbrev pub asked_to_stop : Option ℕ → ℕ → ℕ → World → World
asked_to_stop session rcode delay world = record world { hub = stopped_hub session rcode delay world.hub }

abbrev pub stops : Word → ℕ → ℕ → World → Printed
stops w rcode delay world = printing (codes "stop" ∷ w ∷ []) (asked_to_stop (session_of_word world w) rcode delay world)

abbrev pub shows : HeldRecords → Word → Question → List ℕ → World → Printed
shows records w question written world = by_seat (λ seat there. (there, shown_lines w question written (show_at records there seat question))) w world

abbrev pub seated : Word → Bool → World → Printed
seated w is_lone world = quietly (record world { seats = world.seats ++ new_seat w is_lone ∷ [] })

-- what happens at the hub
abbrev pub hub_does : HubEvent → World → Printed
hub_does (hub_events.At t) world = moments t world
hub_does (hub_events.Update message) world = updates message world
hub_does hub_events.Point world = printing (codes "point" ∷ decimal (newest world.hub) ∷ decimal (now world.hub) ∷ []) world

-- on a link
abbrev pub link_does : LinkEvent → Word → World → Printed
link_does event w world = (record world { hub = hub_calls.after_calls (link_calls event w world) world.hub }, link_lines event w world)

abbrev pub hears : Word → List ℕ → World → Printed
hears w datagram world = link_does (link_events.Hear datagram) w world

abbrev pub goes : Word → World → Printed
goes w world = link_does link_events.Gone w world

-- to a client
abbrev pub client_does : HeldRecords → ClientEvent → Word → World → Printed
client_does records client_events.Open w world = opens w world
client_does records (client_events.Feed octets) w world = feeds w octets world
client_does records (client_events.Show question written) w world = shows records w question written world

-- to the session of a peer, or of a client
abbrev pub session_does : SessionEvent → Word → World → Printed
session_does (session_events.Send octets) w world = sends w octets world
session_does (session_events.Stop rcode delay) w world = stops w rcode delay world
session_does session_events.Cut w world = cuts w world

-- what each line does and prints
abbrev pub line_does : HeldRecords → ScriptLine → World → Printed
line_does records (joining w is_lone) world = seated w is_lone world
line_does records (hub_event event) world = hub_does event world
line_does records (link_event w event) world = link_does event w world
line_does records (client_call w call) world = asks call w world
line_does records (client_passing w way) world = passes way w world
line_does records (client_event w event) world = client_does records event w world
line_does records (session_event w event) world = session_does event w world
line_does records _ world = quietly world

-- the world after some lines of a script
abbrev pub world_after : List ScriptLine → World → World
world_after [] world = world
world_after (line ∷ lines) world = world_after lines (line_does by_history line world).0
