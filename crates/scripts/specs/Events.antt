-- Events of a script, which tell clients and links by their numbers.
--     known_clients clients, words_known clients      clients as they are kept, each with whether it is a lone one; their words
--     client_at clients number, link_at links number      the client, and the word of the link, of a number
--     event_said links clients event, each_said links clients events      what an event says, and events
--     IsNamed links clients before event      its numbers are those of clients that have joined before, and of links
--     Follow links clients before events      so it is of each event, behind those that have joined before it
use Rattle.std.specs.Prelude.{◌≡◌, ◌<◌, ⊤, ℕ, Bool, false, List, [], ◌∷◌, ◌++◌, map, length, get_or, position, Some, None, option_to_list, string_bytes}
use Rattle.std.specs.Str.{bytes_eq}
use Rattle.scripts.specs.Lines.{Word, ScriptLine, joining, hub_event, link_event, client_call, client_passing, client_event, session_event}
use Rattle.scripts.specs.Scripts.{client_word}
use Rattle.scripts.specs.declared.clients.KnownClient.{KnownClient}
use Rattle.scripts.specs.declared.event.Event.{Event}
use Rattle.scripts.specs.declared.event.Event.TheVariants as events
use Rattle.scripts.specs.declared.event.Party.{Party}
use Rattle.scripts.specs.declared.event.Party.TheVariants as parties

-- clients as they are kept, each with whether it is a lone one
abbrev pub known_clients : List KnownClient → List (Word × Bool)
known_clients clients = map (λ (c : KnownClient). (string_bytes c.word, c.is_lone)) clients

abbrev pub words_known : List (Word × Bool) → List Word
words_known clients = map (λ e. e.0) clients

abbrev pub client_at : List (Word × Bool) → ℕ → Word × Bool
client_at clients number = get_or clients number ([], false)

abbrev pub link_at : List Word → ℕ → Word
link_at links number = get_or links number []

-- the word of a party
abbrev pub party_word : List (Word × Bool) → Party → Word
party_word clients (parties.Client number) = (client_at clients number).0
party_word clients (parties.Peer word) = string_bytes word

-- what an event says, by the words of the links and the clients
abbrev pub event_said : List Word → List (Word × Bool) → Event → ScriptLine
event_said links clients (events.Joining number) = joining (client_at clients number).0 (client_at clients number).1
event_said links clients (events.Hub event) = hub_event event
event_said links clients (events.Link number event) = link_event (link_at links number) event
event_said links clients (events.Call number call) = client_call (client_at clients number).0 call
event_said links clients (events.Passing number way) = client_passing (client_at clients number).0 way
event_said links clients (events.Client number event) = client_event (client_at clients number).0 event
event_said links clients (events.Session party event) = session_event (party_word clients party) event

-- what events say
abbrev pub each_said : List Word → List (Word × Bool) → List Event → List ScriptLine
each_said links clients events = map (event_said links clients) events

-- a client of that number has joined before
abbrev pub HasJoined : List (Word × Bool) → List Word → ℕ → Type 0
HasJoined clients before number = (number < length clients) × (position (bytes_eq (client_at clients number).0) before ≡ Some number)

abbrev pub IsNamedParty : List (Word × Bool) → List Word → Party → Type 0
IsNamedParty clients before (parties.Client number) = HasJoined clients before number
IsNamedParty clients before (parties.Peer word) = position (bytes_eq (string_bytes word)) before ≡ None

-- an event's numbers are those of clients that have joined before, and of links, and its peer has no client's word
abbrev pub IsNamed : List Word → List (Word × Bool) → List Word → Event → Type 0
IsNamed links clients before (events.Joining number) = number < length clients
IsNamed links clients before (events.Hub event) = ⊤
IsNamed links clients before (events.Link number event) = position (bytes_eq (link_at links number)) links ≡ Some number
IsNamed links clients before (events.Call number call) = HasJoined clients before number
IsNamed links clients before (events.Passing number way) = HasJoined clients before number
IsNamed links clients before (events.Client number event) = HasJoined clients before number
IsNamed links clients before (events.Session party event) = IsNamedParty clients before party

-- the words of the clients behind an event
abbrev pub then_joined : List Word → List (Word × Bool) → List Word → Event → List Word
then_joined links clients before event = before ++ option_to_list (client_word (event_said links clients event))

-- so it is of each event, behind those that have joined before it
abbrev pub Follow : List Word → List (Word × Bool) → List Word → List Event → Type 0
Follow links clients before [] = ⊤
Follow links clients before (event ∷ events) = IsNamed links clients before event × Follow links clients (then_joined links clients before event) events
