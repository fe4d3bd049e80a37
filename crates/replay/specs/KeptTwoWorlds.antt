-- The worlds of two hubs, as the program holds them.
--     AreWorlds kept worlds      what is kept stands for both worlds, their clients' order and the name of the second hub's zone
--     said_in world clients event, IsNamedIn world clients event      what an event says at a hub, and that its numbers are those of clients and links there
--     is_at event, is_show event      whether an event is a moment, and whether a question is shown
--     order_with is_far order event      the order of clients behind an event of a hub
--     RunsNear, RunsFar, RunsBoth, RunsCarry      what an event prints and leaves: of the first hub, of the second, of both, and one that carries
--     ClosesSo t .. closes .., UpdatesSo message .. code ..      a moment at one hub with its clients' closes, and an update with its RCODE
--     Carries word question written before text after      what a client holds is carried
--     HoldsSet world client question found, Relays before client question found      the set that a client is shown to hold, and what becomes of it
--     TurnComes, TurnRuns      what is to be there for a turn, and what the turn prints and leaves
--     AreLeft, HasSameClients before later      what is left to happen, for clients that are the same
--     TellsLines lines script      to each hub the script is its half of the lines, and its turns are those of the lines
use Rattle.std.specs.Prelude.{◌≡◌, ℕ, Bool, true, false, cond, not, List, [], ◌∷◌, ◌++◌, map, position, Option, Some, None, flat_map, option_to_list}
use Rattle.dnsname.specs.Names.{Labels}
use Rattle.rrset.specs.RecordSet.{RecordSet}
use Rattle.rrset.specs.declared.record.Question.{Question}
use Rattle.relay.specs.declared.relay.Relayed.{Relayed}
use Rattle.pushserver.specs.Hubs as hubs
use Rattle.pushclient.specs.Clients.{id_of}
use Rattle.hubasking.specs.AskingHubs.{AskingHub}
use Rattle.hubasking.specs.LinkAskings.{Askings}
use Rattle.scripts.specs.Lines.{Word, ScriptLine}
use Rattle.scripts.specs.Scripts.{AreDistinct}
use Rattle.scripts.specs.Words.{spaced, ended_lines}
use Rattle.scripts.specs.Events.{client_at, event_said, known_clients, IsNamed}
use Rattle.scripts.specs.KeptLines.{words_of}
use Rattle.scripts.specs.KeptScripts.{IsScript}
use Rattle.scripts.specs.KeptWhole.{turns_from}
use Rattle.scripts.specs.WholeLines.{WholeLine, all_at, is_moment}
use Rattle.scripts.specs.WholeScripts.{apex_in, near_lines, far_heads}
use Rattle.scripts.specs.declared.clients.KnownClient.{KnownClient}
use Rattle.scripts.specs.declared.event.Event.{Event}
use Rattle.scripts.specs.declared.event.Event.TheVariants as events
use Rattle.scripts.specs.declared.line.HubEvent.{HubEvent}
use Rattle.scripts.specs.declared.line.HubEvent.TheVariants as hub_events
use Rattle.scripts.specs.declared.line.ClientEvent.{ClientEvent}
use Rattle.scripts.specs.declared.line.ClientEvent.TheVariants as client_events
use Rattle.scripts.specs.declared.whole_script.Turn.{Turn}
use Rattle.scripts.specs.declared.whole_script.Turn.TheVariants as turns
use Rattle.scripts.specs.declared.whole_script.WholeScript.{WholeScript}
use Rattle.replay.specs.World.{World, Seat}
use Rattle.replay.specs.TextWords.{by_notices, is_filling}
use Rattle.replay.specs.Text.{moments, line_does}
use Rattle.replay.specs.LineCalls.{hub_calls}
use Rattle.replay.specs.Askings.{AreOrdered, calls_asks, line_asks}
use Rattle.replay.specs.KeptWorlds.{KeptSeat, Parties, StandsForSeat, StandsForWorld, IsWorld, RunsLine, seated, words_in, words_seated}
use Rattle.replay.specs.KeptSeats.{has_word}
use Rattle.replay.specs.TwoWorlds.{Worlds, carry_of, carry_words, line_of_relayed, held_of, closes_at, closes_of_both}
use Rattle.replay.specs.declared.world.World as program_worlds
use Rattle.replay.specs.declared.two_worlds.Worlds as program

pub record AreWorlds (kept : program.Worlds) (worlds : Worlds) : Type 0 where
  pub near : IsWorld kept.near worlds.near
  pub far : IsWorld kept.far worlds.far
  pub apex : kept.apex ≡ worlds.apex
  pub order : kept.order.items ≡ worlds.order

-- ---- events

abbrev pub said_in : program_worlds.World → List KnownClient → Event → ScriptLine
said_in world clients event = event_said (words_of world.links.items) (known_clients clients) event

abbrev pub IsNamedIn : program_worlds.World → List KnownClient → Event → Type 0
IsNamedIn world clients event = IsNamed (words_of world.links.items) (known_clients clients) (words_seated (seated world.seats.items)) event

abbrev pub is_at : Event → Bool
is_at (events.Hub event) = is_moment event
is_at _ = false

abbrev pub is_showing : ClientEvent → Bool
is_showing (client_events.Show question written) = true
is_showing _ = false

abbrev pub is_show : Event → Bool
is_show (events.Client number event) = is_showing event
is_show _ = false

-- a client that joins is one of the hub that the event is for
abbrev pub order_with : Bool → List Bool → Event → List Bool
order_with is_far order (events.Joining number) = order ++ is_far ∷ []
order_with is_far order _ = order

-- ---- of one hub

-- an event of the first hub prints what its line prints, and all of the second stays
pub record RunsNear (clients : List KnownClient) (event : Event) (before : program.Worlds) (text : List ℕ) (after : program.Worlds) : Type 0 where
  pub runs : RunsLine by_notices (said_in before.near clients event) before.near text after.near
  pub far : after.far ≡ before.far
  pub apex : after.apex ≡ before.apex
  pub order : after.order.items ≡ order_with false before.order.items event

pub record RunsFar (clients : List KnownClient) (event : Event) (before : program.Worlds) (text : List ℕ) (after : program.Worlds) : Type 0 where
  pub runs : RunsLine by_notices (said_in before.far clients event) before.far text after.far
  pub near : after.near ≡ before.near
  pub apex : after.apex ≡ before.apex
  pub order : after.order.items ≡ order_with true before.order.items event

-- ---- a moment

-- a moment came, of each client its close was told, and links are asked this
pub record HasClosed (t : ℕ) (asked : Askings) (kept : AskingHub) (known : Parties) (told : List (List ℕ)) (world : World) : Type 0 where
  pub closes : told ≡ map ended_lines (closes_at t world)
  pub stands : StandsForWorld kept known (moments t world).0
  pub asks : kept.askings ≡ asked

unfoldable pub ClosesSo : ℕ → AskingHub → Parties → List (List ℕ) → AskingHub → Parties → Type 0
ClosesSo t kept known told later known_later = (world : World) → StandsForWorld kept known world → AreDistinct (words_in world)
    → HasClosed t (calls_asks (hub_calls (hub_events.At t) world) world.hub kept.askings) later known_later told world

-- a moment came for both hubs
pub record HasMoved (t : ℕ) (before : program.Worlds) (text : List ℕ) (after : program.Worlds) (worlds : Worlds) : Type 0 where
  pub printed : text ≡ ended_lines (closes_of_both t worlds)
  pub near : IsWorld after.near (moments t worlds.near).0
  pub far : IsWorld after.far (moments t worlds.far).0
  pub near_asks : after.near.hub.askings ≡ calls_asks (hub_calls (hub_events.At t) worlds.near) worlds.near.hub before.near.hub.askings
  pub far_asks : after.far.hub.askings ≡ calls_asks (hub_calls (hub_events.At t) worlds.far) worlds.far.hub before.far.hub.askings

pub record RunsMoment (t : ℕ) (before : program.Worlds) (text : List ℕ) (after : program.Worlds) : Type 0 where
  pub apex : after.apex ≡ before.apex
  pub order : after.order ≡ before.order
  pub moves : (worlds : Worlds) → AreWorlds before worlds → AreDistinct (words_in worlds.near) → AreDistinct (words_in worlds.far) → HasMoved t before text after worlds

abbrev pub RunsAt : HubEvent → program.Worlds → List ℕ → program.Worlds → Type 0
RunsAt (hub_events.At t) before text after = RunsMoment t before text after
RunsAt _ before text after = ⊥

abbrev pub RunsBoth : Event → program.Worlds → List ℕ → program.Worlds → Type 0
RunsBoth (events.Hub event) before text after = RunsAt event before text after
RunsBoth _ before text after = ⊥

-- ---- a carry

-- an update came, it was answered so, and links are asked this
pub record HasUpdated (message : List ℕ) (asked : Askings) (kept : AskingHub) (known : Parties) (answer : ℕ) (world : World) : Type 0 where
  pub code : answer ≡ (hubs.update world.hub message).0
  pub stands : StandsForWorld kept known (record world { hub = (hubs.update world.hub message).1 })
  pub asks : kept.askings ≡ asked

unfoldable pub UpdatesSo : List ℕ → AskingHub → Parties → ℕ → AskingHub → Parties → Type 0
UpdatesSo message kept known code later known_later = (world : World) → StandsForWorld kept known world → HasUpdated message (calls_asks (hub_calls (hub_events.Update message) world) world.hub kept.askings) later known_later code world

-- whether what a client holds of a question is shown as held
unfoldable pub IsShownHeld : KeptSeat → Question → Bool → Type 0
IsShownHeld kept question shown = (seat : Seat) (id : ℕ) → StandsForSeat kept seat → id_of seat.client question ≡ Some id → shown ≡ cond seat.is_lone false (not (is_filling seat id))

-- the set that the client of a number is shown to hold of all at a name
unfoldable pub HoldsSet : program_worlds.World → ℕ → Question → Option RecordSet → Type 0
HoldsSet kept client question found = (world : World) (w : Word) (name : Labels) → IsWorld kept world → position (has_word w) (seated kept.seats.items) ≡ Some client → question ≡ all_at name → found ≡ held_of by_notices world w name

-- what becomes of it
unfoldable pub Relays : program.Worlds → ℕ → Question → Option Relayed → Type 0
Relays kept client question found = (worlds : Worlds) (w : Word) (name : Labels) → AreWorlds kept worlds → position (has_word w) (seated kept.near.seats.items) ≡ Some client → question ≡ all_at name → found ≡ carry_of by_notices worlds w name

pub record HasCarried (w : Word) (name : Labels) (written : List ℕ) (before : program.Worlds) (text : List ℕ) (after : program.Worlds) (worlds : Worlds) : Type 0 where
  pub printed : text ≡ ended_lines (spaced (carry_words by_notices worlds w name written) ∷ [])
  pub far : IsWorld after.far (line_does by_notices (line_of_relayed (carry_of by_notices worlds w name)) worlds.far).0
  pub asks : after.far.hub.askings ≡ line_asks (line_of_relayed (carry_of by_notices worlds w name)) worlds.far before.far.hub.askings

pub record Carries (w : Word) (question : Question) (written : List ℕ) (before : program.Worlds) (text : List ℕ) (after : program.Worlds) : Type 0 where
  pub near : after.near ≡ before.near
  pub apex : after.apex ≡ before.apex
  pub order : after.order ≡ before.order
  pub carries : (worlds : Worlds) (name : Labels) → AreWorlds before worlds → question ≡ all_at name → HasCarried w name written before text after worlds

abbrev pub CarriesShown : Word → ClientEvent → program.Worlds → List ℕ → program.Worlds → Type 0
CarriesShown w (client_events.Show question written) before text after = Carries w question written before text after
CarriesShown w _ before text after = ⊥

abbrev pub RunsCarry : List KnownClient → Event → program.Worlds → List ℕ → program.Worlds → Type 0
RunsCarry clients (events.Client number event) before text after = CarriesShown (client_at (known_clients clients) number).0 event before text after
RunsCarry clients _ before text after = ⊥

-- ---- turns

abbrev pub FirstIs : (Event → Type 0) → List Event → Type 0
FirstIs P [] = ⊥
FirstIs P (event ∷ events) = P event

-- the first is taken off
abbrev pub Takes : (Event → Type 0) → List Event → List Event → Type 0
Takes P [] later = ⊥
Takes P (event ∷ events) later = P event × (later ≡ events)

-- the clients of each hub, and what is still to happen at it
pub record AreLeft : Type 0 where
  pub near_clients : List KnownClient
  pub near : List Event
  pub far_clients : List KnownClient
  pub far : List Event

pub record HasSameClients (before later : AreLeft) : Type 0 where
  pub near : later.near_clients ≡ before.near_clients
  pub far : later.far_clients ≡ before.far_clients

-- there is an event for it
abbrev pub TurnComes : Turn → program.Worlds → AreLeft → Type 0
TurnComes turns.Near worlds left = FirstIs (λ event. IsNamedIn worlds.near left.near_clients event) left.near
TurnComes turns.Far worlds left = FirstIs (λ event. IsNamedIn worlds.far left.far_clients event) left.far
TurnComes turns.Both worlds left = FirstIs (λ event. is_at event ≡ true) left.near × FirstIs (λ event. Unit {0}) left.far
TurnComes turns.Carry worlds left = FirstIs (λ event. IsNamedIn worlds.near left.near_clients event × (is_show event ≡ true)) left.near

-- the event prints this text
abbrev pub TurnRuns : Turn → program.Worlds → AreLeft → List ℕ → program.Worlds → AreLeft → Type 0
TurnRuns turns.Near before left text after later = Takes (λ event. RunsNear left.near_clients event before text after) left.near later.near × (later.far ≡ left.far)
TurnRuns turns.Far before left text after later = Takes (λ event. RunsFar left.far_clients event before text after) left.far later.far × (later.near ≡ left.near)
TurnRuns turns.Both before left text after later = Takes (λ event. RunsBoth event before text after) left.near later.near × Takes (λ event. Unit {0}) left.far later.far
TurnRuns turns.Carry before left text after later = Takes (λ event. RunsCarry left.near_clients event before text after) left.near later.near × (later.far ≡ left.far)

-- ---- scripts

pub record TellsLines (lines : List WholeLine) (script : WholeScript) : Type 0 where
  pub near : IsScript (near_lines lines) script.near
  pub far : IsScript (far_heads lines) script.far
  pub apex : apex_in lines ≡ script.apex
  pub turns : turns_from [] lines ≡ script.turns.items
