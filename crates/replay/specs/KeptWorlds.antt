-- The world that a run stands for: it has a hub, words of links, peers and clients.
--     named peers      the words of the peers with the numbers of their sessions
--     seated seats, words_seated seats      the clients as they are kept, and their words
--     TellsEnds kept plain      the ends of first answers, counted up to the last number
--     StandsForSeat kept seat      what is kept of a client stands for its seat
--     StandsForWorld kept parties world, IsWorld kept world      what is kept stands for the world
--     HasPrinted asked kept parties text printed      this text was printed, what is kept stands for the world behind it, and links are asked this
--     Acts act calls .., Does act calls before text after      so it is of the act, whatever world is stood for in which each client has its own word
--     Runs records line .., RunsLine records line before text after      so of a line, with what it tells of what a link is asked
use Rattle.std.specs.Prelude.{◌≡◌, ℕ, ◌<◌, Bool, Option, option_map, min, List, [], ◌∷◌, ◌++◌, map, string_bytes}
use Rattle.push_base.specs.Limits.{max_number}
use Rattle.pushserver.specs.Calls.{HubCall}
use Rattle.hubasking.specs.AskingHubs.{AskingHub}
use Rattle.hubasking.specs.LinkAskings.{Askings}
use Rattle.pushclient.specs.Rule as clients
use Rattle.pushclient.specs.Rule.{KeptClient}
use Rattle.inflight.specs.Ends.{told_end}
use Rattle.scripts.specs.Lines.{Word, ScriptLine}
use Rattle.scripts.specs.KeptLines.{words_of}
use Rattle.scripts.specs.Scripts.{AreDistinct}
use Rattle.replay.specs.World.{Seat, World}
use Rattle.replay.specs.TextWords.{HeldRecords}
use Rattle.replay.specs.Text.{Printed, line_does}
use Rattle.replay.specs.Askings.{AreOrdered, calls_asks, line_asks, asked_lines}
use Rattle.replay.specs.KeptAskings as hubs
use Rattle.scripts.specs.Words.{ended_lines}
use Rattle.replay.specs.declared.world.Peer.{Peer}
use Rattle.replay.specs.declared.seats.Seat as program_seats
use Rattle.replay.specs.declared.world.World as program

abbrev pub Named : Type 0
Named = List (Word × ℕ)

abbrev pub named : List Peer → Named
named peers = map (λ (p : Peer). (string_bytes p.word, p.session)) peers

-- a client as it is kept: its word, whether it is a lone one, the client, and what there is of the connection
pub record KeptSeat : Type 0 where
  pub word : Word
  pub is_lone : Bool
  pub client : KeptClient
  pub session : Option ℕ
  pub up_wire : List ℕ
  pub down_wire : List ℕ
  pub reached : ℕ
  pub filled : List (ℕ × ℕ)

abbrev pub Seated : Type 0
Seated = List KeptSeat

abbrev pub seat_kept : program_seats.Seat → KeptSeat
seat_kept s = record {
  word = string_bytes s.word;
  is_lone = s.is_lone;
  client = s.client;
  session = s.session;
  up_wire = s.up_wire.items;
  down_wire = s.down_wire.items;
  reached = s.reached;
  filled = s.filled.items;
}

abbrev pub seated : List program_seats.Seat → Seated
seated seats = map seat_kept seats

abbrev pub words_seated : Seated → List Word
words_seated seats = map (λ (s : KeptSeat). s.word) seats

-- the words of the links, the peers and the clients
pub record Parties : Type 0 where
  pub links : List Word
  pub peers : Named
  pub seats : Seated

abbrev pub parties_of : program.World → Parties
parties_of kept = record { links = words_of kept.links.items; peers = named kept.peers.items; seats = seated kept.seats.items }

-- of each ID the end of the first answer that was told last, counted up to the last number
abbrev pub TellsEnds : List (ℕ × ℕ) → List (ℕ × ℕ) → Type 0
TellsEnds kept plain = (id : ℕ) → told_end kept id ≡ option_map (λ n. min n max_number) (told_end plain id)

-- What is kept of a client stands for its seat. Fewer octets have reached it than the last number.
pub record StandsForSeat (kept : KeptSeat) (seat : Seat) : Type 0 where
  pub word : kept.word ≡ seat.word
  pub is_lone : kept.is_lone ≡ seat.is_lone
  pub client : clients.StandsFor kept.client seat.client
  pub session : kept.session ≡ seat.session
  pub up_wire : kept.up_wire ≡ seat.up_wire
  pub down_wire : kept.down_wire ≡ seat.down_wire
  pub reached : kept.reached ≡ seat.reached
  pub few : kept.reached < max_number
  pub filled : TellsEnds kept.filled seat.filled

-- each for its seat
abbrev pub StandForSeats : Seated → List Seat → Type 0
StandForSeats [] [] = Unit {0}
StandForSeats (k ∷ ks) (s ∷ ss) = StandsForSeat k s × StandForSeats ks ss
StandForSeats _ _ = ⊥

abbrev pub words_in : World → List Word
words_in world = map (λ (s : Seat). s.word) world.seats

-- a hub, words, peers and clients that are kept stand for a world
pub record StandsForWorld (kept : AskingHub) (known : Parties) (world : World) : Type 0 where
  pub hub : hubs.StandsFor kept world.hub
  pub peers : known.peers ≡ world.peers
  pub seats : StandForSeats known.seats world.seats
  pub links : known.links ≡ world.links

abbrev pub IsWorld : program.World → World → Type 0
IsWorld kept world = StandsForWorld kept.hub (parties_of kept) world

-- this text was printed, what is kept stands for the world behind it, and links are asked this
pub record HasPrinted (asked : Askings) (kept : AskingHub) (known : Parties) (written : List ℕ) (printed : Printed) : Type 0 where
  pub text : written ≡ ended_lines printed.1
  pub stands : StandsForWorld kept known printed.0
  pub asks : kept.askings ≡ asked

unfoldable pub Acts : (World → Printed) → (World → List HubCall) → AskingHub → Parties → List ℕ → AskingHub → Parties → Type 0
Acts act calls kept known written later known_later = (world : World) → StandsForWorld kept known world → AreDistinct (words_in world) → HasPrinted (calls_asks (calls world) world.hub kept.askings) later known_later written (act world)

-- whatever world is stood for, the act prints this text in it, and these are its calls of the hub
abbrev pub Does : (World → Printed) → (World → List HubCall) → program.World → List ℕ → program.World → Type 0
Does act calls before written after = Acts act calls before.hub (parties_of before) written after.hub (parties_of after)

-- so of a line, with what it tells of what a link is asked, where questions are in order
unfoldable pub Runs : HeldRecords → ScriptLine → AskingHub → Parties → List ℕ → AskingHub → Parties → Type 0
Runs records line kept known written later known_later = (world : World) → StandsForWorld kept known world → AreDistinct (words_in world) → AreOrdered kept.askings
    → HasPrinted (line_asks line world kept.askings) later known_later written (let one = line_does records line world in (one.0, one.1 ++ asked_lines line world kept.askings))

abbrev pub RunsLine : HeldRecords → ScriptLine → program.World → List ℕ → program.World → Type 0
RunsLine records line before written after = Runs records line before.hub (parties_of before) written after.hub (parties_of after)
