-- Calls of a client where it stands.
--     has_word w seat      whether a client has that word
--     timed_seat t closing seat      a seat at a moment, at which its client has closed, or hasn't
--     Makes answers next before after, Calls answers next before place later      what a call makes of a seat, and of the one at a place
--     Answers, HasCut, HasFinished, HasTimed      what such calls answer, and the hub behind them
--     TellsConnected seats place answer      whether the client at a place has a connection
--     closing_text w closing      the line of a client that has closed, if it has
--     Times t kept before kept_later later told, TimesWorld kept known later known_later told      the clients at a moment, one after the other, and of each what it tells
use Rattle.std.specs.Prelude.{◌≡◌, ℕ, Bool, cond, List, [], Option, None, fold, map, flat_map, set, get_or}
use Rattle.std.specs.Str.{bytes_eq}
use Rattle.dsosession.specs.declared.session.CloseReason.{CloseReason}
use Rattle.dsosession.specs.declared.session.EndReason.{EndReason}
use Rattle.pushserver.specs.PlainHubs.{Hub}
use Rattle.pushserver.specs.Hubs.{now}
use Rattle.hubasking.specs.AskingHubs.{AskingHub}
use Rattle.hubasking.specs.LinkAskings.{Askings}
use Rattle.pushclient.specs.Clients.{Client, closed_as, is_connected}
use Rattle.pushclient.specs.Steps.{moment}
use Rattle.scripts.specs.Lines.{Word}
use Rattle.replay.specs.World.{World, Seat, with_client, is_over, cut_if, hub_without, hub_cut_if}
use Rattle.replay.specs.Text.{quietly, close_lines, closes_of, timed}
use Rattle.scripts.specs.Words.{ended_lines}
use Rattle.replay.specs.LineCalls.{end_calls, timed_calls}
use Rattle.replay.specs.KeptAskings.{StandsFor, AsksAfter}
use Rattle.replay.specs.KeptWorlds.{KeptSeat, Seated, Parties, StandsForSeat, StandForSeats, words_in}
use Rattle.scripts.specs.Scripts.{AreDistinct}

abbrev pub has_word : Word → KeptSeat → Bool
has_word w k = bytes_eq k.word w

-- a seat at a moment, at which its client has closed, or hasn't
abbrev pub timed_seat : ℕ → Option CloseReason → Seat → Seat
timed_seat t closing seat = cut_if (is_over None closing) (with_client (λ c. moment c t) seat)

-- ---- calls

-- Of every seat that is stood for the call answers so, and what is kept after it stands for what the call makes of it.
pub record Makes (answers : Seat → Type 0) (next : Seat → Seat) (before after : KeptSeat) : Type 0 where
  pub word : after.word ≡ before.word
  pub answer : (seat : Seat) → StandsForSeat before seat → answers seat
  pub stands : (seat : Seat) → StandsForSeat before seat → StandsForSeat after (next seat)

-- A call makes another seat of the one at a place.
pub record Calls (answers : Seat → Type 0) (next : Seat → Seat) (before : Seated) (place : ℕ) (later : Seated) : Type 0 where
  pub seat : KeptSeat
  pub after : KeptSeat
  pub there : seat ≡ get_or before place seat
  pub is : later ≡ set before place after
  pub makes : Makes answers next seat after

-- whether the client at a place has a connection
abbrev pub TellsConnected : Seated → ℕ → Bool → Type 0
TellsConnected seats place answer = (k : KeptSeat) (seat : Seat) → k ≡ get_or seats place k → StandsForSeat k seat → answer ≡ is_connected seat.client

-- the client answers so
abbrev pub Answers : (Client → Type 0) → Seat → Type 0
Answers answers seat = answers seat.client

-- its session is gone from the hub, if it had one
abbrev pub HasCut : AskingHub → AskingHub → Seat → Type 0
HasCut before later seat = (hub : Hub) → StandsFor before hub → StandsFor later (hub_without seat.session hub) × AsksAfter (end_calls seat.session) hub before.askings later.askings

-- once a connection may be over, its client has closed so, or hasn't, and its session is gone where that or an end is told
pub record HasFinished (over : Option EndReason) (closing : Option CloseReason) (before later : AskingHub) (seat : Seat) : Type 0 where
  pub closes : closing ≡ closed_as seat.client
  pub hub : (hub : Hub) → StandsFor before hub → StandsFor later (hub_cut_if (is_over over closing) seat hub) × AsksAfter (cond (is_over over closing) (end_calls seat.session) []) hub before.askings later.askings

-- it has closed at a moment, or hasn't, and its session is gone where it has
pub record HasTimed (t : ℕ) (closing : Option CloseReason) (before later : AskingHub) (seat : Seat) : Type 0 where
  pub closes : closing ≡ closed_as (moment seat.client t)
  pub hub : (hub : Hub) → StandsFor before hub → StandsFor later (hub_cut_if (is_over None closing) seat hub) × AsksAfter (cond (is_over None closing) (end_calls seat.session) []) hub before.askings later.askings

-- ---- clients at a moment

abbrev pub closing_text : Word → Option CloseReason → List ℕ
closing_text w closing = ended_lines (close_lines w closing)

-- In every world that is stood for, each client tells at a moment what was told of it.
pub record IsTimed (t : ℕ) (before : Askings) (kept : AskingHub) (later : Seated) (told : List (List ℕ)) (world : World) : Type 0 where
  pub closes : told ≡ map ended_lines (closes_of t world.seats)
  pub hub : StandsFor kept (fold (timed t) (quietly world) world.seats).0.hub
  pub stands : StandForSeats later (fold (timed t) (quietly world) world.seats).0.seats
  pub asks : AsksAfter (flat_map (timed_calls t) world.seats) world.hub before kept.askings

unfoldable pub Times : ℕ → AskingHub → Seated → AskingHub → Seated → List (List ℕ) → Type 0
Times t kept before kept_later later told = (world : World) → StandsFor kept world.hub → StandForSeats before world.seats → AreDistinct (words_in world) → IsTimed t kept.askings kept_later later told world

-- so at the hub's moment; the links and the peers are the same
pub record TimesWorld (kept : AskingHub) (known : Parties) (later : AskingHub) (known_later : Parties) (told : List (List ℕ)) : Type 0 where
  pub at : ℕ
  pub links : known_later.links ≡ known.links
  pub peers : known_later.peers ≡ known.peers
  pub moment : (hub : Hub) → StandsFor kept hub → at ≡ now hub
  pub times : Times at kept known.seats later known_later.seats told
