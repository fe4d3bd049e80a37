-- The lines of clients by what is matched, and that they leave the peers.
--     asks_by, opens_by, opens_as, hub_opens      by the client, by whether it is connected and a lone one, and by the session
--     peers-asks, peers-opens      the peers
use Rattle.std.proofs.Common.{◌≡◌, ℕ, Bool, true, false, cond, [], ◌∷◌, Option, Some, None, refl, codes}
use Rattle.pushserver.specs.Hubs.{now, connect}
use Rattle.pushclient.specs.Clients.{connected, is_connected}
use Rattle.scripts.specs.Lines.{Word}
use Rattle.scripts.specs.declared.line.Call.{Call}
use Rattle.replay.specs.World.{Seat, World, seat_of, with_seat}
use Rattle.replay.specs.Text.{Printed, quietly, printing, call_word, called, asks, opens_lone, opens_hub, opens}

abbrev pub asks_by : Call → Word → World → Option Seat → Printed
asks_by call w world o = elim o as (λ _. Printed) [
  | None ↦ quietly world
  | Some seat ↦ printing (call_word call ∷ w ∷ (called call seat.client).0 ∷ []) (with_seat (record seat { client = (called call seat.client).1 }) world)
]

pub peers-asks : (call : Call) (w : Word) (world : World) → (asks call w world).0.peers ≡ world.peers
peers-asks call w world = by (seat_of world w)
  where
    by : (o : Option Seat) → (asks_by call w world o).0.peers ≡ world.peers
    by None = refl
    by (Some seat) = refl

abbrev pub hub_opens : Seat → World → Option ℕ → Printed
hub_opens seat world o = elim o as (λ _. Printed) [
  | None ↦ printing (codes "noseat" ∷ seat.word ∷ []) world
  | Some number ↦ printing (codes "open" ∷ seat.word ∷ []) (with_seat (record seat { client = connected (now world.hub) seat.client; session = Some number }) (record world { hub = (connect world.hub).1 }))
]

abbrev pub opens_as : Word → World → Seat → Bool → Bool → Printed
opens_as w world seat is_open lone = cond is_open (printing (codes "already" ∷ w ∷ []) world) (cond lone (opens_lone seat world) (opens_hub seat world))

abbrev pub opens_by : Word → World → Option Seat → Printed
opens_by w world o = elim o as (λ _. Printed) [ None ↦ quietly world | Some seat ↦ opens_as w world seat (is_connected seat.client) seat.is_lone ]

pub peers-opens : (w : Word) (world : World) → (opens w world).0.peers ≡ world.peers
peers-opens w world = by (seat_of world w)
  where
    by_hub : (seat : Seat) (o : Option ℕ) → (hub_opens seat world o).0.peers ≡ world.peers
    by_hub seat None = refl
    by_hub seat (Some number) = refl

    by_seat : (seat : Seat) (is_open lone : Bool) → (opens_as w world seat is_open lone).0.peers ≡ world.peers
    by_seat seat true lone = refl
    by_seat seat false true = refl
    by_seat seat false false = by_hub seat (connect world.hub).0

    by : (o : Option Seat) → (opens_by w world o).0.peers ≡ world.peers
    by None = refl
    by (Some seat) = by_seat seat (is_connected seat.client) seat.is_lone
