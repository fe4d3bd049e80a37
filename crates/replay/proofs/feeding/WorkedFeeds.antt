-- The law on what lone clients are fed has scripts of which it speaks: one in which a message of a single octet, too short for a header, comes in two lines. The second closes the client.
use Rattle.std.proofs.Common.{◌≡◌, ℕ, true, List, [], ◌∷◌, ◌++◌, codes, Some, None, refl}
use Rattle.dsosession.specs.declared.session.CloseReason.TheVariants as closes
use Rattle.pushclient.specs.Clients.{Client, new_connection, closed_as}
use Rattle.scripts.specs.Lines.{joining, open_connection, feed}
use Rattle.replay.specs.World.{Seat, new_seat}
use Rattle.replay.specs.FedLines.{Fed, FeedsLone, reacted_to, fed_lines}

abbrev script : List ℕ
script = codes "lone l" ++ 10 ∷ (codes "open l" ++ 10 ∷ (codes "feed l 00" ++ 10 ∷ (codes "feed l 0100" ++ 10 ∷ [])))

-- the client behind the first of the two
abbrev client : Client
client = record { wishes = []; connection = Some (record (new_connection 0) { input = 0 ∷ [] }); now = 0 }

abbrev seat : Seat
seat = record (new_seat (codes "l") true) { client = client }

abbrev fed : Fed
fed = record { before = joining (codes "l") true ∷ open_connection (codes "l") ∷ feed (codes "l") (0 ∷ []) ∷ []; word = codes "l"; octets = 1 ∷ 0 ∷ []; behind = []; seat = seat }

feeds : FeedsLone script fed
feeds = record { read = refl; there = refl; lone = refl; connects = refl }

closes_as_short : closed_as (reacted_to fed).client ≡ Some closes.Short
closes_as_short = refl

printed : fed_lines fed ≡ codes "bytes l -" ∷ codes "closed l short" ∷ []
printed = refl
