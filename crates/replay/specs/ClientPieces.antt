-- That what a script delivers to a client is taken as pieces of octets are (RFC 7766, 8; RFC 8490, 5.4).
--     delivered_all pieces client      a client to which pieces are delivered, one after the other, and what it didn't take
--     fed_all pieces client      the same with what it has to send, which is taken from it after each
--     DeliversPieces, FeedsPieces      it is what the client said and did that stepped over these pieces
use Rattle.std.specs.Prelude.{◌≡◌, ◌<◌, ℕ, List, [], ◌∷◌, ◌++◌, length}
use Rattle.std.specs.List.{concat}
use Rattle.dsotlv.specs.Laws.{AreOctets}
use Rattle.pushclient.specs.Clients.{Client, Connection, output_of}
use Rattle.pushclient.specs.Pieces.{on_pieces, says_to, WaitsForOctets}
use Rattle.replay.specs.PassedOctets.{to_client, enough}
use Rattle.pushclient.specs.HandedOut.{without_output}

abbrev pub delivered_all : List (List ℕ) → Client → Client × List ℕ
delivered_all [] client = (client, [])
delivered_all (piece ∷ pieces) client = (let d = to_client piece client in let later = delivered_all pieces d.client in (later.0, d.left ++ later.1))

-- What is told of pieces in `pushclient` is so of what `feed`, `down` and `settle` deliver: a client answers the whole messages in its
-- octets, in whatever pieces they come.
abbrev pub DeliversPieces : Type 0
DeliversPieces = (pieces : List (List ℕ)) (client : Client) (c : Connection) → WaitsForOctets client c → AreOctets (c.input ++ concat pieces) → length (c.input ++ concat pieces) < enough
    → delivered_all pieces client ≡ ((on_pieces enough pieces client).client, (on_pieces enough pieces client).left)

-- pieces of lines `feed`: after each all that the client has to send is taken from it. What was taken, the client, and what it didn't take
abbrev pub fed_all : List (List ℕ) → Client → List ℕ × Client × List ℕ
fed_all [] client = ([], client, [])
fed_all (piece ∷ pieces) client = (
    let d = to_client piece client in
    let said = output_of d.client in
    let later = fed_all pieces (without_output d.client) in
    (said ++ later.0, later.1, d.left ++ later.2))

abbrev pub FeedsPieces : Type 0
FeedsPieces = (pieces : List (List ℕ)) (client : Client) (c : Connection) → WaitsForOctets client c → AreOctets (c.input ++ concat pieces) → length (c.input ++ concat pieces) < enough
    → (let said = says_to enough pieces client in fed_all pieces client ≡ (said.0, said.1.client, said.1.left))
