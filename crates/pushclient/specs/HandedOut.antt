-- All that a client has to send is handed out.
--     without_output client      the client without what it had to send
--     IsHandedOut plain octets later, HandsOut kept octets later      all that a client has to send was handed out
use Rattle.std.specs.Prelude.{◌≡◌, ℕ, List, length}
use Rattle.pushclient.specs.Clients.{Client, output_of, give_octets}
use Rattle.pushclient.specs.Rule.{KeptClient, StandsFor}

abbrev pub without_output : Client → Client
without_output client = give_octets (length (output_of client)) client

-- these octets are all that the client had to send
pub record IsHandedOut (plain : Client) (octets : List ℕ) (later : KeptClient) : Type 0 where
  pub all : octets ≡ output_of plain
  pub stands : StandsFor later (without_output plain)

unfoldable pub HandsOut : KeptClient → List ℕ → KeptClient → Type 0
HandsOut kept octets later = (plain : Client) → StandsFor kept plain → IsHandedOut plain octets later
