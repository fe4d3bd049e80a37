-- Words for worked rows: a client that asks one question.
use Rattle.std.specs.Prelude.{ℕ, List, length}
use Rattle.dnsname.specs.Text.{name}
use Rattle.pushclient.specs.Clients.{Client, new_client, connected, subscribe, unsubscribe, take_octets, output_of, give_octets}
use Rattle.pushclient.specs.Steps.{moment}
use Rattle.pushclient.specs.Pieces.{steps_over}

abbrev pub asking : List ℕ → ℕ → Client
asking owner kind = connected 0 (subscribe new_client (record { name = name owner; kind = kind; class = 1 })).1

abbrev pub dropping : List ℕ → ℕ → Client → Client
dropping owner kind client = (unsubscribe client (record { name = name owner; kind = kind; class = 1 })).1

-- what was to be sent is sent, octets come, and at most four messages are stepped over
abbrev pub fed : List ℕ → Client → Client
fed octets client = (steps_over 4 (take_octets octets (give_octets (length (output_of client)) client))).client

abbrev pub later : ℕ → Client → Client
later t client = moment client t
