-- Octets to a client, by whether one has the word, and whether it has a connection.
--     fed octets world seat, fed_words octets seat      what the octets did, and the words of the line
--     fed_over octets world seat      whether the client has closed then
--     feeds_as, feeds_by      the line
use Rattle.std.proofs.Common.{ℕ, Bool, cond, List, [], ◌∷◌, Option, Some, None, codes}
use Rattle.pushclient.specs.Clients.{closed_as, output_of, is_connected}
use Rattle.scripts.specs.Lines.{Word}
use Rattle.replay.specs.World.{Seat, World, with_client, is_over}
use Rattle.replay.specs.PassedOctets.{Passed, passed, reached_by, fed_client}
use Rattle.scripts.specs.Words.{octets_text}
use Rattle.replay.specs.Text.{Printed, quietly, printing, finished}

abbrev pub fed : List ℕ → World → Seat → Passed
fed octets world seat = passed world (with_client (fed_client octets) seat) 0

abbrev pub fed_words : List ℕ → Seat → List (List ℕ)
fed_words octets seat = codes "bytes" ∷ seat.word ∷ octets_text (output_of (reached_by octets seat.client)) ∷ []

-- whether the client has closed then
abbrev pub fed_over : List ℕ → World → Seat → Bool
fed_over octets world seat = (let p = fed octets world seat in is_over p.over (closed_as p.seat.client))

abbrev pub feeds_as : Word → List ℕ → World → Seat → Bool → Printed
feeds_as w octets world seat b = cond b (finished (fed_words octets seat) (fed octets world seat)) (printing (codes "bytes" ∷ w ∷ codes "-" ∷ []) world)

abbrev pub feeds_by : Word → List ℕ → World → Option Seat → Printed
feeds_by w octets world o = elim o as (λ _. Printed) [ None ↦ quietly world | Some seat ↦ feeds_as w octets world seat (is_connected seat.client) ]
