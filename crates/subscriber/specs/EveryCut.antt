-- Where the clock stands still, what is said depends on the octets alone, however they were cut (RFC 7766, 8).
--     octets_in reads, said_of configuration t octets      the octets of all reads; what is said of octets
--     StandsStill, IsIdle      the clock's moments are all the same; the client has closed as idle
--     SaysTheOctets, EndsTheOctets, SaysTheSame      the laws
use Rattle.std.specs.Prelude.{◌≡◌, ℕ, ◌<◌, Bool, true, false, List, [], ◌∷◌, ◌++◌, length, flat_map, Some, All}
use Rattle.std.specs.List.{list_all}
use Rattle.push_base.specs.Line.{Read, bytes, quiet, end_of_line}
use Rattle.dsotlv.specs.Messages.{messages_in}
use Rattle.dsosession.specs.declared.session.CloseReason.TheVariants as closes
use Rattle.pushclient.specs.Clients.{closed_as}
use Rattle.configurations.specs.Configurations.{Subscribing}
use Rattle.subscriber.specs.Said.{Saying, counted, takes_messages, takes_read, writes_out, connected_at, saying, said}

abbrev pub octets_of : Read → List ℕ
octets_of (bytes octets) = octets
octets_of quiet = []
octets_of end_of_line = []

abbrev pub octets_in : List Read → List ℕ
octets_in reads = flat_map octets_of reads

-- the line isn't at its end
abbrev pub goes_on : Read → Bool
goes_on (bytes octets) = true
goes_on quiet = true
goes_on end_of_line = false

abbrev pub go_on : List Read → Bool
go_on reads = list_all goes_on reads

-- what is said of the whole messages in octets, one after the other, by a client that was connected at a moment
abbrev pub said_of : Subscribing → ℕ → List ℕ → Saying
said_of configuration t octets = takes_messages (messages_in octets).0 (counted (writes_out (connected_at configuration t)))

-- and then the line is at its end
abbrev pub ended : Saying → Saying
ended s = elim s.over [ true ↦ s | false ↦ takes_read end_of_line s ]

abbrev pub StandsStill : ℕ → List ℕ → Type 0
StandsStill t moments = All (λ u. u ≡ t) moments

abbrev pub IsIdle : Saying → Type 0
IsIdle s = closed_as s.client ≡ Some closes.Idle

-- the clock stands still, the client doesn't close as idle, and the turns aren't used up
pub record IsStill (configuration : Subscribing) (t : ℕ) (reads : List Read) (moments : List ℕ) : Type 0 where
  pub still : StandsStill t moments
  pub busy : IsIdle (saying configuration reads (t ∷ moments)) → ⊥
  pub unspent : length reads < configuration.turns

abbrev pub SaysTheOctets : Type 0
SaysTheOctets = (configuration : Subscribing) (t : ℕ) (reads : List Read) (moments : List ℕ) → go_on reads ≡ true → IsStill configuration t reads moments
    → said configuration reads (t ∷ moments) ≡ (said_of configuration t (octets_in reads)).lines

-- so it is where the line is at its end behind them
abbrev pub EndsTheOctets : Type 0
EndsTheOctets = (configuration : Subscribing) (t : ℕ) (reads : List Read) (moments : List ℕ) → go_on reads ≡ true → IsStill configuration t reads moments
    → said configuration (reads ++ end_of_line ∷ []) (t ∷ moments) ≡ (ended (said_of configuration t (octets_in reads))).lines

-- two cuts of the same octets
abbrev pub SaysTheSame : Type 0
SaysTheSame = (configuration : Subscribing) (t : ℕ) (first second : List Read) (moments others : List ℕ) → go_on first ≡ true → go_on second ≡ true → octets_in first ≡ octets_in second
    → IsStill configuration t first moments → IsStill configuration t second others
    → (said configuration first (t ∷ moments) ≡ said configuration second (t ∷ others))
    × (said configuration (first ++ end_of_line ∷ []) (t ∷ moments) ≡ said configuration (second ++ end_of_line ∷ []) (t ∷ others))
