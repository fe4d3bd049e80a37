-- Words for worked texts: a subscriber that asks for the SOA record of example.com.
--     soa_asked messages turns      its configuration
--     answered, pushed      the octets of an answer, and of a PUSH with the record
use Rattle.std.specs.Prelude.{ℕ, List, [], ◌∷◌, ◌++◌, Option, codes}
use Rattle.push_base.specs.Hexadecimal.{hex}
use Rattle.dnsname.specs.Text.{name}
use Rattle.configurations.specs.Configurations.{Subscribing}

abbrev pub soa_asked : Option ℕ → ℕ → Subscribing
soa_asked messages turns = record {
  server = codes "mem";
  questions = record { name = name (codes "example.com."); kind = 6; class = 1 } ∷ [];
  messages = messages;
  turns = turns;
}

abbrev pub soa_rdata : List ℕ
soa_rdata = codes "026e73076578616d706c6503636f6d000a686f73746d6173746572076578616d706c6503636f6d000000000100000e1000000258000151800000003c"

abbrev pub answered : List ℕ
answered = hex (codes "000c0001b0000000000000000000")

abbrev pub pushed : List ℕ
pushed = hex (codes "006300003000000000000000000000410053076578616d706c6503636f6d000006000100000e10003c" ++ soa_rdata)

abbrev pub added_soa : List ℕ
added_soa = codes "add example.com. 3600 1 6 " ++ soa_rdata
