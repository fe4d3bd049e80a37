-- Texts and configurations for examples.
--     text lines      these lines, with a line feed behind each
--     served, asking      texts of all kinds of lines
use Rattle.std.specs.Prelude.{ℕ, true, List, [], ◌∷◌, ◌++◌, Some, codes}
use Rattle.dnsname.specs.Text.{name}
use Rattle.zoneupdate.specs.Zones.{new_zone}
use Rattle.rrset.specs.declared.record.Question.{Question}
use Rattle.configurations.specs.Configurations.{Serving, Subscribing}

abbrev pub text : List (List ℕ) → List ℕ
text [] = []
text (line ∷ lines) = line ++ 10 ∷ text lines

-- of a server: the last line has no line feed
abbrev pub served : List ℕ
served = text (codes "listen here" ∷ codes "#here" ∷ [] ∷ codes "timers 20000 10000" ∷ codes "zone example.com. 7 open" ∷ codes "link lan lan.example.com. 120" ∷ codes "reverse lan 2.0.192.in-addr.arpa." ∷ codes "feed lan here" ∷ []) ++ codes "sessions 1000000"

abbrev pub serving : Serving
serving = record {
  head = record {
    timers = record { inactivity = 20000; keepalive = 10000 };
    start = record { zones = new_zone (name (codes "example.com.")) 7 true ∷ []; links = (record { rules = record { domain = name (codes "lan.example.com."); reverses = name (codes "2.0.192.in-addr.arpa.") ∷ []; cap = 120 }; rows = [] }) ∷ []; now = 0 };
    links = codes "lan" ∷ [];
  };
  listen = codes "here";
  sessions = 1000000;
  feeds = (0, codes "here") ∷ [];
  turns = 1099511627776;
}

-- of a subscriber
abbrev pub asking : List ℕ
asking = text (codes "question example.com. 6 1" ∷ codes "messages 0" ∷ codes "question example.com. 255 255" ∷ codes "server here" ∷ codes "turns 3" ∷ [])

abbrev pub soa : Question
soa = record { name = name (codes "example.com."); kind = 6; class = 1 }

abbrev pub all_records : Question
all_records = record soa { kind = 255; class = 255 }

abbrev pub subscribing : Subscribing
subscribing = record { server = codes "here"; questions = soa ∷ all_records ∷ []; messages = Some 0; turns = 3 }
