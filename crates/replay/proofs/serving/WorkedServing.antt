-- The promise to who subscribes has scripts of which it speaks: one with a zone and a peer that asks for its SOA.
use Rattle.std.proofs.Common.{ℕ, true, List, [], ◌∷◌, ◌++◌, drop, codes, refl}
use Rattle.push_base.specs.Hexadecimal.{hex}
use Rattle.dnsname.specs.Text.{name}
use Rattle.scripts.specs.Lines.{zone, head_line}
use Rattle.replay.specs.Serving.{Asked, AsksFirst}

abbrev pub frame_sent : List ℕ
frame_sent = hex (codes "002100013000000000000000000000400011076578616d706c6503636f6d0000060001")

abbrev script : List ℕ
script = codes "zone example.com. 1 open" ++ 10 ∷ (codes "send p 002100013000000000000000000000400011076578616d706c6503636f6d0000060001" ++ 10 ∷ [])

abbrev asked : Asked
asked = record {
  before = head_line (zone (name (codes "example.com.")) 1 true) ∷ [];
  word = codes "p";
  octets = frame_sent;
  message = drop 2 frame_sent;
  question = record { name = name (codes "example.com."); kind = 6; class = 1 };
  behind = [];
}

asks : AsksFirst script asked
asks = record {
  read = refl;
  new_peer = refl;
  seat = refl;
  found = refl;
  acceptable = record { request = refl; accepted = refl };
}
