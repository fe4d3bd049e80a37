-- Addresses as text.
--     address_text octets      the text of an address of four or of sixteen octets; nothing for other octets (RFC 1035, 3.4.1; RFC 5952)
use Rattle.std.specs.Prelude.{ℕ, List, [], length, ◌==◌, if◌then◌else◌}
use Rattle.std.specs.Net.Addr.{segments_of}
use Rattle.std.specs.Net.Text.{ipv4_text, ipv6_text}

abbrev pub address_text : List ℕ → List ℕ
address_text octets = if length octets == 4 then ipv4_text octets else (if length octets == 16 then ipv6_text (segments_of octets) else [])
