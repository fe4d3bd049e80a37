use Rattle.std.proofs.Common.{◌≡◌, fold, flat_map, drop, map}
use Rattle.std.specs.Hash as fed
use Rattle.std.specs.Char.{to_ascii_lowercase}
use Rattle.dnsname.specs.Caseless.{caseless_octets}
use Rattle.dnsname.proofs.as_key.NameHash.hash.Given as goal

abbrev pub invariant-octets : goal.invariant-octets
invariant-octets g l = fold g.H.Hasher.write l.state (flat_map fed.u8 (map to_ascii_lowercase (drop l.octet-index l.octet-items))) ≡ fold g.H.Hasher.write l.fn.state (flat_map fed.u8 (caseless_octets l.fn.self))
