use Rattle.std.proofs.Common.{◌∙◌, ap, flat_map, fold, map}
use Rattle.std.specs.Char.{to_ascii_lowercase}
use Rattle.std.specs.Hash as fed
use Rattle.dnsname.proofs.Spellings.{octets-lower}
use Rattle.dnsname.proofs.as_key.NameHash.hash.Goals as goal

pub octets-init : goal.octets-init
octets-init g c =
    ap (λ os. fold g.H.Hasher.write c.args.state.now (flat_map fed.u8 os))
    (ap (map to_ascii_lowercase) c.octets-octet-items.ensures.octets ∙ octets-lower c.args.self.now c.octets-octet-items.ensures.name.labels)
