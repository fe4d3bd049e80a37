use Rattle.std.proofs.Common.{◌∙◌, ap, map}
use Rattle.std.specs.Char.{to_ascii_lowercase}
use Rattle.std.specs.Cmp.Lexicographic.{slice_cmp}
use Rattle.std.specs.Ordering.{nat_cmp}
use Rattle.dnsname.proofs.Spellings.{octets-lower}
use Rattle.dnsname.proofs.as_key.NameOrd.cmp.Goals as goal

pub returns : goal.returns
returns c =
    c.compare_in_lower_case.ensures
    ∙ (λ i. slice_cmp nat_cmp (
    (ap (map to_ascii_lowercase) c.octets.ensures.octets ∙ octets-lower c.args.self.now c.octets.ensures.name.labels) i
    ) ((ap (map to_ascii_lowercase) c.octets-2.ensures.octets ∙ octets-lower c.args.other.now c.octets-2.ensures.name.labels) i))
