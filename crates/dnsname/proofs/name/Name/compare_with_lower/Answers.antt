use Rattle.std.proofs.Common.{◌∙◌, ap, map, List, ℕ}
use Rattle.std.specs.Char.{to_ascii_lowercase}
use Rattle.std.specs.Cmp.Lexicographic.{slice_cmp}
use Rattle.std.specs.Ordering.{nat_cmp}
use Rattle.dnsname.specs.Names.{octets}
use Rattle.dnsname.proofs.Spellings.{octets-lower}
use Rattle.dnsname.proofs.name.Name.compare_with_lower.Goals as goal

pub returns : goal.returns
returns c =
    c.compare_with_lower.ensures
    ∙ ap (λ (x : List ℕ). slice_cmp nat_cmp x (map to_ascii_lowercase c.octets-others.result.now)) c.octets-mine.ensures.octets
    ∙ ap (slice_cmp nat_cmp (octets c.args.self.now)) (ap (map to_ascii_lowercase) c.octets-others.ensures.octets ∙ octets-lower c.args.other.now c.octets-others.ensures.name.labels)
