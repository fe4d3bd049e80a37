use Rattle.std.proofs.Common.{◌≡◌, Some, None, map, ap, ◌∙◌}
use Rattle.std.specs.Char.{to_ascii_lowercase}
use Rattle.dnsname.specs.Names.{lower, octets}
use Rattle.dnsname.proofs.Spellings.{octets-lower}
use Rattle.recordindex.proofs.Keeping.{answers}
use Rattle.recordindex.proofs.suffixes.below_in.Goals as goal

pub returns-in-Some : goal.returns-in-Some
returns-in-Some c = λ names low agrees.
    let spelled : c.split_at.result.0.now ≡ octets (lower c.args.name.now) =
    c.split_at.ensures.front ∙ c.write_in_lower_case.ensures.lower
    ∙ ap (map to_ascii_lowercase) c.octets-spelled.ensures.octets ∙ octets-lower c.args.name.now c.octets-spelled.ensures.name.labels in
    answers c.args.name.now names c.args.endings.now.entries c.split_at.result.0.now (Some c.in-Some.count.now) agrees low c.requires c.len.ensures.ordered spelled c.in-Some.ensures.value

pub returns-in-None : goal.returns-in-None
returns-in-None c = λ names low agrees.
    let spelled : c.split_at.result.0.now ≡ octets (lower c.args.name.now) =
    c.split_at.ensures.front ∙ c.write_in_lower_case.ensures.lower
    ∙ ap (map to_ascii_lowercase) c.octets-spelled.ensures.octets ∙ octets-lower c.args.name.now c.octets-spelled.ensures.name.labels in
    answers c.args.name.now names c.args.endings.now.entries c.split_at.result.0.now None agrees low c.requires c.len.ensures.ordered spelled c.in-None.ensures.value
