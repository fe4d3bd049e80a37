use Rattle.std.proofs.Common.{◌<◌, ◌≤◌, length, ap, ◌∙◌, arith}
use Rattle.linkreasons.specs.Changing.{heard_by}
use Rattle.linkreasons.proofs.OneAsked.{changed-past, changed-set}
use Rattle.linkreasons.proofs.asked_links.hear_on.Goals as goal

pub returns-then-link-len : goal.returns-then-link-len
returns-then-link-len c =
    let many = c.args.links.now.ok.0 in
    let test = c.if-link-len.true in
    let within : c.args.link < length c.args.links.now.items = omega (arith, many, test) in
    changed-set (heard_by c.args.now c.args.hearing.now) c.args.links.now.items c.args.link c.index_mut.result.now c.heard.new.self within (c.heard.ensures ∙ ap (heard_by c.args.now c.args.hearing.now) c.index_mut.ensures.value)

pub returns-else-link-len : goal.returns-else-link-len
returns-else-link-len c =
    let many = c.args.links.now.ok.0 in
    let test = c.if-link-len.false in
    let past : length c.args.links.now.items ≤ c.args.link = omega (arith, many, test) in
    changed-past (heard_by c.args.now c.args.hearing.now) c.args.links.now.items c.args.link past
