use Rattle.std.proofs.Common.{◌<◌, ◌≤◌, length, ap, ◌∙◌, arith}
use Rattle.linkreasons.specs.Changing.{one_unwanted}
use Rattle.linkreasons.proofs.OneAsked.{changed-past, changed-set}
use Rattle.linkreasons.proofs.leaving.drop_one.Goals as goal

pub returns-then-reason-len : goal.returns-then-reason-len
returns-then-reason-len c =
    let many = c.args.links.now.ok.0 in
    let test = c.if-reason-len.true in
    let within : c.args.reason.now.link < length c.args.links.now.items = omega (arith, many, test) in
    changed-set (one_unwanted c.args.reason.now.question) c.args.links.now.items c.args.reason.now.link c.index_mut.result.now c.unwant.new.self within
    (c.unwant.ensures ∙ ap (one_unwanted c.args.reason.now.question) c.index_mut.ensures.value)

pub returns-else-reason-len : goal.returns-else-reason-len
returns-else-reason-len c =
    let many = c.args.links.now.ok.0 in
    let test = c.if-reason-len.false in
    let past : length c.args.links.now.items ≤ c.args.reason.now.link = omega (arith, many, test) in
    changed-past (one_unwanted c.args.reason.now.question) c.args.links.now.items c.args.reason.now.link past
