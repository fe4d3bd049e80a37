use Rattle.std.proofs.Common.{◌<◌, ◌≤◌, length, Some, None, arith}
use Rattle.std.specs.Prelude.{if◌then◌else◌}
use Rattle.linkask.specs.Bounds.{AreBounds}
use Rattle.linkreasons.specs.AllReasons.{ReasonsOfLink}
use Rattle.linkreasons.proofs.OneAsked.{asked-nowhere, asked-read, asks-nowhere, asks-read, holds-read, same-read}
use Rattle.linkreasons.proofs.asked_links.ask_on.Goals as goal

pub returns-then-link-len-clause-links : goal.returns-then-link-len-clause-links
returns-then-link-len-clause-links c =
    let many = c.args.links.now.ok.0 in
    let test = c.if-link-len.true in
    let past : length c.args.links.now.items ≤ c.args.link = omega (arith, many, test) in
    asked-nowhere c.args.cache.now.state.rows c.args.links.now.items c.args.link past

pub returns-then-link-len-clause-ok : goal.returns-then-link-len-clause-ok
returns-then-link-len-clause-ok c =
    let many = c.args.links.now.ok.0 in
    let test = c.if-link-len.true in
    let past : length c.args.links.now.items ≤ c.args.link = omega (arith, many, test) in
    asks-nowhere c.args.cache.now.state.rows c.args.now c.args.links.now.items c.args.link past

pub next-requires-clause-bounds : goal.next-requires-clause-bounds
next-requires-clause-bounds c =
    let many = c.args.links.now.ok.0 in
    let test = c.if-link-len.false in
    let within : c.args.link < length c.args.links.now.items = omega (arith, many, test) in
    holds-read (λ (l : ReasonsOfLink). AreBounds c.args.cache.now.state.rows l.kept) c.args.links.now.items c.args.link c.index_mut.result.now within c.index_mut.ensures.value c.requires.bounds

pub returns-clause-links : goal.returns-clause-links
returns-clause-links c =
    let many = c.args.links.now.ok.0 in
    let test = c.if-link-len.false in
    let within : c.args.link < length c.args.links.now.items = omega (arith, many, test) in
    asked-read c.args.cache.now.state.rows c.args.links.now.items c.args.link c.index_mut.result.now c.next.new.self within c.index_mut.ensures.value
    (record { reasons = c.next.ensures.reasons; bounds = c.next.ensures.bounds; reconfirmed = c.next.ensures.rows })

pub returns-clause-ok : goal.returns-clause-ok
returns-clause-ok c =
    let many = c.args.links.now.ok.0 in
    let test = c.if-link-len.false in
    let within : c.args.link < length c.args.links.now.items = omega (arith, many, test) in
    asks-read c.args.cache.now.state.rows c.args.now c.args.links.now.items c.args.link c.index_mut.result.now c.next.new.self (λ found. if found then Some c.next.new.out.items else None) c.next.result within c.index_mut.ensures.value c.next.ensures.rows c.next.ensures.ok

pub returns-clause-err : goal.returns-clause-err
returns-clause-err c =
    let many = c.args.links.now.ok.0 in
    let test = c.if-link-len.false in
    let within : c.args.link < length c.args.links.now.items = omega (arith, many, test) in
    same-read c.args.cache.now.state.rows c.args.links.now.items c.args.link c.index_mut.result.now c.next.new.self c.next.result within c.index_mut.ensures.value c.next.ensures.rows c.next.ensures.err
