use Rattle.std.proofs.Common.{None, refl, arith}
use Rattle.scripts.specs.declared.whole_script.WholeDraft.{WholeDraft}
use Rattle.scripts.proofs.wholes.Taken.{IsBegun, AllTaken, Finishes, behind_is, told, outside, ends}
use Rattle.scripts.proofs.whole_script.read_whole_script.Goals as goal

pub overflow_sub-behind : goal.overflow_sub-behind
overflow_sub-behind c =
    let octets = c.args.octets.now in
    let draft = c.take_lines.new.draft in
    let before : WholeDraft = record { near = c.new.result; far = c.new-2.result; apex = None; turns = c.new-3.result; clients = c.in_ok-named.named.clients; carriers = c.in_ok-named.named.carriers } in
    let is : IsBegun octets before = record { clients = c.in_ok-named.ensures.clients; carriers = c.in_ok-named.ensures.carriers; near = c.new.ensures; far = c.new-2.ensures; apex = refl; turns = c.new-3.ensures.items } in
    let all : AllTaken octets draft c.in-All.behind = told octets before draft _ is c.in_ok-taken.ensures _ c.in-All.is in
    let behind = behind_is octets draft c.in-All.behind all in
    omega (arith, behind)

pub returns-in-All : goal.returns-in-All
returns-in-All c =
    let octets = c.args.octets.now in
    let draft = c.take_lines.new.draft in
    let before : WholeDraft = record { near = c.new.result; far = c.new-2.result; apex = None; turns = c.new-3.result; clients = c.in_ok-named.named.clients; carriers = c.in_ok-named.named.carriers } in
    let is : IsBegun octets before = record { clients = c.in_ok-named.ensures.clients; carriers = c.in_ok-named.ensures.carriers; near = c.new.ensures; far = c.new-2.ensures; apex = refl; turns = c.new-3.ensures.items } in
    let all : AllTaken octets draft c.in-All.behind = told octets before draft _ is c.in_ok-taken.ensures _ c.in-All.is in
    let behind = behind_is octets draft c.in-All.behind all in
    let of : Finishes draft _ c.finish.result = record { near = c.finish.ensures.near; far = c.finish.ensures.far; apex = c.finish.ensures.apex; turns = c.finish.ensures.turns } in
    ends octets draft c.in-All.behind _ c.finish.result of (omega (arith, behind)) all

pub returns-in-Outside : goal.returns-in-Outside
returns-in-Outside c =
    let octets = c.args.octets.now in
    let draft = c.take_lines.new.draft in
    let before : WholeDraft = record { near = c.new.result; far = c.new-2.result; apex = None; turns = c.new-3.result; clients = c.in_ok-named.named.clients; carriers = c.in_ok-named.named.carriers } in
    let is : IsBegun octets before = record { clients = c.in_ok-named.ensures.clients; carriers = c.in_ok-named.ensures.carriers; near = c.new.ensures; far = c.new-2.ensures; apex = refl; turns = c.new-3.ensures.items } in
    outside octets c.in-Outside.number (told octets before draft _ is c.in_ok-taken.ensures _ c.in-Outside.is)
