use Rattle.std.proofs.Common.{◌∙◌, ◌+◌, ◌-◌, length, take, drop, arith, length-take, length-drop, take-append-drop}
use Rattle.std.proofs.lemmas.Result.{err_from_is_err_and}
use Rattle.push_base.proofs.Written.{took_more}
use Rattle.push_base.proofs.write.write_all.Goals as goal

pub returns-in_err-count-clause-front : goal.returns-in_err-count-clause-front
returns-in_err-count-clause-front g c =
    let p = err_from_is_err_and c.from_residual.result c.from_residual.ensures.1 in
    let text = c.args.text.now in
    let done = c.loop-done.done in
    rw p.1 (
      take done text,
      c.in_err-count.ensures.taken ∙ c.loop-done.invariant.took,
      (drop done text, take-append-drop done text),
    )

pub returns-then-count-eq0-clause-front : goal.returns-then-count-eq0-clause-front
returns-then-count-eq0-clause-front g c =
    let text = c.args.text.now in
    let end = c.loop-done.done + c.in_ok-count.count in (
      take end text,
      took_more _ _ _ text c.loop-done.done c.in_ok-count.count c.loop-done.invariant.took c.in_ok-count.ensures.taken,
      (drop end text, take-append-drop end text),
    )

pub loop-done-preserved : goal.loop-done-preserved
loop-done-preserved g c =
    let text = c.args.text.now in
    let rest = drop c.loop-done.done text in
    let len = length text - c.loop-done.done in
    record {
      within = omega (arith, c.in_ok-count.ensures.bound, length-take len rest, length-drop c.loop-done.done text, c.loop-done.invariant.within);
      took = took_more _ _ _ text c.loop-done.done c.in_ok-count.count c.loop-done.invariant.took c.in_ok-count.ensures.taken;
      later = omega (arith, c.write.ensures.cause.later, c.loop-done.invariant.later);
    }
