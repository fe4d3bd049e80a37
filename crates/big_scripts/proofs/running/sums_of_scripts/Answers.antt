use Rattle.std.proofs.Common.{◌≡◌, ◌/◌, refl, arith}
use Rattle.big_scripts.proofs.Totals.{ends}
use Rattle.big_scripts.proofs.running.sums_of_scripts.Goals as goal

pub returns : goal.returns
returns c =
    let all : c.scripts.counter ≡ c.saturating_sub-before.result / 1000 = omega (arith, c.scripts-test.false, c.scripts.auto.counter-end) in
    ends c.args.number c.saturating_sub-before.result c.scripts.counter _ c.scripts.sums c.in_ok-sums_of_rounds-2.field-0 _ c.scripts.invariant c.saturating_sub-before.ensures all refl c.in_ok-sums_of_rounds-2.ensures.exact c.plus.ensures
