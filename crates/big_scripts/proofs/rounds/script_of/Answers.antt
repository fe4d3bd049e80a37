use Rattle.std.proofs.Common.{◌≡◌, ◌∙◌, ap, arith}
use Rattle.big_scripts.proofs.Making.{front_of, closed}
use Rattle.big_scripts.proofs.rounds.script_of.Goals as goal

pub returns : goal.returns
returns c =
    let all : c.rounds.before ≡ c.args.rounds = omega (arith, c.rounds-test.false, c.rounds.auto.before-end) in
    c.from_vec.ensures ∙ closed c.args.rounds _ _ (c.rounds.invariant ∙ ap front_of all) c.in_ok-extend_from_slice-2.ensures.items
