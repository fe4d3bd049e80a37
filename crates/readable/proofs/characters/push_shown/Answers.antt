use Rattle.std.proofs.Common.{◌-◌}
use Rattle.readable.specs.Shown.{shown}
use Rattle.std.proofs.Common.{◌∙◌, ◌++◌, ap, drop, ℕ, arith}
use Rattle.readable.proofs.Showing.{one_fewer, character_more}
use Rattle.readable.proofs.characters.push_shown.Goals as goal

pub characters-preserved : goal.characters-preserved
characters-preserved c =
    character_more c.characters.out.items c.push_first.new.out.items (c.args.out.now.items ++ shown c.args.dots c.args.text.now) c.characters.rest.now c.behind-rest.result.now c.characters.left (c.characters.left - 1) c.args.dots
    (omega (arith, c.characters-test.true)) c.in_ok-push_first.ensures (c.behind-rest.ensures ∙ ap (λ (n : ℕ). drop n c.characters.rest.now) c.first_size.ensures) c.characters.invariant
