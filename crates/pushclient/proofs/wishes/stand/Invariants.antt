use Rattle.std.proofs.Common.{◌≡◌}
use Rattle.pushclient.specs.Rule.{standing_of, stood_wish}
use Rattle.pushclient.proofs.Turns.{front}
use Rattle.pushclient.proofs.wishes.stand.Given as goal

abbrev pub invariant-wishes : goal.invariant-wishes
invariant-wishes l = l.wishes ≡ front (stood_wish l.fn.question (standing_of l.fn.standing)) l.place l.fn.wishes
