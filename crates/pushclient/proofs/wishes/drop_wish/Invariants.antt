use Rattle.std.proofs.Common.{◌≡◌}
use Rattle.pushclient.specs.Rule.{dropped_wish}
use Rattle.pushclient.proofs.Turns.{front}
use Rattle.pushclient.proofs.wishes.drop_wish.Given as goal

abbrev pub invariant-wishes : goal.invariant-wishes
invariant-wishes l = l.wishes ≡ front (dropped_wish l.fn.question) l.place l.fn.wishes
