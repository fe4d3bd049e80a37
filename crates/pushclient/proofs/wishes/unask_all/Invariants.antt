use Rattle.std.proofs.Common.{◌≡◌}
use Rattle.pushclient.specs.Clients.{unasked}
use Rattle.pushclient.proofs.Turns.{front}
use Rattle.pushclient.proofs.wishes.unask_all.Given as goal

abbrev pub invariant-wishes : goal.invariant-wishes
invariant-wishes l = l.wishes ≡ front (λ w. unasked w.question) l.place l.fn.wishes
