use Rattle.std.proofs.Common.{◌≡◌, drop}
use Rattle.std.specs.Prelude.{find}
use Rattle.pushclient.specs.Steps.{is_unanswered}
use Rattle.pushclient.proofs.wishes.request_of.Given as goal

abbrev pub invariant-wishes : goal.invariant-wishes
invariant-wishes l = find (λ w. is_unanswered l.fn.id w.standing) (drop l.wish-index l.wishes) ≡ find (λ w. is_unanswered l.fn.id w.standing) l.wishes
