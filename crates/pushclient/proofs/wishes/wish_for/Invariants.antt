use Rattle.std.proofs.Common.{◌≡◌, drop}
use Rattle.std.specs.Prelude.{find}
use Rattle.rrset.specs.Records.{same_question}
use Rattle.pushclient.proofs.wishes.wish_for.Given as goal

abbrev pub invariant-wishes : goal.invariant-wishes
invariant-wishes l = find (λ w. same_question w.question l.fn.question) (drop l.wish-index l.wishes) ≡ find (λ w. same_question w.question l.fn.question) l.wishes
