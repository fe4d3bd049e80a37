use Rattle.std.proofs.Common.{[], sym, subst}
use Rattle.subscr.specs.Asked.{AreAsked, Asked}
use Rattle.subscr.specs.Named.{IsKept, Kept}
use Rattle.subscr.proofs.Asking.{none_asked}
use Rattle.subscr.proofs.AskedAt.{kept-none}
use Rattle.subscr.proofs.subscriptions.Subscriptions.new.Goals as goal

pub invariant_of-result : goal.invariant_of-result
invariant_of-result c = (
  subst AreAsked (sym c.new.ensures.items) none_asked,
  subst (λ (l : Asked). IsKept c.new-2.result l) (sym c.new.ensures.items) (subst (λ (k : Kept). IsKept k []) (sym c.new-2.ensures) kept-none),
)
