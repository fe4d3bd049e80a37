use Rattle.std.proofs.Common.{subst, false}
use Rattle.subscr.specs.Named.{Kept, Removes}
use Rattle.subscr.proofs.Ids.{ids-set}
use Rattle.subscr.proofs.kept.Keeping.remove.Goals as goal

pub returns : goal.returns
returns c =
    subst (λ (k : Kept). Removes c.args.id c.args.name.now k (record { ids = c.remove.new.self.keys; asks = c.remove-2.new.self })) c.self.view_is
    (record { ids = ids-set c.args.id false c.self.inside.ids c.remove.new.self c.remove.ensures.updates; asks = c.remove-2.ensures })
