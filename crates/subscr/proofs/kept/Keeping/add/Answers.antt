use Rattle.std.proofs.Common.{List, ap, subst, ◌∙◌}
use Rattle.dnsname.specs.Names.{Labels}
use Rattle.subscr.specs.ByName.{noted_at}
use Rattle.subscr.specs.Named.{IsSameKept, Kept}
use Rattle.subscr.specs.Watching.{is_in}
use Rattle.subscr.specs.declared.named.Ask.{Ask}
use Rattle.subscr.proofs.Ids.{undone}
use Rattle.subscr.proofs.Noting.{on_err}
use Rattle.subscr.proofs.kept.Keeping.add.Goals as goal

pub returns-then-is_err-clause-err : goal.returns-then-is_err-clause-err
returns-then-is_err-clause-err c =
    on_err c.add-added.result
    (λ kept. subst (λ (k : Kept). IsSameKept k (record { ids = c.remove.new.self.keys; asks = c.add-added.new.self })) c.self.view_is
    (record {
      ids = undone c.args.id c.self.inside.ids c.insert.new.self c.remove.new.self (ap (λ (k : Kept). is_in c.args.id k.ids) c.self.view_is ∙ c.requires) c.in_ok-insert.ensures.updates c.remove.ensures.updates;
      asks = λ other. ap (λ (notes : List (Labels × List Ask)). noted_at other notes) kept;
    }))
    c.add-added.ensures.err
