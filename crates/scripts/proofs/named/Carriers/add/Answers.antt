use Rattle.std.proofs.Common.{◌≡◌, Option, Some, ap, subst, ◌∙◌}
use Rattle.std.specs.BTreeMap.{UpdatesBy, get}
use Rattle.dnsname.specs.Caseless.{name_order}
use Rattle.scripts.specs.Carrying.{carried_too}
use Rattle.scripts.specs.declared.named.Carrying.{Carrying}
use Rattle.scripts.proofs.wholes.Carried.{one-more}
use Rattle.scripts.proofs.named.Carriers.add.Goals as goal

pub returns : goal.returns
returns c carriers so =
    let names = c.args.self.now.names in
    let later = c.insert.new.self in
    let name = c.args.carrier.name in
    let word = c.args.carrier.word in
    let value : c.carried_too-carrying.result ≡ carried_too (get name_order names name) word = c.carried_too-carrying.ensures ∙ ap (λ (o : Option Carrying). carried_too o word) c.get.ensures.value in
    one-more names later name word (subst (λ (v : Carrying). UpdatesBy name_order (name_order name) names later (Some v)) value c.in_ok-insert.ensures.updates) carriers so
