use Rattle.std.proofs.Common.{Bool, not, ◌&&◌, ◌∙◌, ap, sym}
use Rattle.dnsname.specs.Names.{ends_in}
use Rattle.zoneupdate.proofs.Homes.{is_inside-under}
use Rattle.zoneupdate.proofs.refusing.is_inside.Goals as goal

pub returns : goal.returns
returns c = λ homes under.
    ap (λ (b : Bool). b && not c.runs_into.result) c.ends_in.ensures.exact
    ∙ ap (λ (b : Bool). ends_in c.args.name.now c.args.apex.now && not b) c.runs_into.ensures
    ∙ sym (is_inside-under homes c.args.apex.now c.args.under.now under c.args.name.now)
