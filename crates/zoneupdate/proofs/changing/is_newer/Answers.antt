use Rattle.std.proofs.Common.{◌∙◌, Some, sym, ap}
use Rattle.zoneupdate.specs.Changing.{newer_than}
use Rattle.zoneupdate.proofs.OneName.{newer-at_name}
use Rattle.zoneupdate.proofs.changing.is_newer.Goals as goal

pub returns-in-Some : goal.returns-in-Some
returns-in-Some c =
    c.is_newer_than.ensures ∙ ap (λ r. newer_than r (Some c.in-Some.shown.now)) c.as_slice.ensures ∙ ap (newer_than c.args.rr.now.rdata) (sym c.in-Some.ensures)
    ∙ newer-at_name c.args.work.now.rows c.at.result.now c.args.rr.now.owner c.args.rr.now.rdata c.at.ensures

pub returns-in-None : goal.returns-in-None
returns-in-None c = ap (newer_than c.args.rr.now.rdata) (sym c.in-None.ensures) ∙ newer-at_name c.args.work.now.rows c.at.result.now c.args.rr.now.owner c.args.rr.now.rdata c.at.ensures
