use Rattle.std.proofs.Common.{◌∙◌, ap}
use Rattle.std.specs.List.{list_any}
use Rattle.rrset.specs.RecordSet.{is_of_rrset}
use Rattle.zoneupdate.proofs.OneName.{alias-at_name}
use Rattle.zoneupdate.proofs.changing.has_alias.Goals as goal

pub returns : goal.returns
returns c = c.any_of_rrset.ensures ∙ ap (list_any (λ e. is_of_rrset c.args.rr.now.owner 1 5 e.0)) c.at.ensures ∙ alias-at_name c.args.work.now.rows c.args.rr.now.owner
