use Rattle.std.proofs.Common.{◌==◌, ◌∙◌, not, ap}
use Rattle.std.specs.List.{list_any}
use Rattle.zoneupdate.proofs.OneName.{other_kinds-at_name}
use Rattle.zoneupdate.proofs.changing.has_other_kinds.Goals as goal

pub returns : goal.returns
returns c = c.any_other_kind.ensures ∙ ap (list_any (λ e. not (e.0.kind == c.args.rr.now.kind))) c.at.ensures ∙ other_kinds-at_name c.args.work.now.rows c.args.rr.now.owner c.args.rr.now.kind
