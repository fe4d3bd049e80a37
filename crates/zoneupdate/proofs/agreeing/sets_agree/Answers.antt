use Rattle.std.proofs.Common.{◌∙◌, ap}
use Rattle.std.specs.List.{list_all}
use Rattle.rrset.specs.RecordSet.{RecordSet}
use Rattle.zoneupdate.specs.Checking.{has_same_set}
use Rattle.zoneupdate.proofs.ComparedOnce.{all-agree}
use Rattle.zoneupdate.proofs.agreeing.sets_agree.Goals as goal

pub returns : goal.returns
returns c = c.all_have_same_set.ensures
    ∙ ap (λ (set : RecordSet). list_all (λ e. has_same_set set c.args.rows.now.rows e.0) set) c.in_ok-wanted.ensures
    ∙ all-agree c.args.prereqs.now c.args.rows.now.rows
