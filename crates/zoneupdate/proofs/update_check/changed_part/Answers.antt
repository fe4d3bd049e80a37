use Rattle.std.proofs.Common.{◌∙◌, ap, fold, map}
use Rattle.std.specs.List.{list_all}
use Rattle.rrset.specs.RecordSet.{RecordSet, shows_its_key}
use Rattle.zoneupdate.specs.Updates.{changed_by, with_counted_ttl}
use Rattle.zoneupdate.proofs.Filters.{and-right}
use Rattle.zoneupdate.proofs.RecordSets.{set-changes}
use Rattle.zoneupdate.proofs.update_check.changed_part.Goals as goal

pub raise_serial-requires : goal.raise_serial-requires
raise_serial-requires c =
    let rrs = map with_counted_ttl c.args.changes.now in
    ap (list_all shows_its_key) (c.in_ok-change_all.ensures ∙ ap (λ (rows : RecordSet). fold (changed_by c.args.apex.now) rows rrs) c.in_ok-work.ensures)
    ∙ and-right _ _ (set-changes c.args.apex.now rrs c.args.before.now.rows c.requires)
