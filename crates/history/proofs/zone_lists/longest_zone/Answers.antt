-- One zone more has been looked at.
use Rattle.zoneupdate.specs.KeptZones.{ZoneKept}
use Rattle.history.proofs.LongestTurns.{Next, turn-longer, turn-other, turn-short}
use Rattle.history.proofs.zone_lists.longest_zone.Goals as goal
use Rattle.history.proofs.zone_lists.longest_zone.Goals.{then-octets-most+then-ends_in, else-octets-most, else-octets-most-via-then-octets-most+else-ends_in, else-octets-most-via-else-octets-most}

pub zones-preserved : goal.zones-preserved
zones-preserved c =
    let next : Next (λ (z : ZoneKept). z.state.apex) c.args.zones.now c.zones.index c.index-zones-index.result c.octets-octets.result.now c.apex.result.now =
    record { within = c.zones-test.true; is = c.index-zones-index.is; octets = c.octets-octets.ensures.octets; apex = c.apex.ensures } in
    elim c.if-octets-most.branch [
      | then-octets-most+then-ends_in w ↦ turn-longer (λ (z : ZoneKept). z.state.apex) _ _ _ _ _ w.apex-then-octets-most.result.now _ _ _ _ _ w.ends_in.result next c.zones.invariant w.if-octets-most.true w.ends_in.ensures.exact w.if-ends_in.true w.apex-then-octets-most.ensures w.best-is w.most-is
      | else-octets-most w ↦ elim w.else-octets-most.branch [
        | else-octets-most-via-then-octets-most+else-ends_in v ↦ turn-other (λ (z : ZoneKept). z.state.apex) _ _ _ _ _ v.apex-then-octets-most.result.now _ _ _ _ _ v.ends_in.result next c.zones.invariant v.ends_in.ensures.exact v.if-ends_in.false v.apex-then-octets-most.ensures w.best-is w.most-is
        | else-octets-most-via-else-octets-most v ↦ turn-short (λ (z : ZoneKept). z.state.apex) _ _ _ _ _ _ _ _ _ _ next c.zones.invariant v.if-octets-most.false w.best-is w.most-is
      ]
    ]
