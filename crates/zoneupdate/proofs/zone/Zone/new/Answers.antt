use Rattle.std.proofs.Common.{◌≤◌, length, ap, sym, subst, arith}
use Rattle.dnsname.specs.Names.{octets}
use Rattle.zoneupdate.specs.KeptZones.{IsKept}
use Rattle.zoneupdate.proofs.NewZone.{kept-new}
use Rattle.zoneupdate.proofs.zone.Zone.new.Goals as goal

pub invariant_of-result : goal.invariant_of-result
invariant_of-result c =
    let size = ap length c.octets.ensures.octets in
    let short : length (octets c.args.apex) ≤ 200 = omega (arith, size, c.if-octets-gt-MAX_HOME_OCTETS.false) in
    subst (λ rows. IsKept (record { apex = c.args.apex; writable = c.args.writable; rows = rows })) (sym c.in_ok-rows.ensures) (kept-new c.args.apex c.args.serial c.args.writable c.octets.ensures.name short)
