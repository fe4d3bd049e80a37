use Rattle.std.proofs.Common.{◌≡◌, take}
use Rattle.zoneupdate.specs.Touched.{part_of}
use Rattle.zoneupdate.proofs.planning.touched.Given as goal

abbrev pub invariant-changes : goal.invariant-changes
invariant-changes l = l.part.rows ≡ part_of l.apex (take l.rr-index l.rr-items) l.rows.rows
