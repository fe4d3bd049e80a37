use Rattle.std.proofs.Common.{◌≡◌, ◌≤◌, length, drop}
use Rattle.rrset.proofs.Shapes.{fits_from}
use Rattle.rrset.proofs.shape.fits.Given as goal

abbrev pub invariant-parts : goal.invariant-parts
invariant-parts l = (l.place ≤ length l.rdata) × (fits_from (drop l.part-index l.parts) l.rdata l.place ≡ fits_from l.parts l.rdata 0)
