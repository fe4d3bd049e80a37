use Rattle.std.proofs.Common.{◌≡◌, ◌++◌, drop}
use Rattle.services.specs.Services.{instances_in}
use Rattle.services.proofs.listing.instances_in.Given as goal

-- the names so far, and the records that are left
abbrev pub invariant-rows : goal.invariant-rows
invariant-rows l = l.names.items ++ instances_in (drop l.row-index l.fn.rows) ≡ instances_in l.fn.rows
