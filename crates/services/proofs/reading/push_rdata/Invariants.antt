use Rattle.std.proofs.Common.{◌≡◌, ◌++◌, drop}
use Rattle.services.specs.Services.{rdata_of}
use Rattle.services.proofs.reading.push_rdata.Given as goal

-- what was appended, and the records that are left
abbrev pub invariant-rows : goal.invariant-rows
invariant-rows l = l.out ++ rdata_of l.fn.kind (drop l.row-index l.fn.rows) ≡ l.fn.out ++ rdata_of l.fn.kind l.fn.rows
