use Rattle.std.proofs.Common.{◌≡◌, drop}
use Rattle.std.specs.Prelude.{fold}
use Rattle.services.specs.Services.{better, server_in, server_of}
use Rattle.services.proofs.reading.server_in.Given as goal

-- the best of those so far, and the records that are left
abbrev pub invariant-rows : goal.invariant-rows
invariant-rows l = fold (λ best row. better best (server_of row)) l.best (drop l.row-index l.fn.rows) ≡ server_in l.fn.rows
