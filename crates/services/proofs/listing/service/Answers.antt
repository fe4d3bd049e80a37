use Rattle.std.proofs.Common.{rules}
use Rattle.services.proofs.listing.service.Goals as goal

pub returns : goal.returns
returns c = λ plain s.
    let is = c.rows_of-rows.ensures plain s in
    let there = c.in_ok-addresses.ensures plain s in
    search rules
