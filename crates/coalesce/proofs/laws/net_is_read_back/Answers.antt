use Rattle.coalesce.proofs.ReadBack as reading
use Rattle.coalesce.proofs.laws.net_is_read_back.Goals as goal

pub returns : goal.returns
returns c = reading.net_is_read_back
