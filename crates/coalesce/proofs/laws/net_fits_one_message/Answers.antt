use Rattle.coalesce.proofs.NetSizes as sizes
use Rattle.coalesce.proofs.laws.net_fits_one_message.Goals as goal

pub returns : goal.returns
returns c = sizes.net_fits_one_message
