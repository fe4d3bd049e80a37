use Rattle.linkcache.proofs.Numbers.{within_is}
use Rattle.linkcache.proofs.room.fits.Goals as goal

pub returns : goal.returns
returns c = within_is c.saturating_add.result c.args.taken c.args.added c.saturating_add.ensures
