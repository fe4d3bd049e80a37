use Rattle.linkcache.proofs.ShownSizes.{shown_fits}
use Rattle.linkcache.proofs.laws.shown_fits.Goals as goal

pub returns : goal.returns
returns c rules rows apart sound within name = shown_fits rules rows apart sound within name
