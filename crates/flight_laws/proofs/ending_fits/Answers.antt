use Rattle.flight_laws.proofs.Ending.{entries-leave, stops-asked, sessions-end}
use Rattle.flight_laws.proofs.ending_fits.Goals as goal

pub returns : goal.returns
returns c = record { entries = entries-leave; stops = stops-asked; ends = sessions-end }
