use Rattle.flight_laws.proofs.AskingFits.{questions-asked}
use Rattle.flight_laws.proofs.WantedAgain.{wanted-again}
use Rattle.flight_laws.proofs.asking_fits.Goals as goal

pub returns : goal.returns
returns c = record { asked = questions-asked; again = wanted-again }
