use Rattle.script_laws.proofs.calls.Sends.{sends-answered, asks-answered, each-brought-up}
use Rattle.script_laws.proofs.calls.FirstOnes.{first-ones}
use Rattle.script_laws.proofs.Scripts.{stands-after}
use Rattle.script_laws.proofs.sends_are_answered.Goals as goal

pub returns : goal.returns
returns c = record { sends = sends-answered stands-after; asks = asks-answered stands-after; each = each-brought-up stands-after; first = first-ones stands-after }
