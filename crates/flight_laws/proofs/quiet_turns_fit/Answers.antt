use Rattle.flight_laws.proofs.QuietTurns.{ends-leave, packs-leave, stops-leave}
use Rattle.flight_laws.proofs.Tellable.{pushes-can-be-told}
use Rattle.flight_laws.proofs.quiet_turns_fit.Goals as goal

pub returns : goal.returns
returns c = record { told = ends-leave; packs = packs-leave; stops = stops-leave; readable = pushes-can-be-told }
