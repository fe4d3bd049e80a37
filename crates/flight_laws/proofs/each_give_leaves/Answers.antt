use Rattle.flight_laws.proofs.EachGive.{reacting-leaves, each-give-leaves}
use Rattle.flight_laws.proofs.QuietTurns.{quiet-gives}
use Rattle.flight_laws.proofs.Reacted.{reactions-leave}
use Rattle.flight_laws.proofs.Served.{homes-stay}
use Rattle.flight_laws.proofs.Tellable.{pushes-can-be-told}
use Rattle.flight_laws.proofs.each_give_leaves.Goals as goal

pub returns : goal.returns
returns c = record { reacting = reacting-leaves quiet-gives reactions-leave pushes-can-be-told homes-stay; gives = each-give-leaves quiet-gives reactions-leave pushes-can-be-told homes-stay }
