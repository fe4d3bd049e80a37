use Rattle.flight_laws.proofs.CallsOnOctets.{subscribes-go-up, unsubscribes-go-up, reconfirms-go-up, moments-go-up}
use Rattle.flight_laws.proofs.calls_fit.Goals as goal

pub returns : goal.returns
returns c = record { subscribes = subscribes-go-up; unsubscribes = unsubscribes-go-up; reconfirms = reconfirms-go-up; moments = moments-go-up }
