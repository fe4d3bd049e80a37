use Rattle.flight_laws.proofs.Served.{hubs-serve-alike, homes-stay}
use Rattle.flight_laws.proofs.Subscribed.{subscribes-accepted, subscribes-refused}
use Rattle.flight_laws.proofs.subscribing_fits.Goals as goal

pub returns : goal.returns
returns c = record { alike = hubs-serve-alike; homes = homes-stay; accepted = subscribes-accepted; refused = subscribes-refused }
