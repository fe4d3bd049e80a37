use Rattle.flight_laws.proofs.Granting.{keepalives-granted, reconfirms-taken}
use Rattle.flight_laws.proofs.Unsubscribed.{subscriptions-ended}
use Rattle.flight_laws.proofs.reacting_fits.Goals as goal

pub returns : goal.returns
returns c = record { keepalives = keepalives-granted; reconfirms = reconfirms-taken; ended = subscriptions-ended }
