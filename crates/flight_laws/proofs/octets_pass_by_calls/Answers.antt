use Rattle.flight_laws.proofs.OctetCalls.{sessions-take, clients-take, clients-give}
use Rattle.flight_laws.proofs.octets_pass_by_calls.Goals as goal

pub returns : goal.returns
returns c = record { sessions_take = sessions-take; clients_take = clients-take; clients_give = clients-give }
