use Rattle.script_laws.proofs.Scripts.{only-lone-fed}
use Rattle.script_laws.proofs.only_lone_clients_are_fed.Goals as goal

pub returns : goal.returns
returns c = record { lone = only-lone-fed }
