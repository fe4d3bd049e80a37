use Rattle.script_laws.proofs.Throughout.{mirrors-history}
use Rattle.script_laws.proofs.mirrors_are_the_history.Goals as goal

pub returns : goal.returns
returns c = record { mirrors = mirrors-history }
