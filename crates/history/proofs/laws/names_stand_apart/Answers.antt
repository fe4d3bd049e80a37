use Rattle.history.proofs.Together.{names-apart}
use Rattle.history.proofs.laws.names_stand_apart.Goals as goal

pub returns : goal.returns
returns c names state together are = names-apart names state together are
