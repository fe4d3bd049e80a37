use Rattle.std.proofs.Common.{◌≡◌, drop}
use Rattle.replay.proofs.worlds.Naming.{from}
use Rattle.replay.proofs.world.session_of.Given as goal

-- those before have other words
abbrev pub invariant-peers : goal.invariant-peers
invariant-peers l = from l.fn.word (drop l.peer-index l.fn.peers) ≡ from l.fn.word l.fn.peers
