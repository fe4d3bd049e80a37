use Rattle.std.proofs.Common.{ap, sym, ◌∙◌}
use Rattle.std.specs.Str.{bytes_eq}
use Rattle.replay.proofs.worlds.Naming.{from, found}
use Rattle.replay.proofs.world.session_of.Goals as goal

pub returns-then-eq : goal.returns-then-eq
returns-then-eq c = found c.args.peers.now c.peers.peer-index c.peer-item.result c.args.word.now (from c.args.word.now c.args.peers.now) c.peers-test.true c.peer-item.is
    (ap (λ s. bytes_eq s c.args.word.now) (sym c.as_str.ensures.value) ∙ sym c.eq.ensures ∙ c.if-eq.true) c.peers.invariant
