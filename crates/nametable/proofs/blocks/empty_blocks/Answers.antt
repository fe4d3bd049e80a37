-- One block after the other.
use Rattle.std.proofs.Common.{ℕ, ◌<◌, ◌≤◌, sym, subst}
use Rattle.std.specs.List.{filter}
use Rattle.nametable.specs.Nodes.{has_rows}
use Rattle.nametable.proofs.Turns.{turn, ends}
use Rattle.nametable.proofs.blocks.empty_blocks.Goals as goal

pub blocks-2-preserved : goal.blocks-2-preserved
blocks-2-preserved g c = turn (filter has_rows) c.args.blocks.now c.blocks-2.blocks c.blocks-2.place c.index-blocks-place.result c.drop_empty.new.self (subst (λ (n : ℕ). c.blocks-2.place < n) (sym c.blocks-2.auto.blocks) c.blocks-2-test.true) c.index-blocks-place.is c.drop_empty.ensures c.blocks-2.invariant

pub returns : goal.returns
returns g c = ends (filter has_rows) c.args.blocks.now c.blocks-2.blocks c.blocks-2.place (subst (λ (n : ℕ). n ≤ c.blocks-2.place) (sym c.blocks-2.auto.blocks) c.blocks-2-test.false) c.blocks-2.invariant
