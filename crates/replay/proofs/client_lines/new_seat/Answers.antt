use Rattle.std.proofs.Common.{ℕ, List, refl, ap, arith}
use Rattle.inflight.specs.Ends.{told_end}
use Rattle.replay.proofs.client_lines.new_seat.Goals as goal

pub returns : goal.returns
returns c = record {
  word = c.in_ok-word.ensures.ok;
  is_lone = refl;
  client = c.new.ensures;
  session = refl;
  up_wire = c.new-2.ensures.items;
  down_wire = c.new-3.ensures.items;
  reached = refl;
  few = omega arith;
  filled = λ id. ap (λ (l : List (ℕ × ℕ)). told_end l id) c.new-4.ensures.items;
}
