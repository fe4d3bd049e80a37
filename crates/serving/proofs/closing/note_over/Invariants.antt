use Rattle.std.proofs.Common.{◌≡◌, ◌++◌}
use Rattle.std.specs.Prelude.{false}
use Rattle.serving.proofs.closing.note_over.Given as goal

abbrev pub invariant-over : goal.invariant-over
invariant-over l = l.noted.starved ≡ false → (l.fn.noted.starved ≡ false) × (l.noted.ends.items ++ l.end-iterator.rest.items ≡ l.fn.noted.ends.items ++ l.fn.ends.items)
