use Rattle.std.proofs.Common.{◌≡◌, drop}
use Rattle.std.specs.Prelude.{IsTrue}
use Rattle.linkask.specs.Bounds.{all_heard, are_kept}
use Rattle.linkask.proofs.refresh.hear_all.Given as goal

abbrev pub invariant-hearing : goal.invariant-hearing
invariant-hearing l = (all_heard l.now (drop l.h-index l.hearing) l.entries ≡ all_heard l.now l.hearing l.fn.entries) × IsTrue (are_kept l.entries)
