use Rattle.std.proofs.Common.{◌≡◌, ◌-◌, ◌≤◌, length, vec_len}
use Rattle.std.specs.Io.KnownBytes.{append_known, prepend_known}
use Rattle.scripts.proofs.read.read_script.Given as goal

-- what was read is the front of what the source had
abbrev pub invariant-loop-buf : goal.invariant-loop-buf
invariant-loop-buf g l = record {
  bound : length l.script.items ≤ 16777217;
  read : g.S.Source.left l.fn.source ≡ prepend_known l.script.items (g.S.Source.left l.source);
  gave : g.S.Source.given l.source ≡ append_known (g.S.Source.given l.fn.source) l.script.items;
  later : g.S.Source.faults l.fn.source ≤ g.S.Source.faults l.source;
}

abbrev pub decreases-loop-buf : goal.decreases-loop-buf
decreases-loop-buf g l = 16777217 - vec_len l.script
