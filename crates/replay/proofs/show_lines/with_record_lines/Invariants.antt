use Rattle.std.proofs.Common.{◌≡◌, ◌++◌, drop, string_bytes}
use Rattle.replay.specs.KeptShows.{record_lines}
use Rattle.replay.proofs.show_lines.with_record_lines.Given as goal

-- what was written, and the lines of the records that are left
abbrev pub invariant-records : goal.invariant-records
invariant-records l = string_bytes l.text ++ record_lines (drop l.entry-index l.fn.records) ≡ string_bytes l.fn.text ++ record_lines l.fn.records
