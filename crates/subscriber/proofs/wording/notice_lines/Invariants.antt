use Rattle.std.proofs.Common.{◌≡◌, ◌++◌, drop, map, string_bytes}
use Rattle.scripts.specs.Words.{ended_lines}
use Rattle.subscriber.specs.Said.{notice_line}
use Rattle.subscriber.proofs.wording.notice_lines.Given as goal

-- what was written, and the lines of the notices that are left
abbrev pub invariant-notices : goal.invariant-notices
invariant-notices l = string_bytes l.text ++ ended_lines (map notice_line (drop l.notice-index l.fn.notices)) ≡ ended_lines (map notice_line l.fn.notices)
