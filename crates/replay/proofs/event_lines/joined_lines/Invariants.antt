use Rattle.std.proofs.Common.{◌≡◌, ◌++◌, Global, drop, string_bytes}
use Rattle.std.specs.Prelude.{flat_map}
use Rattle.std.specs.declared.string.String.{String}
use Rattle.replay.proofs.event_lines.joined_lines.Given as goal

-- the texts so far, and those that are left
abbrev pub invariant-lines : goal.invariant-lines
invariant-lines l = string_bytes l.text ++ flat_map (λ (t : String Global). string_bytes t) (drop l.line-index l.fn.lines) ≡ flat_map (λ (t : String Global). string_bytes t) l.fn.lines
