use Rattle.std.proofs.Common.{[], drop, string_bytes}
use Rattle.scripts.specs.declared.whole_script.WholeScript.{WholeScript}
use Rattle.replay.specs.KeptTurns.{left_of}
use Rattle.replay.specs.KeptPlays.{Plays}
use Rattle.replay.proofs.script_text.turns_text.Given as goal

-- what was written, and what is left
abbrev pub invariant-turns : goal.invariant-turns
invariant-turns l = (script : WholeScript) → Plays script l.fn.worlds (left_of l.fn.left) l.fn.turns [] → Plays script l.worlds (left_of l.left) (drop l.turn-index l.fn.turns) (string_bytes l.text)
