-- Some lines of a script, between others.
--     Between      the lines before, these lines, and the lines behind
--     lines_of between      the script
--     world_start between, world_then between, world_behind between      the world with which it starts, the one before these lines, and the one behind them
--     askings_start between, askings_then between, askings_behind between      what links are asked there
--     reply_between records between told      the status and the text, where these lines print what is told
use Rattle.std.specs.Prelude.{ℕ, List, ◌++◌}
use Rattle.scripts.specs.Lines.{ScriptLine}
use Rattle.hubasking.specs.LinkAskings.{Askings}
use Rattle.replay.specs.World.{World, start_world}
use Rattle.replay.specs.TextWords.{HeldRecords}
use Rattle.replay.specs.Text.{world_after}
use Rattle.replay.specs.Askings.{start_askings, lines_asks}
use Rattle.replay.specs.ScriptTexts.{printed_by}
use Rattle.scripts.specs.Words.{ended_lines}
use Rattle.scripts.specs.declared.outcome.Outcome.TheVariants as outcomes
use Rattle.scripts.specs.Outcomes.{status_of}
use Rattle.scripts.specs.Reply.{Reply}

pub record Between : Type 0 where
  pub before : List ScriptLine
  pub lines : List ScriptLine
  pub behind : List ScriptLine

abbrev pub lines_of : Between → List ScriptLine
lines_of between = between.before ++ (between.lines ++ between.behind)

abbrev pub world_start : Between → World
world_start between = start_world (lines_of between)

abbrev pub world_then : Between → World
world_then between = world_after between.before (world_start between)

abbrev pub world_behind : Between → World
world_behind between = world_after between.lines (world_then between)

abbrev pub askings_start : Between → Askings
askings_start between = start_askings (lines_of between)

abbrev pub askings_then : Between → Askings
askings_then between = lines_asks between.before (world_start between) (askings_start between)

abbrev pub askings_behind : Between → Askings
askings_behind between = lines_asks between.lines (world_then between) (askings_then between)

-- those lines alone stand between what the lines before print and what those behind do
abbrev pub reply_between : HeldRecords → Between → List (List ℕ) → Reply
reply_between records between told = record {
  status = status_of outcomes.Done;
  text = ended_lines (printed_by records between.before (world_start between) (askings_start between)) ++ (ended_lines told ++ ended_lines (printed_by records between.behind (world_behind between) (askings_behind between)));
}
