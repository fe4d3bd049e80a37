-- What is done with a script.
--     task_reply records task octets      the status and the text, for the octets of the script that were read
use Rattle.std.specs.Prelude.{ℕ, List}
use Rattle.scripts.specs.Reply.{Reply}
use Rattle.replay.specs.WholeTexts.{whole_reply, whole_checked}
use Rattle.replay.specs.TextWords.{HeldRecords}
use Rattle.commands.specs.declared.script_command.ScriptCommand.{ScriptCommand}
use Rattle.commands.specs.declared.script_command.ScriptCommand.TheVariants.{Replay, Check}

-- it is run, or it is only read
abbrev pub task_reply : HeldRecords → ScriptCommand → List ℕ → Reply
task_reply records Replay octets = whole_reply records octets
task_reply records Check octets = whole_checked octets
