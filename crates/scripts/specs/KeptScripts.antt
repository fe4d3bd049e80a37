-- Scripts of one hub, as the program holds them.
--     events_said script      what the events say
--     head_kept script      the timers, the homes and the links' words
--     IsScript lines script      the head lines make the script's head, and those that happen are its events
use Rattle.std.specs.Prelude.{◌≡◌, List, [], filter_map}
use Rattle.history.specs.Kept.{state_of}
use Rattle.history.specs.Plans.{IsStart}
use Rattle.scripts.specs.Lines.{ScriptLine}
use Rattle.scripts.specs.Scripts.{client_word, happening, AreDistinct}
use Rattle.scripts.specs.Heads.{Head, empty_head, head_behind}
use Rattle.scripts.specs.declared.script.Script.{Script}
use Rattle.scripts.specs.KeptLines.{words_of}
use Rattle.scripts.specs.Events.{known_clients, each_said, Follow}

-- what the events say
abbrev pub events_said : Script → List ScriptLine
events_said script = each_said (words_of script.links.items) (known_clients script.clients.items) script.events.items

-- the head of a script that was read
abbrev pub head_kept : Script → Head
head_kept script = record { timers = script.timers; start = state_of script.homes; links = words_of script.links.items }

-- the lines of one hub: the head lines make the script's timers and homes, and the others that say something are its events; no two of the clients
-- that they name have one word, and each event's numbers are those of clients that have joined before it, and of links
pub record IsScript (lines : List ScriptLine) (script : Script) : Type 0 where
  pub head : head_kept script ≡ head_behind empty_head lines
  pub events : happening lines ≡ events_said script
  pub start : IsStart (state_of script.homes)
  pub distinct : AreDistinct (filter_map client_word (events_said script))
  pub follow : Follow (words_of script.links.items) (known_clients script.clients.items) [] script.events.items
