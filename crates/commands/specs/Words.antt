-- The words of the command line.
--     request_of words      what they ask for, where they are as they should be
--     usage      the line that is told of words that ask for nothing
use Rattle.std.specs.Prelude.{ℕ, ◌==◌, not, ◌&&◌, nat_le, Bool, false, Some, None, List, [], ◌∷◌, map, codes, string_bytes, if◌then◌else◌}
use Rattle.std.specs.declared.option.Option.{Option}
use Rattle.std.specs.declared.alloc.Global.{Global}
use Rattle.std.specs.declared.string.String.{String}
use Rattle.std.specs.Str.{bytes_eq}
use Rattle.push_base.specs.Optional.{◌>>=◌}
use Rattle.scripts.specs.Lines.{number32}
use Rattle.scripts.specs.Words.{line}
use Rattle.commands.specs.declared.script_command.ScriptCommand.{ScriptCommand}
use Rattle.commands.specs.declared.script_command.ScriptCommand.TheVariants.{Replay, Check}
use Rattle.commands.specs.declared.command_line.TheConstants as words

-- the commands: a task on the script that the input gives, and on the one at a path; the scripts of a number; a server and a subscriber by the
-- configuration at a path
pub data Request : Type 0 where
  On_input : (task : ScriptCommand) → Request
  At_path : (task : ScriptCommand) → (path : List ℕ) → Request
  Big : (number : ℕ) → Request
  Serve : (path : List ℕ) → Request
  Subscribe : (path : List ℕ) → Request

-- the word isn't empty and doesn't begin with `-`
abbrev pub is_path : List ℕ → Bool
is_path [] = false
is_path (octet ∷ octets) = not (octet == 45)

-- the task on the script of the input, or on the one at a path
abbrev pub on_script : ScriptCommand → List ℕ → Option Request
on_script task place = if bytes_eq place (codes "-") then Some (On_input task) else if is_path place then Some (At_path task place) else None

-- the greatest number from which scripts are made
abbrev pub greatest_number : ℕ
greatest_number = words.GREATEST_NUMBER

-- the scripts of a number, from 1 to the greatest, without leading zeros
abbrev pub on_number : List ℕ → Option Request
on_number text = number32 text >>= λ n. if nat_le 1 n && nat_le n greatest_number then Some (Big n) else None

-- what is done by the configuration at a path
abbrev pub on_configuration : (List ℕ → Request) → List ℕ → Option Request
on_configuration request place = if is_path place then Some (request place) else None

-- what the words ask for, where they are as they should be
abbrev pub request_of : List (List ℕ) → Option Request
request_of (command ∷ place ∷ []) =
    if bytes_eq command (codes "replay") then on_script Replay place
    else if bytes_eq command (codes "check") then on_script Check place
    else if bytes_eq command (codes "big") then on_number place
    else if bytes_eq command (codes "serve") then on_configuration Serve place
    else if bytes_eq command (codes "subscribe") then on_configuration Subscribe place
    else None
request_of words = None

abbrev pub request_in : List (String Global) → Option Request
request_in words = request_of (map string_bytes words)

abbrev pub usage : List ℕ
usage = line (codes "usage: dnspush replay PATH | serve CONFIG | subscribe CONFIG | check PATH | big N")
