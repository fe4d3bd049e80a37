-- The lines of a text that is a script.
--     are-lines      each may stand where it stands, is within bounds, and they are few
use Rattle.std.proofs.Common.{◌≡◌, ℕ, List, Ok}
use Rattle.scripts.specs.Lines.{ScriptLine}
use Rattle.scripts.specs.Scripts.{client_words, lines_read, script_of}
use Rattle.script_laws.specs.Lines.{AreLines}
use Rattle.script_laws.proofs.lines.Following.{read-script, read-words}
use Rattle.script_laws.proofs.sizes.Scripts.{scripts-are-short}

pub are-lines : (text : List ℕ) (script : List ScriptLine) → script_of text ≡ Ok script → AreLines script
are-lines text script read = (let r = read-script text script read in record { all = client_words (lines_read text); words = read-words text; follow = r.0; read = r.1; few = scripts-are-short text script read })
