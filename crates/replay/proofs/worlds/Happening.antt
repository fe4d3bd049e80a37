-- Head lines, and lines that say nothing, print nothing.
--     does-nothing, asks-nothing      what one does, and what it tells of what links are asked
--     starts-so, asks-so      the world with which a script that was read starts, and what its links are asked then, by its lines
use Rattle.std.proofs.Common.{◌≡◌, ℕ, Bool, true, List, [], ap, refl}
use Rattle.scripts.specs.Heads.{Head}
use Rattle.scripts.specs.Lines.{ScriptLine, silent, head_line}
use Rattle.scripts.specs.Scripts.{is_head}
use Rattle.scripts.specs.KeptScripts.{IsScript}
use Rattle.scripts.specs.declared.script.Script.{Script}
use Rattle.hubasking.specs.LinkAskings.{Askings, new_askings}
use Rattle.replay.specs.World.{World, world_of, start_world}
use Rattle.replay.specs.TextWords.{by_notices}
use Rattle.replay.specs.Text.{line_does}
use Rattle.replay.specs.Askings.{asked_lines, line_asks, start_askings}
use Rattle.replay.specs.KeptScripts.{askings_at_start, world_at_start}

-- ---- what is printed

pub does-nothing : (world : World) (line : ScriptLine) → is_head line ≡ true → line_does by_notices line world ≡ (world, [])
does-nothing world silent e = refl
does-nothing world (head_line head) e = refl
does-nothing world _ e = absurd cc

-- nor is anything asked
abbrev pub Told : Type 0
Told = List (List ℕ) × Askings

abbrev pub told_by : ScriptLine → World → Askings → Told
told_by line world askings = (asked_lines line world askings, line_asks line world askings)

abbrev pub nothing_told : Askings → Told
nothing_told askings = ([], askings)

pub asks-nothing : (world : World) (askings : Askings) (line : ScriptLine) → is_head line ≡ true → told_by line world askings ≡ nothing_told askings
asks-nothing world askings silent e = refl
asks-nothing world askings (head_line head) e = refl
asks-nothing world askings _ e = absurd cc

-- ---- of a script that was read

pub starts-so : (lines : List ScriptLine) (script : Script) → IsScript lines script → world_at_start script ≡ start_world lines
starts-so lines script is = ap world_of is.head

pub asks-so : (lines : List ScriptLine) (script : Script) → IsScript lines script → askings_at_start script ≡ start_askings lines
asks-so lines script is = ap (λ (h : Head). new_askings h.start) is.head
