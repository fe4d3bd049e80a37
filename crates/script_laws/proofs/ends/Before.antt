-- What is so before each line of a script.
--     stands-before      the world stands, what is known of it fits, and the line may stand where it stands
use Rattle.std.proofs.Common.{◌≡◌, List, [], ◌∷◌, ◌++◌, Some, refl, subst}
use Rattle.std.specs.List.{AllByRecursion}
use Rattle.scripts.specs.Lines.{Word, ScriptLine}
use Rattle.scripts.specs.Scripts.{Known, nothing_known, fits}
use Rattle.replay.specs.World.{World, start_world}
use Rattle.replay.specs.TextWords.{by_history}
use Rattle.replay.specs.Text.{line_does, world_after}
use Rattle.script_laws.specs.Joined.{ShownToEach}
use Rattle.script_laws.specs.Lines.{IsRead, Follow, AreLines}
use Rattle.script_laws.proofs.lines.Premises.{LineLaws}
use Rattle.script_laws.proofs.lines.Starting.{start-stands, start-fits}
use Rattle.script_laws.proofs.lines.Walking.{Walked, walked-line}

-- whatever was shown
abbrev pub nothing_shown : ShownToEach
nothing_shown w question = []

pub record StandsBefore (all : List Word) (line : ScriptLine) (world : World) : Type 0 where
  pub known : Known
  pub next : Known
  pub walked : Walked all known nothing_shown world
  pub is : IsRead all line
  pub fits : fits all known line ≡ Some next

module _ (laws : LineLaws) (all : List Word) where
  before-line : (known : Known) (before : List ScriptLine) (line : ScriptLine) (after : List ScriptLine) (world : World) → Follow all known (before ++ line ∷ after) → AllByRecursion (IsRead all) (before ++ line ∷ after)
      → Walked all known nothing_shown world → StandsBefore all line (world_after before world)
  before-line known [] line after world f read h = record { known = known; next = f.0; walked = h; is = read.0; fits = f.1 }
  before-line known (l ∷ before) line after world f read h =
      let later : World = (line_does by_history l world).0 in
      before-line f.0 before line after later f.2 read.1 (walked-line laws all known f.0 nothing_shown world h l read.0 f.1)

pub stands-before : LineLaws → (script before after : List ScriptLine) (line : ScriptLine) (are : AreLines script) → script ≡ before ++ line ∷ after
    → StandsBefore are.all line (world_after before (start_world script))
stands-before laws script before after line are split =
    before-line laws are.all nothing_known before line after (start_world script) (subst (Follow are.all nothing_known) split are.follow) (subst (AllByRecursion (IsRead are.all)) split are.read)
    (record { stands = start-stands are.all script are.follow are.read; fits = start-fits are.all script are.follow are.read; clients = λ w e question. refl })
