-- Both worlds between two lines of a script of two hubs.
--     worlds-behind      the worlds behind lines, and others behind these
--     near-behind, far-behind      what the lines are to each hub, likewise
--     near-stands, far-stands      each world stands
--     apex-stays, apex-is      the name of the second zone
use Rattle.std.proofs.Common.{◌≡◌, List, [], ◌∷◌, ◌++◌, Some, refl, sym, ap, subst, ◌∙◌}
use Rattle.std.specs.List.{AllByRecursion}
use Rattle.dnsname.specs.Names.{Labels, IsName}
use Rattle.dnsname.proofs.Decisions.{is_name-Decides}
use Rattle.dsotlv.proofs.Results.{same_found}
use Rattle.scripts.specs.Lines.{Word, ScriptLine}
use Rattle.scripts.specs.WholeLines.{WholeLine, one, far_zone, far_client, carry, near_of, is_far_in, fars_behind}
use Rattle.scripts.specs.WholeScripts.{apex_in, fars_of, near_lines, near_lines_from}
use Rattle.replay.specs.World.{World, start_world}
use Rattle.replay.specs.Text.{world_after}
use Rattle.replay.specs.TextWords.{by_history}
use Rattle.replay.specs.TwoWorlds.{Worlds, start_worlds, lines_do, worlds_after, far_line_at, far_lines_after}
use Rattle.script_laws.specs.Joined.{ShownToEach, WorldStands}
use Rattle.script_laws.specs.Whole.{shown_by}
use Rattle.script_laws.proofs.Scripts.{stands-after}
use Rattle.two_hubs.specs.Carrying.{CarriesAreWritten}
use Rattle.two_hubs.specs.HalfLaws.{IsReadWhole, AreWholeLines}
use Rattle.two_hubs.proofs.FarHalf.{far-lines}
use Rattle.two_hubs.proofs.FarStarts.{far-starts}
use Rattle.two_hubs.proofs.Halved.{halves, near-lines}

-- ---- lines one behind another

pub worlds-behind : (before after : List WholeLine) (worlds : Worlds) → worlds_after by_history (before ++ after) worlds ≡ worlds_after by_history after (worlds_after by_history before worlds)
worlds-behind [] after worlds = refl
worlds-behind (line ∷ before) after worlds = worlds-behind before after (lines_do by_history line worlds).0

pub near-behind : (fars : List Word) (before after : List WholeLine) → near_lines_from fars (before ++ after) ≡ near_lines_from fars before ++ near_lines_from (fars_of fars before) after
near-behind fars [] after = refl
near-behind fars (line ∷ before) after = ap (λ (ls : List ScriptLine). near_of (is_far_in fars) line ∷ ls) (near-behind (fars_behind fars line) before after)

pub far-behind : (before after : List WholeLine) (worlds : Worlds) → far_lines_after by_history (before ++ after) worlds ≡ far_lines_after by_history before worlds ++ far_lines_after by_history after (worlds_after by_history before worlds)
far-behind [] after worlds = refl
far-behind (line ∷ before) after worlds = ap (λ (ls : List ScriptLine). far_line_at by_history worlds line ∷ ls) (far-behind before after (lines_do by_history line worlds).0)

pub fars-are : (before : List WholeLine) (worlds : Worlds) → (worlds_after by_history before worlds).fars ≡ fars_of worlds.fars before
fars-are [] worlds = refl
fars-are (line ∷ before) worlds = fars-are before (lines_do by_history line worlds).0

-- ---- each world stands

-- whatever was shown
abbrev pub IsStanding : World → Type 0
IsStanding world = (shown : ShownToEach) × WorldStands shown world

pub near-stands : (script before after : List WholeLine) → AreWholeLines script → script ≡ before ++ after → IsStanding (worlds_after by_history before (start_worlds script)).near
near-stands script before after are split =
    let start : World = start_world (near_lines script) in
    let front : List ScriptLine = near_lines_from [] before in
    let back : List ScriptLine = near_lines_from (fars_of [] before) after in
    let both : near_lines script ≡ front ++ back = ap (λ (ls : List WholeLine). near_lines ls) split ∙ near-behind [] before after in
    (shown_by front start, subst (λ (w : World). WorldStands (shown_by front start) w) (sym (halves before (start_worlds script)).0) (stands-after (near_lines script) front back (near-lines script are) both))

pub far-stands : (script before after : List WholeLine) → AreWholeLines script → CarriesAreWritten script (start_worlds script) → script ≡ before ++ after → IsStanding (worlds_after by_history before (start_worlds script)).far
far-stands script before after are written split =
    let worlds : Worlds = start_worlds script in
    let lines : List ScriptLine = far_lines_after by_history script worlds in
    let front : List ScriptLine = far_lines_after by_history before worlds in
    let back : List ScriptLine = far_lines_after by_history after (worlds_after by_history before worlds) in
    let both : lines ≡ front ++ back = ap (λ (ls : List WholeLine). far_lines_after by_history ls worlds) split ∙ far-behind before after worlds in
    let start : start_world lines ≡ worlds.far = far-starts by_history script in
    let stands : WorldStands (shown_by front (start_world lines)) (world_after front (start_world lines)) = stands-after lines front back (far-lines script are written) both in (
      shown_by front worlds.far,
      subst (λ (w : World). WorldStands (shown_by front worlds.far) w) (sym (halves before worlds).1)
          (subst (λ (w : World). WorldStands (shown_by front w) (world_after front w)) start stands),
    )

-- ---- the second zone

pub apex-stays : (before : List WholeLine) (worlds : Worlds) → (worlds_after by_history before worlds).apex ≡ worlds.apex
apex-stays [] worlds = refl
apex-stays (line ∷ before) worlds = apex-stays before (lines_do by_history line worlds).0

-- its line is one that was read
pub apex-named : (all : List Word) (script : List WholeLine) (apex : Labels) → AllByRecursion (IsReadWhole all) script → apex_in script ≡ Some apex → IsName apex
apex-named all [] apex read is = absurd cc
apex-named all (one line ∷ script) apex read is = apex-named all script apex read.1 is
apex-named all (far_zone name serial ∷ script) apex read is = subst IsName (same_found name apex is) ((is_name-Decides name).0 read.0.within.0)
apex-named all (far_client w ∷ script) apex read is = apex-named all script apex read.1 is
apex-named all (carry w name written ∷ script) apex read is = apex-named all script apex read.1 is
