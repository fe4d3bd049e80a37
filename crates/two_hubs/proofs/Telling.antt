-- What whole scripts print is one, told from the history or from the notices taken.
--     lines-alike      what a line does and prints in two worlds that stand
--     whole-alike      what lines print
--     near-along, far-along      each world stands along its lines
--     one-text, whole-replies-one      the text of a script, and the reply to octets
use Rattle.std.proofs.Common.{◌≡◌, ℕ, List, [], ◌∷◌, ◌++◌, Option, Result, Ok, Err, refl, ap, sym, subst, ◌∙◌}
use Rattle.std.specs.Prelude.{codes}
use Rattle.dnsname.specs.Names.{Labels}
use Rattle.hubasking.specs.LinkAskings.{Askings}
use Rattle.relay.specs.declared.relay.Relayed.{Relayed}
use Rattle.scripts.specs.Lines.{Word, ScriptLine, show}
use Rattle.scripts.specs.Words.{spaced, ended_lines}
use Rattle.scripts.specs.WholeLines.{WholeLine, one, far_zone, far_client, carry, near_of, far_of, all_at, is_far_in, fars_behind}
use Rattle.scripts.specs.WholeScripts.{whole_script_of, near_lines, near_lines_from, far_heads}
use Rattle.replay.specs.World.{World, start_world}
use Rattle.replay.specs.TextWords.{HeldRecords, by_history, by_notices}
use Rattle.replay.specs.Text.{Printed, line_does}
use Rattle.replay.specs.Askings.{asked_lines, line_asks, start_askings}
use Rattle.replay.specs.ScriptTexts.{outside_text}
use Rattle.replay.specs.TwoWorlds.{Worlds, start_worlds, near_line_at, carry_of, relayed_of, line_of_relayed, relayed_words, printed_of_one, order_behind, lines_do, far_lines_after}
use Rattle.replay.specs.WholeTexts.{whole_printed, whole_text_by, whole_text_with, whole_reply}
use Rattle.script_laws.proofs.hubs.Sessions.{reached-sessions}
use Rattle.script_laws.proofs.texts.Along.{line-alike}
use Rattle.two_hubs.specs.Carrying.{CarriesAreWritten}
use Rattle.two_hubs.specs.HalfLaws.{AreWholeLines}
use Rattle.two_hubs.specs.WholeReplies.{WholeRepliesAreOne, TellsOneText}
use Rattle.two_hubs.proofs.Halved.{near-lines}
use Rattle.two_hubs.proofs.FarHalf.{far-lines}
use Rattle.two_hubs.proofs.FarStarts.{far-starts}
use Rattle.two_hubs.proofs.Standing.{StandAlong, lines-stand, set-alike}
use Rattle.two_hubs.proofs.WorldsAlong.{IsStanding}

-- ---- one line

alike : (line : ScriptLine) (world : World) → IsStanding world → line_does by_history line world ≡ line_does by_notices line world
alike line world standing = line-alike reached-sessions standing.0 line world standing.1

abbrev Both : Type 0
Both = Worlds × List (List ℕ)

abbrev behind : WholeLine → Worlds → World → World → Worlds
behind line worlds near far = record worlds { fars = fars_behind worlds.fars line; near = near; far = far; order = order_behind worlds.order line }

-- both halves do their line
abbrev one_by : ScriptLine → Worlds → Printed → Printed → Both
one_by line worlds near far = (behind (one line) worlds near.0 far.0, printed_of_one line worlds (near.1 ++ far.1))

abbrev carried_by : Word → Labels → List ℕ → Worlds → Printed → Printed → Option Relayed → Both
carried_by w name written worlds near far o = (behind (carry w name written) worlds near.0 far.0, spaced (codes "carry" ∷ w ∷ written ∷ relayed_words o worlds.far ∷ []) ∷ [])

-- what a carry carries
carry-alike : (worlds : Worlds) (w : Word) (name : Labels) → IsStanding worlds.near → carry_of by_history worlds w name ≡ carry_of by_notices worlds w name
carry-alike worlds w name near = ap (relayed_of worlds.apex name) (set-alike worlds.near w name near)

pub lines-alike : (line : WholeLine) (worlds : Worlds) → IsStanding worlds.near → IsStanding worlds.far → lines_do by_history line worlds ≡ lines_do by_notices line worlds
lines-alike (one line) worlds near far =
    let n : line_does by_history (near_of (is_far_in worlds.fars) (one line)) worlds.near ≡ line_does by_notices (near_of (is_far_in worlds.fars) (one line)) worlds.near = alike (near_of (is_far_in worlds.fars) (one line)) worlds.near near in
    let f : line_does by_history (far_of (is_far_in worlds.fars) (one line)) worlds.far ≡ line_does by_notices (far_of (is_far_in worlds.fars) (one line)) worlds.far = alike (far_of (is_far_in worlds.fars) (one line)) worlds.far far in
    (λ i. one_by line worlds (n i) (f i))
lines-alike (far_zone apex serial) worlds near far = refl
lines-alike (far_client w) worlds near far = refl
lines-alike (carry w name written) worlds near far =
    let c : carry_of by_history worlds w name ≡ carry_of by_notices worlds w name = carry-alike worlds w name near in
    let n : line_does by_history (show w (all_at name) written) worlds.near ≡ line_does by_notices (show w (all_at name) written) worlds.near = alike (show w (all_at name) written) worlds.near near in
    let f : line_does by_history (line_of_relayed (carry_of by_history worlds w name)) worlds.far ≡ line_does by_notices (line_of_relayed (carry_of by_notices worlds w name)) worlds.far =
    alike (line_of_relayed (carry_of by_history worlds w name)) worlds.far far ∙ ap (λ (o : Option Relayed). line_does by_notices (line_of_relayed o) worlds.far) c in
    (λ i. carried_by w name written worlds (n i) (f i) (c i))

-- ---- lines

pub whole-alike : (lines : List WholeLine) (worlds : Worlds) (askings : Askings) → StandAlong (near_lines_from worlds.fars lines) worlds.near → StandAlong (far_lines_after by_history lines worlds) worlds.far
    → whole_printed by_history lines worlds askings ≡ whole_printed by_notices lines worlds askings
whole-alike [] worlds askings near far = refl
whole-alike (line ∷ lines) worlds askings near far =
    let here : lines_do by_history line worlds ≡ lines_do by_notices line worlds = lines-alike line worlds near.0 far.0 in
    let asks : Askings = line_asks (near_line_at worlds line) worlds.near askings in
    let told : List (List ℕ) = asked_lines (near_line_at worlds line) worlds.near askings in
    ap (λ (ls : List (List ℕ)). (lines_do by_history line worlds).1 ++ (told ++ ls)) (whole-alike lines (lines_do by_history line worlds).0 asks near.1 far.1)
    ∙ ap (λ (p : Both). p.1 ++ (told ++ whole_printed by_notices lines p.0 asks)) here

-- ---- scripts

pub near-along : (script : List WholeLine) → AreWholeLines script → StandAlong (near_lines script) (start_world (near_lines script))
near-along script are = lines-stand (near_lines script) (near-lines script are)

-- the second world starts with the head that the lines have without the updates of carries
pub far-along : (script : List WholeLine) → AreWholeLines script → CarriesAreWritten script (start_worlds script) → StandAlong (far_lines_after by_history script (start_worlds script)) (start_world (far_heads script))
far-along script are written =
    let lines : List ScriptLine = far_lines_after by_history script (start_worlds script) in
    subst (StandAlong lines) (far-starts by_history script) (lines-stand lines (far-lines script are written))

pub one-text : (script : List WholeLine) → AreWholeLines script → CarriesAreWritten script (start_worlds script) → TellsOneText script
one-text script are written =
    ap ended_lines (whole-alike script (start_worlds script) (start_askings (near_lines script)) (near-along script are) (far-along script are written))

abbrev told_as : HeldRecords → Result (List WholeLine) ℕ → ℕ × List ℕ
told_as records read = elim read as (λ _. ℕ × List ℕ) [ Ok script ↦ (0, whole_text_by records script) | Err n ↦ (2, outside_text n) ]

module _ (read_so : (octets : List ℕ) (script : List WholeLine) → whole_script_of octets ≡ Ok script → AreWholeLines script) (written : (script : List WholeLine) → AreWholeLines script → CarriesAreWritten script (start_worlds script)) where
  texts-one : (octets : List ℕ) → whole_text_with by_notices octets ≡ whole_text_with by_history octets
  texts-one octets = by (whole_script_of octets) refl
    where
      by : (read : Result (List WholeLine) ℕ) → whole_script_of octets ≡ read → told_as by_notices read ≡ told_as by_history read
      by (Ok script) read = (let are = read_so octets script read in ap (λ (text : List ℕ). (0, text)) (sym (one-text script are (written script are))))
      by (Err n) read = refl

  pub whole-replies-one : WholeRepliesAreOne
  unfolding whole_reply
  whole-replies-one octets = ap (λ (p : ℕ × List ℕ). record { status = p.0; text = p.1 }) (texts-one octets)
