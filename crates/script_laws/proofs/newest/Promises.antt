-- After a settle that printed its line alone, and lines that change nothing, `show` tells the newest records.
--     settled-shows      behind such a settle
--     settled-stays      behind lines that change nothing
--     keeps-promises      of a whole script
use Rattle.std.proofs.Common.{◌≡◌, ℕ, Bool, true, false, ◌&&◌, ◌||◌, List, [], ◌∷◌, ◌++◌, Option, Some, None, refl, sym, ◌∙◌, ap, subst, append_assoc, append-nil, true≢false}
use Rattle.std.specs.Prelude.{◌==◌, length}
use Rattle.std.specs.Str.{bytes_eq}
use Rattle.rrset.proofs.Sets.{both_true}
use Rattle.rrset.specs.RecordSet.{matching}
use Rattle.rrset.specs.declared.record.Question.{Question}
use Rattle.pushserver.specs.Hubs.{records_now}
use Rattle.scripts.specs.Lines.{Word, ScriptLine, silent, hub_event, client_passing, client_event, settle, show}
use Rattle.scripts.specs.declared.line.HubEvent.TheVariants as hub_events
use Rattle.scripts.specs.declared.line.Way.TheVariants as ways
use Rattle.scripts.specs.declared.line.ClientEvent.TheVariants as client_events
use Rattle.replay.specs.World.{World, Seat, seat_of, start_world}
use Rattle.replay.specs.TextWords.{by_history}
use Rattle.replay.specs.Text.{line_does, world_after}
use Rattle.replay.specs.HeldPoints.{held_points_from, settles_alone, leaves_settled, settled_from}
use Rattle.replay.specs.Promises.{ShowsNewest, held_lines, SeatIsQuiet}
use Rattle.replay.proofs.worlds.BetweenLines.{after-append}
use Rattle.scripts.proofs.lines.SameWords.{same_word}
use Rattle.script_laws.specs.Reached.{ReachedSessions, ReachedOnesAreSound}
use Rattle.script_laws.specs.Joined.{StandsWith, ShownToEach, WorldStands}
use Rattle.script_laws.specs.Walk.{SettlesPass}
use Rattle.script_laws.specs.Whole.{StandsAfterEachLine, ScriptsNeverGoBack, LinesKeepPromises}
use Rattle.script_laws.specs.Settling.{SettlesOfLines}
use Rattle.script_laws.proofs.texts.Along.{told_line, shows_of, seat-stands}
use Rattle.script_laws.proofs.texts.Shows.{stands_as}
use Rattle.script_laws.proofs.newest.Showing.{shows-newest}
use Rattle.script_laws.proofs.newest.Settled.{KeepsSession, settled-joined}

-- ---- lines that change nothing

shown-world : (w : Word) (question : Question) (written : List ℕ) (world : World) (o : Option Seat) → (shows_of by_history w question written world o).0 ≡ world
shown-world w question written world None = refl
shown-world w question written world (Some seat) = refl

same-world : (line : ScriptLine) (world : World) → leaves_settled line ≡ true → (line_does by_history line world).0 ≡ world
same-world silent world is = refl
same-world (hub_event hub_events.Point) world is = refl
same-world (client_event w (client_events.Show question written)) world is = shown-world w question written world (seat_of world w)
same-world _ world is = absurd cc

-- ---- a settle

abbrev SettlesQuietly : Word → World → Type 0
SettlesQuietly w world = (seat : Seat) → seat_of world w ≡ Some seat → SeatIsQuiet world.hub seat

module _ (sessions : ReachedSessions) (sound : ReachedOnesAreSound) (settles : SettlesPass) where
  -- of a seat that has a session in a world that stands
  seat-shows : (shown : ShownToEach) (world : World) (w : Word) → WorldStands shown world → KeepsSession world w → SettlesQuietly w world → ShowsNewest world w
  seat-shows shown world w stands joined quiet seat question written there wanted served =
      let has = joined seat there in
      by has.0 has.1 (subst (stands_as world.hub (shown seat.word) seat) has.1 (seat-stands shown world w seat stands there))
    where
      by : (number : ℕ) → seat.session ≡ Some number → StandsWith world.hub (shown seat.word) seat number → (line_does by_history (show w question written) world).1 ≡ held_lines w question written (matching question (records_now world.hub))
      by number has with_session =
          ap (λ o. (shows_of by_history w question written world o).1) there
          ∙ ap (λ t. (told_line w question written world t).1)
          (shows-newest sessions sound world (shown seat.word) seat number question stands.reached has with_session
          (quiet seat there number with_session.session with_session.connection has with_session.joined.there with_session.joined.connected) wanted served)

  -- where a settle leaves nothing under way
  settled-shows : (shown then : ShownToEach) (line : ScriptLine) (world : World) (w : Word) → WorldStands shown world → WorldStands then (line_does by_history line world).0 → settles_alone w line world ≡ true
      → ((v : Word) → line ≡ settle v → settles_alone v (settle v) world ≡ true → SettlesQuietly v (line_does by_history (settle v) world).0) → ShowsNewest (line_does by_history line world).0 w
  settled-shows shown then (client_passing v ways.Settle) world w stands later alone quiet =
      let first = both_true (bytes_eq w v && length (line_does by_history (settle v) world).1 == 1) _ alone in
      let same : w ≡ v = same_word w v (both_true (bytes_eq w v) (length (line_does by_history (settle v) world).1 == 1) first.0).0 in
      let own : settles_alone v (settle v) world ≡ true = subst (λ u. settles_alone u (settle v) world ≡ true) same alone in
      subst (ShowsNewest (line_does by_history (settle v) world).0) (sym same)
      (seat-shows then (line_does by_history (settle v) world).0 v later (settled-joined settles shown world v stands own) (quiet v refl own))
  settled-shows shown then _ world w stands later alone quiet = absurd cc

  -- ---- the lines behind

  module _ (start : World) (w : Word) (shown : List ScriptLine → ShownToEach) where
    settled-stays : (before after : List ScriptLine) (so_far : Bool)
        → ((front back : List ScriptLine) → before ++ after ≡ front ++ back → WorldStands (shown front) (world_after front start))
        → ((front back : List ScriptLine) (v : Word) → before ++ after ≡ front ++ settle v ∷ back → settles_alone v (settle v) (world_after front start) ≡ true → SettlesQuietly v (world_after (front ++ settle v ∷ []) start))
        → (so_far ≡ true → ShowsNewest (world_after before start) w) → settled_from w so_far after (world_after before start) ≡ true → ShowsNewest (world_after (before ++ after) start) w
    settled-stays before [] so_far stands quiet had is = subst (λ ls. ShowsNewest (world_after ls start) w) (sym (append-nil before)) (had is)
    settled-stays before (line ∷ lines) so_far stands quiet had is =
        subst (λ ls. ShowsNewest (world_after ls start) w) grouped
        (settled-stays (before ++ line ∷ []) lines (alone || (so_far && leaves_settled line)) (λ front back split. stands front back (sym grouped ∙ split)) (λ front back v split. quiet front back v (sym grouped ∙ split))
        (λ h. subst (λ v. ShowsNewest v w) (sym next) (by alone (so_far && leaves_settled line) refl refl h))
        (subst (λ v. settled_from w (alone || (so_far && leaves_settled line)) lines v ≡ true) (sym next) is))
      where
        world : World
        world = world_after before start

        alone : Bool
        alone = settles_alone w line world

        grouped : (before ++ line ∷ []) ++ lines ≡ before ++ line ∷ lines
        grouped = append_assoc before (line ∷ []) lines

        next : world_after (before ++ line ∷ []) start ≡ (line_does by_history line world).0
        next = after-append before (line ∷ []) start

        by : (a b : Bool) → alone ≡ a → (so_far && leaves_settled line) ≡ b → (a || b) ≡ true → ShowsNewest (line_does by_history line world).0 w
        by true b settled_now stays h =
            settled-shows (shown before) (shown (before ++ line ∷ [])) line world w (stands before (line ∷ lines) refl)
            (subst (WorldStands (shown (before ++ line ∷ []))) next (stands (before ++ line ∷ []) lines (sym grouped))) settled_now
            (λ v is own. subst (SettlesQuietly v) (after-append before (settle v ∷ []) start) (quiet before lines v (ap (λ l. before ++ l ∷ lines) is) own))
        by false true settled_now stays h =
            let both = both_true so_far (leaves_settled line) stays in
            subst (λ v. ShowsNewest v w) (sym (same-world line world both.1)) (had both.0)
        by false false settled_now stays h = absurd (true≢false (sym h))

  pub keeps-promises : StandsAfterEachLine → ScriptsNeverGoBack → SettlesOfLines → LinesKeepPromises
  keeps-promises stands never quiet script are w = (
    λ question. never script w question are,
    λ before after split is. settled-stays (start_world script) w (λ front v question. held_points_from v question front (start_world script)) [] before false
        (λ front back parts. stands script front (back ++ after) are (split ∙ ap (λ ls. ls ++ after) parts ∙ append_assoc front back after))
        (λ front back v parts alone seat there. quiet script are front (back ++ after) v seat (split ∙ ap (λ ls. ls ++ after) parts ∙ append_assoc front (settle v ∷ back) after) alone there)
        (λ no. absurd (true≢false (sym no))) is,
  )
