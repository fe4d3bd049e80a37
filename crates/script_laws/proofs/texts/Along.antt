-- What a script prints, line by line.
--     line-alike      what a line does and prints is one, where the world stands
--     one-text      what is held is what the notices taken lead to
use Rattle.std.proofs.Common.{◌≡◌, ℕ, List, [], ◌∷◌, ◌++◌, Option, Some, None, refl, ap, sym, ◌∙◌, append_assoc}
use Rattle.std.specs.Prelude.{map, codes, decimal}
use Rattle.std.specs.Str.{bytes_eq}
use Rattle.rrset.specs.declared.record.Question.{Question}
use Rattle.pushclient.proofs.SoundWishes.{all_found}
use Rattle.scripts.specs.Lines.{Word, ScriptLine, silent, head_line, joining, hub_event, link_event, client_call, client_passing, client_event, session_event, show}
use Rattle.scripts.specs.declared.line.ClientEvent.{ClientEvent}
use Rattle.scripts.specs.declared.line.ClientEvent.TheVariants as client_events
use Rattle.replay.specs.World.{World, Seat, seat_of, start_world}
use Rattle.replay.specs.TextWords.{ShowTold, HeldRecords, by_history, by_notices, record_line, show_at}
use Rattle.scripts.specs.Words.{spaced, ended_lines}
use Rattle.replay.specs.Text.{Printed, quietly, client_does, line_does, world_after}
use Rattle.hubasking.specs.LinkAskings.{Askings}
use Rattle.replay.specs.Askings.{asked_lines, line_asks, start_askings}
use Rattle.replay.specs.ScriptTexts.{printed_by}
use Rattle.replay.specs.HeldPoints.{held_points_from}
use Rattle.replay.proofs.worlds.BetweenLines.{after-append}
use Rattle.script_laws.specs.Reached.{ReachedSessions}
use Rattle.script_laws.specs.Joined.{ShownToEach, SeatStands, WorldStands}
use Rattle.script_laws.specs.Whole.{StandsAfter, StandsAfterEachLine, LinesTellOneText}
use Rattle.script_laws.proofs.texts.Shows.{shows-alike}

-- the seat of a word stands
pub seat-stands : (shown : ShownToEach) (world : World) (w : Word) (seat : Seat) → WorldStands shown world → seat_of world w ≡ Some seat → SeatStands world.hub (shown seat.word) seat
seat-stands shown world w seat stands is = all_found (λ s. SeatStands world.hub (shown s.word) s) (λ s. bytes_eq s.word w) world.seats seat stands.seats is

abbrev pub told_line : Word → Question → List ℕ → World → ShowTold → Printed
told_line w question written world t = (world, spaced (codes "show" ∷ w ∷ written ∷ decimal question.kind ∷ decimal question.class ∷ t.0 ∷ []) ∷ map record_line t.1)

abbrev pub shows_of : HeldRecords → Word → Question → List ℕ → World → Option Seat → Printed
shows_of records w question written world seat = elim seat as (λ _. Printed) [ None ↦ quietly world | Some seat ↦ told_line w question written world (show_at records world seat question) ]

module _ (sessions : ReachedSessions) where
  show-alike : (shown : ShownToEach) (world : World) (w : Word) (question : Question) (written : List ℕ) → WorldStands shown world → line_does by_history (show w question written) world ≡ line_does by_notices (show w question written) world
  show-alike shown world w question written stands = by (seat_of world w) refl
    where
      by : (o : Option Seat) → seat_of world w ≡ o → shows_of by_history w question written world o ≡ shows_of by_notices w question written world o
      by None is = refl
      by (Some seat) is = ap (told_line w question written world) (shows-alike sessions world (shown seat.word) seat question stands.reached (seat-stands shown world w seat stands is))

  client-alike : (shown : ShownToEach) (world : World) (w : Word) (event : ClientEvent) → WorldStands shown world → client_does by_history event w world ≡ client_does by_notices event w world
  client-alike shown world w client_events.Open stands = refl
  client-alike shown world w (client_events.Feed octets) stands = refl
  client-alike shown world w (client_events.Show question written) stands = show-alike shown world w question written stands

  pub line-alike : (shown : ShownToEach) (line : ScriptLine) (world : World) → WorldStands shown world → line_does by_history line world ≡ line_does by_notices line world
  line-alike shown silent world stands = refl
  line-alike shown (head_line line) world stands = refl
  line-alike shown (joining w is_lone) world stands = refl
  line-alike shown (hub_event event) world stands = refl
  line-alike shown (link_event w event) world stands = refl
  line-alike shown (client_call w call) world stands = refl
  line-alike shown (client_passing w way) world stands = refl
  line-alike shown (client_event w event) world stands = client-alike shown world w event stands
  line-alike shown (session_event w event) world stands = refl

  -- where the world stands after each front, what is printed is one
  pub printed-alike : (start : World) (before after : List ScriptLine) → ((front back : List ScriptLine) → before ++ after ≡ front ++ back → StandsAfter front start)
      → (askings : Askings) → printed_by by_history after (world_after before start) askings ≡ printed_by by_notices after (world_after before start) askings
  printed-alike start before [] stands askings = refl
  printed-alike start before (line ∷ lines) stands askings =
      let world = world_after before start in
      let one : line_does by_history line world ≡ line_does by_notices line world = line-alike (λ w question. held_points_from w question before start) line world (stands before (line ∷ lines) refl) in
      let later : world_after (before ++ line ∷ []) start ≡ (line_does by_history line world).0 = after-append before (line ∷ []) start in
      let then = line_asks line world askings in
      let told = asked_lines line world askings in
      let rest : printed_by by_history lines (world_after (before ++ line ∷ []) start) then ≡ printed_by by_notices lines (world_after (before ++ line ∷ []) start) then =
      printed-alike start (before ++ line ∷ []) lines (λ front back split. stands front back (sym (append_assoc before (line ∷ []) lines) ∙ split)) then in
      ap (λ ls. (line_does by_history line world).1 ++ (told ++ ls)) (ap (λ (w : World). printed_by by_history lines w then) (sym later) ∙ rest ∙ ap (λ (w : World). printed_by by_notices lines w then) later)
      ∙ ap (λ p. p.1 ++ (told ++ printed_by by_notices lines p.0 then)) one

  pub one-text : StandsAfterEachLine → LinesTellOneText
  one-text stands script are = ap ended_lines (printed-alike (start_world script) [] script (λ front back split. stands script front back are split) (start_askings script))
