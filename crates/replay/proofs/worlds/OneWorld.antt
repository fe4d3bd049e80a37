-- The world behind a line doesn't depend on which records a held question shows.
use Rattle.std.proofs.Common.{◌≡◌, ℕ, List, [], ◌∷◌, map, Option, Some, None, codes, decimal, refl, sym, ◌∙◌}
use Rattle.rrset.specs.declared.record.Question.{Question}
use Rattle.scripts.specs.Lines.{Word, ScriptLine, client_event}
use Rattle.scripts.specs.declared.line.ClientEvent.TheVariants as client_events
use Rattle.replay.specs.World.{Seat, World, seat_of}
use Rattle.scripts.specs.Words.{spaced}
use Rattle.replay.specs.TextWords.{record_line, ShowTold, HeldRecords, by_history, show_at}
use Rattle.replay.specs.Text.{Printed, line_does, quietly, shows}

-- what is shown of a question, by the client that has the word
abbrev pub shows_by : HeldRecords → Word → Question → List ℕ → World → Option Seat → Printed
shows_by records w question written world o = elim o as (λ _. Printed) [
  | None ↦ quietly world
  | Some seat ↦ (let t : ShowTold = show_at records world seat question in
      (world, spaced (codes "show" ∷ w ∷ written ∷ decimal question.kind ∷ decimal question.class ∷ t.0 ∷ []) ∷ map record_line t.1))
]

pub shows-leave : (records : HeldRecords) (w : Word) (question : Question) (written : List ℕ) (world : World) → (shows records w question written world).0 ≡ world
shows-leave records w question written world = by (seat_of world w)
  where
    by : (o : Option Seat) → (shows_by records w question written world o).0 ≡ world
    by None = refl
    by (Some seat) = refl

pub one-world : (records : HeldRecords) (line : ScriptLine) (world : World) → (line_does records line world).0 ≡ (line_does by_history line world).0
one-world records (client_event w (client_events.Show question written)) world = shows-leave records w question written world ∙ sym (shows-leave by_history w question written world)
one-world records _ world = refl
