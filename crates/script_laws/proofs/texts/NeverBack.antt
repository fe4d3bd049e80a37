-- No `held` line shows an earlier point than one before it.
--     never-back
use Rattle.std.proofs.Common.{◌≡◌, ℕ, ◌-◌, ◌≤◌, ◌<◌, Bool, true, false, zero, suc, List, [], ◌∷◌, ◌++◌, length, Option, Some, None, refl, ap, sym, ◌∙◌, subst, append_assoc, arith}
use Rattle.std.specs.Prelude.{◌||◌, get_or, option_to_list, if◌then◌else◌}
use Rattle.std.specs.List.{AllByRecursion}
use Rattle.std.specs.List.Sorted.{IsNonDecreasing}
use Rattle.std.specs.Str.{bytes_eq}
use Rattle.std.proofs.lemmas.List.{append-nil}
use Rattle.std.proofs.lemmas.List.Sorted.{IsNonDecreasingBy-push, IsNonDecreasingBy-short}
use Rattle.rrset.specs.declared.record.Question.{Question}
use Rattle.pushserver.specs.PlainHubs.{Hub, Note}
use Rattle.pushclient.specs.Clients.{Held, off, asked_only, refused_with, set_held, held}
use Rattle.pushclient.proofs.SoundWishes.{find_holds}
use Rattle.scripts.specs.Lines.{Word, ScriptLine}
use Rattle.replay.specs.World.{World, Seat, seat_of, start_world}
use Rattle.replay.specs.TextWords.{by_history, note_in, is_filling}
use Rattle.replay.specs.Text.{line_does, world_after}
use Rattle.replay.specs.HeldPoints.{is_show_of, point_of_note, point_of_held, point_at, held_points_from}
use Rattle.replay.specs.Promises.{point_taken}
use Rattle.scripts.proofs.lines.SameWords.{same_word}
use Rattle.script_laws.specs.Reached.{ReachedSessions}
use Rattle.script_laws.specs.Whole.{shown_by, StandsAfter, StandsAfterEachLine, ScriptsNeverGoBack}
use Rattle.script_laws.proofs.texts.Shows.{shown-taken, stands_as}
use Rattle.script_laws.proofs.texts.Along.{seat-stands}

at-each : (P : ℕ → Type 0) (xs : List ℕ) (i d : ℕ) → AllByRecursion P xs → i < length xs → P (get_or xs i d)
at-each P [] i d all less = absurd (omega (arith, less))
at-each P (x ∷ xs) zero d all less = all.0
at-each P (x ∷ xs) (suc i) d all less = at-each P xs i d all.1 (omega (arith, less))

-- one more that is no earlier than each before it
pub pushed : (xs : List ℕ) (y : ℕ) → IsNonDecreasing xs → AllByRecursion (λ x. x ≤ y) xs → IsNonDecreasing (xs ++ y ∷ [])
pushed xs y rising all = IsNonDecreasingBy-push (λ x. x) xs y rising (λ d some. at-each (λ x. x ≤ y) xs (length xs - 1) d all (omega (arith, some)))

abbrev one_more : Bool → Option ℕ → List ℕ
one_more shows point = if shows then option_to_list point else []

-- the points of some lines and one more
points-append : (w : Word) (question : Question) (before : List ScriptLine) (line : ScriptLine) (world : World)
    → held_points_from w question (before ++ line ∷ []) world ≡ held_points_from w question before world ++ one_more (is_show_of w question line) (point_at (world_after before world) w question)
points-append w question [] line world = append-nil (one_more (is_show_of w question line) (point_at world w question))
points-append w question (l ∷ ls) line world =
    let one = one_more (is_show_of w question l) (point_at world w question) in
    let next : World = (line_does by_history l world).0 in
    ap (λ ps. one ++ ps) (points-append w question ls line next)
    ∙ sym (append_assoc one (held_points_from w question ls next) (one_more (is_show_of w question line) (point_at (world_after ls next) w question)))

abbrev noted_as : Hub → Seat → Option ℕ → Option Note
noted_as hub seat number = note_in hub (record seat { session = number })

-- a client without a session shows no point
unshown : (world : World) (seat : Seat) (question : Question) (point : ℕ) → seat.session ≡ None → point_of_held (held seat.client question) world seat question ≡ Some point → ⊥
unshown world seat question point is shows = by (held seat.client question) shows
  where
    note : note_in world.hub seat ≡ None
    note = ap (noted_as world.hub seat) is

    at : (hidden : Bool) → (if hidden then None else point_of_note question (note_in world.hub seat)) ≡ Some point → ⊥
    at true e = absurd cc
    at false e = let no : point_of_note question None ≡ Some point = ap (point_of_note question) (sym note) ∙ e in absurd cc

    by : (h : Held) → point_of_held h world seat question ≡ Some point → ⊥
    by off e = absurd cc
    by asked_only e = absurd cc
    by (refused_with rcode) e = absurd cc
    by (set_held id set) e = at (seat.is_lone || is_filling seat id) e

abbrev point_in_seat : World → Question → Option Seat → Option ℕ
point_in_seat world question seat = elim seat as (λ _. Option ℕ) [ None ↦ None | Some seat ↦ point_of_held (held seat.client question) world seat question ]

module _ (sessions : ReachedSessions) where
  module _ (start : World) (w : Word) (question : Question) where
    -- the point that is shown is no earlier than those before it
    no-earlier : (before : List ScriptLine) (point : ℕ) → StandsAfter before start → point_at (world_after before start) w question ≡ Some point → AllByRecursion (λ p. p ≤ point) (held_points_from w question before start)
    no-earlier before point stands shows = by (seat_of (world_after before start) w) refl shows
      where
        in_seat : (seat : Seat) → seat_of (world_after before start) w ≡ Some seat → point_of_held (held seat.client question) (world_after before start) seat question ≡ Some point
            → (number : Option ℕ) → seat.session ≡ number → stands_as (world_after before start).hub (shown_by before start seat.word) seat number → AllByRecursion (λ p. p ≤ point) (held_points_from w question before start)
        in_seat seat there shows None is apart = absurd (unshown (world_after before start) seat question point is shows)
        in_seat seat there shows (Some number) is joined =
            let same : seat.word ≡ w = same_word seat.word w (find_holds (λ s. bytes_eq s.word w) (world_after before start).seats seat there) in
            let taken : point_taken joined.joined.start joined.joined.flight.taken question ≡ point = shown-taken (world_after before start) (shown_by before start seat.word) seat number point question stands.reached is joined shows in
            subst (λ p. AllByRecursion (λ q. q ≤ p) (held_points_from w question before start)) taken
            (subst (λ v. AllByRecursion (λ p. p ≤ point_taken joined.joined.start joined.joined.flight.taken question) (held_points_from v question before start)) same (joined.joined.shown_before question))

        by : (o : Option Seat) → seat_of (world_after before start) w ≡ o → point_in_seat (world_after before start) question o ≡ Some point → AllByRecursion (λ p. p ≤ point) (held_points_from w question before start)
        by None is e = absurd cc
        by (Some seat) is e = in_seat seat is e seat.session refl (seat-stands (shown_by before start) (world_after before start) w seat stands is)

    one-further : (before : List ScriptLine) (line : ScriptLine) → StandsAfter before start → IsNonDecreasing (held_points_from w question before start) → IsNonDecreasing (held_points_from w question (before ++ line ∷ []) start)
    one-further before line stands rising = subst IsNonDecreasing (sym (points-append w question before line start)) (by (is_show_of w question line))
      where
        of_point : (o : Option ℕ) → point_at (world_after before start) w question ≡ o → IsNonDecreasing (held_points_from w question before start ++ option_to_list o)
        of_point None is = subst IsNonDecreasing (sym (append-nil (held_points_from w question before start))) rising
        of_point (Some point) is = pushed (held_points_from w question before start) point rising (no-earlier before point stands is)

        by : (b : Bool) → IsNonDecreasing (held_points_from w question before start ++ one_more b (point_at (world_after before start) w question))
        by false = subst IsNonDecreasing (sym (append-nil (held_points_from w question before start))) rising
        by true = of_point (point_at (world_after before start) w question) refl

    rises : (before after : List ScriptLine) → ((front back : List ScriptLine) → before ++ after ≡ front ++ back → StandsAfter front start)
        → IsNonDecreasing (held_points_from w question before start) → IsNonDecreasing (held_points_from w question (before ++ after) start)
    rises before [] stands rising = subst (λ ls. IsNonDecreasing (held_points_from w question ls start)) (sym (append-nil before)) rising
    rises before (line ∷ lines) stands rising =
        subst (λ ls. IsNonDecreasing (held_points_from w question ls start)) (append_assoc before (line ∷ []) lines)
        (rises (before ++ line ∷ []) lines (λ front back split. stands front back (sym (append_assoc before (line ∷ []) lines) ∙ split))
        (one-further before line (stands before (line ∷ lines) refl) rising))

  pub never-back : StandsAfterEachLine → ScriptsNeverGoBack
  never-back stands script w question are =
      rises (start_world script) w question [] script (λ front back split. stands script front back are split) (IsNonDecreasingBy-short (λ x. x) [] (omega arith))
