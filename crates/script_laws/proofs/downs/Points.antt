-- The points of the messages that a client has taken.
--     lies      the points of a session's notes lie between the newest one when it was connected and the newest one now
--     taken-below      so does that of the last message taken
--     point-rises      with a further message taken it never falls
use Rattle.std.proofs.Common.{◌≡◌, ℕ, ◌≤◌, List, [], ◌∷◌, ◌++◌, map, Option, Some, None, sym, ap, subst, refl, le_trans}
use Rattle.std.specs.List.{AllByRecursion}
use Rattle.rrset.specs.declared.record.Question.{Question}
use Rattle.pushserver.specs.PlainHubs.{Hub, Session, Made, Note, told, note_of}
use Rattle.pushserver.specs.Hubs.{newest, session_of}
use Rattle.pushserver.specs.ToldMessages.{NotesRise}
use Rattle.pushtelling.specs.Runs.{notes_of, LiesBetween}
use Rattle.pushtelling.proofs.Between.{notes_lie_between}
use Rattle.pushclient.proofs.SoundWishes.{all_at}
use Rattle.replay.specs.World.{last_of}
use Rattle.replay.specs.Promises.{point_taken}
use Rattle.script_laws.specs.Reached.{Began}

pub lies : (hub : Hub) (number start : ℕ) (session : Session) → Began hub number start → session_of hub number ≡ Some session → AllByRecursion (LiesBetween start (newest hub)) (notes_of hub session)
lies hub number start session b there =
    let now : AllByRecursion (LiesBetween (newest b.first) (newest hub)) (notes_of hub session) =
    subst (λ (h : Hub). session_of h number ≡ Some session → AllByRecursion (LiesBetween (newest b.first) (newest h)) (notes_of h session)) (sym b.is) (notes_lie_between b.first b.calls number session b.fresh) there in
    subst (λ low. AllByRecursion (LiesBetween low (newest hub)) (notes_of hub session)) b.newest_then now

-- the note of a session as it is now is among them
order : (hub : Hub) (start : ℕ) (session : Session) (question : Question) → AllByRecursion (LiesBetween start (newest hub)) (notes_of hub session) → start ≤ newest hub
order hub start session question all = let last = all_at (LiesBetween start (newest hub)) (map (λ m. m.note) session.made) (note_of (newest hub) session) [] all in le_trans (last question.name).0 (last question.name).1

-- of messages that were taken, with others behind them
below : (low high : ℕ) (question : Question) → low ≤ high → (taken behind : List Made) (notes : List Note) → AllByRecursion (LiesBetween low high) (map (λ m. m.note) (taken ++ behind) ++ notes) → point_taken low taken question ≤ high
below low high question most [] behind notes all = most
below low high question most (m ∷ []) behind notes all = (all.0 question.name).1
below low high question most (m ∷ n ∷ ms) behind notes all = below low high question most (n ∷ ms) behind notes all.1

pub taken-below : (hub : Hub) (start : ℕ) (session : Session) (question : Question) (taken behind : List Made) → session.made ≡ taken ++ behind → AllByRecursion (LiesBetween start (newest hub)) (notes_of hub session)
    → point_taken start taken question ≤ newest hub
taken-below hub start session question taken behind made all =
    below start (newest hub) question (order hub start session question all) taken behind (note_of (newest hub) session ∷ [])
    (subst (λ ms. AllByRecursion (LiesBetween start (newest hub)) (map (λ m. m.note) ms ++ note_of (newest hub) session ∷ [])) made all)

last-behind : (ms : List Made) (m : Made) → last_of (ms ++ m ∷ []) ≡ Some m
last-behind [] m = refl
last-behind (n ∷ []) m = refl
last-behind (n ∷ l ∷ ls) m = last-behind (l ∷ ls) m

rises : (low high : ℕ) (question : Question) (taken : List Made) (m : Made) (behind : List Made) (notes : List Note) → NotesRise (map (λ m. m.note) (taken ++ m ∷ behind) ++ notes)
    → AllByRecursion (LiesBetween low high) (map (λ m. m.note) (taken ++ m ∷ behind) ++ notes) → point_taken low taken question ≤ told m.note question.name
rises low high question [] m behind notes rise all = (all.0 question.name).0
rises low high question (n ∷ []) m behind notes rise all = rise.0 question.name
rises low high question (n ∷ l ∷ ls) m behind notes rise all = rises low high question (l ∷ ls) m behind notes rise.1 all.1

pub point-rises : (hub : Hub) (start : ℕ) (session : Session) (question : Question) (taken : List Made) (m : Made) (behind : List Made) → session.made ≡ taken ++ m ∷ behind → NotesRise (notes_of hub session)
    → AllByRecursion (LiesBetween start (newest hub)) (notes_of hub session) → point_taken start taken question ≤ point_taken start (taken ++ m ∷ []) question
point-rises hub start session question taken m behind made rise all =
    let notes = note_of (newest hub) session ∷ [] in
    let least = rises start (newest hub) question taken m behind notes (subst (λ ms. NotesRise (map (λ m. m.note) ms ++ notes)) made rise)
    (subst (λ ms. AllByRecursion (LiesBetween start (newest hub)) (map (λ m. m.note) ms ++ notes)) made all) in
    subst (λ n. point_taken start taken question ≤ n) (sym (ap point (last-behind taken m))) least
  where
    point : Option Made → ℕ
    point o = elim o as (λ _. ℕ) [ None ↦ start | Some m ↦ told m.note question.name ]
