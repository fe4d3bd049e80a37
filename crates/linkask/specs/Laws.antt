-- What the schedule promises.
--     DueByMoment      a question is due where its moment has come
--     AskedOnce      what was asked isn't due at the same moment, and all else as it was: so asking until none is due sends what is due, each once
--     NotDueAtOnce      at the same moment it isn't due, whatever is heard or goes meanwhile
--     DueWithinASecond      within the next second only a record that grows old makes it due
--     EndingKeepsBounds, ReconfirmingKeepsBounds, HearingKeepsBounds      bounds stay bounds where rows end, where one is reconfirmed, and, lowered, where a link is heard
--     GoingKeepsBounds, ReasonsKeepBounds      and where all rows of a link go at once, and where a reason comes or goes or a question begins anew
--     WantingWants, UnwantingDrops, BeginningAnew      what these do to the questions that are wanted
use Rattle.std.specs.Prelude.{◌≡◌, ◌<◌, ◌+◌, ℕ, false, List, [], ◌∷◌, Some, None, nat_le, nat_lt, IsTrue, if◌then◌else◌}
use Rattle.std.specs.List.{list_any}
use Rattle.rrset.specs.declared.record.Key.{Key}
use Rattle.rrset.specs.declared.record.Question.{Question}
use Rattle.rrset.specs.declared.record.HeardRr.{HeardRr}
use Rattle.linkcache.specs.Rows.{LinkRows, at_moment, heard, reconfirmed, second}
use Rattle.linkask.specs.Asking.{Asks, Wanted, anew, are_in_order, is_due, next, all_due, all_asked, asked_now, rows_for, unwanted, wanted, wants_refresh}
use Rattle.linkask.specs.Bounds.{Kept, due_moment, AreBounds, all_heard, are_kept, begun_anew, reasons_for, wanted_in, with_reason, without_reason}
use Rattle.linkcache.specs.declared.rules.LinkRules.{LinkRules}

abbrev pub DueByMoment : Type 0
DueByMoment = (rows : LinkRows) (now : ℕ) (e : Question × Asks) → is_due rows now e ≡ nat_le (due_moment rows e) now

-- the rows may be others then
abbrev pub NotDueAtOnce : Type 0
NotDueAtOnce = (rows : LinkRows) (now : ℕ) (question : Question) (asks : Asks) → is_due rows now (question, asked_now now asks) ≡ false

-- as the first pause is a second, and no later one is shorter
abbrev pub DueWithinASecond : Type 0
DueWithinASecond = (rows : LinkRows) (now moment : ℕ) (question : Question) (asks : Asks) → moment < now + second
    → is_due rows moment (question, asked_now now asks) ≡ list_any (λ row. wants_refresh now moment row.1) (rows_for question rows)

-- one step of asking until none is due
pub record AsksTheFirst (rows : LinkRows) (now : ℕ) (all : Wanted) (sent : List ℕ) (others : List (List ℕ)) : Type 0 where
  pub first : (next rows now all).0 ≡ Some sent
  pub rest : all_due rows now (next rows now all).1 ≡ others
  pub asked : all_asked rows now (next rows now all).1 ≡ all_asked rows now all

abbrev pub AskedOnce : Type 0
AskedOnce = (rows : LinkRows) (now : ℕ) (all : Wanted) → IsTrue (are_in_order all)
    → (all_due rows now all ≡ [] → (next rows now all ≡ (None, all)) × (all_asked rows now all ≡ all))
    × ((sent : List ℕ) (others : List (List ℕ)) → all_due rows now all ≡ sent ∷ others → AsksTheFirst rows now all sent others)

-- the bounds are kept for the rows that a link has behind what may happen to it
abbrev pub EndingKeepsBounds : Type 0
EndingKeepsBounds = (rows : LinkRows) (now : ℕ) (kept : Kept) → AreBounds rows kept → AreBounds (at_moment rows now) kept

abbrev pub ReconfirmingKeepsBounds : Type 0
ReconfirmingKeepsBounds = (rows : LinkRows) (key : Key) (now : ℕ) (kept : Kept) → AreBounds rows kept → AreBounds (reconfirmed rows key now) kept

abbrev pub HearingKeepsBounds : Type 0
HearingKeepsBounds = (rules : LinkRules) (rows : LinkRows) (now : ℕ) (hearing : List HeardRr) (kept : Kept) → AreBounds rows kept → AreBounds (heard rules rows now hearing) (all_heard now hearing kept)

abbrev pub GoingKeepsBounds : Type 0
GoingKeepsBounds = (rows : LinkRows) (kept : Kept) → AreBounds rows kept → AreBounds [] kept

abbrev pub ReasonsKeepBounds : Type 0
ReasonsKeepBounds = (rows : LinkRows) (question : Question) (kept : Kept) → IsTrue (are_kept kept) → AreBounds rows kept
    → AreBounds rows (with_reason question kept) × AreBounds rows (without_reason question kept) × AreBounds rows (begun_anew question kept)

-- with its first reason a question is wanted, with its last it is wanted no longer
abbrev pub WantingWants : Type 0
WantingWants = (question : Question) (kept : Kept) → IsTrue (are_kept kept) → wanted_in (with_reason question kept) ≡ wanted question (wanted_in kept)

abbrev pub UnwantingDrops : Type 0
UnwantingDrops = (question : Question) (kept : Kept) → IsTrue (are_kept kept) → wanted_in (without_reason question kept) ≡ (if nat_lt 1 (reasons_for question kept) then wanted_in kept else unwanted question (wanted_in kept))

abbrev pub BeginningAnew : Type 0
BeginningAnew = (question : Question) (kept : Kept) → wanted_in (begun_anew question kept) ≡ anew question (wanted_in kept)
