-- Which list is shown, and when.
--     shows list progress now showing      what changed of what is shown, and what is shown then
--     is_overdue now showing      a list that isn't shown yet has waited as long as it waits at most
use Rattle.std.specs.Prelude.{ℕ, ◌+◌, min, Bool, true, false, not, ◌&&◌, ◌||◌, List, [], length, Option, Some, None, nat_le, ◌==◌, if◌then◌else◌}
use Rattle.std.specs.List.{list_all}
use Rattle.services.specs.Services.{changes}
use Rattle.services.specs.declared.service.Service.{Service}
use Rattle.services.specs.declared.service.Change.{Change}
use Rattle.browsing.specs.declared.showing.Progress.{Progress}
use Rattle.browsing.specs.declared.showing.Showing.{Showing}
use Rattle.browsing.specs.declared.showing.TheConstants as times

-- a moment so much later; the greatest number of 64 bits is the last
abbrev pub later : ℕ → ℕ → ℕ
later moment time = min (moment + time) 18446744073709551615

abbrev pub shows_nothing : Showing
shows_nothing = record { list = []; differs = None; whole = false; begun = 0 }

-- a connection was made: the list that is shown stays
abbrev pub begins_anew : ℕ → Showing → Showing
begins_anew now s = record s { differs = None; whole = false; begun = now }

abbrev pub is_found : Service → Bool
is_found s = not (length s.addresses == 0)

-- an address of each service is known
abbrev pub are_found : List Service → Bool
are_found list = list_all is_found list

-- since when what is known makes another list than the one shown
abbrev pub since : Showing → ℕ → ℕ
since s now = elim s.differs [ None ↦ now | Some moment ↦ moment ]

-- A list is ripe where it is settled. Behind the first settled one of a connection it is, too, where all that it asks for is answered and no
-- address is missing, or a second after it began to differ; before that, five seconds after the connection was made.
abbrev pub is_ripe : Showing → List Service → Progress → ℕ → Bool
is_ripe s list progress now = progress.settled || (if s.whole
    then (progress.answered && are_found list) || nat_le (later (since s now) times.PATIENCE) now
    else nat_le (later s.begun times.GRACE) now)

-- a list that differs has waited as long as it waits at most
abbrev pub is_overdue : ℕ → Showing → Bool
is_overdue now s = elim s.differs [ None ↦ false | Some moment ↦ if s.whole then nat_le (later moment times.PATIENCE) now else nat_le (later s.begun times.GRACE) now ]

-- what is known makes the list that is shown
abbrev pub is_same : Showing → List Service → Bool
is_same s list = length (changes s.list list) == 0

-- Where it makes another one, that is shown as soon as it is ripe, and what changed is told; else it is noted since when it does.
abbrev pub shows : List Service → Progress → ℕ → Showing → List Change × Showing
shows list progress now s =
    let whole = s.whole || progress.settled in
    if is_same s list then ([], record s { differs = None; whole = whole })
    else (if is_ripe s list progress now then (changes s.list list, record s { list = list; differs = None; whole = whole })
    else ([], record s { differs = Some (since s now); whole = whole }))
