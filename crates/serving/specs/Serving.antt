-- What a server did, by whether all its jobs were started.
--     numbers_of      the links of datagrams
--     is_full_run      a server that ended so started all its jobs
--     CountsBy      a count that is told went on by so many
--     Starts, Accepts, Returns      the jobs, the sessions, and the links whose datagrams are given back
--     StartsAll, Finishes      all jobs were started, and so many loops ended
--     StartsAllUnless      a server goes on until all is started
--     has_fault, CountsFault      datagrams are among these that failed; something outside counted a fault
use Rattle.std.specs.Prelude.{◌≡◌, ◌⊎◌, ◌≤◌, ◌+◌, ◌-◌, ◌^◌, ⊤, ℕ, Bool, true, false, None, Some, min, nat_lt, List, ◌∷◌, ◌++◌, length, map}
use Rattle.std.specs.declared.option.Option.{Option}
use Rattle.std.specs.List.{list_any}
use Rattle.push_base.specs.Causes.{Rose}
use Rattle.push_base.specs.Starter.{Jobs}
use Rattle.push_base.specs.Told.{TellsMore}
use Rattle.serving.specs.declared.setup.Fed.{Fed}
use Rattle.serving.specs.declared.serve_end.ServeEnd.{ServeEnd}
use Rattle.serving.specs.declared.serve_end.ServeEnd.TheVariants as ends
use Rattle.serving.specs.Jobs.{AreSeats, HandsFront, jobs_of}

abbrev pub numbers_of : {G : Type 0} → List (Fed G) → List ℕ
numbers_of feds = map (λ fed. fed.link) feds

-- datagrams are among these that have counted a fault
abbrev pub has_fault : {G : Type 0} → (G → ℕ) → List (Fed G) → Bool
has_fault count feds = list_any (λ fed. nat_lt 0 (count fed.datagrams)) feds

-- the starter's count of faults rose, or the doors' did, or datagrams that are given back have counted one
abbrev pub CountsFault : ℕ → ℕ → ℕ → ℕ → Bool → Type 0
CountsFault starter starter_now doors doors_now links = Rose starter starter_now ⊎ (Rose doors doors_now ⊎ (links ≡ true))

-- all sessions were accepted, and no job kept the server from serving them
abbrev pub is_full_run : ServeEnd → Bool
is_full_run (ends.Served totals) = true
is_full_run ends.OutsideFault = false
is_full_run ends.NoMemory = false

-- in order and no others: a job for each link, the clock's, and two for each session that got a seat, these being numbered
-- from 0; else the first of what these would be
abbrev pub Starts : Bool → ℕ → List ℕ → ℕ → Jobs → Jobs → Type 0
Starts true turns links sessions told now = (seats : ℕ) × AreSeats sessions seats × TellsMore told now (jobs_of turns links seats)
Starts false turns links sessions told now = HandsFront (jobs_of turns links sessions) told now

-- all jobs were started, and there are so many of them
abbrev pub StartsAll : ℕ → List ℕ → ℕ → Jobs → Jobs → ℕ → Type 0
StartsAll turns links sessions told now count = (seats : ℕ) × AreSeats sessions seats × TellsMore told now (jobs_of turns links seats) × (count ≡ length (jobs_of turns links seats))

-- in a full run as many loops ended as there were jobs
abbrev pub Finishes : Bool → ℕ → List ℕ → ℕ → Jobs → Jobs → ℕ → Type 0
Finishes true turns links sessions told now count = StartsAll turns links sessions told now count
Finishes false turns links sessions told now count = ⊤

-- however loops end, a server goes on until all is started, unless want of memory is told, or the starter or the doors failed
abbrev pub StartsAllUnless : ServeEnd → Type 0 → Type 0 → Type 0
StartsAllUnless (ends.Served totals) failed all = all
StartsAllUnless ends.OutsideFault failed all = failed ⊎ all
StartsAllUnless ends.NoMemory failed all = ⊤

-- a count of 64 bits that is told went on by so many; at its last value it stays
abbrev pub CountsBy : ℕ → Option ℕ → Option ℕ → Type 0
CountsBy more None now = ⊤
CountsBy more (Some before) None = ⊥
CountsBy more (Some before) (Some now) = before ≤ 2 ^ 64 - 1 → now ≡ min (before + more) (2 ^ 64 - 1)

-- so many sessions were accepted, else no more than these
abbrev pub Accepts : Bool → ℕ → Option ℕ → Option ℕ → Type 0
Accepts true sessions told now = CountsBy sessions told now
Accepts false sessions told now = (accepted : ℕ) × (accepted ≤ sessions) × CountsBy accepted told now

-- all of these but for one
abbrev pub IsWithoutOne : List ℕ → List ℕ → Type 0
IsWithoutOne all some = (front : List ℕ) × (one : ℕ) × (rest : List ℕ) × (all ≡ front ++ one ∷ rest) × (some ≡ front ++ rest)

-- these are given back in order, else all or all but for one
abbrev pub Returns : Bool → List ℕ → List ℕ → Type 0
Returns true all some = some ≡ all
Returns false all some = (some ≡ all) ⊎ IsWithoutOne all some
