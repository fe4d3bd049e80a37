-- How a server ends.
--     is_starved, is_link_fault      how a loop ended
--     EndsFor      the end of a server, by how its loops ended and whether the outside failed while they were started
--     CountsAs      the counts are the sums of a feed that has every part
--     CountsEnds      as many loops ended as jobs were started
--     lacks_memory, fails_outside, EndsAs      why a server is given up, and how it ends then
--     cause_of, end_for      the cause that a server ends for, and its end
--     IsRegistered      a server that finished is told of with its counts, and how its loops ended
--     tells_fault      datagrams that failed have counted that
use Rattle.std.specs.Prelude.{◌≡◌, ◌⊎◌, ◌||◌, ⊤, ℕ, Bool, true, false, nat_lt, None, Some, List, Result, Ok, Err}
use Rattle.std.specs.declared.option.Option.{Option}
use Rattle.std.specs.List.{list_any}
use Rattle.history.specs.declared.entry.Totals.{Totals}
use Rattle.hublock.specs.Feeds.{FeedState}
use Rattle.hublock.specs.Registers.{Ending, entered}
use Rattle.hubloops.specs.declared.loop_end.LoopEnd.{LoopEnd}
use Rattle.hubloops.specs.declared.loop_end.LoopEnd.TheVariants as loops
use Rattle.serving.specs.declared.serve_end.ServeEnd.{ServeEnd}
use Rattle.serving.specs.declared.serve_end.ServeEnd.TheVariants as ends
use Rattle.serving.specs.declared.serve_end.Fault.{Fault}
use Rattle.serving.specs.declared.serve_end.Fault.TheVariants as faults
use Rattle.serving.specs.declared.serve_end.Cause.{Cause}
use Rattle.serving.specs.declared.serve_end.Cause.TheVariants as causes

-- memory ran out for a loop
abbrev pub is_starved : LoopEnd → Bool
is_starved loops.NoMemory = true
is_starved _ = false

-- the datagrams of a link failed
abbrev pub is_link_fault : LoopEnd → Bool
is_link_fault loops.LinkFault = true
is_link_fault _ = false

-- How a server ended whose loops ended so, and for which the outside failed or didn't while they were started. Want of memory is
-- free; every other end says that no loop told of a worse one.
abbrev pub EndsFor : ServeEnd → List LoopEnd → Type 0 → Type 0
EndsFor (ends.Served totals) told failed = (list_any is_starved told ≡ false) × (list_any is_link_fault told ≡ false)
EndsFor ends.OutsideFault told failed = (list_any is_starved told ≡ false) × ((list_any is_link_fault told ≡ true) ⊎ failed)
EndsFor ends.NoMemory told failed = ⊤

-- Where all jobs were started, there is a feed of all their parts, which are all that there are; and the counts are its sums. There
-- is none only where memory ran out.
abbrev pub CountsAs : Totals → ServeEnd → Option FeedState → Type 0
CountsAs all end None = end ≡ ends.NoMemory
CountsAs all (ends.Served totals) (Some feed) = (feed.parts ≡ all) × (feed.sums ≡ totals)
CountsAs all ends.OutsideFault (Some feed) = ⊤
CountsAs all ends.NoMemory (Some feed) = ⊤

-- so many loops ended, as many as jobs were started; unless memory ran out
abbrev pub CountsEnds : ServeEnd → ℕ → ℕ → Type 0
CountsEnds ends.NoMemory ended started = ⊤
CountsEnds (ends.Served totals) ended started = ended ≡ started
CountsEnds ends.OutsideFault ended started = ended ≡ started

-- ---- how that end is found

-- the server was given up for want of memory
abbrev pub lacks_memory : {A : Type 0} → Result A Fault → Bool
lacks_memory (Ok done) = false
lacks_memory (Err faults.Outside) = false
lacks_memory (Err faults.NoMemory) = true

-- for a fault of the outside
abbrev pub fails_outside : {A : Type 0} → Result A Fault → Bool
fails_outside (Ok done) = false
fails_outside (Err faults.Outside) = true
fails_outside (Err faults.NoMemory) = false

-- the worst of the causes that are there
abbrev pub worst_cause : Bool → Bool → Option Cause
worst_cause true failed = Some causes.NoMemory
worst_cause false true = Some causes.Outside
worst_cause false false = None

-- by what it was given up for, whether memory ran out for the list of the loops' ends, and these
abbrev pub cause_of : {A : Type 0} → Result A Fault → Bool → List LoopEnd → Option Cause
cause_of opened starved told = worst_cause (starved || (lacks_memory opened || list_any is_starved told)) (fails_outside opened || list_any is_link_fault told)

-- with these sums, unless there is a cause to end otherwise
abbrev pub end_for : Option Cause → Totals → ServeEnd
end_for None sums = ends.Served sums
end_for (Some causes.Outside) sums = ends.OutsideFault
end_for (Some causes.NoMemory) sums = ends.NoMemory

-- a server that is given up ends so, or as one that is out of memory
abbrev pub EndsAs : {A : Type 0} → Result A Fault → ServeEnd → Type 0
EndsAs (Ok done) end = ⊤
EndsAs (Err faults.Outside) end = (end ≡ ends.OutsideFault) ⊎ (end ≡ ends.NoMemory)
EndsAs (Err faults.NoMemory) end = end ≡ ends.NoMemory

-- a server that finished is told of with its counts, and how its loops ended; no other is
abbrev pub IsRegistered : ServeEnd → List LoopEnd → Option (List Ending) → Option (List Ending) → Type 0
IsRegistered (ends.Served totals) loops before now = now ≡ entered before (record { loops = loops; counts = totals })
IsRegistered ends.OutsideFault loops before now = now ≡ before
IsRegistered ends.NoMemory loops before now = now ≡ before

-- datagrams that failed have counted that
abbrev pub tells_fault : LoopEnd → ℕ → Bool
tells_fault loops.LinkFault count = nat_lt 0 count
tells_fault _ count = true
