-- An outside in memory.
--     OutsideState, telling_of      what it is, and what it tells
--     IsNewSource .. IsNewStarter      an object that wasn't used yet
--     Opens, Listens, Dials, Hears, HandsClock, HandsStarter      what the calls do that make objects
--     raised_by, failures_after      a count after an object was taken back; after a call that makes one
use Rattle.std.specs.Prelude.{◌≡◌, ◌⊎◌, ◌==◌, ℕ, Bool, true, false, Some, Ok, Err, List, [], ◌∷◌, drop, if◌then◌else◌}
use Rattle.std.specs.declared.result.Result.{Result}
use Rattle.std.specs.List.{concat}
use Rattle.push_base.specs.Causes.{next_count}
use Rattle.push_base.specs.MemSource.{SourceState}
use Rattle.push_base.specs.MemLine.{LineState}
use Rattle.push_base.specs.LineSupply.{given_octets, reads_told}
use Rattle.push_base.specs.MemSink.{SinkState}
use Rattle.push_base.specs.MemDatagrams.{DatagramsState}
use Rattle.push_base.specs.DatagramSupply.{given_told}
use Rattle.push_base.specs.MemDoors.{DoorsState}
use Rattle.push_base.specs.MemClock.{ClockState, moments_told}
use Rattle.push_base.specs.MemStarter.{StarterState}
use Rattle.push_outside.specs.declared.outside.OpenFault.{OpenFault}
use Rattle.push_outside.specs.declared.outside.OpenFault.TheVariants.{Failed, NoMemory}
use Rattle.push_outside.specs.Outside.{Telling, IsFresh, use_told}
use Rattle.push_outside.specs.Shelves.{StockState, ShelfState, HandsOut, with_room, told_back}

-- ---- objects that weren't used yet

abbrev pub IsNewSource : SourceState → Type 0
IsNewSource source = (source.calls.faults ≡ 0) × (source.octets.given ≡ [])

abbrev pub IsNewLine : LineState → Type 0
IsNewLine line = (line.calls.faults ≡ 0) × (given_octets line.items ≡ []) × IsFresh (reads_told line.items)

abbrev pub IsNewSink : SinkState → Type 0
IsNewSink sink = (sink.calls.faults ≡ 0) × (sink.taken ≡ [])

-- both ends of a connection
abbrev pub IsNewPair : LineState × SinkState → Type 0
IsNewPair ends = IsNewLine ends.0 × IsNewSink ends.1

abbrev pub IsNewDoors : DoorsState LineState SinkState → Type 0
IsNewDoors doors = (doors.calls.faults ≡ 0) × (doors.accepted ≡ 0)

abbrev pub AreNewLinks : DatagramsState → Type 0
AreNewLinks links = (links.calls.faults ≡ 0) × IsFresh (given_told links.items) × (links.sent ≡ [])

abbrev pub IsNewClock : ClockState → Type 0
IsNewClock clock = IsFresh (moments_told clock)

abbrev pub IsNewStarter : StarterState → Type 0
IsNewStarter starter = (starter.calls.faults ≡ 0) × (starter.started ≡ [])

-- ---- the outside

-- the objects that it will hand out, those that were taken back, and the counts of faults
pub record OutsideState : Type 0 where
  pub files : StockState SourceState
  pub listeners : StockState (DoorsState LineState SinkState)
  pub connections : StockState (LineState × SinkState)
  pub feeds : StockState DatagramsState
  pub clocks : List ClockState
  pub starters : List StarterState
  pub sources : ShelfState SourceState
  pub doors : ShelfState (DoorsState LineState SinkState)
  pub lines : ShelfState LineState
  pub wires : ShelfState SinkState
  pub links : ShelfState DatagramsState
  pub used_clocks : ShelfState ClockState
  pub used_starters : ShelfState StarterState
  pub reads : ℕ
  pub writes : ℕ
  pub others : ℕ

abbrev pub telling_of : OutsideState → Telling
telling_of s = record {
  opened = Some s.files.words;
  listened = Some s.listeners.words;
  dialled = Some s.connections.words;
  heard = Some s.feeds.words;
  used = told_back (λ x. use_told (Some x.octets.given) (Some (concat x.octets.items))) s.sources;
  lines = told_back (λ x. reads_told x.items) s.lines;
  wires = told_back (λ x. Some x.taken) s.wires;
  accepted = told_back (λ x. Some x.accepted) s.doors;
  links = told_back (λ x. given_told x.items) s.links;
  moments = told_back moments_told s.used_clocks;
  started = told_back (λ x. Some x.started) s.used_starters;
}

-- ---- its calls

-- a count after a call that makes an object
abbrev pub failures_after : {A : Type 0} → ℕ → Result A OpenFault → ℕ
failures_after count (Ok object) = count
failures_after count (Err Failed) = next_count count
failures_after count (Err NoMemory) = count

-- a call that makes an object found no memory
abbrev pub is_starved : {A : Type 0} → Result A OpenFault → Bool
is_starved (Ok object) = false
is_starved (Err Failed) = false
is_starved (Err NoMemory) = true

-- a count after an object with so many faults was taken back
abbrev pub raised_by : ℕ → ℕ → ℕ
raised_by faults count = if faults == 0 then count else next_count count

abbrev pub Opens : List ℕ → OutsideState → OutsideState → Result SourceState OpenFault → Type 0
Opens path before now result = HandsOut path before.files now.files before.sources now.sources result
    × (now ≡ record before { files = now.files; sources = now.sources; reads = failures_after before.reads result })

abbrev pub Listens : List ℕ → OutsideState → OutsideState → Result (DoorsState LineState SinkState) OpenFault → Type 0
Listens address before now result = HandsOut address before.listeners now.listeners before.doors now.doors result
    × (now ≡ record before { listeners = now.listeners; doors = now.doors; others = failures_after before.others result })

-- room for a wire that was handed out beside its line
abbrev pub with_wire_room : {A : Type 0} → ShelfState SinkState → Result A OpenFault → ShelfState SinkState
with_wire_room wires (Ok ends) = with_room wires
with_wire_room wires (Err Failed) = with_room wires
with_wire_room wires (Err NoMemory) = wires

abbrev pub Dials : List ℕ → OutsideState → OutsideState → Result (LineState × SinkState) OpenFault → Type 0
Dials address before now result = HandsOut address before.connections now.connections before.lines now.lines result
    × (now ≡ record before {
      connections = now.connections;
      lines = now.lines;
      wires = with_wire_room before.wires result;
      others = failures_after before.others result;
    })

abbrev pub Hears : List ℕ → OutsideState → OutsideState → Result DatagramsState OpenFault → Type 0
Hears address before now result = HandsOut address before.feeds now.feeds before.links now.links result
    × (now ≡ record before { feeds = now.feeds; links = now.links; others = failures_after before.others result })

-- the first of a list, or another one where it is empty
abbrev pub first_or : {T : Type 0} → T → List T → T
first_or otherwise [] = otherwise
first_or otherwise (x ∷ xs) = x

-- what is handed out where none is listed: a clock without moments, a starter none of whose calls fails
abbrev pub plain_clock : ClockState
plain_clock = record { items = []; calls = 0; lost = false }

abbrev pub plain_starter : StarterState
plain_starter = record { started = []; calls = record { fails = []; made = 0; faults = 0 } }

-- room for one more, if there was memory for it
abbrev pub MayHaveRoom : {T : Type 0} → ShelfState T → ShelfState T → Type 0
MayHaveRoom before now = (now ≡ with_room before) ⊎ (now ≡ before)

abbrev pub HandsClock : OutsideState → OutsideState → ClockState → Type 0
HandsClock before now clock = (clock ≡ first_or plain_clock before.clocks) × MayHaveRoom before.used_clocks now.used_clocks
    × (now ≡ record before { clocks = drop 1 before.clocks; used_clocks = now.used_clocks })

abbrev pub HandsStarter : OutsideState → OutsideState → StarterState → Type 0
HandsStarter before now starter = (starter ≡ first_or plain_starter before.starters) × MayHaveRoom before.used_starters now.used_starters
    × (now ≡ record before { starters = drop 1 before.starters; used_starters = now.used_starters })
