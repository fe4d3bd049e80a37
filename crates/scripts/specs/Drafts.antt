-- A further line behind those of a script.
--     Taken, taken_of draft      the head, the events and the clients so far
--     nothing_taken      no head, no events and no clients
--     known_by links clients      what lines that made these alone have made
--     StandsFor links clients line event, Numbered all links clients line event      an event stands for a line, and does where the line may stand there
--     IsParty clients w party      a party is that of a word
--     head_taken taken, known_of taken      the head that the lines so far have made, and what is known behind them
--     may_stand all known line      whether a line may stand there
--     HasZone, HasLink, HasReverse      homes with a further zone, link, and reverse domain of a link
--     HeadGrowsBy taken line later, GrowsBy taken line later      the head, and the head and the events with a further line
--     TakesLine all draft line later taken      the line is taken where it may stand there
--     HaveMade lines taken      the lines so far have made the head and the events
--     client_in line, is_any_word w words      the client that a line names, and whether a word is among others
use Rattle.std.specs.Prelude.{◌≡◌, ℕ, Bool, true, false, ◌==◌, List, [], ◌∷◌, ◌++◌, length, Option, Some, None, filter_map, is_some, position, unwrap_or, string_bytes}
use Rattle.std.specs.List.{list_any}
use Rattle.std.specs.Str.{bytes_eq}
use Rattle.std.specs.declared.alloc.Global.{Global}
use Rattle.std.specs.declared.string.String.{String}
use Rattle.push_base.specs.Optional.{◌>>=◌}
use Rattle.dsosession.specs.declared.session.Timers.{Timers}
use Rattle.dsosession.specs.Timing.{default_timers}
use Rattle.zoneupdate.specs.Zones.{ZoneState, new_zone}
use Rattle.history.specs.States.{State, LinkState}
use Rattle.history.specs.Kept.{HomesKept, state_of}
use Rattle.history.specs.Plans.{IsStart}
use Rattle.history.specs.declared.entry.HomeKind.TheVariants as of_home
use Rattle.scripts.specs.Lines.{Word, ScriptLine, line_of}
use Rattle.scripts.specs.Scripts.{Known, nothing_known, fits, may_follow, client_word, happening, AreDistinct}
use Rattle.scripts.specs.Heads.{Head, empty_head, head_behind, reversed_at}
use Rattle.scripts.specs.HeadHomes.{NamedHomes, no_homes}
use Rattle.scripts.specs.declared.line.ZoneLine.{ZoneLine}
use Rattle.scripts.specs.declared.line.LinkLine.{LinkLine}
use Rattle.scripts.specs.declared.line.ReverseLine.{ReverseLine}
use Rattle.scripts.specs.declared.line.HeadLine.{HeadLine}
use Rattle.scripts.specs.declared.line.HeadLine.TheVariants as heads
use Rattle.scripts.specs.declared.line.EventLine.{EventLine}
use Rattle.scripts.specs.declared.event.Event.{Event}
use Rattle.scripts.specs.declared.event.Event.TheVariants as events
use Rattle.scripts.specs.declared.event.Party.{Party}
use Rattle.scripts.specs.declared.line.Line.{Line}
use Rattle.scripts.specs.declared.line.Line.TheVariants as lines
use Rattle.scripts.specs.declared.script.Draft.{Draft}
use Rattle.scripts.specs.KeptLines.{happening_said, said}
use Rattle.scripts.specs.Events.{known_clients, words_known, event_said, each_said, party_word, IsNamed, IsNamedParty, Follow}

-- what lines that made these links and clients alone have made
abbrev pub known_by : List Word → List (Word × Bool) → Known
known_by links clients = record nothing_known { links = links; clients = clients }

-- ---- an event in place of a line

-- it says what the line does, and its numbers are those of clients that have joined, and of links
abbrev pub StandsFor : List Word → List (Word × Bool) → EventLine → Event → Type 0
StandsFor links clients line event = (event_said links clients event ≡ happening_said line) × IsNamed links clients (words_known clients) event

-- the line may stand there, and has that event, or it may not
abbrev pub Numbered : List Word → List Word → List (Word × Bool) → EventLine → Option Event → Type 0
Numbered all links clients line None = may_follow all (known_by links clients) (happening_said line) ≡ false
Numbered all links clients line (Some event) = (may_follow all (known_by links clients) (happening_said line) ≡ true) × StandsFor links clients line event

-- the party of a word
abbrev pub IsParty : List (Word × Bool) → Word → Party → Type 0
IsParty clients w party = (party_word clients party ≡ w) × IsNamedParty clients (words_known clients) party

-- ---- a line that is taken

-- the head, with the words of its links, the events and the clients so far; no timers where no line has named them
pub record Taken : Type 0 where
  pub timers : Option Timers
  pub homes : HomesKept
  pub links : List Word
  pub events : List Event
  pub clients : List (Word × Bool)

abbrev pub nothing_taken : Taken
nothing_taken = record { timers = None; homes = no_homes; links = []; events = []; clients = [] }

abbrev pub taken_of : Draft → Taken
taken_of draft = record { timers = draft.timers; homes = draft.homes.homes; links = draft.homes.words; events = draft.events.items; clients = known_clients draft.clients }

-- the head that the lines so far have made
abbrev pub head_of : Option Timers → State → List Word → Head
head_of timers start links = record { timers = unwrap_or timers default_timers; start = start; links = links }

abbrev pub head_taken : Taken → Head
head_taken taken = head_of taken.timers (state_of taken.homes) taken.links

-- what the lines so far have made
abbrev pub known_of : Taken → Known
known_of taken = record { in_head = length taken.events == 0; has_timers = is_some taken.timers; homes = taken.homes.names; links = taken.links; clients = taken.clients }

-- the line may stand there
abbrev pub may_stand : List Word → Known → ScriptLine → Bool
may_stand all known line = is_some (fits all known line)

-- ---- the draft behind it

abbrev pub with_zone : State → ZoneState → State
with_zone state zone = record state { zones = state.zones ++ zone ∷ [] }

-- a further zone
pub record HasZone (homes : HomesKept) (line : ZoneLine) (homes_then : HomesKept) : Type 0 where
  pub state : state_of homes_then ≡ with_zone (state_of homes) (new_zone line.apex line.serial line.writable)
  pub named : homes_then.names ≡ homes.names ++ (line.apex, of_home.Zone) ∷ []

abbrev pub with_link : State → LinkState → State
with_link state link = record state { links = state.links ++ link ∷ [] }

-- a further link, which has heard nothing
pub record HasLink (homes : HomesKept) (line : LinkLine) (homes_then : HomesKept) : Type 0 where
  pub state : state_of homes_then ≡ with_link (state_of homes) (record { rules = record { domain = line.domain; reverses = []; cap = line.cap }; rows = [] })
  pub named : homes_then.names ≡ homes.names ++ (line.domain, of_home.Link) ∷ []

-- a further reverse domain of the link of a word
pub record HasReverse (homes : HomesKept) (links : List Word) (line : ReverseLine) (homes_then : HomesKept) : Type 0 where
  pub state : state_of homes_then ≡ reversed_at (position (bytes_eq (string_bytes line.word)) links) line.domain (state_of homes)
  pub named : homes_then.names ≡ homes.names ++ (line.domain, of_home.Reverse) ∷ []

-- what is known by these alone
abbrev pub homes_known : NamedHomes → Known
homes_known named = record nothing_known { homes = named.homes.names; links = named.words }

-- the head with a further line of its own
abbrev pub HeadGrowsBy : Taken → HeadLine → Taken → Type 0
HeadGrowsBy taken (heads.Timers t) later = later ≡ record taken { timers = Some t }
HeadGrowsBy taken (heads.Zone z) later = HasZone taken.homes z later.homes × (later ≡ record taken { homes = later.homes })
HeadGrowsBy taken (heads.Link l) later = HasLink taken.homes l later.homes × (later ≡ record taken { homes = later.homes; links = taken.links ++ string_bytes l.word ∷ [] })
HeadGrowsBy taken (heads.Reverse r) later = HasReverse taken.homes taken.links r later.homes × (later ≡ record taken { homes = later.homes })

-- the head and the events with a further line
abbrev pub GrowsBy : Taken → Line → Taken → Type 0
GrowsBy taken lines.Silent later = later ≡ taken
GrowsBy taken (lines.Head h) later = HeadGrowsBy taken h later
GrowsBy taken (lines.Joining word is_lone) later = later ≡ record taken { events = taken.events ++ events.Joining (length taken.clients) ∷ []; clients = taken.clients ++ (string_bytes word, is_lone) ∷ [] }
GrowsBy taken (lines.Event line) later = (event : Event) × StandsFor taken.links taken.clients line event × (later ≡ record taken { events = taken.events ++ event ∷ [] })

-- the line was taken, which may stand there, or wasn't, which may not
abbrev pub TakesLine : List Word → Draft → Line → Draft → Bool → Type 0
TakesLine all draft line later true = (may_stand all (known_of (taken_of draft)) (said line) ≡ true) × GrowsBy (taken_of draft) line (taken_of later)
TakesLine all draft line later false = may_stand all (known_of (taken_of draft)) (said line) ≡ false

-- ---- all lines

-- the lines so far that happen are these events, by which the clients of these words have joined
pub record AreEvents (lines : List ScriptLine) (links joined : List Word) (clients : List (Word × Bool)) (events : List Event) : Type 0 where
  pub happen : happening lines ≡ each_said links clients events
  pub named : filter_map client_word (each_said links clients events) ≡ joined
  pub follow : Follow links clients [] events

-- the lines so far have made this head, and those that happen are these events, whichever clients are still to join
pub record HaveMade (lines : List ScriptLine) (taken : Taken) : Type 0 where
  pub events : (more : List (Word × Bool)) → AreEvents lines taken.links (words_known taken.clients) (taken.clients ++ more) taken.events
  pub head : head_behind empty_head lines ≡ head_taken taken
  pub start : IsStart (state_of taken.homes)
  pub distinct : AreDistinct (words_known taken.clients)

-- ---- words

-- the word of the client, or of the lone one, that a line names
abbrev pub client_in : List ℕ → Option Word
client_in line = line_of line >>= client_word

-- whether a word is another one, and whether it is among others
abbrev pub is_word : Word → String Global → Bool
is_word w other = bytes_eq w (string_bytes other)

abbrev pub is_any_word : Word → List (String Global) → Bool
is_any_word w words = list_any (is_word w) words
