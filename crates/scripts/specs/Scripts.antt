-- Which lists of lines are scripts.
--     lines_in text      the lines of a text
--     may_follow all known line, known_behind known line      whether a line may stand there, and what is known behind it
--     fits all known line      both
--     script_of text      the script, or the number of the first line outside
--     happening lines      those lines that neither are head lines nor say nothing
--     AreDistinct words      no word twice
use Rattle.std.specs.Prelude.{ℕ, ◌+◌, Bool, true, false, not, ◌&&◌, ◌||◌, List, [], ◌∷◌, ◌++◌, map, length, find, filter, filter_map, Option, Some, None, Result, Ok, Err, is_some, is_none, nat_lt, ◌==◌, option_map, if◌then◌else◌}
use Rattle.std.specs.List.{list_any, onto_first, IsDistinct}
use Rattle.std.specs.Str.{bytes_eq}
use Rattle.push_base.specs.Optional.{◌>>=◌}
use Rattle.history.specs.Homes.{NamedHome, home_fault}
use Rattle.history.specs.declared.entry.HomeKind.TheVariants as of_home
use Rattle.scripts.specs.declared.read.TheConstants as read
use Rattle.scripts.specs.Lines.{Word, HeadLine, timers, zone, link, reverse, ScriptLine, silent, head_line, joining, hub_event, link_event, client_call, client_passing, client_event, session_event, line_of}
use Rattle.scripts.specs.declared.line.ClientEvent.{ClientEvent}
use Rattle.scripts.specs.declared.line.ClientEvent.TheVariants as client_events
use Rattle.scripts.specs.declared.line.SessionEvent.{SessionEvent}
use Rattle.scripts.specs.declared.line.SessionEvent.TheVariants as session_events

-- a line feed ends a line, and any other octet begins the first one
abbrev pub onto_line : ℕ → List (List ℕ) → List (List ℕ)
onto_line octet lines = if octet == 10 then [] ∷ lines else onto_first octet lines

-- the lines: a line feed ends each, which the last may lack
abbrev pub lines_in : List ℕ → List (List ℕ)
lines_in [] = []
lines_in (octet ∷ octets) = onto_line octet (lines_in octets)

-- what the lines so far have made
pub record Known : Type 0 where
  pub in_head : Bool
  pub has_timers : Bool
  pub homes : List NamedHome
  pub links : List Word
  -- each client's word, and whether it is a lone one
  pub clients : List (Word × Bool)

abbrev pub nothing_known : Known
nothing_known = record { in_head = true; has_timers = false; homes = []; links = []; clients = [] }

abbrev pub is_among : List Word → Word → Bool
is_among words w = list_any (bytes_eq w) words

-- whether the client of a word is a lone one, whether there is one, whether it is one of the hub, and whether it is a lone one
abbrev pub lone_in : List (Word × Bool) → Word → Option Bool
lone_in clients w = option_map (λ e. e.1) (find (λ e. bytes_eq w e.0) clients)

abbrev pub is_client_in : List (Word × Bool) → Word → Bool
is_client_in clients w = is_some (lone_in clients w)

abbrev pub is_hub_client_in : List (Word × Bool) → Word → Bool
is_hub_client_in clients w = elim (lone_in clients w) [ None ↦ false | Some is_lone ↦ not is_lone ]

abbrev pub is_lone_client_in : List (Word × Bool) → Word → Bool
is_lone_client_in clients w = elim (lone_in clients w) [ None ↦ false | Some is_lone ↦ is_lone ]

abbrev pub lone_of : Known → Word → Option Bool
lone_of known w = lone_in known.clients w

-- the words of all clients of a script
abbrev pub client_word : ScriptLine → Option Word
client_word (joining w is_lone) = Some w
client_word _ = None

abbrev pub client_words : List (Option ScriptLine) → List Word
client_words lines = filter_map (λ line. line >>= client_word) lines

-- whether a line may stand before all events
abbrev pub is_head : ScriptLine → Bool
is_head silent = true
is_head (head_line line) = true
is_head _ = false

-- the others
abbrev pub happening : List ScriptLine → List ScriptLine
happening lines = filter (λ l. not (is_head l)) lines

abbrev pub allowed : Bool → Known → Option Known
allowed test known = if test then Some known else None

abbrev pub in_events : Known → Known
in_events known = record known { in_head = false }

-- a peer has a word that no client has anywhere
abbrev pub is_peer : List Word → Word → Bool
is_peer all_clients w = not (is_among all_clients w)

abbrev pub is_client : Known → Word → Bool
is_client known w = is_client_in known.clients w

abbrev pub is_hub_client : Known → Word → Bool
is_hub_client known w = is_hub_client_in known.clients w

abbrev pub is_lone_client : Known → Word → Bool
is_lone_client known w = is_lone_client_in known.clients w

abbrev pub with_home : NamedHome → Known → Known
with_home home known = record known { homes = known.homes ++ home ∷ [] }

abbrev pub with_client : Word → Bool → Known → Known
with_client w is_lone known = record known { in_head = false; clients = known.clients ++ (w, is_lone) ∷ [] }

-- whether a further line of the head may stand there
abbrev pub may_head : Known → HeadLine → Bool
may_head known (timers i k) = not known.has_timers
may_head known (zone apex serial mode) = is_none (home_fault known.homes (apex, of_home.Zone))
may_head known (link w domain most) = not (is_among known.links w) && is_none (home_fault known.homes (domain, of_home.Link))
may_head known (reverse w domain) = is_among known.links w && is_none (home_fault known.homes (domain, of_home.Reverse))

-- octets come to lone clients alone
abbrev pub may_happen_to : List (Word × Bool) → Word → ClientEvent → Bool
may_happen_to clients w client_events.Open = is_client_in clients w
may_happen_to clients w (client_events.Feed octets) = is_lone_client_in clients w
may_happen_to clients w (client_events.Show question written) = is_client_in clients w

-- a peer alone sends octets as they are, and a lone client has no session
abbrev pub may_meet : List Word → List (Word × Bool) → Word → SessionEvent → Bool
may_meet all clients w (session_events.Send octets) = is_peer all w
may_meet all clients w (session_events.Stop rcode delay) = is_hub_client_in clients w || is_peer all w
may_meet all clients w session_events.Cut = is_client_in clients w || is_peer all w

-- whether a line may stand there, where these are the words of all clients of the script
abbrev pub may_follow : List Word → Known → ScriptLine → Bool
may_follow all known silent = true
may_follow all known (head_line line) = known.in_head && may_head known line
may_follow all known (joining w is_lone) = not (is_client known w)
may_follow all known (hub_event event) = true
may_follow all known (link_event w event) = is_among known.links w
may_follow all known (client_call w call) = is_client known w
may_follow all known (client_passing w way) = is_client known w
may_follow all known (client_event w event) = may_happen_to known.clients w event
may_follow all known (session_event w event) = may_meet all known.clients w event

-- what is known behind a line of the head
abbrev pub known_in_head : Known → HeadLine → Known
known_in_head known (timers i k) = record known { has_timers = true }
known_in_head known (zone apex serial mode) = with_home (apex, of_home.Zone) known
known_in_head known (link w domain most) = with_home (domain, of_home.Link) (record known { links = known.links ++ w ∷ [] })
known_in_head known (reverse w domain) = with_home (domain, of_home.Reverse) known

-- what is known behind it
abbrev pub known_behind : Known → ScriptLine → Known
known_behind known silent = known
known_behind known (head_line line) = known_in_head known line
known_behind known (joining w is_lone) = with_client w is_lone known
known_behind known _ = in_events known

-- what is known behind a line, or nothing where the line may not stand there
abbrev pub fits : List Word → Known → ScriptLine → Option Known
fits all known line = allowed (may_follow all known line) (known_behind known line)

abbrev pub with_line : ScriptLine → Result (List ScriptLine) ℕ → Result (List ScriptLine) ℕ
with_line line (Err n) = Err n
with_line line (Ok lines) = Ok (line ∷ lines)

-- the lines from a number on
abbrev pub lines_from : List Word → Known → ℕ → List (Option ScriptLine) → Result (List ScriptLine) ℕ
lines_from all known n [] = Ok []
lines_from all known n (None ∷ lines) = Err n
lines_from all known n (Some line ∷ lines) = elim (fits all known line) [ None ↦ Err n | Some later ↦ with_line line (lines_from all later (n + 1) lines) ]

abbrev pub max_script : ℕ
max_script = read.MOST_OCTETS

abbrev pub last_is_outside : List (Option ScriptLine) → List (Option ScriptLine)
last_is_outside [] = []
last_is_outside (l ∷ []) = None ∷ []
last_is_outside (l ∷ m ∷ more) = l ∷ last_is_outside (m ∷ more)

-- the lines of a script or of its rest, the last of which is outside where the script is too long
abbrev pub lines_left : Bool → List ℕ → List (Option ScriptLine)
lines_left too_long text = if too_long then last_is_outside (map line_of (lines_in text)) else map line_of (lines_in text)

-- the line in which octet 16,777,217 stands, which is the last one read, is outside
abbrev pub lines_read : List ℕ → List (Option ScriptLine)
lines_read text = lines_left (nat_lt max_script (length text)) text

abbrev pub script_of : List ℕ → Result (List ScriptLine) ℕ
script_of text = let lines = lines_read text in lines_from (client_words lines) nothing_known 1 lines

-- no word twice
abbrev pub AreDistinct : List Word → Type 0
AreDistinct words = IsDistinct bytes_eq words
