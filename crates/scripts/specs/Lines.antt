-- The lines of a script, each by itself.
--     line_of text      what a line says, or nothing where it is outside the grammar
--     kind_of word      the kind of a line by its first word
--     line_behind kind words      what a line of a kind says, by the words behind its first
use Rattle.std.specs.Prelude.{ℕ, ◌+◌, ◌-◌, ◌*◌, Bool, true, false, not, ◌&&◌, ◌||◌, List, [], ◌∷◌, length, fold, Option, Some, None, nat_lt, nat_le, ◌==◌, codes, option_map, if◌then◌else◌}
use Rattle.std.specs.List.{list_all, slice_split}
use Rattle.std.specs.Str.{bytes_eq, is_utf8}
use Rattle.std.specs.Result.{result_ok}
use Rattle.push_base.specs.Cases.{chosen, is_empty}
use Rattle.push_base.specs.Limits.{max_moment}
use Rattle.push_base.specs.Optional.{◌>>=◌}
use Rattle.push_base.specs.Hexadecimal.{hex_octets}
use Rattle.dsosession.specs.Timing.{least_keepalive}
use Rattle.history.specs.States.{no_cap}
use Rattle.dnsname.specs.Names.{Labels}
use Rattle.dnsname.specs.Text.{name_of_text}
use Rattle.dsotlv.specs.Notices.{last_ttl}
use Rattle.rrset.specs.declared.record.Question.{Question}
use Rattle.scripts.specs.declared.line.HubEvent.{HubEvent}
use Rattle.scripts.specs.declared.line.HubEvent.TheVariants as hub_events
use Rattle.scripts.specs.declared.line.LinkEvent.{LinkEvent}
use Rattle.scripts.specs.declared.line.LinkEvent.TheVariants as link_events
use Rattle.scripts.specs.declared.line.Call.{Call}
use Rattle.scripts.specs.declared.line.Call.TheVariants as calls
use Rattle.scripts.specs.declared.line.Way.{Way}
use Rattle.scripts.specs.declared.line.Way.TheVariants as ways
use Rattle.scripts.specs.declared.line.ClientEvent.{ClientEvent}
use Rattle.scripts.specs.declared.line.ClientEvent.TheVariants as client_events
use Rattle.scripts.specs.declared.line.SessionEvent.{SessionEvent}
use Rattle.scripts.specs.declared.line.SessionEvent.TheVariants as session_events
use Rattle.scripts.specs.declared.line.Kind.{Kind}
use Rattle.scripts.specs.declared.line.Kind.TheVariants as kinds
use Rattle.scripts.specs.declared.line_words.TheConstants as words

abbrev pub Word : Type 0
Word = List ℕ

-- what a line before all events says of the server
pub data HeadLine : Type 0 where
  timers : ℕ → ℕ → HeadLine
  zone : Labels → ℕ → Bool → HeadLine
  -- its word, its domain, and its cap
  link : Word → Labels → ℕ → HeadLine
  -- the word of its link, and the domain
  reverse : Word → Labels → HeadLine

pub data ScriptLine : Type 0 where
  -- an empty line or one that begins with #
  silent : ScriptLine
  head_line : HeadLine → ScriptLine
  -- there is one client more; whether it is a lone one
  joining : Word → Bool → ScriptLine
  -- what happens: at the hub, on the link of a word, by a call of a client, as octets of a client pass, to a client, and to
  -- the session of a peer or of a client
  hub_event : HubEvent → ScriptLine
  link_event : Word → LinkEvent → ScriptLine
  client_call : Word → Call → ScriptLine
  client_passing : Word → Way → ScriptLine
  client_event : Word → ClientEvent → ScriptLine
  session_event : Word → SessionEvent → ScriptLine

-- lines by their first words
abbrev pub ask : Word → Question → ScriptLine
ask w question = client_call w (calls.Ask question)

abbrev pub open_connection : Word → ScriptLine
open_connection w = client_event w client_events.Open

abbrev pub feed : Word → List ℕ → ScriptLine
feed w octets = client_event w (client_events.Feed octets)

-- the question, and its name as it is written
abbrev pub show : Word → Question → List ℕ → ScriptLine
show w question written = client_event w (client_events.Show question written)

abbrev pub settle : Word → ScriptLine
settle w = client_passing w ways.Settle

abbrev pub send : Word → List ℕ → ScriptLine
send w octets = session_event w (session_events.Send octets)

abbrev pub max_u16 : ℕ
max_u16 = words.MAX_U16

abbrev pub max_u32 : ℕ
max_u32 = words.MAX_U32

-- of a message without EDNS (RFC 1035, 4.1.1)
abbrev pub max_rcode : ℕ
max_rcode = words.MAX_RCODE

-- the most letters and digits of a word, and the most hexadecimal digits
abbrev pub longest_word : ℕ
longest_word = words.LONGEST_WORD

abbrev pub most_digits : ℕ
most_digits = words.MOST_DIGITS

-- what a wire holds at most
abbrev pub max_octets_passed : ℕ
max_octets_passed = words.MAX_WIRE

abbrev pub is_digit : ℕ → Bool
is_digit c = nat_le 48 c && nat_le c 57

abbrev pub begins_with_zero : List ℕ → Bool
begins_with_zero (c ∷ d ∷ ds) = c == 48
begins_with_zero _ = false

-- whether a word has the form of a number: digits, at least one, and no leading zeros
abbrev pub has_form : Word → Bool
has_form [] = false
has_form (c ∷ cs) = list_all is_digit (c ∷ cs) && not (begins_with_zero (c ∷ cs))

-- a decimal number without leading zeros, at most the first one
abbrev pub number : ℕ → Word → Option ℕ
number greatest [] = None
number greatest (c ∷ cs) =
    let n = fold (λ n d. 10 * n + (d - 48)) 0 (c ∷ cs) in
    if has_form (c ∷ cs) && nat_le n greatest then Some n else None

-- a number from one to another
abbrev pub number_from : ℕ → ℕ → Word → Option ℕ
number_from least greatest w = number greatest w >>= λ n. if nat_le least n then Some n else None

abbrev pub number16 : Word → Option ℕ
number16 = number max_u16

abbrev pub number32 : Word → Option ℕ
number32 = number max_u32

-- what stands in a word: digits and lower-case letters
abbrev pub is_word_octet : ℕ → Bool
is_word_octet c = is_digit c || (nat_le 97 c && nat_le c 122)

-- 1 to 32 lower-case letters and digits
abbrev pub word : Word → Option Word
word w = if nat_le 1 (length w) && nat_le (length w) longest_word && list_all is_word_octet w then Some w else None

-- an even number of hexadecimal digits, at most 131,074, or - for none
abbrev pub octets_written : Word → Option (List ℕ)
octets_written w = if bytes_eq w (codes "-") then Some [] else if is_empty w || nat_lt most_digits (length w) then None else result_ok (hex_octets w)

-- the words of a line, with one space between two of them
abbrev pub words_in : List ℕ → List Word
words_in text = slice_split (λ d. d == 32) text

abbrev pub is : Word → List ℕ → Bool
is w text = bytes_eq w text

abbrev pub question : Word → Word → Word → Option Question
question n k c = do
  name ← name_of_text n
  kind ← number16 k
  class ← number16 c
  Some (record { name = name; kind = kind; class = class })

-- by the number of words behind the first
abbrev pub alone : ScriptLine → List Word → Option ScriptLine
alone line [] = Some line
alone line _ = None

abbrev pub of_word : (Word → ScriptLine) → List Word → Option ScriptLine
of_word line (w ∷ []) = option_map (λ c. line c) (word w)
of_word line _ = None

abbrev pub of_octets : (List ℕ → ScriptLine) → List Word → Option ScriptLine
of_octets line (h ∷ []) = option_map (λ o. line o) (octets_written h)
of_octets line _ = None

abbrev pub of_word_and_octets : (Word → List ℕ → ScriptLine) → List Word → Option ScriptLine
of_word_and_octets line (w ∷ h ∷ []) = word w >>= λ c. octets_written h >>= λ o. Some (line c o)
of_word_and_octets line _ = None

abbrev pub of_word_and_number : (Word → ℕ → ScriptLine) → List Word → Option ScriptLine
of_word_and_number line (w ∷ n ∷ []) = word w >>= λ c. number max_octets_passed n >>= λ m. Some (line c m)
of_word_and_number line _ = None

abbrev pub of_word_and_question : (Word → Question → ScriptLine) → List Word → Option ScriptLine
of_word_and_question line (w ∷ n ∷ k ∷ c ∷ []) = word w >>= λ p. question n k c >>= λ q. Some (line p q)
of_word_and_question line _ = None

abbrev pub timers_line : List Word → Option ScriptLine
timers_line (i ∷ k ∷ []) = number32 i >>= λ inactivity. number32 k >>= λ keepalive. if nat_le least_keepalive keepalive then Some (head_line (timers inactivity keepalive)) else None
timers_line _ = None

-- whether a zone may be written
abbrev pub writable_of : Word → Option Bool
writable_of w = if is w (codes "open") then Some true else if is w (codes "shut") then Some false else None

abbrev pub zone_line : List Word → Option ScriptLine
zone_line (n ∷ s ∷ mode ∷ []) = name_of_text n >>= λ apex. number32 s >>= λ serial. option_map (λ writable. head_line (zone apex serial writable)) (writable_of mode)
zone_line _ = None

-- a cap: a TTL (RFC 2181, 8), but not 0
abbrev pub cap_written : Word → Option ℕ
cap_written w = number_from 1 last_ttl w

-- a link of that word, name and cap
abbrev pub link_named : Word → Word → Option ℕ → Option ScriptLine
link_named w n most = word w >>= λ l. name_of_text n >>= λ domain. option_map (λ m. head_line (link l domain m)) most

abbrev pub link_line : List Word → Option ScriptLine
link_line (w ∷ n ∷ []) = link_named w n (Some no_cap)
link_line (w ∷ n ∷ c ∷ []) = link_named w n (cap_written c)
link_line _ = None

-- a reverse domain of the link of that word
abbrev pub reverse_line : List Word → Option ScriptLine
reverse_line (w ∷ n ∷ []) = word w >>= λ l. name_of_text n >>= λ domain. Some (head_line (reverse l domain))
reverse_line _ = None

abbrev pub at_line : List Word → Option ScriptLine
at_line (t ∷ []) = option_map (λ n. hub_event (hub_events.At n)) (number max_moment t)
at_line _ = None

abbrev pub reconfirm_line : List Word → Option ScriptLine
reconfirm_line (w ∷ n ∷ k ∷ c ∷ h ∷ []) = word w >>= λ p. question n k c >>= λ q. octets_written h >>= λ rdata.
    Some (client_call p (calls.Reconfirm (record { owner = q.name; class = q.class; kind = q.kind; ttl = 0; rdata = rdata })))
reconfirm_line _ = None

abbrev pub stop_line : List Word → Option ScriptLine
stop_line (w ∷ r ∷ d ∷ []) = word w >>= λ p. number max_rcode r >>= λ rcode. number32 d >>= λ delay. Some (session_event p (session_events.Stop rcode delay))
stop_line _ = None

abbrev pub show_line : List Word → Option ScriptLine
show_line (w ∷ n ∷ k ∷ c ∷ []) = word w >>= λ p. question n k c >>= λ q. Some (show p q n)
show_line _ = None

-- the kinds of lines of each class, by their first words
abbrev pub head_kinds : Word → List (Bool × Kind)
head_kinds w =
    (is w (codes "timers"), kinds.Timers)
    ∷ (is w (codes "zone"), kinds.Zone)
    ∷ (is w (codes "link"), kinds.Link)
    ∷ (is w (codes "reverse"), kinds.Reverse)
    ∷ []

abbrev pub hub_kinds : Word → List (Bool × Kind)
hub_kinds w =
    (is w (codes "at"), kinds.At)
    ∷ (is w (codes "update"), kinds.Update)
    ∷ (is w (codes "point"), kinds.Point)
    ∷ []

abbrev pub link_kinds : Word → List (Bool × Kind)
link_kinds w =
    (is w (codes "hear"), kinds.Hear)
    ∷ (is w (codes "gone"), kinds.Gone)
    ∷ (is w (codes "asks"), kinds.Asks)
    ∷ []

abbrev pub session_kinds : Word → List (Bool × Kind)
session_kinds w =
    (is w (codes "send"), kinds.Send)
    ∷ (is w (codes "stop"), kinds.Stop)
    ∷ (is w (codes "cut"), kinds.Cut)
    ∷ []

abbrev pub joining_kinds : Word → List (Bool × Kind)
joining_kinds w =
    (is w (codes "client"), kinds.Client)
    ∷ (is w (codes "lone"), kinds.Lone)
    ∷ []

abbrev pub call_kinds : Word → List (Bool × Kind)
call_kinds w =
    (is w (codes "ask"), kinds.Ask)
    ∷ (is w (codes "drop"), kinds.Drop)
    ∷ (is w (codes "reconfirm"), kinds.Reconfirm)
    ∷ []

abbrev pub way_kinds : Word → List (Bool × Kind)
way_kinds w =
    (is w (codes "say"), kinds.Say)
    ∷ (is w (codes "up"), kinds.Up)
    ∷ (is w (codes "emit"), kinds.Emit)
    ∷ (is w (codes "down"), kinds.Down)
    ∷ (is w (codes "settle"), kinds.Settle)
    ∷ []

abbrev pub client_kinds : Word → List (Bool × Kind)
client_kinds w =
    (is w (codes "open"), kinds.Open)
    ∷ (is w (codes "feed"), kinds.Feed)
    ∷ (is w (codes "show"), kinds.Show)
    ∷ []

-- the kind of a line by its first word: of one that makes a client or is on clients, and of any line
abbrev pub client_kind : Word → Kind
client_kind w = chosen (joining_kinds w) (chosen (call_kinds w) (chosen (way_kinds w) (chosen (client_kinds w) kinds.Other)))

abbrev pub kind_of : Word → Kind
kind_of w = chosen (head_kinds w) (chosen (hub_kinds w) (chosen (link_kinds w) (chosen (session_kinds w) (client_kind w))))

-- what a line of a kind says, by the words behind its first
abbrev pub line_behind : Kind → List Word → Option ScriptLine
line_behind kinds.Timers ws = timers_line ws
line_behind kinds.Zone ws = zone_line ws
line_behind kinds.Link ws = link_line ws
line_behind kinds.Reverse ws = reverse_line ws
line_behind kinds.At ws = at_line ws
line_behind kinds.Update ws = of_octets (λ o. hub_event (hub_events.Update o)) ws
line_behind kinds.Point ws = alone (hub_event hub_events.Point) ws
line_behind kinds.Hear ws = of_word_and_octets (λ w o. link_event w (link_events.Hear o)) ws
line_behind kinds.Gone ws = of_word (λ w. link_event w link_events.Gone) ws
line_behind kinds.Asks ws = of_word (λ w. link_event w link_events.Asks) ws
line_behind kinds.Send ws = of_word_and_octets send ws
line_behind kinds.Stop ws = stop_line ws
line_behind kinds.Cut ws = of_word (λ w. session_event w session_events.Cut) ws
line_behind kinds.Client ws = of_word (λ w. joining w false) ws
line_behind kinds.Lone ws = of_word (λ w. joining w true) ws
line_behind kinds.Ask ws = of_word_and_question ask ws
line_behind kinds.Drop ws = of_word_and_question (λ w q. client_call w (calls.Drop q)) ws
line_behind kinds.Reconfirm ws = reconfirm_line ws
line_behind kinds.Say ws = of_word_and_number (λ w n. client_passing w (ways.Say n)) ws
line_behind kinds.Up ws = of_word_and_number (λ w n. client_passing w (ways.Up n)) ws
line_behind kinds.Emit ws = of_word_and_number (λ w n. client_passing w (ways.Emit n)) ws
line_behind kinds.Down ws = of_word_and_number (λ w n. client_passing w (ways.Down n)) ws
line_behind kinds.Settle ws = of_word settle ws
line_behind kinds.Open ws = of_word open_connection ws
line_behind kinds.Feed ws = of_word_and_octets feed ws
line_behind kinds.Show ws = show_line ws
line_behind kinds.Other ws = None

abbrev pub of_words : List Word → Option ScriptLine
of_words [] = None
of_words (w ∷ rest) = line_behind (kind_of w) rest

-- A line that isn't UTF-8 is outside: only one that begins with # could be inside otherwise.
abbrev pub line_of : List ℕ → Option ScriptLine
line_of [] = Some silent
line_of (c ∷ cs) = if c == 35 then (if is_utf8 cs then Some silent else None) else of_words (words_in (c ∷ cs))
