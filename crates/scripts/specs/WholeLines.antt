-- The lines of a script that may have a second hub, each by itself, and what each is to either hub.
--     WholeLine, whole_line_of text      a line, and what it says
--     all_at name      the question for all that is at a name
--     names_far is_far line      whether a line names a far client
--     near_of is_far line, far_of is_far line      what a line is to the first hub, and to the second
--     fars_behind fars line      the words of the far clients behind a line
use Rattle.std.specs.Prelude.{ℕ, Bool, true, false, ◌||◌, List, [], ◌∷◌, ◌++◌, Option, None, codes, option_map, if◌then◌else◌}
use Rattle.push_base.specs.Cases.{chosen}
use Rattle.push_base.specs.Optional.{◌>>=◌}
use Rattle.dnsname.specs.Names.{Labels}
use Rattle.dnsname.specs.Text.{name_of_text}
use Rattle.rrset.specs.Kinds.{in_class, any_kind}
use Rattle.rrset.specs.declared.record.Question.{Question}
use Rattle.scripts.specs.Lines.{Word, HeadLine, timers, zone, link, reverse, ScriptLine, silent, head_line, joining, hub_event, client_call, client_passing, client_event, session_event, show, word, number32, words_in, is, line_of}
use Rattle.scripts.specs.Scripts.{is_among}
use Rattle.scripts.specs.declared.line.HubEvent.{HubEvent}
use Rattle.scripts.specs.declared.line.HubEvent.TheVariants as hub_events
use Rattle.scripts.specs.declared.whole_line.WholeKind.{WholeKind}
use Rattle.scripts.specs.declared.whole_line.WholeKind.TheVariants as kinds

pub data WholeLine : Type 0 where
  -- of the first hub, of both, or of a client of either
  one : ScriptLine → WholeLine
  -- the zone of the second hub, and its serial
  far_zone : Labels → ℕ → WholeLine
  -- a client of the second hub
  far_client : Word → WholeLine
  -- a client of the first hub, a name, and the name as it is written
  carry : Word → Labels → List ℕ → WholeLine

-- ---- lines by themselves

abbrev pub far_line : List Word → Option WholeLine
far_line (n ∷ s ∷ []) = name_of_text n >>= λ apex. option_map (λ serial. far_zone apex serial) (number32 s)
far_line _ = None

abbrev pub far_client_line : List Word → Option WholeLine
far_client_line (w ∷ []) = option_map (λ c. far_client c) (word w)
far_client_line _ = None

abbrev pub carry_line : List Word → Option WholeLine
carry_line (w ∷ n ∷ []) = word w >>= λ c. option_map (λ name. carry c name n) (name_of_text n)
carry_line _ = None

-- by its first word
abbrev pub whole_kind : Word → WholeKind
whole_kind w = chosen (
    (is w (codes "far"), kinds.FarZone)
    ∷ (is w (codes "farclient"), kinds.FarClient)
    ∷ (is w (codes "carry"), kinds.Carry)
    ∷ []
    ) kinds.One

-- by the words behind the first; all others are lines of a script of one hub
abbrev pub whole_behind : WholeKind → List ℕ → List Word → Option WholeLine
whole_behind kinds.FarZone text ws = far_line ws
whole_behind kinds.FarClient text ws = far_client_line ws
whole_behind kinds.Carry text ws = carry_line ws
whole_behind kinds.One text ws = option_map (λ l. one l) (line_of text)

abbrev pub whole_of_words : List ℕ → List Word → Option WholeLine
whole_of_words text [] = None
whole_of_words text (w ∷ ws) = whole_behind (whole_kind w) text ws

abbrev pub whole_line_of : List ℕ → Option WholeLine
whole_line_of text = whole_of_words text (words_in text)

-- ---- what a line is to each hub

-- all that is at a name
abbrev pub all_at : Labels → Question
all_at name = record { name = name; kind = any_kind; class = in_class }

-- whether a line names a client of the second hub
abbrev pub names_far : (Word → Bool) → ScriptLine → Bool
names_far is_far (client_call w call) = is_far w
names_far is_far (client_passing w way) = is_far w
names_far is_far (client_event w event) = is_far w
names_far is_far (session_event w event) = is_far w
names_far is_far _ = false

-- timers and moments are for both hubs
abbrev pub is_timers : HeadLine → Bool
is_timers (timers i k) = true
is_timers (zone apex serial mode) = false
is_timers (link w domain most) = false
is_timers (reverse w domain) = false

abbrev pub is_moment : HubEvent → Bool
is_moment (hub_events.At t) = true
is_moment (hub_events.Update message) = false
is_moment hub_events.Point = false

abbrev pub is_of_both : ScriptLine → Bool
is_of_both (head_line line) = is_timers line
is_of_both (hub_event event) = is_moment event
is_of_both _ = false

-- to the first hub a carry shows what its client holds of the name
abbrev pub near_of : (Word → Bool) → WholeLine → ScriptLine
near_of is_far (one line) = if names_far is_far line then silent else line
near_of is_far (far_zone apex serial) = silent
near_of is_far (far_client w) = silent
near_of is_far (carry w name written) = show w (all_at name) written

-- to the second it is the update that the first hub's world makes of it, if it makes one
abbrev pub far_of : (Word → Bool) → WholeLine → ScriptLine
far_of is_far (one line) = if names_far is_far line || is_of_both line then line else silent
far_of is_far (far_zone apex serial) = head_line (zone apex serial true)
far_of is_far (far_client w) = joining w false
far_of is_far (carry w name written) = silent

-- the far clients so far
abbrev pub fars_behind : List Word → WholeLine → List Word
fars_behind fars (far_client w) = fars ++ w ∷ []
fars_behind fars _ = fars

abbrev pub is_far_in : List Word → Word → Bool
is_far_in fars w = is_among fars w
