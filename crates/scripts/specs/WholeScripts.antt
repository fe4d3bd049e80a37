-- Scripts that may have a second hub: a line may stand where what it is to each of the hubs may.
--     BothKnown, none_known      what is known behind some lines, and before all
--     fits_both all carriers known line      what is known behind a line, or nothing where it may not stand there
--     Carrier, carries_alone carriers w name      a client that carries a name; whether no other client carries it
--     all_made text, all_carried text      the words of all clients of a script, and all clients that carry names
--     WholeSoFar, whole_step so_far text      the lines so far, and with a further one
--     whole_script_of text      the script, or the number of the first line outside
--     apex_in script      the name of the second hub's zone, if there is one
--     near_lines script, far_heads script      what the lines are to the first hub, and to the second as far as the text alone tells it
use Rattle.std.specs.Prelude.{ℕ, Bool, true, false, not, ◌&&◌, ◌||◌, List, [], ◌∷◌, ◌++◌, filter_map, Option, Some, None, Result, Ok, Err, option_map, if◌then◌else◌}
use Rattle.std.specs.List.{list_all}
use Rattle.std.specs.Str.{bytes_eq}
use Rattle.push_base.specs.Optional.{◌>>=◌}
use Rattle.dnsname.specs.Names.{Labels, same_name}
use Rattle.scripts.specs.Lines.{Word, ScriptLine, head_line, joining}
use Rattle.scripts.specs.Scripts.{Known, nothing_known, is_client, is_hub_client, is_head, client_word, fits, lines_in}
use Rattle.scripts.specs.TextLines.{is_too_long, lines_taken}
use Rattle.scripts.specs.WholeLines.{WholeLine, one, far_zone, far_client, carry, whole_line_of, near_of, far_of, fars_behind, is_far_in}

-- ---- lines behind others

-- whether all lines so far are head lines, what is known of each hub, whether there is a second one, and the words of its clients
pub record BothKnown : Type 0 where
  pub in_head : Bool
  pub near : Known
  pub far : Known
  pub has_far : Bool
  pub fars : List Word

abbrev pub none_known : BothKnown
none_known = record { in_head = true; near = nothing_known; far = nothing_known; has_far = false; fars = [] }

-- a client that carries a name, and the name
abbrev pub Carrier : Type 0
Carrier = Word × Labels

-- no other client carries the name anywhere
abbrev pub is_other_or_own : Word → Labels → Carrier → Bool
is_other_or_own w name c = not (same_name c.1 name) || bytes_eq c.0 w

abbrev pub carries_alone : List Carrier → Word → Labels → Bool
carries_alone carriers w name = list_all (is_other_or_own w name) carriers

-- what is asked of a line of a script of one hub, beside what each hub asks of it: head lines come before all others, and a client has no far client's word
abbrev pub may_follow_one : BothKnown → ScriptLine → Bool
may_follow_one known (head_line line) = known.in_head
may_follow_one known (joining w is_lone) = not (is_far_in known.fars w)
may_follow_one known _ = true

-- what is asked of a line, beside what each hub asks of it
abbrev pub may_follow_both : List Carrier → BothKnown → WholeLine → Bool
may_follow_both carriers known (one line) = may_follow_one known line
may_follow_both carriers known (far_zone apex serial) = known.in_head && not known.has_far
may_follow_both carriers known (far_client w) = known.has_far && not (is_client known.near w)
may_follow_both carriers known (carry w name written) = known.has_far && is_hub_client known.near w && carries_alone carriers w name

-- whether a line may stand before all events
abbrev pub is_whole_head : WholeLine → Bool
is_whole_head (one line) = is_head line
is_whole_head (far_zone apex serial) = true
is_whole_head (far_client w) = false
is_whole_head (carry w name written) = false

abbrev pub has_far_behind : Bool → WholeLine → Bool
has_far_behind has_far (far_zone apex serial) = true
has_far_behind has_far _ = has_far

abbrev pub both_behind : BothKnown → WholeLine → Known → Known → BothKnown
both_behind known line near far = record { in_head = known.in_head && is_whole_head line; near = near; far = far; has_far = has_far_behind known.has_far line; fars = fars_behind known.fars line }

-- what it is to each hub may stand there, too
abbrev pub fits_both : List Word → List Carrier → BothKnown → WholeLine → Option BothKnown
fits_both all carriers known line =
    if not (may_follow_both carriers known line) then None
    else fits all known.near (near_of (is_far_in known.fars) line) >>= λ near.
    option_map (both_behind known line near) (fits all known.far (far_of (is_far_in known.fars) line))

-- ---- whole scripts

-- the word of the client that a line makes, and the client that it lets carry a name
abbrev pub made_by : WholeLine → Option Word
made_by (one line) = client_word line
made_by (far_zone apex serial) = None
made_by (far_client w) = Some w
made_by (carry w name written) = None

abbrev pub carried_by : WholeLine → Option Carrier
carried_by (carry w name written) = Some (w, name)
carried_by _ = None

-- the lines as texts; the line in which octet 16,777,217 stands, which is the last one read, is none
abbrev pub but_last : List (List ℕ) → List (List ℕ)
but_last [] = []
but_last (t ∷ []) = []
but_last (t ∷ u ∷ us) = t ∷ but_last (u ∷ us)

abbrev pub texts_left : Bool → List (List ℕ) → List (List ℕ)
texts_left too_long texts = if too_long then but_last texts else texts

-- what lines name, each by itself, in their order
abbrev pub named_in : {X : Type 0} → (WholeLine → Option X) → Bool → List (List ℕ) → List X
named_in names too_long texts = filter_map (λ t. whole_line_of t >>= names) (texts_left too_long texts)

-- the words of all clients, and all clients that carry names
abbrev pub all_made : List ℕ → List Word
all_made text = named_in made_by (is_too_long text) (lines_in text)

abbrev pub all_carried : List ℕ → List Carrier
all_carried text = named_in carried_by (is_too_long text) (lines_in text)

-- the words of all clients, the clients that carry names, the lines so far, and what is known behind them
pub record WholeSoFar : Type 0 where
  pub all : List Word
  pub carriers : List Carrier
  pub known : BothKnown
  pub lines : List WholeLine

-- before the first line
abbrev pub none_so_far : List Word → List Carrier → WholeSoFar
none_so_far all carriers = record { all = all; carriers = carriers; known = none_known; lines = [] }

-- with a further line, where it may stand there
abbrev pub whole_next : WholeSoFar → WholeLine → Option WholeSoFar
whole_next so_far line = option_map (λ known. record so_far { known = known; lines = so_far.lines ++ line ∷ [] }) (fits_both so_far.all so_far.carriers so_far.known line)

abbrev pub whole_step : WholeSoFar → List ℕ → Option WholeSoFar
whole_step so_far text = whole_line_of text >>= whole_next so_far

abbrev pub whole_script_of : List ℕ → Result (List WholeLine) ℕ
whole_script_of text = elim (lines_taken whole_step (none_so_far (all_made text) (all_carried text)) text) [ Err n ↦ Err n | Ok all ↦ Ok all.0.lines ]

-- ---- the two scripts of one hub that such a script is, line by line as long as it

-- the name of the second hub's zone, if there is one
abbrev pub apex_in : List WholeLine → Option Labels
apex_in [] = None
apex_in (far_zone apex serial ∷ script) = Some apex
apex_in (line ∷ script) = apex_in script

-- the words of the far clients behind lines
abbrev pub fars_of : List Word → List WholeLine → List Word
fars_of fars [] = fars
fars_of fars (line ∷ lines) = fars_of (fars_behind fars line) lines

abbrev pub near_lines_from : List Word → List WholeLine → List ScriptLine
near_lines_from fars [] = []
near_lines_from fars (line ∷ lines) = near_of (is_far_in fars) line ∷ near_lines_from (fars_behind fars line) lines

abbrev pub near_lines : List WholeLine → List ScriptLine
near_lines script = near_lines_from [] script

-- a carry says nothing here
abbrev pub far_heads_from : List Word → List WholeLine → List ScriptLine
far_heads_from fars [] = []
far_heads_from fars (line ∷ lines) = far_of (is_far_in fars) line ∷ far_heads_from (fars_behind fars line) lines

abbrev pub far_heads : List WholeLine → List ScriptLine
far_heads script = far_heads_from [] script
