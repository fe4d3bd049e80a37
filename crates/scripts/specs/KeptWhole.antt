-- Scripts that may have a second hub, as the program holds them.
--     whole_said line      what a line that was read says
--     carrier_kept carrier      a client that carries a name
--     made_in text, carrier_in text      the client that a line makes, and the one that it lets carry a name
--     turns_from fars lines      for which hub each line is that happens
--     IsWholeScript octets script      no line is outside; both halves are those of the lines, and the turns are those of the lines that happen
--     ReadsWhole octets read      what was read of octets
--     HoldsWhole draft so_far      a draft holds what the lines so far have made
--     known_kept draft, may_follow_kept alone known line      what is known of both hubs; what is asked of a line, by which clients carry names alone
--     TakesWhole draft line later taken, TakesFit draft line later taken      a further line was taken, where it may stand there
--     TakesHalves draft near far turn later taken      each hub's draft took its line
--     IsOf count script taken      a script with so many lines, and what was taken
use Rattle.std.specs.Prelude.{◌≡◌, ℕ, Bool, true, false, not, ◌&&◌, List, [], ◌∷◌, ◌++◌, length, ◌==◌, Option, Some, is_some, Ok, Err, if◌then◌else◌, option_to_list, string_bytes, unwrap_or}
use Rattle.dnsname.specs.Names.{Labels}
use Rattle.push_base.specs.Optional.{◌>>=◌}
use Rattle.dsosession.specs.Timing.{default_timers}
use Rattle.scripts.specs.Lines.{Word, ScriptLine}
use Rattle.scripts.specs.Scripts.{lines_in, is_client, is_hub_client, is_head}
use Rattle.scripts.specs.Events.{known_clients, words_known}
use Rattle.scripts.specs.Drafts.{Taken, taken_of, known_of, may_stand, TakesLine, HaveMade}
use Rattle.scripts.specs.KeptLines.{said, words_of}
use Rattle.scripts.specs.KeptScripts.{IsScript}
use Rattle.scripts.specs.Carrying.{alone_in}
use Rattle.scripts.specs.WholeLines.{WholeLine, one, far_zone, far_client, carry, names_far, is_of_both, fars_behind, is_far_in, carry_line, whole_line_of}
use Rattle.scripts.specs.WholeScripts.{BothKnown, Carrier, may_follow_one, carries_alone, made_by, carried_by, apex_in, near_lines, far_heads, fars_of, WholeSoFar, whole_next, whole_script_of}
use Rattle.scripts.specs.TextLines.{TakesHeld}
use Rattle.scripts.specs.declared.line.HeadLine.TheVariants as heads
use Rattle.scripts.specs.declared.line.Line.{Line}
use Rattle.scripts.specs.declared.line.Line.TheVariants as lines_of_one
use Rattle.scripts.specs.declared.whole_line.CarryLine.{CarryLine}
use Rattle.scripts.specs.declared.whole_line.WholeLine as program
use Rattle.scripts.specs.declared.whole_line.WholeLine.TheVariants as lines
use Rattle.scripts.specs.declared.named.Carrier as named
use Rattle.scripts.specs.declared.script.Script.{Script}
use Rattle.scripts.specs.declared.whole_script.Turn.{Turn}
use Rattle.scripts.specs.declared.whole_script.Turn.TheVariants as turns
use Rattle.scripts.specs.declared.whole_script.WholeDraft.{WholeDraft}
use Rattle.scripts.specs.declared.whole_script.WholeScript.{WholeScript}
use Rattle.scripts.specs.declared.whole_script.ReadWhole.{ReadWhole}
use Rattle.scripts.specs.declared.whole_script.ReadWhole.TheVariants.{Whole, Outside}

-- what a line that carries says
abbrev pub carry_said : CarryLine → WholeLine
carry_said line = carry (string_bytes line.word) line.name line.written

-- what a line that was read says
abbrev pub whole_said : program.WholeLine → WholeLine
whole_said (lines.One line) = one (said line)
whole_said (lines.FarZone apex serial) = far_zone apex serial
whole_said (lines.FarClient word) = far_client (string_bytes word)
whole_said (lines.Carry line) = carry_said line

abbrev pub carrier_kept : named.Carrier → Carrier
carrier_kept c = (string_bytes c.word, c.name)

-- the word of the client that a line makes, and the client that it lets carry a name
abbrev pub made_in : List ℕ → Option Word
made_in text = whole_line_of text >>= made_by

abbrev pub carrier_in : List ℕ → Option Carrier
carrier_in text = whole_line_of text >>= carried_by

-- the second by the words behind the line's first
abbrev pub carrier_named : List Word → Option Carrier
carrier_named words = carry_line words >>= carried_by

-- ---- turns

-- for which hub a line is that happens; head lines, and those that say nothing, are for none
abbrev pub turns_of_one : (Word → Bool) → ScriptLine → List Turn
turns_of_one is_far line = if is_head line then [] else if names_far is_far line then turns.Far ∷ [] else if is_of_both line then turns.Both ∷ [] else turns.Near ∷ []

abbrev pub turns_here : (Word → Bool) → WholeLine → List Turn
turns_here is_far (one line) = turns_of_one is_far line
turns_here is_far (far_zone apex serial) = []
turns_here is_far (far_client w) = turns.Far ∷ []
turns_here is_far (carry w name written) = turns.Carry ∷ []

-- the turns of lines, where these are the words of the far clients before them
abbrev pub turns_from : List Word → List WholeLine → List Turn
turns_from fars [] = []
turns_from fars (line ∷ lines) = turns_here (is_far_in fars) line ++ turns_from (fars_behind fars line) lines

-- ---- scripts that were read

-- no line is outside, and the lines are counted; to each hub they are its half, and the turns are theirs
pub record IsWholeScript (octets : List ℕ) (script : WholeScript) : Type 0 where
  pub lines : List WholeLine
  pub read : whole_script_of octets ≡ Ok lines
  pub count : script.near.lines ≡ length (lines_in octets)
  pub near : IsScript (near_lines lines) script.near
  pub far : IsScript (far_heads lines) script.far
  pub apex : apex_in lines ≡ script.apex
  pub turns : turns_from [] lines ≡ script.turns.items

-- the script, or the number of the first line outside
abbrev pub ReadsWhole : List ℕ → ReadWhole → Type 0
ReadsWhole octets (Whole script) = IsWholeScript octets script
ReadsWhole octets (Outside number) = whole_script_of octets ≡ Err number

-- ---- line by line

-- what is known of both hubs by a draft; a line that happens has a turn
abbrev pub known_kept : WholeDraft → BothKnown
known_kept draft = record {
  in_head = length draft.turns.items == 0;
  near = known_of (taken_of draft.near);
  far = known_of (taken_of draft.far);
  has_far = is_some draft.apex;
  fars = words_known (taken_of draft.far).clients;
}

-- what is asked of a line, beside what each hub asks of it, where that is known of the clients that carry names
abbrev pub may_follow_kept : (Word → Labels → Bool) → BothKnown → WholeLine → Bool
may_follow_kept alone known (one line) = may_follow_one known line
may_follow_kept alone known (far_zone apex serial) = known.in_head && not known.has_far
may_follow_kept alone known (far_client w) = known.has_far && not (is_client known.near w)
may_follow_kept alone known (carry w name written) = known.has_far && is_hub_client known.near w && alone w name

-- a draft holds what the lines so far have made of both hubs, and for which of them each line is that happens
pub record HoldsWhole (draft : WholeDraft) (so_far : WholeSoFar) : Type 0 where
  pub all : so_far.all ≡ draft.clients
  pub carriers : carries_alone so_far.carriers ≡ alone_in draft.carriers
  pub known : so_far.known ≡ known_kept draft
  pub fars : so_far.known.fars ≡ fars_of [] so_far.lines
  pub near : HaveMade (near_lines so_far.lines) (taken_of draft.near)
  pub far : HaveMade (far_heads so_far.lines) (taken_of draft.far)
  pub apex : apex_in so_far.lines ≡ draft.apex
  pub turns : turns_from [] so_far.lines ≡ draft.turns.items

-- the line was taken, which may stand there, or wasn't, which may not
abbrev pub TakesWhole : WholeDraft → WholeLine → WholeDraft → Bool → Type 0
TakesWhole draft line later taken = (so_far : WholeSoFar) → HoldsWhole draft so_far → TakesHeld (whole_next so_far line) (HoldsWhole later) taken

-- the same of a line that may stand there by itself, if it may as what it is to each hub
abbrev pub TakesFit : WholeDraft → WholeLine → WholeDraft → Bool → Type 0
TakesFit draft line later taken = may_follow_kept (alone_in draft.carriers) (known_kept draft) line ≡ true → TakesWhole draft line later taken

abbrev pub with_turn : List Turn → Option Turn → List Turn
with_turn items turn = items ++ option_to_list turn

-- each hub's draft took a line, and that is the turn, if the line happens; or one of them may not stand there
abbrev pub TakesHalves : WholeDraft → Line → Line → Option Turn → WholeDraft → Bool → Type 0
TakesHalves draft near far turn later true =
    TakesLine draft.clients draft.near near later.near true
    × TakesLine draft.clients draft.far far later.far true
    × (later.turns.items ≡ with_turn draft.turns.items turn)
    × (later ≡ record draft { near = later.near; far = later.far; turns = later.turns })
TakesHalves draft near far turn later false =
    (may_stand draft.clients (known_of (taken_of draft.near)) (said near) && may_stand draft.clients (known_of (taken_of draft.far)) (said far)) ≡ false

-- the zone of the second hub
abbrev pub with_apex : WholeDraft → Labels → WholeDraft
with_apex draft apex = record draft { apex = Some apex }

abbrev pub far_zone_line : Labels → ℕ → Line
far_zone_line apex serial = lines_of_one.Head (heads.Zone (record { apex = apex; serial = serial; writable = true }))

-- a script with so many lines, and what was taken
pub record IsOf (count : ℕ) (script : Script) (taken : Taken) : Type 0 where
  pub lines : script.lines ≡ count
  pub timers : script.timers ≡ unwrap_or taken.timers default_timers
  pub homes : script.homes ≡ taken.homes
  pub links : words_of script.links.items ≡ taken.links
  pub clients : known_clients script.clients.items ≡ taken.clients
  pub events : script.events.items ≡ taken.events
