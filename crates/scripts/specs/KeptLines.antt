-- The lines of a script, as the program holds them.
--     words_of words      words as they are kept
--     said line      what a line that was read says
--     begins_silent text      whether a text is empty or begins with #
--     one_in words, two_in words, three_in words, four_in words, five_in words      the words, where they are so many
use Rattle.std.specs.Prelude.{ℕ, Bool, true, List, [], ◌∷◌, Option, Some, None, ◌==◌, map, string_bytes}
use Rattle.std.specs.declared.alloc.Global.{Global}
use Rattle.std.specs.declared.string.String.{String}
use Rattle.scripts.specs.Lines as plain
use Rattle.scripts.specs.Lines.{Word, ScriptLine, silent, head_line, joining, hub_event, link_event, client_call, client_passing, client_event, session_event}
use Rattle.scripts.specs.declared.line.HeadLine.{HeadLine}
use Rattle.scripts.specs.declared.line.HeadLine.TheVariants as heads
use Rattle.scripts.specs.declared.line.EventLine.{EventLine}
use Rattle.scripts.specs.declared.line.EventLine.TheVariants as events
use Rattle.scripts.specs.declared.line.Line.{Line}
use Rattle.scripts.specs.declared.line.Line.TheVariants as lines

-- words as they are kept
abbrev pub words_of : List (String Global) → List Word
words_of words = map (λ w. string_bytes w) words

-- what a line of the head says
abbrev pub head_said : HeadLine → plain.HeadLine
head_said (heads.Timers t) = plain.timers t.inactivity t.keepalive
head_said (heads.Zone z) = plain.zone z.apex z.serial z.writable
head_said (heads.Link l) = plain.link (string_bytes l.word) l.domain l.cap
head_said (heads.Reverse r) = plain.reverse (string_bytes r.word) r.domain

-- what a line says that happens
abbrev pub happening_said : EventLine → ScriptLine
happening_said (events.Hub event) = hub_event event
happening_said (events.Link word event) = link_event (string_bytes word) event
happening_said (events.Call word call) = client_call (string_bytes word) call
happening_said (events.Passing word way) = client_passing (string_bytes word) way
happening_said (events.Client word event) = client_event (string_bytes word) event
happening_said (events.Session word event) = session_event (string_bytes word) event

-- what a line that was read says
abbrev pub said : Line → ScriptLine
said lines.Silent = silent
said (lines.Head h) = head_line (head_said h)
said (lines.Joining word is_lone) = joining (string_bytes word) is_lone
said (lines.Event e) = happening_said e

-- whether a text is that of no line that speaks: it is empty or begins with #
abbrev pub begins_silent : List ℕ → Bool
begins_silent [] = true
begins_silent (c ∷ cs) = c == 35

-- the words, where they are so many
abbrev pub one_in : List Word → Option Word
one_in (v ∷ []) = Some v
one_in _ = None

abbrev pub two_in : List Word → Option (Word × Word)
two_in (v ∷ w ∷ []) = Some (v, w)
two_in _ = None

abbrev pub three_in : List Word → Option (Word × Word × Word)
three_in (v ∷ w ∷ x ∷ []) = Some (v, w, x)
three_in _ = None

abbrev pub four_in : List Word → Option (Word × Word × Word × Word)
four_in (v ∷ w ∷ x ∷ y ∷ []) = Some (v, w, x, y)
four_in _ = None

abbrev pub five_in : List Word → Option (Word × Word × Word × Word × Word)
five_in (v ∷ w ∷ x ∷ y ∷ z ∷ []) = Some (v, w, x, y, z)
five_in _ = None
