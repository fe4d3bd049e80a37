-- The reply to a script, by what was read of it.
--     whole-reply, outside-reply      of a script that is run
--     whole-checked, outside-checked      of one that is read alone
--     tells-of      to each hub a script that was read is its half
use Rattle.std.proofs.Common.{◌≡◌, ℕ, List, Result, Ok, Err, length, sym, ◌∙◌, ap}
use Rattle.scripts.specs.Reply.{Reply}
use Rattle.scripts.specs.Scripts.{lines_in}
use Rattle.scripts.specs.WholeLines.{WholeLine}
use Rattle.scripts.specs.WholeScripts.{whole_script_of}
use Rattle.scripts.specs.KeptWhole.{IsWholeScript}
use Rattle.scripts.specs.declared.whole_script.WholeScript.{WholeScript}
use Rattle.replay.specs.TextWords.{HeldRecords, by_notices}
use Rattle.replay.specs.ScriptTexts.{outside_text}
use Rattle.replay.specs.Checks.{good_text}
use Rattle.replay.specs.KeptTwoWorlds.{TellsLines}
use Rattle.replay.specs.WholeTexts.{whole_text_by, whole_reply, whole_checked}

-- the status and the text, by the lines
abbrev told : HeldRecords → Result (List WholeLine) ℕ → ℕ × List ℕ
told records (Ok lines) = (0, whole_text_by records lines)
told records (Err n) = (2, outside_text n)

abbrev reply_with : ℕ × List ℕ → Reply
reply_with p = record { status = p.0; text = p.1 }

-- the text of a script
pub whole-reply : (octets text : List ℕ) (lines : List WholeLine) → whole_script_of octets ≡ Ok lines → text ≡ whole_text_by by_notices lines → record { status = 0; text = text } ≡ whole_reply by_notices octets
unfolding whole_reply
whole-reply octets text lines read is = ap (λ (t : List ℕ). reply_with (0, t)) is ∙ ap reply_with (sym (ap (told by_notices) read))

-- or the number of the first line outside
pub outside-reply : (octets text : List ℕ) (number : ℕ) → whole_script_of octets ≡ Err number → text ≡ outside_text number → record { status = 2; text = text } ≡ whole_reply by_notices octets
unfolding whole_reply
outside-reply octets text number read is = ap (λ (t : List ℕ). reply_with (2, t)) is ∙ ap reply_with (sym (ap (told by_notices) read))

-- ---- of a script that is read and not run

abbrev checked_by : List ℕ → Result (List WholeLine) ℕ → Reply
checked_by octets (Ok lines) = record { status = 0; text = good_text (length (lines_in octets)) }
checked_by octets (Err n) = record { status = 2; text = outside_text n }

-- how many lines it has
pub whole-checked : (octets text : List ℕ) (script : WholeScript) → IsWholeScript octets script → text ≡ good_text script.near.lines → record { status = 0; text = text } ≡ whole_checked octets
unfolding whole_checked
whole-checked octets text script whole is =
    ap (λ (t : List ℕ). record { status = 0; text = t }) (is ∙ ap good_text whole.count)
    ∙ sym (ap (checked_by octets) whole.read)

-- or the number of the first line outside
pub outside-checked : (octets text : List ℕ) (number : ℕ) → whole_script_of octets ≡ Err number → text ≡ outside_text number → record { status = 2; text = text } ≡ whole_checked octets
unfolding whole_checked
outside-checked octets text number read is =
    ap (λ (t : List ℕ). record { status = 2; text = t }) is
    ∙ sym (ap (checked_by octets) read)

-- ---- of a script that was read

pub tells-of : (octets : List ℕ) (script : WholeScript) (whole : IsWholeScript octets script) → TellsLines whole.lines script
tells-of octets script whole = record { near = whole.near; far = whole.far; apex = whole.apex; turns = whole.turns }
