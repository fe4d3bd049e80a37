-- What is said of the replies to scripts that may have a second hub.
--     WholeRepliesAreOne      the reply is the same, told from the history or from the notices taken
--     TellsOneText script      the text of one script is
use Rattle.std.specs.Prelude.{◌≡◌, ℕ, List}
use Rattle.replay.specs.TextWords.{by_history, by_notices}
use Rattle.replay.specs.WholeTexts.{whole_text_by, whole_reply}
use Rattle.scripts.specs.WholeLines.{WholeLine}

abbrev pub WholeRepliesAreOne : Type 0
WholeRepliesAreOne = (octets : List ℕ) → whole_reply by_notices octets ≡ whole_reply by_history octets

abbrev pub TellsOneText : List WholeLine → Type 0
TellsOneText script = whole_text_by by_history script ≡ whole_text_by by_notices script
