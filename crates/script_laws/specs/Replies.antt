-- What is said of the replies to scripts.
--     RepliesAreOne      the reply is the same, told from the history or from the notices taken
use Rattle.std.specs.Prelude.{◌≡◌, ℕ, List}
use Rattle.replay.specs.TextWords.{by_history, by_notices}
use Rattle.replay.specs.ScriptReplies.{reply_to_script}

abbrev pub RepliesAreOne : Type 0
RepliesAreOne = (octets : List ℕ) → reply_to_script by_notices octets ≡ reply_to_script by_history octets
