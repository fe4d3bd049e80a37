-- A SUBSCRIBE that a new session accepts is answered, in every script.
--     served_is      the reply of the script
use Rattle.std.proofs.Common.{◌≡◌, ℕ, List, [], ◌∷◌, ◌∙◌, append-nil}
use Rattle.scripts.specs.Lines.{ScriptLine, send}
use Rattle.replay.specs.TextWords.{HeldRecords}
use Rattle.replay.specs.Text.{sends}
use Rattle.replay.specs.ScriptReplies.{reply_to_script}
use Rattle.replay.specs.Serving.{Asked, asked_between, served_line, AsksFirst, served_reply}
use Rattle.replay.specs.Between.{world_then}
use Rattle.replay.proofs.worlds.BetweenLines.{from-between, bounded-between, between-replied}
use Rattle.replay.proofs.serving.NewPeer.{sent-line}
use Rattle.replay.proofs.turns.SendSizes.{sends-short}

-- the peer's line prints this alone
line_printed : (script : List ℕ) (asked : Asked) → AsksFirst script asked → (sends asked.word asked.octets (world_then (asked_between asked))).1 ≡ served_line asked ∷ []
line_printed script asked asks =
    let behind : List ScriptLine = send asked.word asked.octets ∷ asked.behind in
    sent-line (world_then (asked_between asked)) asked.word asked.octets asked.message asked.question (from-between script asked.before behind asks.read).below (bounded-between script asked.before behind asks.read) asks.found
    (sends-short script asked.before asked.behind asked.word asked.octets asks.read) asks.new_peer asks.seat asks.acceptable

pub served_is : (records : HeldRecords) (script : List ℕ) (asked : Asked) → AsksFirst script asked → reply_to_script records script ≡ served_reply records asked
served_is records script asked asks = between-replied records script (asked_between asked) (served_line asked ∷ []) asks.read (append-nil _ ∙ line_printed script asked asks)
