-- What a run answers where a script is asked for of which a promise speaks.
--     replies_written      the replies that are promised are the one to the octets
--     promises_kept, relayed_truly      what holds throughout the script, and throughout one that may have a second hub
use Rattle.std.proofs.Common.{◌≡◌, ℕ, List, Option, Some, None, Ok, refl, ◌∙◌, subst}
use Rattle.replay.specs.TextWords.{by_history}
use Rattle.scripts.specs.Sources.{front_read}
use Rattle.replay.specs.ScriptReplies.{reply_to_script}
use Rattle.replay.specs.WholeTexts.{whole_reply}
use Rattle.replay.proofs.OneHub.{one-answered}
use Rattle.replay.specs.FedLines.{FeedsAsMessages}
use Rattle.scripts.specs.Lines.{ScriptLine}
use Rattle.scripts.specs.Scripts.{script_of}
use Rattle.scripts.specs.WholeLines.{WholeLine}
use Rattle.scripts.specs.Reply.{Reply}
use Rattle.replay.proofs.pieces.SentPieces.{pieces-told}
use Rattle.script_laws.specs.Sending.{AsksAreAnswered}
use Rattle.script_laws.specs.Throughout.{HoldsThroughout, EveryScriptHolds}
use Rattle.two_hubs.specs.Relaying.{RelaysTruly, EveryScriptRelays}
use Rattle.commands.specs.Runs.{AsksReplay, AsksFor, AsksForWhole, WritesReplies, reply_to}
use Rattle.commands.specs.Words.{Request, On_input, At_path, Big, Serve, Subscribe}
use Rattle.commands.specs.declared.script_command.ScriptCommand.TheVariants.{Replay, Check}

-- a script that is to be run is answered its text
replay_reply-is : (request : Option Request) (octets : List ℕ) → AsksReplay request → reply_to request octets ≡ whole_reply by_history (front_read octets)
replay_reply-is None octets asks = absurd asks
replay_reply-is (Some (On_input Replay)) octets asks = refl
replay_reply-is (Some (On_input Check)) octets asks = absurd asks
replay_reply-is (Some (At_path Replay path)) octets asks = refl
replay_reply-is (Some (At_path Check path)) octets asks = absurd asks
replay_reply-is (Some (Big number)) octets asks = absurd asks
replay_reply-is (Some (Serve path)) octets asks = absurd asks
replay_reply-is (Some (Subscribe path)) octets asks = absurd asks

-- what is said of the reply to the octets is said of each that is promised, as it is this one
pub replies_written : AsksAreAnswered → FeedsAsMessages → (written : List ℕ → Reply → Type 0) (request : Option Request) → ((octets : List ℕ) → written octets (reply_to request octets)) → WritesReplies request written
replies_written ask feed written request reply = record {
  reply = reply;
  asked = λ octets asked asks. (let answer = ask by_history (front_read octets) asked asks.1 in (answer, moved octets _ _ asks.0 asks.1.read answer.replied));
  pieces = λ octets sent asks. (let p = pieces-told (front_read octets) sent asks.1 in (p.0, p.1, moved octets _ _ asks.0 asks.1.read (p.2 by_history)));
  fed = λ octets fed asks. moved octets _ _ asks.0 asks.1.read ((feed (front_read octets) fed asks.1).0 by_history);
}
  where
    -- these are scripts of one hub
    moved : (octets : List ℕ) (script : List ScriptLine) (promised : Reply) → AsksReplay request → script_of (front_read octets) ≡ Ok script → reply_to_script by_history (front_read octets) ≡ promised → written octets promised
    moved octets script promised asks read is = subst (written octets) (replay_reply-is request octets asks ∙ one-answered by_history (front_read octets) script read ∙ is) (reply octets)

pub promises_kept : EveryScriptHolds → (request : Option Request) (octets : List ℕ) (script : List ScriptLine) → AsksFor request (front_read octets) script → HoldsThroughout script
promises_kept hold request octets script asks = hold (front_read octets) script asks.1

pub relayed_truly : EveryScriptRelays → (request : Option Request) (octets : List ℕ) (script : List WholeLine) → AsksForWhole request (front_read octets) script → RelaysTruly script
relayed_truly relay request octets script asks = relay (front_read octets) script asks.1
