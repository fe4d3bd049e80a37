-- Of each session, behind any calls that a script begins with, the messages that were reacted to are those in the octets that came.
--     lines-are-reacted-to, messages-are-reacted-to      the law, of lines within bounds, and of a text
use Rattle.std.proofs.Common.{◌≡◌, ℕ, List, Some, subst, refl}
use Rattle.std.specs.List.{AllByRecursion}
use Rattle.coalesce.proofs.Packing.{each-front}
use Rattle.pushserver.specs.Calls.{HubCall, after_calls, BringsOctets}
use Rattle.pushserver.specs.Hubs.{session_of}
use Rattle.pushserver.specs.PlainHubs.{Session}
use Rattle.pushserver.proofs.hub_steps.Pairs.{all-weaken}
use Rattle.scripts.specs.Lines.{ScriptLine}
use Rattle.replay.specs.LineCalls.{AreFirst}
use Rattle.replay.specs.World.{start_world}
use Rattle.script_laws.specs.Lines.{AreWithin}
use Rattle.script_laws.specs.Reached.{FitsCall, FitCalls}
use Rattle.script_laws.specs.EachMessage.{IsReactedTo, MessagesAreReactedTo}
use Rattle.script_laws.proofs.calls.Fits.{lines-within, lines-calls-fit}
use Rattle.script_laws.proofs.calls.Messages.{reacted-in-turn}

pub lines-are-reacted-to : (script : List ScriptLine) (calls : List HubCall) (number : ℕ) (session : Session) → AllByRecursion AreWithin script → AreFirst calls script
    → session_of (after_calls calls (start_world script).hub) number ≡ Some session → IsReactedTo number calls (start_world script).hub session
lines-are-reacted-to script calls number session within first there =
    let fit = each-front FitsCall calls first.behind (subst FitCalls first.are (lines-calls-fit script within)) in
    reacted-in-turn number calls (start_world script).hub session (all-weaken FitsCall BringsOctets (λ call fits. fits.0) calls fit) tt refl there

pub messages-are-reacted-to : MessagesAreReactedTo
messages-are-reacted-to text script calls number session read first there = lines-are-reacted-to script calls number session (lines-within text script read) first there
