use Rattle.script_laws.proofs.calls.EachTurn.{each-has-its-turn}
use Rattle.script_laws.proofs.calls.InTurn.{made-in-turn}
use Rattle.script_laws.proofs.calls.Reacted.{messages-are-reacted-to}
use Rattle.script_laws.proofs.messages_are_reacted_to.Goals as goal

pub returns : goal.returns
returns c = record { reacted = messages-are-reacted-to; each = each-has-its-turn; turns = made-in-turn }
