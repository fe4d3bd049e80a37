use Rattle.std.proofs.Common.{sym, ◌∙◌}
use Rattle.dnswire.specs.declared.message.WireFault.{WireFault}
use Rattle.dnswire.specs.declared.message.HearFault.{HearFault}
use Rattle.dnswire.proofs.Entries.{same_done}
use Rattle.dnswire.proofs.Messages.{update-spelled, hearing-spelled}
use Rattle.dnswire.proofs.laws.one_meaning.Goals as goal

pub returns-clause-update : goal.returns-clause-update
returns-clause-update c = λ message a b s t. same_done {E = WireFault} a b (sym (update-spelled message a s) ∙ update-spelled message b t)

pub returns-clause-hearing : goal.returns-clause-hearing
returns-clause-hearing c = λ datagram a b s t. same_done {E = HearFault} a b (sym (hearing-spelled datagram a s) ∙ hearing-spelled datagram b t)
