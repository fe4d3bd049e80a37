use Rattle.history.proofs.MessageSizes.{updates-fit, hearings-fit}
use Rattle.history.proofs.laws.messages_fit.Goals as goal

pub returns-clause-updates : goal.returns-clause-updates
returns-clause-updates c message update below e = updates-fit message update below e

pub returns-clause-hearings : goal.returns-clause-hearings
returns-clause-hearings c datagram link hearing below e = hearings-fit datagram link hearing below e
