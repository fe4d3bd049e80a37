use Rattle.std.proofs.Common.{◌∙◌, sym, ap}
use Rattle.pushclient.specs.Clients.{held}
use Rattle.browsing.proofs.Telling.{holds_told, told_holds}
use Rattle.browsing.proofs.asking.is_held.Goals as goal

pub returns-in-Asked : goal.returns-in-Asked
returns-in-Asked c = λ plain s. sym (ap holds_told c.in-Asked.is) ∙ told_holds c.mirror.result (held plain c.args.question.now) (c.mirror.ensures plain s)

pub returns-in-Off : goal.returns-in-Off
returns-in-Off c = λ plain s. sym (ap holds_told c.in-Off.is) ∙ told_holds c.mirror.result (held plain c.args.question.now) (c.mirror.ensures plain s)

pub returns-in-Refused : goal.returns-in-Refused
returns-in-Refused c = λ plain s. sym (ap holds_told c.in-Refused.is) ∙ told_holds c.mirror.result (held plain c.args.question.now) (c.mirror.ensures plain s)

pub returns-in-Answered : goal.returns-in-Answered
returns-in-Answered c = λ plain s. sym (ap holds_told c.in-Answered.is) ∙ told_holds c.mirror.result (held plain c.args.question.now) (c.mirror.ensures plain s)
