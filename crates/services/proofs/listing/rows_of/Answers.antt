use Rattle.std.proofs.Common.{◌∙◌, sym, ap}
use Rattle.pushclient.specs.Clients.{held}
use Rattle.pushclient.specs.declared.client.Held.TheVariants as tolds
use Rattle.services.proofs.Knowing.{rows_told, told_rows}
use Rattle.services.proofs.listing.rows_of.Goals as goal

pub returns-in-Answered : goal.returns-in-Answered
returns-in-Answered c = λ plain s. c.entries.ensures.rows ∙ told_rows (tolds.Answered c.in-Answered.set) (held plain c.args.question.now) (c.in-Answered.ensures plain s)

pub returns-in-Off : goal.returns-in-Off
returns-in-Off c = λ plain s. told_rows tolds.Off (held plain c.args.question.now) (c.in-Off.ensures plain s)

pub returns-in-Asked : goal.returns-in-Asked
returns-in-Asked c = λ plain s. told_rows tolds.Asked (held plain c.args.question.now) (c.in-Asked.ensures plain s)

pub returns-in-Refused : goal.returns-in-Refused
returns-in-Refused c = λ plain s. sym (ap rows_told c.in-Refused.is) ∙ told_rows c.mirror.result (held plain c.args.question.now) (c.mirror.ensures plain s)
