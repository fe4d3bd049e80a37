use Rattle.dnsquery.proofs.ReplyLaws.{replies_are_answers, replies_fit}
use Rattle.dnsquery.proofs.laws.all_replies.Goals as goal

pub returns-clause-answers : goal.returns-clause-answers
returns-clause-answers c = replies_are_answers

pub returns-clause-fit : goal.returns-clause-fit
returns-clause-fit c = replies_fit
