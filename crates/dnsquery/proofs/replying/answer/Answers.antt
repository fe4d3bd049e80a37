use Rattle.std.proofs.Common.{◌∙◌}
use Rattle.dnsquery.proofs.ReplySizes.{appended-fits}
use Rattle.dnsquery.proofs.replying.answer.Goals as goal

pub returns-clause-size : goal.returns-clause-size
returns-clause-size g c =
    appended-fits (g.R.Lookup.known c.args.records.now) c.args.query.now c.write_message.result c.args.out.now.items c.write_message.new.out.items c.in_ok-answers.answers.items c.deref.result.now _ _ _ c.requires c.in_ok-answers.ensures.items (c.deref.ensures.value ∙ c.in_ok-walked.ensures.octets)
    c.write_message.ensures.octets c.write_message.ensures.size
