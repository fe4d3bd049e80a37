use Rattle.std.proofs.Common.{sym, ◌∙◌}
use Rattle.dnsquery.proofs.Questions.{first-in, none-in, same-query}
use Rattle.dnsquery.proofs.query.query_in.Goals as goal

pub returns-in-Some : goal.returns-in-Some
returns-in-Some c =
    first-in c.args.message.now c.args.questions c.in-Some.question (sym c.first_of.ensures ∙ c.in-Some.is)
    ∙ same-query c.in-Some.question _ _ _ _ (sym c.header_field.ensures) (sym c.header_field-in-Some.ensures)

pub returns-in-None : goal.returns-in-None
returns-in-None c = none-in c.args.message.now c.args.questions (sym c.first_of.ensures ∙ c.in-None.is)
