use Rattle.coalesce.proofs.Sides as sides
use Rattle.coalesce.proofs.laws.net_leads_to_new.Goals as goal

pub returns-clause-one_question : goal.returns-clause-one_question
returns-clause-one_question c = sides.net_leads_to_new

pub returns-clause-each_question : goal.returns-clause-each_question
returns-clause-each_question c = sides.net_leads_each_question

pub returns-clause-parts : goal.returns-clause-parts
returns-clause-parts c = sides.parts_stay_sides
