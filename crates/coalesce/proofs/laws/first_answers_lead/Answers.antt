use Rattle.coalesce.proofs.FirstLeads.{first_fills_the_new, first_leads_the_others, first_anew_leads_from_any, first_adds_nothing_known, first_leaves_other_names}
use Rattle.coalesce.proofs.laws.first_answers_lead.Goals as goal

pub returns-clause-new : goal.returns-clause-new
returns-clause-new c = first_fills_the_new

pub returns-clause-others : goal.returns-clause-others
returns-clause-others c = first_leads_the_others

pub returns-clause-anew : goal.returns-clause-anew
returns-clause-anew c = first_anew_leads_from_any

pub returns-clause-known : goal.returns-clause-known
returns-clause-known c = first_adds_nothing_known

pub returns-clause-apart : goal.returns-clause-apart
returns-clause-apart c = first_leaves_other_names
