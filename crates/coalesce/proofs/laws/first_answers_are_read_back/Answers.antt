use Rattle.coalesce.proofs.FirstLeads.{first_fits_one_message, first_is_read_back}
use Rattle.coalesce.proofs.laws.first_answers_are_read_back.Goals as goal

pub returns-clause-size : goal.returns-clause-size
returns-clause-size c = first_fits_one_message

pub returns-clause-read : goal.returns-clause-read
returns-clause-read c = first_is_read_back
