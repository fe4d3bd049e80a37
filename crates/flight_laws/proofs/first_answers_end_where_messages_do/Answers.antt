use Rattle.flight_laws.proofs.FirstEnds.{first_answers_end}
use Rattle.flight_laws.proofs.first_answers_end_where_messages_do.Goals as goal

pub returns : goal.returns
returns c = record { after_calls = first_answers_end }
