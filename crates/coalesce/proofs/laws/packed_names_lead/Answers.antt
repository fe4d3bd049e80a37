use Rattle.coalesce.proofs.PackedNames.{packed_leads, packed_is_read_back}
use Rattle.coalesce.proofs.laws.packed_names_lead.Goals as goal

pub returns-clause-to_now : goal.returns-clause-to_now
returns-clause-to_now c = packed_leads

pub returns-clause-read : goal.returns-clause-read
returns-clause-read c = packed_is_read_back
