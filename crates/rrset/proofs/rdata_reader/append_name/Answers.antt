use Rattle.dnsname.proofs.UpTo.{in_whole}
use Rattle.rrset.proofs.rdata_reader.append_name.Goals as goal

pub returns-in_ok-write_to-in-Ok-clause-within : goal.returns-in_ok-write_to-in-Ok-clause-within
returns-in_ok-write_to-in-Ok-clause-within c = (in_whole _ _ _ _ _ c.in-Ok.ensures.name).1
