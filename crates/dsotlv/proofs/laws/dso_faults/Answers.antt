use Rattle.dsotlv.proofs.FaultLaws.{fault_found, fault_read}
use Rattle.dsotlv.proofs.laws.dso_faults.Goals as goal

pub returns : goal.returns
returns c = λ text fault below. (fault_found text fault below, fault_read text fault below)
