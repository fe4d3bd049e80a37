use Rattle.dsotlv.proofs.Fields.{no_frame, no_tlv}
use Rattle.dsotlv.proofs.laws.one_beginning.Goals as goal

pub returns-clause-frames : goal.returns-clause-frames
returns-clause-frames c = no_frame

pub returns-clause-tlvs : goal.returns-clause-tlvs
returns-clause-tlvs c = no_tlv
