use Rattle.coalesce.proofs.Packing.{packs_the_front, packs_nothing_of_nothing, packed_fits_one_message}
use Rattle.coalesce.proofs.laws.packing.Goals as goal

pub returns-clause-front : goal.returns-clause-front
returns-clause-front c = packs_the_front

pub returns-clause-nothing : goal.returns-clause-nothing
returns-clause-nothing c = packs_nothing_of_nothing

pub returns-clause-size : goal.returns-clause-size
returns-clause-size c = packed_fits_one_message
