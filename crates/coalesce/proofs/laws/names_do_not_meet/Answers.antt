use Rattle.coalesce.proofs.OneName.{net_speaks_of_its_name}
use Rattle.coalesce.proofs.OtherNames.{others_change_nothing, one_of_several}
use Rattle.coalesce.proofs.laws.names_do_not_meet.Goals as goal

pub returns-clause-of_its_name : goal.returns-clause-of_its_name
returns-clause-of_its_name c = net_speaks_of_its_name

pub returns-clause-others : goal.returns-clause-others
returns-clause-others c = others_change_nothing

pub returns-clause-one_of_several : goal.returns-clause-one_of_several
returns-clause-one_of_several c = one_of_several
