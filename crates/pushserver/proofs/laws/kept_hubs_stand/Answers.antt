use Rattle.pushserver.proofs.hub_steps.Calls.{updates_stand, hears_stand, goings_stand, moments_stand, connects_stand, takes_stand, stops_stand, ends_stand}
use Rattle.pushserver.proofs.hub_steps.Forgetting.{forgetting_stands}
use Rattle.pushserver.proofs.hub_steps.Giving.{gives_stand}
use Rattle.pushserver.proofs.told_rows.HubTells.{hubs_tell}
use Rattle.pushserver.proofs.laws.kept_hubs_stand.Goals as goal

pub returns-clause-updates : goal.returns-clause-updates
returns-clause-updates c = updates_stand

pub returns-clause-hears : goal.returns-clause-hears
returns-clause-hears c = hears_stand

pub returns-clause-goings : goal.returns-clause-goings
returns-clause-goings c = goings_stand

pub returns-clause-moments : goal.returns-clause-moments
returns-clause-moments c = moments_stand

pub returns-clause-connects : goal.returns-clause-connects
returns-clause-connects c = connects_stand

pub returns-clause-takes : goal.returns-clause-takes
returns-clause-takes c = takes_stand

pub returns-clause-stops : goal.returns-clause-stops
returns-clause-stops c = stops_stand

pub returns-clause-ends : goal.returns-clause-ends
returns-clause-ends c = ends_stand

pub returns-clause-gives : goal.returns-clause-gives
returns-clause-gives c = gives_stand

pub returns-clause-tells : goal.returns-clause-tells
returns-clause-tells c = hubs_tell

pub returns-clause-forgets : goal.returns-clause-forgets
returns-clause-forgets c = forgetting_stands
