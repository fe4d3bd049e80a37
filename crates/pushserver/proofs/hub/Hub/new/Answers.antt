-- What is kept at first stands for a new hub.
use Rattle.std.proofs.Common.{sym, subst}
use Rattle.history.specs.Kept.{state_of}
use Rattle.pushserver.specs.PlainHubs.{new_hub}
use Rattle.pushserver.specs.KeptHubs.{KeptHub, StandsFor}
use Rattle.pushserver.proofs.told_rows.Hubs.{new_stands}
use Rattle.pushserver.proofs.hub.Hub.new.Goals as goal

pub invariant_of-result : goal.invariant_of-result
invariant_of-result c = record {
  index = c.in_ok-keeping.ensures.index;
  watched = c.in_ok-keeping.ensures.watched;
  hub = new_hub (state_of c.args.homes) c.args.timers;
  stands = subst (λ (k : KeptHub). StandsFor k (new_hub (state_of c.args.homes) c.args.timers)) (sym c.in_ok-keeping.ensures.kept) (new_stands (state_of c.args.homes) c.args.timers c.requires c.new.ensures.home c.new.ensures.names);
}

pub returns-clause-stands : goal.returns-clause-stands
returns-clause-stands c = subst (λ (k : KeptHub). StandsFor k (new_hub (state_of c.args.homes) c.args.timers)) (sym c.in_ok-keeping.ensures.kept) (new_stands (state_of c.args.homes) c.args.timers c.requires c.new.ensures.home c.new.ensures.names)
