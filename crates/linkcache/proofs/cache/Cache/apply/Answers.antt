use Rattle.std.proofs.Common.{map, sym, ap, subst}
use Rattle.linkcache.specs.Links.{LinkKept}
use Rattle.nametable.specs.Nodes.{HasRoomFor}
use Rattle.linkcache.specs.Plans.{LinkPlan, HaveLowerKeys, IsPlanOf, keys_put}
use Rattle.linkcache.proofs.KeptEnds.{lower_planned}
use Rattle.linkcache.proofs.LeadingPlans.{applied}
use Rattle.linkcache.proofs.cache.Cache.apply.Goals as goal

pub make_changes-requires-clause-lower : goal.make_changes-requires-clause-lower
make_changes-requires-clause-lower c = lower_planned c.plan.inside.rows.items (subst (λ (p : LinkPlan). HaveLowerKeys p.rows) (sym c.plan.view_is) c.requires.planned.1.keys)

pub make_changes-requires-clause-row_room : goal.make_changes-requires-clause-row_room
make_changes-requires-clause-row_room c =
    subst (λ (k : LinkKept). HasRoomFor (keys_put (map (λ r. r.change) c.plan.inside.rows.items)) k.nodes) (sym c.self.view_is)
    (subst (λ (p : LinkPlan). HasRoomFor (keys_put p.rows) c.args.self.now.nodes) (sym c.plan.view_is) c.requires.room.keys)

pub invariant_of-self : goal.invariant_of-self
invariant_of-self c = record {
  sound = applied c.self.inside.rules c.self.inside.rows.rows c.make_changes.new.rows.rows (map (λ r. r.change) c.plan.inside.rows.items) c.args.plan c.self.invariant.sound c.make_changes.ensures.rows
      (ap (λ (p : LinkPlan). p.rows) c.plan.view_is) (subst (λ (k : LinkKept). IsPlanOf k.state.rules k.state.rows c.args.plan) (sym c.self.view_is) c.requires.planned);
  ends = c.make_changes.ensures.ends;
}
