use Rattle.std.proofs.Common.{List, sym, ap, subst}
use Rattle.rrset.specs.declared.record.Changed.{Changed}
use Rattle.rrset.specs.declared.record.Shown.{Shown}
use Rattle.nametable.specs.Nodes.{Nodes, HasRoomFor, keys_put}
use Rattle.zoneupdate.specs.Zones.{ZoneState}
use Rattle.zoneupdate.specs.KeptZones.{ZoneKept}
use Rattle.zoneupdate.proofs.Plans.{planned-lower, applied, applied-kept}
use Rattle.zoneupdate.proofs.zone.Zone.apply.Goals as goal

pub make_changes-requires-clause-lower : goal.make_changes-requires-clause-lower
make_changes-requires-clause-lower c =
    let inside : ZoneState = record { apex = c.self.inside.apex; writable = c.self.inside.writable; rows = c.self.inside.rows.rows } in
    planned-lower c.args.self.now.state inside c.args.plan c.plan.inside.changed.items (ap (λ (z : ZoneKept). z.state) c.self.view_is) c.plan.view_is c.self.invariant c.requires.planned

pub make_changes-requires-clause-room : goal.make_changes-requires-clause-room
make_changes-requires-clause-room c =
    subst (λ (ns : Nodes Shown). HasRoomFor (keys_put c.plan.inside.changed.items) ns) (sym (ap (λ (z : ZoneKept). z.nodes) c.self.view_is))
    (subst (λ (cs : List Changed). HasRoomFor (keys_put cs) c.args.self.now.nodes) (sym c.plan.view_is) c.requires.room)

pub invariant_of-self : goal.invariant_of-self
invariant_of-self c =
    let inside : ZoneState = record { apex = c.self.inside.apex; writable = c.self.inside.writable; rows = c.self.inside.rows.rows } in
    applied-kept c.args.self.now.state inside c.args.plan c.plan.inside.changed.items c.make_changes.new.rows.rows (ap (λ (z : ZoneKept). z.state) c.self.view_is) c.plan.view_is c.self.invariant c.requires.planned c.make_changes.ensures

pub returns : goal.returns
returns c rows leads =
    let inside : ZoneState = record { apex = c.self.inside.apex; writable = c.self.inside.writable; rows = c.self.inside.rows.rows } in
    applied c.args.self.now.state inside c.args.plan c.plan.inside.changed.items c.make_changes.new.rows.rows rows (ap (λ (z : ZoneKept). z.state) c.self.view_is) c.plan.view_is c.self.invariant leads c.make_changes.ensures
