-- Homes in which nothing has changed yet.
use Rattle.std.proofs.Common.{subst}
use Rattle.history.specs.HeldPlans.{AreKept}
use Rattle.history.proofs.Present.{present-new, start-kept}
use Rattle.history.proofs.points.Points.new.Goals as goal

pub new-requires : goal.new-requires
new-requires c = start-kept c.args.homes (subst AreKept c.homes.view_is c.homes.invariant) c.requires c.tell_names.ensures

pub invariant_of-result : goal.invariant_of-result
invariant_of-result c =
    let home = start-kept c.args.homes (subst AreKept c.homes.view_is c.homes.invariant) c.requires c.tell_names.ensures in
    present-new c.args.homes c.in_ok-past.past home c.in_ok-past.ensures

pub returns-in_err-past-clause-home : goal.returns-in_err-past-clause-home
returns-in_err-past-clause-home c = start-kept c.args.homes (subst AreKept c.homes.view_is c.homes.invariant) c.requires c.tell_names.ensures

pub returns-clause-home : goal.returns-clause-home
returns-clause-home c = start-kept c.args.homes (subst AreKept c.homes.view_is c.homes.invariant) c.requires c.tell_names.ensures
