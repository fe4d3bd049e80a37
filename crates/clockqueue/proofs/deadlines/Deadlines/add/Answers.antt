use Rattle.std.proofs.Common.{◌∙◌, ap}
use Rattle.clockqueue.specs.Deadlines.{moment_of, with_deadline}
use Rattle.clockqueue.proofs.Keyed.{Adds, added, not_there}
use Rattle.clockqueue.proofs.deadlines.Deadlines.add.Given.{Over}
use Rattle.clockqueue.proofs.deadlines.Deadlines.add.Goals as goal

adds : (g : Over) (c : goal.In_ok-insert-in-Err g) → Adds g.met.K.Ord.total c.args.key c.args.moment c.self.inside.entries.items c.insert.new.self.items
adds g c =
    added g.met.K.Ord.total c.args.key c.args.moment c.self.inside.entries.items c.insert.new.self.items c.in-Err.index c.self.invariant
    (ap (λ t. moment_of g.K.Ord.cmp c.args.key t.deadlines) c.self.view_is ∙ c.requires)
    c.in-Err.ensures.absent
    c.in_ok-insert-in-Err.ensures.items

pub invariant_of-self-in-Err : goal.invariant_of-self-in-Err
invariant_of-self-in-Err g c = (adds g c).are

pub unreachable-requires : goal.unreachable-requires
unreachable-requires g c =
    not_there g.met.K.Ord.total c.args.key c.args.moment c.self.inside.entries.items c.in-Ok.field-0 c.self.invariant
    (ap (λ t. moment_of g.K.Ord.cmp c.args.key t.deadlines) c.self.view_is ∙ c.requires)
    c.in-Ok.ensures.found

pub returns-clause-deadlines : goal.returns-clause-deadlines
returns-clause-deadlines g c = (adds g c).is ∙ ap (λ t. with_deadline g.K.Ord.cmp c.args.key c.args.moment t.deadlines) c.self.view_is
