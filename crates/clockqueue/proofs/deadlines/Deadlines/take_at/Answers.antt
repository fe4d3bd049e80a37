use Rattle.std.proofs.Common.{◌≡◌, ◌∙◌, ℕ, sym, ap, subst, Option, None, Some}
use Rattle.std.specs.List.{find}
use Rattle.std.specs.Option.{option_map}
use Rattle.clockqueue.specs.Deadlines.{is_set_to, without}
use Rattle.clockqueue.specs.Places.{IsGapFor}
use Rattle.clockqueue.proofs.Keyed.{Takes, taken_at, found_due, none_due}
use Rattle.clockqueue.proofs.deadlines.Deadlines.take_at.Given.{Over}
use Rattle.clockqueue.proofs.deadlines.Deadlines.take_at.Goals as goal

takes : (g : Over) (c : goal.After-remove-key g) → Takes g.met.K.Ord.total c.args.key.now c.self.inside.entries.items c.in-Ok.index c.remove-key.result c.remove-key.new.self.items
takes g c = taken_at g.met.K.Ord.total c.args.key.now c.args.moment c.self.inside.entries.items c.remove-key.new.self.items c.in-Ok.index c.remove-key.result c.self.invariant c.in-Ok.ensures.found c.remove-key.ensures.items

found : (g : Over) (c : goal.After-remove-key g) → find (is_set_to g.K.Ord.cmp c.args.key.now c.args.moment) c.args.self.now.deadlines ≡ Some c.remove-key.result
found g c =
    ap (λ t. find (is_set_to g.K.Ord.cmp c.args.key.now c.args.moment) t.deadlines) (sym c.self.view_is)
    ∙ found_due g.met.K.Ord.total c.args.key.now c.args.moment c.self.inside.entries.items c.in-Ok.index c.remove-key.result c.self.invariant c.in-Ok.ensures.found
    ∙ ap (λ (d : ℕ × g.row.K.Denot). Some d) (sym c.remove-key.ensures.value)

none : (g : Over) (c : goal.In-Err g) → find (is_set_to g.K.Ord.cmp c.args.key.now c.args.moment) c.args.self.now.deadlines ≡ None
none g c =
    none_due g.met.K.Ord.total c.args.key.now c.args.moment c.args.self.now.deadlines c.in-Err.field-0
    (subst (λ l. IsGapFor g.K.Ord.cmp c.args.moment c.args.key.now l c.in-Err.field-0) (ap (λ t. t.deadlines) c.self.view_is) c.in-Err.ensures.absent)

pub remove-key-requires : goal.remove-key-requires
remove-key-requires g c = c.in-Ok.ensures.found.within

pub invariant_of-self : goal.invariant_of-self
invariant_of-self g c = (takes g c).are

pub returns-in-Ok-clause-key : goal.returns-in-Ok-clause-key
returns-in-Ok-clause-key g c = sym (ap (λ (o : Option (ℕ × g.row.K.Denot)). option_map (λ d. d.1) o) (found g c))

pub returns-in-Ok-clause-deadlines : goal.returns-in-Ok-clause-deadlines
returns-in-Ok-clause-deadlines g c = (takes g c).is ∙ ap (λ t. without g.K.Ord.cmp c.args.key.now t.deadlines) c.self.view_is

pub returns-in-Err-clause-key : goal.returns-in-Err-clause-key
returns-in-Err-clause-key g c = sym (ap (λ (o : Option (ℕ × g.row.K.Denot)). option_map (λ d. d.1) o) (none g c))
