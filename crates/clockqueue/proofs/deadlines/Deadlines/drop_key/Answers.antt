use Rattle.std.proofs.Common.{◌≡◌, ◌∙◌, ℕ, sym, ap, Option, None, is_some}
use Rattle.std.specs.List.{position}
use Rattle.std.specs.Option.{option_map}
use Rattle.std.proofs.lemmas.List.Quantifiers.{position-Some}
use Rattle.clockqueue.specs.Deadlines.{is_of, moment_of, without}
use Rattle.clockqueue.proofs.Ordered.{no_place}
use Rattle.clockqueue.proofs.Firsts.{position-within}
use Rattle.clockqueue.proofs.Keyed.{Takes, taken, without_absent}
use Rattle.clockqueue.proofs.deadlines.Deadlines.drop_key.Given.{Over}
use Rattle.clockqueue.proofs.deadlines.Deadlines.drop_key.Goals as goal

takes : (g : Over) (c : goal.After-drop-remove g) → Takes g.met.K.Ord.total c.args.key.now c.self.inside.entries.items c.in-Some.index c.remove.result c.remove.new.self.items
takes g c =
    let at = position-Some (is_of g.K.Ord.cmp c.args.key.now) c.self.inside.entries.items c.in-Some.index c.remove.result (sym c.in-Some.ensures) in
    taken g.met.K.Ord.total c.args.key.now c.self.inside.entries.items c.remove.new.self.items c.in-Some.index c.remove.result c.self.invariant at.0 at.1 c.remove.ensures.items

none : (g : Over) (c : goal.In-None g) → moment_of g.K.Ord.cmp c.args.key.now c.args.self.now.deadlines ≡ None
none g c =
    ap (option_map (λ d. d.0)) (no_place (λ d e. is_of g.K.Ord.cmp e.1 d) (is_of g.K.Ord.cmp c.args.key.now) c.args.self.now.deadlines
    (ap (λ t. position (is_of g.K.Ord.cmp c.args.key.now) t.deadlines) (sym c.self.view_is) ∙ sym c.in-None.ensures))

pub remove-requires : goal.remove-requires
remove-requires g c = position-within (is_of g.K.Ord.cmp c.args.key.now) c.self.inside.entries.items c.in-Some.index (sym c.in-Some.ensures)

pub invariant_of-self : goal.invariant_of-self
invariant_of-self g c = (takes g c).are

pub returns-in-Some-clause-there : goal.returns-in-Some-clause-there
returns-in-Some-clause-there g c = sym (ap (λ t. is_some (moment_of g.K.Ord.cmp c.args.key.now t.deadlines)) (sym c.self.view_is) ∙ ap (λ (o : Option (ℕ × g.row.K.Denot)). is_some (option_map (λ d. d.0) o)) (takes g c).found)

pub returns-in-Some-clause-deadlines : goal.returns-in-Some-clause-deadlines
returns-in-Some-clause-deadlines g c = (takes g c).is ∙ ap (λ t. without g.K.Ord.cmp c.args.key.now t.deadlines) c.self.view_is

pub returns-in-None-clause-there : goal.returns-in-None-clause-there
returns-in-None-clause-there g c = sym (ap (λ (o : Option ℕ). is_some o) (none g c))

pub returns-in-None-clause-deadlines : goal.returns-in-None-clause-deadlines
returns-in-None-clause-deadlines g c = sym (without_absent g.met.K.Ord.total c.args.key.now c.args.self.now.deadlines (none g c))
