use Rattle.std.proofs.Common.{◌+◌, List, ◌++◌, [], ◌∷◌, sym, ◌∙◌, ap, subst, arith}
use Rattle.dnsname.specs.Names.{Labels}
use Rattle.dnsquery.specs.Replies.{is_left_out, walk_from}
use Rattle.dnsquery.proofs.WholeWalk.{WalkSoFar, walk-back, walk-ends, walk-on}
use Rattle.dnsquery.proofs.walk.walk_to.Given as given
use Rattle.dnsquery.proofs.walk.walk_to.Goals as goal

pub returns-in_default : goal.returns-in_default
returns-in_default g c =
    walk-ends (g.R.Lookup.known c.args.records.now) c.args.question.now c.args.most _ c.args.out.now.items c.targets.out.items c.turn_at.new.out.items c.targets.visited.items c.targets.name c.targets.count c.in_ok-turn.turn c.targets.invariant
    c.in_ok-turn.ensures c.in_default.is

pub returns-then-is_left_out : goal.returns-then-is_left_out
returns-then-is_left_out g c =
    walk-back (g.R.Lookup.known c.args.records.now) c.args.question.now c.args.most _ c.args.out.now.items c.targets.out.items c.turn_at.new.out.items c.targets.visited.items c.targets.name c.targets.count c.in_ok-turn.turn c.in-Some.target c.targets.invariant
    c.in_ok-turn.ensures c.in-Some.is (grind (arith, c.if-len-most.false, c.len.ensures, c.targets.invariant.few))
    (ap (λ v. is_left_out (g.R.Lookup.known c.args.records.now) v c.in-Some.target) (sym c.in_ok-push.ensures.items ∙ sym c.deref.ensures.value) ∙ ap (is_left_out (g.R.Lookup.known c.args.records.now) c.deref.result.now) (sym c.in-Some.target-is) ∙ sym c.is_left_out.ensures ∙ c.if-is_left_out.true)

goes_on : (g : given.Over) (c : goal.Else-is_left_out g)
    → WalkSoFar (g.R.Lookup.known c.args.records.now) c.args.question.now c.args.most (walk_from c.args.most (g.R.Lookup.known c.args.records.now) c.args.question.now [] c.args.question.now.name) c.args.out.now.items c.turn_at.new.out.items
    (c.targets.visited.items ++ c.targets.name ∷ []) c.in-Some.target (c.targets.count + c.in_ok-turn.turn.count)
goes_on g c =
    walk-on (g.R.Lookup.known c.args.records.now) c.args.question.now c.args.most _ c.args.out.now.items c.targets.out.items c.turn_at.new.out.items c.targets.visited.items c.targets.name c.targets.count c.in_ok-turn.turn c.in-Some.target c.targets.invariant
    c.in_ok-turn.ensures c.in-Some.is (grind (arith, c.if-len-most.false, c.len.ensures, c.targets.invariant.few))
    (ap (λ v. is_left_out (g.R.Lookup.known c.args.records.now) v c.in-Some.target) (sym c.in_ok-push.ensures.items ∙ sym c.deref.ensures.value) ∙ ap (is_left_out (g.R.Lookup.known c.args.records.now) c.deref.result.now) (sym c.in-Some.target-is) ∙ sym c.is_left_out.ensures ∙ c.if-is_left_out.false)

pub targets-preserved : goal.targets-preserved
targets-preserved g c =
    subst (λ (n : Labels). WalkSoFar (g.R.Lookup.known c.args.records.now) c.args.question.now c.args.most (walk_from c.args.most (g.R.Lookup.known c.args.records.now) c.args.question.now [] c.args.question.now.name) c.args.out.now.items c.turn_at.new.out.items
    c.push.new.self.items n (c.targets.count + c.in_ok-turn.turn.count)) (sym c.in-Some.target-is)
    (subst (λ (v : List Labels). WalkSoFar (g.R.Lookup.known c.args.records.now) c.args.question.now c.args.most (walk_from c.args.most (g.R.Lookup.known c.args.records.now) c.args.question.now [] c.args.question.now.name) c.args.out.now.items c.turn_at.new.out.items
    v c.in-Some.target (c.targets.count + c.in_ok-turn.turn.count)) (sym c.in_ok-push.ensures.items) (goes_on g c))
