use Rattle.std.proofs.Common.{ap, sym, ◌∙◌}
use Rattle.subscr.specs.Numbers.{again_of}
use Rattle.subscr.specs.Watching.{is_in}
use Rattle.subscr.proofs.Again.{kept-whatever}
use Rattle.subscr.proofs.Counts.{kept-more}
use Rattle.subscr.proofs.sessions.Sessions.add.Goals as goal

pub invariant_of-self : goal.invariant_of-self
invariant_of-self c =
    kept-whatever c.add_again.result c.args.session c.self.inside.numbers.items c.self.inside.again.items c.add_again.new.again.items c.self.invariant
    (sym (c.is_in.ensures ∙ ap (is_in c.args.session) c.deref.ensures.value) ∙ c.if-is_in.true) c.add_again.ensures.ok c.add_again.ensures.err

pub invariant_of-self-2 : goal.invariant_of-self-2
invariant_of-self-2 c =
    kept-more c.args.session c.self.inside.numbers.items (again_of c.self.inside.again.items) c.put_in.new.numbers.items c.self.invariant c.in_ok-put_in.ensures.more c.in_ok-put_in.ensures.rising
