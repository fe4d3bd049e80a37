use Rattle.std.proofs.Common.{◌∙◌}
use Rattle.linkcache.proofs.KeptEnds.{none_there, taken_out}
use Rattle.linkcache.proofs.apply_plan.take_end.Goals as goal

pub returns-in-Some-clause-deadlines : goal.returns-in-Some-clause-deadlines
returns-in-Some-clause-deadlines c =
    taken_out c.args.key.now c.in-Some.moment c.args.ends.now.deadlines c.take_at.new.self.deadlines c.take_at.result (c.requires ∙ c.in-Some.is) c.take_at.ensures.key c.take_at.ensures.deadlines

pub returns-in_default-clause-deadlines : goal.returns-in_default-clause-deadlines
returns-in_default-clause-deadlines c = none_there c.args.key.now c.args.ends.now.deadlines (c.requires ∙ c.in_default.is)
