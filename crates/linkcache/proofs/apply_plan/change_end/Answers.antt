use Rattle.std.proofs.Common.{◌∙◌, ap}
use Rattle.clockqueue.specs.Deadlines.{Deadlines, moment_of}
use Rattle.rrset.specs.declared.record.Key.{Key}
use Rattle.rrset.specs.Records.{key_cmp}
use Rattle.linkcache.specs.Ends.{with_end}
use Rattle.linkcache.proofs.KeptEnds.{end_kept, none_left}
use Rattle.linkcache.proofs.apply_plan.change_end.Goals as goal

pub put_end-requires-clause-none : goal.put_end-requires-clause-none
put_end-requires-clause-none c = none_left c.args.key c.args.ends.now.deadlines c.take_end.new.ends.deadlines c.take_end.ensures.deadlines

pub returns-then-same_end-clause-ends : goal.returns-then-same_end-clause-ends
returns-then-same_end-clause-ends c query = end_kept c.args.key c.args.ends.now.deadlines c.args.after (c.requires.before ∙ c.same_end.ensures c.if-same_end.true) query

pub returns-clause-ends : goal.returns-clause-ends
returns-clause-ends c query = ap (moment_of key_cmp query) (c.put_end.ensures.deadlines ∙ ap (λ (l : Deadlines Key). with_end l c.args.key c.args.after) c.take_end.ensures.deadlines)
