use Rattle.std.specs.Prelude.{◌||◌}
use Rattle.rrset.specs.Records.{matches}
use Rattle.subscr.specs.Asked.{wants}
use Rattle.coalesce.proofs.Firsts.{part_can_be_sent}
use Rattle.coalesce.proofs.first.append_first.Goals as goal

pub append_anew-requires-clause-sent : goal.append_anew-requires-clause-sent
append_anew-requires-clause-sent c =
    part_can_be_sent (λ key. matches c.args.question.now key || wants key c.args.questions.now) c.args.rows.now c.matching_or_asked-wanted.result c.requires.side c.requires.sent c.matching_or_asked-wanted.ensures

pub append_records-requires-clause-sent : goal.append_records-requires-clause-sent
append_records-requires-clause-sent c = part_can_be_sent (matches c.args.question.now) c.args.rows.now c.matching-matching.result c.requires.side c.requires.sent c.matching-matching.ensures
