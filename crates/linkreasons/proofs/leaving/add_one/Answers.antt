use Rattle.std.proofs.Common.{ap, ◌∙◌}
use Rattle.rrset.specs.declared.record.Question.{Question}
use Rattle.linkreasons.specs.AllReasons.{but_last}
use Rattle.linkreasons.specs.Changing.{one_wanted}
use Rattle.linkreasons.proofs.OneAsked.{changed-set}
use Rattle.linkreasons.proofs.SessionParts.{last-push}
use Rattle.linkreasons.proofs.leaving.add_one.Goals as goal

pub returns-in-Ok-clause-links : goal.returns-in-Ok-clause-links
returns-in-Ok-clause-links c =
    changed-set (one_wanted c.args.reason.question) c.args.links.now.items c.args.reason.link c.index_mut.result.now c.want.new.self c.requires
    (c.in-Ok.ensures.ok ∙ ap (λ (q : Question). one_wanted q c.index_mut.result.now) c.in_ok-question.ensures ∙ ap (one_wanted c.args.reason.question) c.index_mut.ensures.value)

pub returns-in-Err-clause-same_reasons : goal.returns-in-Err-clause-same_reasons
returns-in-Err-clause-same_reasons c = c.pop.ensures.left ∙ ap but_last c.in_ok-push.ensures.ok ∙ (last-push c.args.reasons.now c.args.reason).0
