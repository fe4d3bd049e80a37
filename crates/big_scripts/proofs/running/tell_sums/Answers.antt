use Rattle.std.proofs.Common.{refl, ◌∙◌}
use Rattle.replay.specs.TextWords.{by_notices}
use Rattle.scripts.specs.Reply.{In_full}
use Rattle.scripts.proofs.Written.{answered, starved_is}
use Rattle.big_scripts.specs.Replies.{reply_to_number}
use Rattle.big_scripts.proofs.running.tell_sums.Goals as goal

pub returns-in-Ok-clause-replied : goal.returns-in-Ok-clause-replied
returns-in-Ok-clause-replied g c = answered ⊥ (reply_to_number by_notices c.args.number) _ _ _ _ _ (In_full refl (c.as_bytes.ensures.value ∙ c.in-Ok.ensures)) c.tell.ensures.told

pub returns-in-Err-clause-replied : goal.returns-in-Err-clause-replied
returns-in-Err-clause-replied g c = (let reply = reply_to_number by_notices c.args.number in answered ⊥ reply _ _ _ _ _ (starved_is ⊥ reply) c.tell-in-Err.ensures.told)
