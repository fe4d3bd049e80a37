use Rattle.std.proofs.Common.{refl, subst}
use Rattle.configurations.specs.Kept.{ReadsSubscribing}
use Rattle.commands.proofs.Following.{numbered, starved}
use Rattle.commands.proofs.subscribe_command.follow.Goals as goal

pub returns-in-Ok-Outside-clause-followed : goal.returns-in-Ok-Outside-clause-followed
returns-in-Ok-Outside-clause-followed g c = numbered _ _ _ _ _ refl (subst (ReadsSubscribing c.args.octets.now) c.in-Ok-Outside.field-0-is c.in-Ok-Outside.ensures) c.tell_line.ensures.told

pub returns-in-Err-clause-followed : goal.returns-in-Err-clause-followed
returns-in-Err-clause-followed g c = starved _ _ _ _ refl refl refl refl c.tell.ensures.told
