use Rattle.std.proofs.Common.{subst}
use Rattle.scripts.specs.KeptWhole.{ReadsWhole}
use Rattle.replay.proofs.replies.ScriptReplies.{whole-checked, outside-checked}
use Rattle.replay.proofs.checking.check_reply.Goals as goal

pub returns-in_ok-text-in-Whole-clause-exact : goal.returns-in_ok-text-in-Whole-clause-exact
returns-in_ok-text-in-Whole-clause-exact c = whole-checked c.args.octets.now _ c.in-Whole.script (subst (ReadsWhole c.args.octets.now) c.in-Whole.is c.in_ok-script.ensures) c.in_ok-text-in-Whole.ensures

pub returns-in_ok-text-in-Outside-clause-exact : goal.returns-in_ok-text-in-Outside-clause-exact
returns-in_ok-text-in-Outside-clause-exact c = outside-checked c.args.octets.now _ c.in-Outside.number (subst (ReadsWhole c.args.octets.now) c.in-Outside.is c.in_ok-script.ensures) c.in_ok-text-in-Outside.ensures
