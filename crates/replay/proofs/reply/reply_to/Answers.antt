use Rattle.std.proofs.Common.{subst}
use Rattle.scripts.specs.KeptWhole.{ReadsWhole, IsWholeScript}
use Rattle.replay.proofs.replies.ScriptReplies.{whole-reply, outside-reply, tells-of}
use Rattle.replay.proofs.endings.EndsStand.{ends-are}
use Rattle.replay.proofs.reply.reply_to.Goals as goal

pub script_text-requires : goal.script_text-requires
script_text-requires c =
    let whole : IsWholeScript c.args.octets.items c.in-Whole.script = subst (ReadsWhole c.args.octets.items) c.in-Whole.is c.in_ok-script.ensures in
    (whole.lines, tells-of c.args.octets.items c.in-Whole.script whole)

pub returns-in_ok-ends-in-Whole-clause-exact : goal.returns-in_ok-ends-in-Whole-clause-exact
returns-in_ok-ends-in-Whole-clause-exact c =
    let whole : IsWholeScript c.args.octets.items c.in-Whole.script = subst (ReadsWhole c.args.octets.items) c.in-Whole.is c.in_ok-script.ensures in
    whole-reply c.args.octets.items _ whole.lines whole.read (c.in_ok-text-in-Whole.ensures.text whole.lines (tells-of c.args.octets.items c.in-Whole.script whole))

pub returns-in_ok-ends-in-Whole-clause-ends : goal.returns-in_ok-ends-in-Whole-clause-ends
returns-in_ok-ends-in-Whole-clause-ends c =
    let whole : IsWholeScript c.args.octets.items c.in-Whole.script = subst (ReadsWhole c.args.octets.items) c.in-Whole.is c.in_ok-script.ensures in
    let tells = tells-of c.args.octets.items c.in-Whole.script whole in
    ends-are c.args.octets.items whole.lines c.in_ok-text-in-Whole.field-0.worlds c.in_ok-ends-in-Whole.ends whole.read (c.in_ok-text-in-Whole.ensures.worlds whole.lines tells) (c.in_ok-text-in-Whole.ensures.asks whole.lines tells)
    c.in_ok-ends-in-Whole.ensures.hub c.in_ok-ends-in-Whole.ensures.far c.in_ok-ends-in-Whole.ensures.clients

pub returns-in_ok-text-in-Outside-clause-exact : goal.returns-in_ok-text-in-Outside-clause-exact
returns-in_ok-text-in-Outside-clause-exact c = outside-reply c.args.octets.items _ c.in-Outside.number (subst (ReadsWhole c.args.octets.items) c.in-Outside.is c.in_ok-script.ensures) c.in_ok-text-in-Outside.ensures
