use Rattle.std.proofs.Common.{sym, subst}
use Rattle.dsotlv.proofs.PushWalks.{ReadSoFar, begins, more}
use Rattle.dsotlv.proofs.push.read_push.Goals as goal

pub notices-init : goal.notices-init
notices-init c = subst (ReadSoFar c.args.octets.now 0) (sym c.new-notices.ensures) (begins c.args.octets.now)

pub notices-preserved : goal.notices-preserved
notices-preserved c =
    subst (ReadSoFar c.args.octets.now c.in_ok-notice.after) (sym c.in_ok-push.ensures.ok)
    (more c.args.octets.now c.notices.place c.notices.notices c.in_ok-notice.notice c.in_ok-notice.after c.notices.invariant c.in_ok-notice.ensures.exact c.in_ok-notice.ensures.onward c.in_ok-notice.ensures.within c.if-after-octets.false)
