use Rattle.std.proofs.Common.{◌+◌, ◌*◌, ◌∙◌, ap}
use Rattle.rrset.specs.Kinds.{any_kind}
use Rattle.linkask.specs.Asking.{asked_for}
use Rattle.linkask.specs.Bounds.{lowered_for}
use Rattle.linkask.proofs.Lowering.{heard-gone, heard-twice, is-gone, is-some}
use Rattle.linkask.proofs.refresh.hear_one.Goals as goal

pub returns-then-ttl-eq0-clause-entries : goal.returns-then-ttl-eq0-clause-entries
returns-then-ttl-eq0-clause-entries c = heard-gone c.args.now c.args.h.now c.args.entries.now (is-gone c.args.h.now c.counted_ttl-ttl.result c.counted_ttl-ttl.ensures c.if-ttl-eq0.true)

pub returns-clause-entries : goal.returns-clause-entries
returns-clause-entries c =
    c.lower_bound-2.ensures.entries
    ∙ ap (lowered_for (asked_for c.args.h.now.rr.owner any_kind) (c.args.now + 800 * c.from.result)) c.lower_bound.ensures.entries
    ∙ heard-twice c.args.now c.args.h.now c.args.entries.now (c.args.now + 800 * c.from.result) (is-some c.args.h.now c.counted_ttl-ttl.result c.counted_ttl-ttl.ensures c.if-ttl-eq0.false) (ap (λ n. c.args.now + 800 * n) (c.from.ensures ∙ c.counted_ttl-ttl.ensures))
