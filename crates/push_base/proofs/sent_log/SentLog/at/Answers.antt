use Rattle.std.proofs.Common.{length, ap, sym, subst, ◌∙◌, Some, ◌≤◌}
use Rattle.std.specs.List.{slice_get}
use Rattle.push_base.specs.SentLogInside.{octets_at}
use Rattle.push_base.proofs.SentLogLemmas.{within_at, datagram_at}
use Rattle.push_base.proofs.sent_log.SentLog.at.Goals as goal

pub octets_of-requires-clause-begins : goal.octets_of-requires-clause-begins
octets_of-requires-clause-begins c =
    (within_at c.self.inside.parts.items c.deref.result.now (length c.self.inside.octets.items) c.args.index _ c.in_ok-part.part.now
    c.deref.ensures.value c.in_ok-part.ensures.lookup.0 c.in_ok-part.ensures.lookup.1 c.self.invariant.parts).0

pub octets_of-requires-clause-ends : goal.octets_of-requires-clause-ends
octets_of-requires-clause-ends c =
    subst (λ octets. c.in_ok-part.part.now.end ≤ length octets) (sym c.deref-2.ensures.value)
    (within_at c.self.inside.parts.items c.deref.result.now (length c.self.inside.octets.items) c.args.index _ c.in_ok-part.part.now
    c.deref.ensures.value c.in_ok-part.ensures.lookup.0 c.in_ok-part.ensures.lookup.1 c.self.invariant.parts).1

pub returns : goal.returns
returns c =
    ap Some (c.octets_of.ensures ∙ ap (λ octets. octets_at octets c.in_ok-part.part.now) c.deref-2.ensures.value)
    ∙ datagram_at c.self.inside.octets.items c.self.inside.parts.items c.deref.result.now c.args.index _ c.in_ok-part.part.now
    c.deref.ensures.value c.in_ok-part.ensures.lookup.0 c.in_ok-part.ensures.lookup.1
    ∙ ap (λ v. slice_get v.datagrams c.args.index) c.self.view_is
