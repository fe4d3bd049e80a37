-- The key of what is heard, with the link.
use Rattle.std.proofs.Common.{None, Some}
use Rattle.history.proofs.Elements.{slice_get-read}
use Rattle.history.proofs.HeardKeys.{key-at}
use Rattle.history.proofs.homes.heard_key_at.Goals as goal

pub returns-in-Some-2 : goal.returns-in-Some-2
returns-in-Some-2 c =
    key-at c.args.links.now c.args.index c.args.rr.now c.in-Some.link.now c.in_ok-key.field-0 (Some c.in-Some-2.key)
    (slice_get-read c.args.links.now c.args.index c.in-Some.link.now c.in-Some.ensures.lookup.3.0 (c.in-Some.ensures.lookup.3.1 c.in-Some.link.now)) c.in_ok-key.ensures c.in-Some-2.is

pub returns-in-None : goal.returns-in-None
returns-in-None c =
    key-at c.args.links.now c.args.index c.args.rr.now c.in-Some.link.now c.in_ok-key.field-0 None
    (slice_get-read c.args.links.now c.args.index c.in-Some.link.now c.in-Some.ensures.lookup.3.0 (c.in-Some.ensures.lookup.3.1 c.in-Some.link.now)) c.in_ok-key.ensures c.in-None.is
