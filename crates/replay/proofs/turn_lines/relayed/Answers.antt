use Rattle.std.proofs.Common.{Some, None, refl, sym}
use Rattle.rrset.specs.RecordSet.{size_of}
use Rattle.replay.proofs.halves.HeldSets.{fits-is, relays-none, relays-nothing, relays-set}
use Rattle.replay.proofs.turn_lines.relayed.Goals as goal

-- there is no second hub
pub returns-in_default : goal.returns-in_default
returns-in_default c = relays-none c.args.worlds.now c.args.client c.args.question.now c.in_default.is

-- nothing is held
pub returns-in_default-held_set : goal.returns-in_default-held_set
returns-in_default-held_set c = relays-nothing c.args.worlds.now c.args.client c.args.question.now None c.in_default-held_set.ensures refl

pub relay_update-requires : goal.relay_update-requires
relay_update-requires c = fits-is (size_of c.in-Some-held_set.set.now.rows) c.if-not-fits_message.ensures

pub returns : goal.returns
returns c =
    let rows = c.in-Some-held_set.set.now.rows in
    relays-set c.args.worlds.now c.args.client c.args.question.now (Some rows) c.in-Some.apex rows c.in_ok-relay_update.field-0 c.in-Some-held_set.ensures refl c.in-Some.is c.in_ok-relay_update.ensures.exact
