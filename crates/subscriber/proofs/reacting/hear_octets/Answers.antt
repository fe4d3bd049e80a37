use Rattle.std.proofs.Common.{arith, string_bytes}
use Rattle.subscriber.proofs.ReadOctets.{are_octets, hears-bytes}
use Rattle.subscriber.proofs.reacting.hear_octets.Goals as goal

-- the client has room, and reacts
pub returns : goal.returns
returns c =
    hears-bytes c.args.client.now c.take.new.self c.react.new.client c.args.messages.now c.react.new.messages c.args.octets.now (string_bytes c.in_ok-said.said.text) c.in_ok-said.said.is_over c.requires
    (are_octets c.args.octets.now (λ i h. omega (arith, c.type_inv.octets i))) c.take.ensures.taken c.in_ok-said.ensures
