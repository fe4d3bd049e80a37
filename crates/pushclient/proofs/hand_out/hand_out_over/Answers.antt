use Rattle.std.proofs.Common.{◌++◌, length, ap, ◌∙◌, arith}
use Rattle.pushclient.proofs.OutputTurns.{handing-begins, hands-last, handing-more}
use Rattle.pushclient.proofs.hand_out.hand_out_over.Goals as goal

pub pieces-init : goal.pieces-init
pieces-init c = record { so_far = handing-begins c.args.client.now c.new-octets.result.items c.new-octets.ensures.items; wide = c.requires }

pub returns-then-count-eq0 : goal.returns-then-count-eq0
returns-then-count-eq0 c = hands-last c.args.client.now c.pieces.client c.give-count.new.self c.pieces.octets.items c.pieces.buffer c.give-count.new.buf (length c.pieces.buffer) c.give-count.result c.pieces.invariant.so_far
    (λ plain stands. record { counts = c.give-count.ensures.count plain stands; copied = c.give-count.ensures.octets plain stands; stands = c.give-count.ensures.given plain stands }) c.pieces.invariant.wide c.if-count-eq0.true

pub pieces-preserved : goal.pieces-preserved
pieces-preserved c = record {
  so_far = handing-more c.args.client.now c.pieces.client c.give-count.new.self c.pieces.octets.items c.pieces.buffer c.give-count.new.buf c.extend_from_slice.new.self.items (length c.pieces.buffer) c.give-count.result c.pieces.invariant.so_far
      (λ plain stands. record { counts = c.give-count.ensures.count plain stands; copied = c.give-count.ensures.octets plain stands; stands = c.give-count.ensures.given plain stands })
      (c.in_ok-extend_from_slice.ensures.items ∙ ap (λ o. c.pieces.octets.items ++ o) c.front_of.ensures);
  wide = omega (arith, c.pieces.invariant.wide, c.give-count.auto.buf);
}
