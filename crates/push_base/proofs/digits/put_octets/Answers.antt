use Rattle.std.proofs.Common.{◌≡◌, sym, ap, ◌∙◌, arith, slice_set, ℕ, take, drop, ◌*◌, ◌+◌, length}
use Rattle.push_base.specs.Hexadecimal.{octets_of_digits}
use Rattle.push_base.proofs.DigitPairs.{behind_front, pairs-begin, pair-more, pairs-done}
use Rattle.push_base.proofs.digits.put_octets.Goals as goal

pub octets-init : goal.octets-init
octets-init c = pairs-begin c.args.text.now

pub octets-preserved : goal.octets-preserved
octets-preserved c =
    let text = c.args.text.now in
    let octets = c.octets.octets in
    let index = c.octets.index in
    let size : length text ≡ 2 * length octets = omega arith in
    pair-more text octets index c.requires.digits size (omega arith) c.octets.invariant
    ∙ ap (λ (v : ℕ). behind_front (take (index + 1) (slice_set octets index v)) (octets_of_digits (drop (2 * (index + 1)) text))) (sym c.octet_of.ensures)

pub returns : goal.returns
returns c =
    let size : length c.args.text.now ≡ 2 * length c.octets.octets = omega arith in
    pairs-done c.args.text.now c.octets.octets c.octets.index size (omega arith) c.octets.invariant
