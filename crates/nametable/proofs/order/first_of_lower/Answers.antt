use Rattle.nametable.proofs.NumberOrder.{has_first-lower}
use Rattle.nametable.proofs.order.first_of_lower.Goals as goal

pub returns-then-octets-ge8 : goal.returns-then-octets-ge8
returns-then-octets-ge8 c =
    has_first-lower c.from_be_bytes.result c.args.name.now c.octets-octets.result.now _ _ _ _ _ _ _ _ c.octets-octets.ensures.name c.octets-octets.ensures.octets c.from_be_bytes.ensures
    c.lower_at.ensures c.lower_at-then-octets-ge8.ensures c.lower_at-then-octets-ge8-2.ensures c.lower_at-then-octets-ge8-3.ensures c.lower_at-then-octets-ge8-4.ensures c.lower_at-then-octets-ge8-5.ensures c.lower_at-then-octets-ge8-6.ensures c.lower_at-then-octets-ge8-7.ensures

pub returns : goal.returns
returns c =
    has_first-lower c.from_be_bytes-2.result c.args.name.now c.octets-octets.result.now _ _ _ _ _ _ _ _ c.octets-octets.ensures.name c.octets-octets.ensures.octets c.from_be_bytes-2.ensures
    c.lower_or_zero.ensures c.lower_or_zero-2.ensures c.lower_or_zero-3.ensures c.lower_or_zero-4.ensures c.lower_or_zero-5.ensures c.lower_or_zero-6.ensures c.lower_or_zero-7.ensures c.lower_or_zero-8.ensures
