use Rattle.std.proofs.Common.{◌≡◌, ◌+◌, ◌≤◌, ◌++◌, drop, length}
use Rattle.std.specs.Prelude.{flat_map}
use Rattle.push_base.specs.Limits.{max_datagram}
use Rattle.dnswire.specs.Writing.{record_octets, with_room}
use Rattle.dnswire.proofs.writing.push_known.Given as goal

abbrev pub invariant-known : goal.invariant-known
invariant-known l =
    (l.out.items ++ flat_map record_octets (with_room l.size (drop l.rr-index l.known)) ≡ l.fn.out.items ++ flat_map record_octets (with_room l.fn.size l.known))
    × (l.count + length (with_room l.size (drop l.rr-index l.known)) ≡ length (with_room l.fn.size l.known))
    × (l.size ≤ max_datagram)
    × (l.count ≤ l.size)
