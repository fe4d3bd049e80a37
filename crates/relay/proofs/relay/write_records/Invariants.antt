use Rattle.std.proofs.Common.{◌≡◌, ◌++◌, ◌<◌, ◌^◌, map, drop}
use Rattle.std.specs.List.{flat_map}
use Rattle.rrset.specs.RecordSet.{size_of}
use Rattle.rrset.specs.Records.{rr_of}
use Rattle.dnswire.specs.Writing.{record_octets}
use Rattle.relay.proofs.relay.write_records.Given as goal

abbrev pub invariant-entries : goal.invariant-entries
invariant-entries l =
    (l.out.items ++ flat_map record_octets (map (λ e. rr_of e.0 e.1) (drop l.key-index l.entries)) ≡ l.fn.out.items ++ flat_map record_octets (map (λ e. rr_of e.0 e.1) l.entries))
    × (size_of (drop l.key-index l.entries) < 2 ^ 16)
