use Rattle.std.proofs.Common.{◌≡◌, ◌≤◌, length, drop, is_ok, true}
use Rattle.dnsname.specs.Octets.{labels_of}
use Rattle.linkmap.specs.Names.{is_renamable, all_pass}
use Rattle.linkmap.proofs.Tests.{fields_at}
use Rattle.linkmap.proofs.inside.are_renamable.Given as goal

abbrev pub invariant-parts : goal.invariant-parts
invariant-parts l =
    (l.place ≤ length l.rdata)
    × (is_ok (fields_at (drop l.part-index l.parts) l.rdata l.place) ≡ true)
    × (all_pass (is_renamable (labels_of l.old) (labels_of l.new)) (fields_at (drop l.part-index l.parts) l.rdata l.place) ≡ all_pass (is_renamable (labels_of l.old) (labels_of l.new)) (fields_at l.parts l.rdata 0))
