use Rattle.std.proofs.Common.{◌≡◌, ◌-◌}
use Rattle.dnswire.specs.Reading.{record_at, several}
use Rattle.dnswire.specs.Gives.{shape_test}
use Rattle.dnswire.proofs.Sections.{ahead}
use Rattle.dnswire.proofs.section.read_records.Given as goal

abbrev pub invariant-records : goal.invariant-records
invariant-records l = ahead l.rrs (several (record_at (shape_test l.shaped)) (l.count - l._done) l.message l.place) ≡ several (record_at (shape_test l.shaped)) l.count l.message l.at
