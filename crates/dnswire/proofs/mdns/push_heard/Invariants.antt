use Rattle.std.proofs.Common.{◌≡◌, ◌++◌, map}
use Rattle.dnswire.specs.Reading.{heard_rr}
use Rattle.dnswire.proofs.mdns.push_heard.Given as goal

abbrev pub invariant-records : goal.invariant-records
invariant-records l = l.heard ++ map heard_rr l.rr-iterator.rest.items ≡ l.fn.heard ++ map heard_rr l.fn.rrs
