use Rattle.std.proofs.Common.{◌≡◌, ◌-◌, ◌++◌, [], replicate}
use Rattle.linkreasons.proofs.asked_links.new_links.Given as goal

abbrev pub invariant-links : goal.invariant-links
invariant-links l = l.made.items ++ replicate (l.links - l.counter) (record { kept = []; reconfirmed = [] }) ≡ replicate l.links (record { kept = []; reconfirmed = [] })
