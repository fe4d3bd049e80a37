use Rattle.std.proofs.Common.{◌≡◌, length}
use Rattle.std.specs.List.{list_all}
use Rattle.zoneupdate.specs.Checking.{has_same_set, LastAgrees}
use Rattle.zoneupdate.proofs.agreeing.all_have_same_set.Given as goal

abbrev pub invariant-sets : goal.invariant-sets
invariant-sets l =
    (list_all (λ e. has_same_set l.wanted.rows l.rows.rows e.0) l.rest ≡ list_all (λ e. has_same_set l.wanted.rows l.rows.rows e.0) l.wanted.rows)
    × LastAgrees l.wanted.rows l.rows.rows l.last

abbrev pub decreases-sets : goal.decreases-sets
decreases-sets l = length l.rest
