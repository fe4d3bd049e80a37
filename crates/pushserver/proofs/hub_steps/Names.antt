-- An entry leaves the homes of names.
--     home-after_entry
use Rattle.std.proofs.Common.{◌≡◌}
use Rattle.dnsname.specs.Names.{Labels}
use Rattle.history.specs.AtHome.{AreAtHome}
use Rattle.history.specs.States.{State, home_of, after}
use Rattle.history.specs.declared.entry.Entry.{Entry}
use Rattle.history.proofs.HomesStay.{home_of-after}

pub home-after_entry : (state : State) → AreAtHome state → (entry : Entry) (name : Labels) → home_of (after state entry) name ≡ home_of state name
home-after_entry state at_home entry name = home_of-after state at_home entry name
