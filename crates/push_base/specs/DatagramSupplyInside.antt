-- What the fields of a supply of datagrams stand for.
--     supplied, StandsWithin      the items that are over and those that are left; where it stands
use Rattle.std.specs.Prelude.{◌≤◌, length, take, drop}
use Rattle.push_base.specs.DatagramSupply.{DatagramSupplied}
use Rattle.push_base.specs.declared.datagram_supply.DatagramSupply.TheInside.{Inside}

abbrev pub supplied : Inside → DatagramSupplied
supplied s = record { over = take s.item s.items.items; left = drop s.item s.items.items; lost = s.lost }

abbrev pub StandsWithin : Inside → Type 0
StandsWithin s = s.item ≤ length s.items.items
