-- What the fields of an outside in memory stand for.
--     outside_state, AreNew      what it is seen as; that none of the objects that it will hand out was used yet
use Rattle.std.specs.Prelude.{All}
use Rattle.push_outside.specs.MemOutside.{OutsideState, IsNewSource, IsNewDoors, IsNewPair, AreNewLinks, IsNewClock, IsNewStarter}
use Rattle.push_outside.specs.declared.mem_outside.MemOutside.TheInside.{Inside}

abbrev pub outside_state : Inside → OutsideState
outside_state s = record {
  files = s.files;
  listeners = s.listeners;
  connections = s.connections;
  feeds = s.feeds;
  clocks = s.clocks.items;
  starters = s.starters.items;
  sources = s.sources;
  doors = s.doors;
  lines = s.lines;
  wires = s.wires;
  links = s.links;
  used_clocks = s.used_clocks;
  used_starters = s.used_starters;
  reads = s.reads;
  writes = s.writes;
  others = s.others;
}

-- none of the objects that it will hand out was used yet
pub record AreNew (s : Inside) : Type 0 where
  pub files : All IsNewSource s.files.items
  pub listeners : All IsNewDoors s.listeners.items
  pub connections : All IsNewPair s.connections.items
  pub feeds : All AreNewLinks s.feeds.items
  pub clocks : All IsNewClock s.clocks.items
  pub starters : All IsNewStarter s.starters.items
