-- What the real outside tells.
--     nothing_told      of each list that it doesn't tell it
use Rattle.std.specs.Prelude.{None}
use Rattle.push_outside.specs.Outside.{Telling}

abbrev pub nothing_told : Telling
nothing_told = record {
  opened = None;
  listened = None;
  dialled = None;
  heard = None;
  used = None;
  lines = None;
  wires = None;
  accepted = None;
  links = None;
  moments = None;
  started = None;
}
