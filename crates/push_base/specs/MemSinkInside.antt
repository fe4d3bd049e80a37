-- What the fields of a sink in memory stand for.
--     sink_state, HasRoom      the state; that its room was made
use Rattle.std.specs.Prelude.{◌≤◌, vec_capacity}
use Rattle.push_base.specs.MemSink.{SinkState}
use Rattle.push_base.specs.declared.mem_sink.MemSink.TheInside.{Inside}

abbrev pub sink_state : Inside → SinkState
sink_state s = record {
  taken = s.taken.items;
  limits = s.limits.items;
  room = s.room;
  starved = s.starved;
  calls = s.calls;
}

abbrev pub HasRoom : Inside → Type 0
HasRoom s = s.room ≤ vec_capacity s.taken
