-- What the head lines of a script make.
--     reversed_at link domain state      a state with a further reverse domain of one of its links
--     with_head head line, with_head_line head line      the head with a further line of its own, and with any line
--     head_behind head lines      the head with further lines
use Rattle.std.specs.Prelude.{ℕ, List, [], ◌∷◌, ◌++◌, Option, Some, None, fold, position}
use Rattle.std.specs.Str.{bytes_eq}
use Rattle.push_base.specs.Cases.{changed_at}
use Rattle.dnsname.specs.Names.{Labels}
use Rattle.zoneupdate.specs.Zones.{new_zone}
use Rattle.dsosession.specs.declared.session.Timers.{Timers}
use Rattle.dsosession.specs.Timing.{default_timers}
use Rattle.history.specs.States.{State, with_reverse}
use Rattle.scripts.specs.Lines.{Word, HeadLine, timers, zone, link, reverse, ScriptLine, head_line}

-- what head lines make: timers, the start state and the links' words
pub record Head : Type 0 where
  pub timers : Timers
  pub start : State
  pub links : List Word

abbrev pub empty_head : Head
empty_head = record { timers = default_timers; start = record { zones = []; links = []; now = 0 }; links = [] }

-- with a further reverse domain of the link of that number, if there is one
abbrev pub reversed_at : Option ℕ → Labels → State → State
reversed_at None domain state = state
reversed_at (Some place) domain state = record state { links = changed_at place (with_reverse domain) state.links }

-- with a further line of the head
abbrev pub with_head : Head → HeadLine → Head
with_head head (timers i k) = record head { timers = record { inactivity = i; keepalive = k } }
with_head head (zone apex serial mode) = record head { start = record head.start { zones = head.start.zones ++ new_zone apex serial mode ∷ [] } }
with_head head (link w domain most) = record head { start = record head.start { links = head.start.links ++ (record { rules = record { domain = domain; reverses = []; cap = most }; rows = [] }) ∷ [] }; links = head.links ++ w ∷ [] }
with_head head (reverse w domain) = record head { start = reversed_at (position (bytes_eq w) head.links) domain head.start }

abbrev pub with_head_line : Head → ScriptLine → Head
with_head_line head (head_line line) = with_head head line
with_head_line head _ = head

-- what lines make of a head
abbrev pub head_behind : Head → List ScriptLine → Head
head_behind head lines = fold with_head_line head lines
