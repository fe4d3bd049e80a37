-- Who watches a name in a hub, and how many steps an event may take.
--     sessions_watching name hub      how many sessions watch a name
--     update_changes, hear_changes, gone_changes      the keys that an update, a datagram of a link, and its going show otherwise
--     allowed hub changed      the most steps for an event that changes these keys: 8, 8 for each of them, and 4 for each session that watches its name
use Rattle.std.specs.Prelude.{ℕ, ◌+◌, ◌*◌, List, [], Ok, Err, sum_by, if◌then◌else◌}
use Rattle.dnsname.specs.Names.{Labels}
use Rattle.rrset.specs.declared.record.Changed.{Changed}
use Rattle.dnswire.specs.Reading.{hearing_of}
use Rattle.history.specs.States.{verdict, accepts}
use Rattle.history.specs.declared.entry.Entry.TheVariants as entries
use Rattle.livesessions.specs.Watched.{watching_in}
use Rattle.pushserver.specs.Hubs.{state_now, entry_changes}
use Rattle.pushserver.specs.KeptHubs.{KeptHub}

abbrev pub sessions_watching : Labels → KeptHub → ℕ
sessions_watching name hub = watching_in name hub.sessions

-- none where the message is refused
abbrev pub update_changes : KeptHub → List ℕ → List Changed
update_changes hub message = elim (verdict (state_now hub) message) [ Err code ↦ [] | Ok u ↦ entry_changes (entries.Update u) hub ]

-- none where the datagram is ignored
abbrev pub hear_changes : KeptHub → ℕ → List ℕ → List Changed
hear_changes hub link datagram = elim (hearing_of datagram) [
  | Err fault ↦ []
  | Ok hearing ↦ if accepts (state_now hub) (entries.Heard link hearing) then entry_changes (entries.Heard link hearing) hub else []
]

-- none where the link has no row
abbrev pub gone_changes : KeptHub → ℕ → List Changed
gone_changes hub link = if accepts (state_now hub) (entries.LinkGone link) then entry_changes (entries.LinkGone link) hub else []

abbrev pub allowed : KeptHub → List Changed → ℕ
allowed hub changed = 8 + sum_by (λ c. 8 + 4 * sessions_watching c.key.owner hub) changed
