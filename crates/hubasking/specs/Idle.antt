-- Sessions for which nothing waits.
--     is_idle session      it goes on, and no octets, no whole message and no name wait
--     session_at hub place      the number of the session in a place, and whether nothing waits for it
--     StandsForOne hub      there is a plain hub for which it stands
use Rattle.std.specs.Prelude.{ℕ, Bool, true, ◌&&◌, Option, None, Some, is_none, option_map, slice_get}
use Rattle.push_base.specs.Cases.{is_empty}
use Rattle.coalesce.specs.Waiting.{first_point}
use Rattle.pushsession.specs.Kept.{KeptSession}
use Rattle.pushsession.specs.Requests.{message_of}
use Rattle.pushserver.specs.Hubs.{session_of}
use Rattle.pushserver.specs.KeptHubs.{KeptHub, StandsFor}
use Rattle.pushserver.specs.PlainHubs.{Hub}
use Rattle.hubasking.specs.LinkAskings.{is_live}

abbrev pub is_idle : KeptSession → Bool
is_idle session = is_live session.standing && is_empty session.output && is_empty (message_of session) && is_none (first_point session.queue)

-- nothing waits for a session that isn't there, either
abbrev pub is_idle_in : KeptHub → ℕ → Bool
is_idle_in hub number = elim (session_of hub number) [ None ↦ true | Some session ↦ is_idle session ]

abbrev pub session_at : KeptHub → ℕ → Option (ℕ × Bool)
session_at hub place = option_map (λ e. (e.0, is_idle_in hub e.0)) (slice_get hub.sessions place)

pub record StandsForOne (hub : KeptHub) : Type 0 where
  pub plain : Hub
  pub stands : StandsFor hub plain
