-- What is seen of a session of the hub, and of a datagram.
--     all_filled_in hub number      of each ID the octets up to the end of its first answer, counted up to the last number
--     filled_in hub number id      the same of one ID
--     told_in hub number name      the point up to which a session was told of a name
--     SaysWhy heard read      what is said of a datagram with its fault, and of one that is read
use Rattle.std.specs.Prelude.{◌≡◌, ◌⊎◌, ℕ, [], Option, Some, None, Result, Ok, Err}
use Rattle.dnsname.specs.Names.{Labels}
use Rattle.rrset.specs.declared.record.Hearing.{Hearing}
use Rattle.dnswire.specs.declared.message.HearFault.{HearFault}
use Rattle.pushsession.specs.Kept.{Filled, filled_of}
use Rattle.pushserver.specs.PlainHubs.{Hub, Session, note_of, told}
use Rattle.pushserver.specs.Hubs.{newest, session_of, why_not}
use Rattle.pushserver.specs.KeptHubs.{filled_kept}
use Rattle.pushserver.specs.declared.given.Heard.{Heard}
use Rattle.pushserver.specs.declared.given.Heard.TheVariants.{Entered, Ignored}
use Rattle.pushserver.specs.declared.given.Why.TheVariants as whys

abbrev pub all_filled_of : Option Session → Filled
all_filled_of None = []
all_filled_of (Some session) = filled_kept session.subscriptions

-- none where there is no such session
abbrev pub all_filled_in : Hub → ℕ → Filled
all_filled_in hub number = all_filled_of (session_of hub number)

abbrev pub filled_in : Hub → ℕ → ℕ → Option ℕ
filled_in hub number id = filled_of id (all_filled_in hub number)

abbrev pub told_of : ℕ → Labels → Option Session → ℕ
told_of newest name None = newest
told_of newest name (Some session) = told (note_of newest session) name

-- the newest point where there is no such session
abbrev pub told_in : Hub → ℕ → Labels → ℕ
told_in hub number name = told_of (newest hub) name (session_of hub number)

-- each fault has its own word; a datagram that is read is entered, or none of its records is used, as where there is no such link, or the
-- point is the last one
abbrev pub SaysWhy : Heard → Result Hearing HearFault → Type 0
SaysWhy heard (Err fault) = heard ≡ Ignored (why_not fault)
SaysWhy heard (Ok hearing) = (heard ≡ Entered) ⊎ (heard ≡ Ignored whys.Nothing) ⊎ (heard ≡ Ignored whys.Last)
