-- The names that wait for a session are few: each is that of a question, and waits once.
--     queues-are-short
use Rattle.std.proofs.Common.{le_trans}
use Rattle.pushserver.proofs.Bounds.{sessions_stay_within}
use Rattle.script_laws.specs.Turns.{QueuesAreShort}
use Rattle.script_laws.proofs.hubs.Sound.{reached-sound}

pub queues-are-short : QueuesAreShort
queues-are-short hub number session reached there = let within = sessions_stay_within hub number session (reached-sound hub reached) there in le_trans within.0 within.1
