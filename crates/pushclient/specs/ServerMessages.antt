-- What this project's server sends to a client of this project, as data (RFC 8490, 7.1 and 7.2; RFC 8765, 6.2.2 and 6.3.1). Such a
-- client asks no question twice, with readable data and an ID that is free, and at most 1,024: of refusals NOTAUTH alone is left.
--     ServerMessage      answers to SUBSCRIBE and Keepalive, PUSH, and Retry Delay
--     server_octets timers message      its octets
--     IsReadable, CanBeGranted      what is read from them is what they were made of
use Rattle.std.specs.Prelude.{◌≡◌, ℕ, ◌≤◌, ◌<◌, ◌^◌, Ok, List, flat_map}
use Rattle.rrset.specs.Rcodes.{noerror, notauth}
use Rattle.dsotlv.specs.Answers.{answer_to, grant_to, refusal_to, stop_message, push_message}
use Rattle.dsotlv.specs.Notices.{notices_of, notice_octets}
use Rattle.dsotlv.specs.declared.message.Notice.{Notice}
use Rattle.dsosession.specs.Timing.{least_keepalive}
use Rattle.dsosession.specs.declared.session.Timers.{Timers}

pub data ServerMessage : Type 0 where
  accepts : ℕ → ServerMessage
  refuses : ℕ → ServerMessage
  grants : ℕ → ServerMessage
  tells : List Notice → ServerMessage
  delays : ℕ → ℕ → ServerMessage

abbrev pub server_octets : Timers → ServerMessage → List ℕ
server_octets timers (accepts id) = answer_to id noerror
server_octets timers (refuses id) = refusal_to id notauth
server_octets timers (grants id) = grant_to id timers.inactivity timers.keepalive
server_octets timers (tells notices) = push_message notices
server_octets timers (delays rcode delay) = stop_message rcode delay

-- a PUSH is read as what it was made of, and the numbers of a Retry Delay fit their fields
abbrev pub IsReadable : ServerMessage → Type 0
IsReadable (tells notices) = notices_of (flat_map notice_octets notices) ≡ Ok notices
IsReadable (delays rcode delay) = (rcode < 16) × (delay < 2 ^ 32)
IsReadable _ = Unit {0}

-- the two numbers that are granted; a client closes on an interval under ten seconds (RFC 8490, 6.5.2)
abbrev pub CanBeGranted : Timers → Type 0
CanBeGranted timers = (timers.inactivity < 2 ^ 32) × (least_keepalive ≤ timers.keepalive) × (timers.keepalive < 2 ^ 32)
