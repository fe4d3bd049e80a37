-- How commands of `pushctl` end.
--     code_of status      its exit status
--     ending_told refused closed whole late      how a conversation ends, if it does
--     FollowsSo request before after ending next      what comes of that
--     IsStatusOf request status      what a status says of what was asked for
use Rattle.std.specs.Prelude.{◌≡◌, ◌⊎◌, ⊤, ℕ, ◌*◌, max, min, nat_le, Bool, true, false, Option, Some, None, if◌then◌else◌}
use Rattle.dsosession.specs.declared.session.CloseReason.{CloseReason}
use Rattle.dsosession.specs.declared.session.CloseReason.TheVariants as reasons
use Rattle.pushctl_commands.specs.declared.converse.Course.{Course}
use Rattle.pushctl_commands.specs.declared.dialling.Next.{Next}
use Rattle.pushctl_commands.specs.declared.dialling.Next.TheVariants as nexts
use Rattle.pushctl_commands.specs.declared.dialling.TheConstants as delays
use Rattle.pushctl_commands.specs.declared.ending.Ending.{Ending}
use Rattle.pushctl_commands.specs.declared.ending.Ending.TheVariants as endings
use Rattle.pushctl_commands.specs.declared.request.Request.{Request}
use Rattle.pushctl_commands.specs.declared.status.Status.{Status}
use Rattle.pushctl_commands.specs.declared.status.Status.TheVariants as statuses
use Rattle.pushctl_commands.specs.Lateness.{is_late, later}

-- each ending has its exit status
abbrev pub code_of : Status → ℕ
code_of statuses.Done = 0
code_of statuses.Words = 1
code_of statuses.NoMemory = 4
code_of statuses.Output = 5
code_of statuses.Unreached = 6
code_of statuses.Refused = 7
code_of statuses.Partial = 8
code_of statuses.Broken = 9

-- a sink that wanted memory for a line couldn't write it, but the output itself is not at fault
abbrev pub where_starved : Bool → Status → Status
where_starved true statuses.Output = statuses.NoMemory
where_starved _ status = status

-- ---- how a conversation ends

-- what comes of a connection that the client has closed: a Retry Delay is waited for; else it idled, or the server broke a rule (RFC 8490, 6.6)
abbrev pub ending_of : CloseReason → Ending
ending_of (reasons.Delay milliseconds rcode) = endings.Delayed milliseconds
ending_of reasons.Idle = endings.Idle
ending_of reasons.Short = endings.Broken
ending_of reasons.Opcode = endings.Broken
ending_of reasons.Counts = endings.Broken
ending_of reasons.Tlvs = endings.Broken
ending_of reasons.Early = endings.Broken
ending_of (reasons.Stranger id) = endings.Broken
ending_of (reasons.Misuse kind) = endings.Broken
ending_of (reasons.BadData kind) = endings.Broken
ending_of (reasons.Unknown kind) = endings.Broken
ending_of (reasons.Interval milliseconds) = endings.Broken
ending_of (reasons.Kept rcode) = endings.Broken

-- by what the machine tells: the RCODE with which its question is refused, why the client has closed; the list is whole, and written once; its time is over
abbrev pub ending_told : Option ℕ → Option CloseReason → Bool → Bool → Option Ending
ending_told (Some rcode) closed whole late = Some (endings.Refused rcode)
ending_told None (Some reason) whole late = Some (ending_of reason)
ending_told None None whole late = if whole then Some endings.Whole else (if late then Some endings.TimedOut else None)

-- only a list that is written once ends by being whole, or by its time
abbrev pub IsEndingOf : Request → Ending → Type 0
IsEndingOf request endings.Whole = request.once ≡ true
IsEndingOf request endings.TimedOut = request.once ≡ true
IsEndingOf request (endings.Gone heard) = ⊤
IsEndingOf request (endings.Delayed milliseconds) = ⊤
IsEndingOf request endings.Idle = ⊤
IsEndingOf request endings.Broken = ⊤
IsEndingOf request (endings.Refused rcode) = ⊤

-- ---- what comes of it

-- a list that isn't whole when its time is over: the server said something before, or was never reached
abbrev pub late_status : Course → Status
late_status course = if course.has_heard then statuses.Partial else statuses.Unreached

-- the server is dialled again after a pause, or the time is over
abbrev pub goes_on : Request → Course → ℕ → Next
goes_on request course pause = if is_late request course pause then nexts.End (late_status course) else nexts.Again pause

-- a connection that lasted makes the delays begin anew
abbrev pub delay_renewed : Course → ℕ
delay_renewed course = if nat_le (later course.connected delays.LASTING) course.now then 0 else course.delay

-- the delay behind one: twice as long, from a second to a minute
abbrev pub next_delay : ℕ → ℕ
next_delay delay = min (max (min (delay * 2) 18446744073709551615) delays.FIRST_DELAY) delays.LAST_DELAY

-- the server is dialled again after the delay, or after so long at least
abbrev pub goes_on_after : Request → Course → ℕ → ℕ → Next
goes_on_after request course delay least = goes_on request course (max delay least)

-- by the ending, with the course behind it
abbrev pub FollowsSo : Request → Course → Course → Ending → Next → Type 0
FollowsSo request before after endings.Whole next = (next ≡ nexts.End statuses.Done) ⊎ (next ≡ nexts.End statuses.Partial)
FollowsSo request before after endings.TimedOut next = next ≡ nexts.End (late_status before)
FollowsSo request before after (endings.Refused rcode) next = next ≡ nexts.End statuses.Refused
FollowsSo request before after endings.Broken next = next ≡ nexts.End statuses.Broken
FollowsSo request before after (endings.Gone heard) next = next ≡ goes_on_after request after (delay_renewed before) (if heard then 0 else delays.FIRST_DELAY)
FollowsSo request before after (endings.Delayed milliseconds) next = next ≡ goes_on_after request after (delay_renewed before) milliseconds
FollowsSo request before after endings.Idle next = next ≡ goes_on_after request after (delay_renewed before) 0

-- only a list that is written once comes to an end by itself, and only it may not be whole; words are no part of it
abbrev pub IsStatusOf : Request → Status → Type 0
IsStatusOf request statuses.Done = request.once ≡ true
IsStatusOf request statuses.Partial = request.once ≡ true
IsStatusOf request statuses.Words = ⊥
IsStatusOf request statuses.NoMemory = ⊤
IsStatusOf request statuses.Output = ⊤
IsStatusOf request statuses.Unreached = ⊤
IsStatusOf request statuses.Refused = ⊤
IsStatusOf request statuses.Broken = ⊤

abbrev pub IsNextOf : Request → Next → Type 0
IsNextOf request (nexts.End status) = IsStatusOf request status
IsNextOf request (nexts.Again pause) = ⊤
