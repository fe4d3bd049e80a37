-- What `show` lines tell in a world that stands.
--     ArrivedAreTaken      the frames that have reached a client whole are the messages that it took
--     HeldIsTold      the set that a client holds is what the history has at its note's point
--     ShowsAlike      both ways of telling print the same
--     ShownIsTaken      the point that a `held` line shows is that of the last message taken
--     QuietOnesShowNewest      where nothing is under way, `show` tells the records of the newest point
use Rattle.std.specs.Prelude.{◌≡◌, ℕ, false, None, Some, IsTrue, codes}
use Rattle.rrset.specs.RecordSet.{RecordSet, matching}
use Rattle.rrset.specs.declared.record.Question.{Question}
use Rattle.dsotlv.specs.Messages.{first_message}
use Rattle.pushserver.specs.Giving.{is_served_at}
use Rattle.pushserver.specs.Hubs.{state_now, records_now}
use Rattle.pushserver.specs.PlainHubs.{Hub, Session}
use Rattle.pushclient.specs.Clients.{Connection, held, set_held}
use Rattle.replay.specs.World.{World, Seat, arrived}
use Rattle.replay.specs.TextWords.{by_history, by_notices, is_filling, show_at, with_records}
use Rattle.replay.specs.HeldPoints.{point_of_held}
use Rattle.replay.specs.Promises.{ShownPoints, point_taken, is_wanted, IsQuiet}
use Rattle.script_laws.specs.Reached.{IsReached}
use Rattle.script_laws.specs.Joined.{IsJoined, SeatStands, StandsWith}

abbrev pub ArrivedAreTaken : Type 0
ArrivedAreTaken = (hub : Hub) (shown : ShownPoints) (seat : Seat) (number : ℕ) (session : Session) (c : Connection) (joined : IsJoined hub shown seat number session c)
    → first_message c.input ≡ None → arrived seat session ≡ joined.flight.taken

abbrev pub HeldIsTold : Type 0
HeldIsTold = (hub : Hub) (shown : ShownPoints) (seat : Seat) (number id : ℕ) (question : Question) (set : RecordSet) → IsReached hub → seat.session ≡ Some number → StandsWith hub shown seat number
    → held seat.client question ≡ set_held id set → is_filling seat id ≡ false → set ≡ by_history hub seat question set

abbrev pub ShowsAlike : Type 0
ShowsAlike = (world : World) (shown : ShownPoints) (seat : Seat) (question : Question) → IsReached world.hub → SeatStands world.hub shown seat → show_at by_history world seat question ≡ show_at by_notices world seat question

-- only a joined client shows one
abbrev pub ShownIsTaken : Type 0
ShownIsTaken = (world : World) (shown : ShownPoints) (seat : Seat) (number point : ℕ) (question : Question) → IsReached world.hub → seat.session ≡ Some number → (stands : StandsWith world.hub shown seat number)
    → point_of_held (held seat.client question) world seat question ≡ Some point → point_taken stands.joined.start stands.joined.flight.taken question ≡ point

-- of each question that the client wants and that is served now
abbrev pub QuietOnesShowNewest : Type 0
QuietOnesShowNewest = (world : World) (shown : ShownPoints) (seat : Seat) (number : ℕ) (question : Question) → IsReached world.hub → seat.session ≡ Some number → (stands : StandsWith world.hub shown seat number)
    → IsQuiet world.hub seat number stands.session stands.connection → IsTrue (is_wanted seat.client question) → IsTrue (is_served_at (state_now world.hub) question)
    → show_at by_history world seat question ≡ with_records (codes "held") (matching question (records_now world.hub))
