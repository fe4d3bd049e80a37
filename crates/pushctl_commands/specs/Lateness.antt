-- When a list that is written once has no more time.
--     is_late request course pause      its time is over after so many milliseconds
--     GoesOnInTime request course next      the server is dialled again only where there is time for it
use Rattle.std.specs.Prelude.{◌≡◌, ℕ, ◌+◌, ◌&&◌, Bool, false, ⊤, min, nat_le}
use Rattle.pushctl_commands.specs.declared.converse.Course.{Course}
use Rattle.pushctl_commands.specs.declared.dialling.Next.{Next}
use Rattle.pushctl_commands.specs.declared.dialling.Next.TheVariants as nexts
use Rattle.pushctl_commands.specs.declared.request.Request.{Request}

-- a moment so much later; the greatest number of 64 bits is the last
abbrev pub later : ℕ → ℕ → ℕ
later moment time = min (moment + time) 18446744073709551615

-- a list that is written once has no more time after so many milliseconds
abbrev pub is_late : Request → Course → ℕ → Bool
is_late request course pause = request.once && nat_le (later course.begun request.within) (later course.now pause)

-- the server is dialled again after a pause only where there is time for it
abbrev pub GoesOnInTime : Request → Course → Next → Type 0
GoesOnInTime request course (nexts.End status) = ⊤
GoesOnInTime request course (nexts.Again pause) = is_late request course pause ≡ false
