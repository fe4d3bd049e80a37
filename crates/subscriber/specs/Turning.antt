-- What a subscriber does with its line, its wire, its clock and its output.
--     Grows s later      what was said and sent is a front of what is said and sent later
--     AsksBehind says read count stopped      how often the clock was asked behind reads
--     AtSome over stopped before now P      the clock was asked once, at a moment of which P holds; or it wasn't, and P holds of each
--     Turns      one read, and what follows it
--     Follows      reads until an ending is said
use Rattle.std.specs.Prelude.{◌≡◌, ◌⊎◌, ⊤, ℕ, ◌+◌, Bool, true, false, List, [], ◌∷◌, ◌++◌, length, fold, Option, Result, Ok, Err}
use Rattle.push_base.specs.Line.{Read}
use Rattle.push_base.specs.Told.{TellsMore}
use Rattle.pushclient.specs.Rule.{KeptClient}
use Rattle.push_base.specs.Written.{IsFrontOf, Took}
use Rattle.subscriber.specs.declared.fault.Fault.{Fault}
use Rattle.subscriber.specs.declared.fault.Fault.TheVariants as faults
use Rattle.subscriber.specs.Said.{Saying, text_of, takes_read, at_moment, ends_without_turns, turn, paired}
use Rattle.subscriber.specs.Standing.{Waits}

-- the text and the octets of one are a front of another's
pub record Grows (s later : Saying) : Type 0 where
  pub text : IsFrontOf (text_of s) (text_of later)
  pub wire : IsFrontOf s.wire later.wire

-- ---- how often the clock is asked

-- the messages of the last read said the ending, where `says front` is what was said before it
abbrev pub EndsInRead : (List Read → Saying) → List Read → Type 0
EndsInRead says read = (front : List Read) × (last : Read) × (read ≡ front ++ last ∷ []) × ((takes_read last (says front)).over ≡ true)

-- a failed write and want of memory may come between a read and its moment
abbrev pub StopsWithin : {A : Type 0} → Result A Fault → Type 0
StopsWithin (Ok done) = ⊥
StopsWithin (Err faults.Read) = ⊥
StopsWithin (Err faults.Write) = ⊤
StopsWithin (Err faults.NoMemory) = ⊤

-- once behind each read; but not behind the last, where its messages said the ending, or all stopped before
abbrev pub AsksBehind : (List Read → Saying) → List Read → ℕ → Type 0 → Type 0
AsksBehind says read count stopped = ((count ≡ length read) × (EndsInRead says read → ⊥)) ⊎ ((count + 1 ≡ length read) × (EndsInRead says read ⊎ stopped))

-- behind one read, of which an ending was said or not
abbrev pub AtSome : Bool → Type 0 → Option (List ℕ) → Option (List ℕ) → (ℕ → Type 0) → Type 0
AtSome over stopped before now P =
    ((now ≡ before) × ((over ≡ true) ⊎ stopped) × ((t : ℕ) → P t)) ⊎ ((over ≡ false) × (t : ℕ) × TellsMore before now (t ∷ []) × P t)

-- ---- one turn

-- what an output and a wire took, behind what was said and sent before: all, or a front
abbrev pub TookAll : Option (List ℕ) → Option (List ℕ) → List ℕ → List ℕ → Type 0
TookAll before now had whole = Took before now (λ wrote. had ++ wrote ≡ whole)

abbrev pub TookFront : Option (List ℕ) → Option (List ℕ) → List ℕ → List ℕ → Type 0
TookFront before now had whole = Took before now (λ wrote. IsFrontOf (had ++ wrote) whole)

-- all was said and sent; while no ending was said, what is kept stands for that
pub record Turned (s end : Saying) (kept : KeptClient) (messages : Option ℕ) (printed printed_now sent_to sent_to_now : Option (List ℕ)) (told : Bool) : Type 0 where
  pub out : TookAll printed printed_now (text_of s) (text_of end)
  pub wire : TookAll sent_to sent_to_now s.wire end.wire
  pub over : told ≡ end.over
  pub waits : end.over ≡ false → Waits end kept messages

-- no more than that was said and sent, behind a text and octets
pub record Stopped (text sent : List ℕ) (end : Saying) (printed printed_now sent_to sent_to_now : Option (List ℕ)) : Type 0 where
  pub out : TookFront printed printed_now text (text_of end)
  pub wire : TookFront sent_to sent_to_now sent end.wire

-- a read was made, and the client heard it
abbrev pub Heard : Type 0 → Option (List Read) → Option (List Read) → Option (List ℕ) → Option (List ℕ) → Saying → (Saying → Type 0) → Type 0
Heard stopped reads reads_now moments moments_now s P =
    (read : Read) × TellsMore reads reads_now (read ∷ []) × AtSome (takes_read read s).over stopped moments moments_now (λ t. P (at_moment t (takes_read read s)))

-- and then a moment came
abbrev pub HeardOn : Option (List Read) → Option (List Read) → Option (List ℕ) → Option (List ℕ) → Saying → (Saying → Type 0) → Type 0
HeardOn reads reads_now moments moments_now s P = (read : Read) × TellsMore reads reads_now (read ∷ []) × (t : ℕ) × TellsMore moments moments_now (t ∷ []) × P (at_moment t (takes_read read s))

-- a read that failed gave nothing, and nothing followed it
pub record Unheard (given given_now : Option (List Read)) (clock clock_now printed printed_now sent_to sent_to_now : Option (List ℕ)) : Type 0 where
  pub reads : TellsMore given given_now []
  pub moments : clock_now ≡ clock
  pub out : printed_now ≡ printed
  pub wire : sent_to_now ≡ sent_to

abbrev pub TurnsAs : Saying → KeptClient → Option ℕ → Option (List Read) → Option (List Read) → Option (List ℕ) → Option (List ℕ) → Option (List ℕ) → Option (List ℕ) → Option (List ℕ) → Option (List ℕ) → Result Bool Fault → Type 0
TurnsAs s kept messages reads reads_now moments moments_now out out_now wire wire_now (Ok true) = Heard ⊥ reads reads_now moments moments_now s (λ end. Turned s end kept messages out out_now wire wire_now true)
TurnsAs s kept messages reads reads_now moments moments_now out out_now wire wire_now (Ok false) = HeardOn reads reads_now moments moments_now s (λ end. Turned s end kept messages out out_now wire wire_now false)
TurnsAs s kept messages reads reads_now moments moments_now out out_now wire wire_now (Err faults.Read) = Unheard reads reads_now moments moments_now out out_now wire wire_now
TurnsAs s kept messages reads reads_now moments moments_now out out_now wire wire_now (Err faults.Write) = Heard ⊤ reads reads_now moments moments_now s (λ end. Stopped (text_of s) s.wire end out out_now wire wire_now)
TurnsAs s kept messages reads reads_now moments moments_now out out_now wire wire_now (Err faults.NoMemory) = Heard ⊤ reads reads_now moments moments_now s (λ end. Stopped (text_of s) s.wire end out out_now wire wire_now)

-- of all that may have been said before
unfoldable pub Turns : KeptClient → Option ℕ → KeptClient → Option ℕ → Option (List Read) → Option (List Read) → Option (List ℕ) → Option (List ℕ) → Option (List ℕ) → Option (List ℕ) → Option (List ℕ) → Option (List ℕ) → Result Bool Fault → Type 0
Turns kept messages later messages_now reads reads_now moments moments_now out out_now wire wire_now result =
    (s : Saying) → Waits s kept messages → TurnsAs s later messages_now reads reads_now moments moments_now out out_now wire wire_now result

-- ---- reads until an ending is said

-- what is said after these reads, from s on, the moment before them being t
abbrev pub said_after : Saying → ℕ → List Read → List ℕ → Saying
said_after s t reads moments = fold turn (ends_without_turns s) (paired t reads moments)

-- no ending was said before the last read
abbrev pub IsOpenBefore : Saying → ℕ → List Read → List ℕ → Type 0
IsOpenBefore s t reads moments = (front : List Read) (last : Read) → reads ≡ front ++ last ∷ [] → (said_after s t front moments).over ≡ false

-- an ending was said, and all of it was written, behind a text and octets
pub record IsDone (text sent : List ℕ) (end : Saying) (printed printed_now sent_to sent_to_now : Option (List ℕ)) : Type 0 where
  pub over : end.over ≡ true
  pub out : TookAll printed printed_now text (text_of end)
  pub wire : TookAll sent_to sent_to_now sent end.wire

-- a read failed before any ending was said
pub record IsUnread (text sent : List ℕ) (end : Saying) (printed printed_now sent_to sent_to_now : Option (List ℕ)) : Type 0 where
  pub going : end.over ≡ false
  pub out : TookAll printed printed_now text (text_of end)
  pub wire : TookAll sent_to sent_to_now sent end.wire

abbrev pub EndsAs : {A : Type 0} → List ℕ → List ℕ → Saying → Option (List ℕ) → Option (List ℕ) → Option (List ℕ) → Option (List ℕ) → Result A Fault → Type 0
EndsAs text sent end out out_now wire wire_now (Ok done) = IsDone text sent end out out_now wire wire_now
EndsAs text sent end out out_now wire wire_now (Err faults.Read) = IsUnread text sent end out out_now wire wire_now
EndsAs text sent end out out_now wire wire_now (Err faults.Write) = Stopped text sent end out out_now wire wire_now
EndsAs text sent end out out_now wire wire_now (Err faults.NoMemory) = Stopped text sent end out out_now wire wire_now

-- the reads and the moments, and how it ended
pub record Followed {A : Type 0} (s : Saying) (t : ℕ) (given given_now : Option (List Read)) (clock clock_now printed printed_now sent_to sent_to_now : Option (List ℕ)) (result : Result A Fault) : Type 0 where
  pub read : List Read
  pub asked : List ℕ
  pub reads : TellsMore given given_now read
  pub moments : TellsMore clock clock_now asked
  pub open_before : IsOpenBefore s t read asked
  pub often : AsksBehind (λ front. said_after s t front asked) read (length asked) (StopsWithin result)
  pub ends : EndsAs (text_of s) s.wire (said_after s t read asked) printed printed_now sent_to sent_to_now result

unfoldable pub Follows : {A : Type 0} → ℕ → KeptClient → Option ℕ → Option (List Read) → Option (List Read) → Option (List ℕ) → Option (List ℕ) → Option (List ℕ) → Option (List ℕ) → Option (List ℕ) → Option (List ℕ) → Result A Fault → Type 0
Follows turns kept messages reads reads_now moments moments_now out out_now wire wire_now result =
    (s : Saying) (t : ℕ) → Waits s kept messages → s.turns_left ≡ turns → Followed s t reads reads_now moments moments_now out out_now wire wire_now result
