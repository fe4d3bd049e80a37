-- What the command `subscribe` does, once its configuration was read and its server dialled.
--     AsksClock configuration read asked stopped      how often the clock was asked
--     Conversed      the reads, the moments, and how it ended
--     Subscribed      the same, with the text that a fault leaves
--     TellsSaying, AnswersSaying      the whole texts, each with its status, and what an output that failed took of one
--     IsSent      what the wire took
use Rattle.std.specs.Prelude.{◌≡◌, ◌⊎◌, ⊤, ℕ, true, false, List, [], ◌∷◌, ◌++◌, length, Option, Result, codes}
use Rattle.push_base.specs.Line.{Read}
use Rattle.push_base.specs.Told.{TellsMore}
use Rattle.push_base.specs.Written.{IsFrontOf, Took}
use Rattle.scripts.specs.Words.{line}
use Rattle.scripts.specs.declared.outcome.Outcome.{Outcome}
use Rattle.scripts.specs.declared.outcome.Outcome.TheVariants as outcomes
use Rattle.configurations.specs.Configurations.{Subscribing}
use Rattle.subscriber.specs.declared.fault.Fault.{Fault}
use Rattle.subscriber.specs.Said.{Saying, text_of, saying}
use Rattle.subscriber.specs.Turning.{AsksBehind, StopsWithin, EndsAs}

-- no ending was said before the last read, so no read follows one
abbrev pub IsOpenUntil : Subscribing → List Read → List ℕ → Type 0
IsOpenUntil configuration reads moments = (front : List Read) (last : Read) → reads ≡ front ++ last ∷ [] → (saying configuration front moments).over ≡ false

-- The clock was asked once before the first read, and once behind each; but not behind the last, where its messages said the ending, or
-- where a write failed or memory ran out before.
abbrev pub AsksClock : Subscribing → List Read → List ℕ → Type 0 → Type 0
AsksClock configuration read [] stopped = ⊥
AsksClock configuration read (t ∷ moments) stopped = AsksBehind (λ front. saying configuration front (t ∷ moments)) read (length moments) stopped

pub record Conversed {A : Type 0} (configuration : Subscribing) (given given_now : Option (List Read)) (clock clock_now printed printed_now sent_to sent_to_now : Option (List ℕ)) (result : Result A Fault) : Type 0 where
  pub read : List Read
  pub asked : List ℕ
  pub reads : TellsMore given given_now read
  pub moments : TellsMore clock clock_now asked
  pub open_before : IsOpenUntil configuration read asked
  pub often : AsksClock configuration read asked (StopsWithin result)
  pub ends : EndsAs [] [] (saying configuration read asked) printed printed_now sent_to sent_to_now result

-- The whole texts, each with its status: an ending was said; or a read failed before one was, which has a cause; or memory ran out.
pub data TellsSaying (cause : Type 0) (s : Saying) (outcome : Outcome) (text : List ℕ) : Type 0 where
  Whole : s.over ≡ true → outcome ≡ outcomes.Done → text ≡ text_of s → TellsSaying cause s outcome text
  Unread : cause → s.over ≡ false → outcome ≡ outcomes.ReadFault → text ≡ text_of s ++ line (codes "read fault") → TellsSaying cause s outcome text
  Starved : (front : List ℕ) → IsFrontOf front (text_of s) → outcome ≡ outcomes.NoMemory → text ≡ front ++ line (codes "no memory") → TellsSaying cause s outcome text

-- what a failed write leaves: a front of what is said, or of a whole text
abbrev pub IsCutShort : Type 0 → Saying → List ℕ → Type 0
IsCutShort cause s wrote = IsFrontOf wrote (text_of s) ⊎ ((told : Outcome) × (text : List ℕ) × TellsSaying cause s told text × IsFrontOf wrote text)

-- such a text was written with its status, or a write failed
abbrev pub AnswersSaying : Type 0 → Saying → Outcome → List ℕ → Type 0
AnswersSaying cause s outcome wrote = TellsSaying cause s outcome wrote ⊎ ((outcome ≡ outcomes.WriteFault) × IsCutShort cause s wrote)

-- what the client writes, or a front of it; all where an ending was said
abbrev pub IsSent : Saying → Outcome → List ℕ → Type 0
IsSent s outcomes.Done wrote = wrote ≡ s.wire
IsSent s _ wrote = IsFrontOf wrote s.wire

-- a failed write and want of memory may come between a read and its moment
abbrev pub MayStopWithin : Outcome → Type 0
MayStopWithin outcomes.Done = ⊥
MayStopWithin outcomes.ReadFault = ⊥
MayStopWithin _ = ⊤

-- the reads that the line gave and the moments that the clock told, and what was written for them
pub record Subscribed (cause : Type 0) (configuration : Subscribing) (given given_now : Option (List Read)) (clock clock_now printed printed_now sent_to sent_to_now : Option (List ℕ)) (outcome : Outcome) : Type 0 where
  pub read : List Read
  pub asked : List ℕ
  pub reads : TellsMore given given_now read
  pub moments : TellsMore clock clock_now asked
  pub open_before : IsOpenUntil configuration read asked
  pub often : AsksClock configuration read asked (MayStopWithin outcome)
  pub out : Took printed printed_now (AnswersSaying cause (saying configuration read asked) outcome)
  pub wire : Took sent_to sent_to_now (IsSent (saying configuration read asked) outcome)
