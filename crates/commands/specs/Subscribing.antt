-- What a run does for `subscribe`: it reads a configuration, dials the server, and says what it hears.
--     Follows before now read status      what is done for a configuration that was read so
--     TellsUnconnected, Converses      without a connection, and with one
--     IsFollowed request before now status octets      so it is where these may be the octets of the configuration
use Rattle.std.specs.Prelude.{◌≡◌, ◌⊎◌, ⊤, ℕ, Some, Ok, Err, List, codes}
use Rattle.std.specs.declared.option.Option.{Option}
use Rattle.std.specs.declared.result.Result.{Result}
use Rattle.push_base.specs.Causes.{Rose}
use Rattle.push_base.specs.Line.{Read}
use Rattle.push_outside.specs.Outside.{Telling, Adds, AddsTold}
use Rattle.scripts.specs.Sources.{front_read}
use Rattle.scripts.specs.declared.outcome.Outcome.{Outcome}
use Rattle.scripts.specs.declared.outcome.Outcome.TheVariants as outcomes
use Rattle.scripts.specs.Outcomes.{status_of}
use Rattle.push_base.specs.Written.{Took}
use Rattle.scripts.specs.Words.{line}
use Rattle.replay.specs.ScriptTexts.{outside_text}
use Rattle.configurations.specs.Configurations.{Subscribing, subscribing_of}
use Rattle.subscriber.specs.Said.{saying}
use Rattle.subscriber.specs.Subscribed.{AnswersSaying, AsksClock, IsOpenUntil, IsSent, MayStopWithin}
use Rattle.commands.specs.Observed.{Observed, IsTold}
use Rattle.commands.specs.Runs.{MayHaveGiven}
use Rattle.commands.specs.Status.{code_of}
use Rattle.commands.specs.Words.{Request, Subscribe}
use Rattle.commands.specs.declared.status.Status.TheVariants as statuses

-- The whole texts that are written where no connection is made, each with its status: the configuration wasn't read, which has a cause;
-- memory ran out; that line is the first outside; or the server wasn't reached, which has a cause.
pub data TellsUnconnected (before now : Observed) (read : Result Subscribing ℕ) (status : ℕ) (text : List ℕ) : Type 0 where
  Unread : Rose before.reads now.reads → now.told.dialled ≡ before.told.dialled → status ≡ status_of outcomes.ReadFault → text ≡ line (codes "read fault") → TellsUnconnected before now read status text
  Starved : now.told.dialled ≡ before.told.dialled → status ≡ status_of outcomes.NoMemory → text ≡ line (codes "no memory") → TellsUnconnected before now read status text
  Outside : (number : ℕ) → read ≡ Err number → now.told.dialled ≡ before.told.dialled → status ≡ status_of outcomes.Outside → text ≡ outside_text number → TellsUnconnected before now read status text
  Unreached : (configuration : Subscribing) → read ≡ Ok configuration → Adds before.told.dialled now.told.dialled configuration.server → Rose before.others now.others
      → status ≡ code_of statuses.OutsideFault → text ≡ line (codes "outside fault") → TellsUnconnected before now read status text

-- nothing is told of a further line, wire or clock
pub record IsUnconnected (before now : Telling) : Type 0 where
  pub lines : now.lines ≡ before.lines
  pub wires : now.wires ≡ before.wires
  pub moments : now.moments ≡ before.moments

-- such a text was written with its status, or the output failed in the midst of one
abbrev pub AnswersUnconnected : Observed → Observed → Result Subscribing ℕ → ℕ → List ℕ → Type 0
AnswersUnconnected before now read = IsTold (TellsUnconnected before now read)

-- The line that was taken back gave these reads, the clock these moments, and the wire took these octets, as far as they are told; and the
-- output took what is said of them.
pub record Conversation (before now : Observed) (configuration : Subscribing) (outcome : Outcome) : Type 0 where
  pub read : List Read
  pub asked : List ℕ
  pub sent : List ℕ
  pub reads : AddsTold before.told.lines now.told.lines (Some read)
  pub moments : AddsTold before.told.moments now.told.moments (Some asked)
  pub wires : AddsTold before.told.wires now.told.wires (Some sent)
  pub open_before : IsOpenUntil configuration read asked
  pub often : AsksClock configuration read asked (MayStopWithin outcome)
  pub out : Took before.printed now.printed (AnswersSaying (Rose before.reads now.reads) (saying configuration read asked) outcome)
  pub wire : IsSent (saying configuration read asked) outcome sent

-- the server was dialled, and followed
pub record Converses (before now : Observed) (configuration : Subscribing) (status : ℕ) : Type 0 where
  pub outcome : Outcome
  pub status_is : status ≡ status_of outcome
  pub dialled : Adds before.told.dialled now.told.dialled configuration.server
  pub conversation : Conversation before now configuration outcome

-- no connection was made, or the configuration was followed
unfoldable pub Follows : Observed → Observed → Result Subscribing ℕ → ℕ → Type 0
Follows before now read status =
    (IsUnconnected before.told now.told × Took before.printed now.printed (AnswersUnconnected before now read status))
    ⊎ ((configuration : Subscribing) × (read ≡ Ok configuration) × Converses before now configuration status)

-- where a subscriber is asked for, and these may be the octets of its configuration
abbrev pub IsFollowed : Option Request → Observed → Observed → ℕ → List ℕ → Type 0
IsFollowed (Some (Subscribe path)) before now status octets = MayHaveGiven before.told.used now.told.used octets → Follows before now (subscribing_of (front_read octets)) status
IsFollowed request before now status octets = ⊤
