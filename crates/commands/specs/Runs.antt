-- What a run does for what its words ask.
--     reply_to request octets      what is answered, given the octets of the source that the request names
--     AsksReplay request      a script is to be run
--     AsksAccepted request script asked, AsksInPieces request script sent, AsksFed request script fed, AsksFor request octets script, AsksForWhole request octets script      the script that is to be run is one of which a promise speaks
--     WritesReplies request written      each reply that is promised is written, where `written octets reply` says that this one is, for these octets of the source
--     IsAnswered request .. octets reply      where these may be the octets of the source, this reply was written, or what a fault leaves of it
--     LeavesRest, TakesBack, TakesAtMost, OpensPath, Reaches, InputStays      what becomes of the source, the path, all else that the outside tells, and the input
use Rattle.std.specs.Prelude.{◌≡◌, ◌⊎◌, ◌≤◌, ◌+◌, ⊤, ℕ, Some, None, Ok, List, [], ◌∷◌, ◌++◌, length}
use Rattle.std.specs.declared.option.Option.{Option}
use Rattle.push_base.specs.Causes.{Rose}
use Rattle.scripts.specs.Lines.{ScriptLine}
use Rattle.scripts.specs.Scripts.{max_script, script_of}
use Rattle.scripts.specs.Reply.{Reply, Answers}
use Rattle.scripts.specs.WholeLines.{WholeLine}
use Rattle.scripts.specs.WholeScripts.{whole_script_of}
use Rattle.push_base.specs.Written.{Took}
use Rattle.replay.specs.TextWords.{by_history}
use Rattle.scripts.specs.Sources.{front_read, left_behind, LeftBehind}
use Rattle.scripts.specs.Outcomes.{HasRead}
use Rattle.replay.specs.ScriptPieces.{SentInPieces, SendsPieces, TellsInTurn, pieces_reply}
use Rattle.replay.specs.FedLines.{Fed, FeedsLone, fed_reply}
use Rattle.script_laws.specs.Sending.{Asks, AsksAnywhere, AskIsAnswered, asked_reply}
use Rattle.big_scripts.specs.Replies.{reply_to_number}
use Rattle.push_outside.specs.Outside.{Telling, Used, Adds, AddsSome}
use Rattle.commands.specs.ScriptCommands.{task_reply}
use Rattle.commands.specs.Words.{Request, On_input, At_path, Big, Serve, Subscribe, usage}
use Rattle.commands.specs.declared.script_command.ScriptCommand.TheVariants.{Replay}

-- what is answered, given the octets of the source that the request names; a server and a subscriber aren't answered by them alone (`Serving`, `Subscribing`)
abbrev pub reply_to : Option Request → List ℕ → Reply
reply_to None octets = record { status = 1; text = usage }
reply_to (Some (On_input task)) octets = task_reply by_history task (front_read octets)
reply_to (Some (At_path task path)) octets = task_reply by_history task (front_read octets)
reply_to (Some (Big number)) octets = reply_to_number by_history number
reply_to (Some (Serve path)) octets = record { status = 0; text = [] }
reply_to (Some (Subscribe path)) octets = record { status = 0; text = [] }

-- a script is to be run
abbrev pub AsksReplay : Option Request → Type 0
AsksReplay (Some (On_input Replay)) = ⊤
AsksReplay (Some (At_path Replay path)) = ⊤
AsksReplay request = ⊥

-- one in which, at any line, on any session, after any messages, a peer's SUBSCRIBE meets none of the refusing tests in its turn
abbrev pub AsksAccepted : Option Request → List ℕ → Asks → Type 0
AsksAccepted request script asked = AsksReplay request × AsksAnywhere script asked

-- one in which a peer sends its octets in pieces, and its session goes on or ends with the last one
abbrev pub AsksInPieces : Option Request → List ℕ → SentInPieces → Type 0
AsksInPieces request script sent = AsksReplay request × SendsPieces script sent

-- one in which a lone client that is connected is fed
abbrev pub AsksFed : Option Request → List ℕ → Fed → Type 0
AsksFed request script fed = AsksReplay request × FeedsLone script fed

-- a script is to be run, and these are its lines
abbrev pub AsksFor : Option Request → List ℕ → List ScriptLine → Type 0
AsksFor request octets script = AsksReplay request × (script_of octets ≡ Ok script)

-- so of a script that may have a second hub
abbrev pub AsksForWhole : Option Request → List ℕ → List WholeLine → Type 0
AsksForWhole request octets script = AsksReplay request × (whole_script_of octets ≡ Ok script)

-- What is written, where `written octets reply` says that this reply is, for these octets of the source.
pub record WritesReplies (request : Option Request) (written : List ℕ → Reply → Type 0) : Type 0 where
  -- what is answered, given these octets
  pub reply : (octets : List ℕ) → written octets (reply_to request octets)
  -- In every script of one hub, at any line, on any session, after any messages, a peer's SUBSCRIBE that meets none of the refusing tests is answered
  -- NOERROR, and the PUSH of the first answer follows, where it has notices; what the line tells before and behind it is what was made in
  -- turn. Where the SUBSCRIBE is a peer's first octets, nothing stands before or behind it (`FirstOnesAskAnywhere` of `script_laws`).
  pub asked : (octets : List ℕ) (asked : Asks) (asks : AsksAccepted request (front_read octets) asked) → (answer : AskIsAnswered by_history (front_read octets) asked asks.1)
      × written octets (asked_reply by_history (front_read octets) asked asks.1 answer.front answer.back answer.over)
  -- In every script of one hub, as long as no entry is made, what is told of the pieces in which a peer sends its octets answers the whole messages that
  -- they complete; where the last piece ends its session, the line of the end stands behind it.
  pub pieces : (octets : List ℕ) (sent : SentInPieces) → AsksInPieces request (front_read octets) sent → (told : List (List ℕ)) × TellsInTurn sent told × written octets (pieces_reply by_history sent told)
  -- in every script of one hub a lone client reacts to each whole message that it is fed, one after the other
  pub fed : (octets : List ℕ) (fed : Fed) → AsksFed request (front_read octets) fed → written octets (fed_reply by_history fed)

-- these may be the octets of the one source that was taken back, if any was
abbrev pub MayHaveGiven : Option (List Used) → Option (List Used) → List ℕ → Type 0
MayHaveGiven (Some before) (Some now) octets =
    (now ≡ before) ⊎ ((u : Used) × (now ≡ before ++ u ∷ []) × (u.gave ++ u.left ≡ octets))
MayHaveGiven before now octets = ⊥

-- by what is told, these may be the octets of the source that the request names; any, where it names none; and none of a server's or a subscriber's
abbrev pub MayBeOctets : Option Request → Option (List ℕ) → Option (List Used) → Option (List Used) → List ℕ → Type 0
MayBeOctets None input before now octets = ⊤
MayBeOctets (Some (On_input task)) input before now octets = input ≡ Some octets
MayBeOctets (Some (At_path task path)) input before now octets = MayHaveGiven before now octets
MayBeOctets (Some (Big number)) input before now octets = ⊤
MayBeOctets (Some (Serve path)) input before now octets = ⊥
MayBeOctets (Some (Subscribe path)) input before now octets = ⊥

-- the count that must have risen for a read fault: the input's, or the outside's
abbrev pub SourceRose : Option Request → Type 0 → Type 0 → Type 0
SourceRose None input outside = ⊥
SourceRose (Some (On_input task)) input outside = input
SourceRose (Some (At_path task path)) input outside = outside
SourceRose (Some (Big number)) input outside = ⊥
SourceRose (Some (Serve path)) input outside = outside
SourceRose (Some (Subscribe path)) input outside = outside

-- the count that must have risen for a write fault: the output's, or, of a subscriber, the outside's
abbrev pub SinkRose : Option Request → Type 0 → Type 0 → Type 0
SinkRose None out outside = out
SinkRose (Some (On_input task)) out outside = out
SinkRose (Some (At_path task path)) out outside = out
SinkRose (Some (Big number)) out outside = out
SinkRose (Some (Serve path)) out outside = out
SinkRose (Some (Subscribe path)) out outside = out ⊎ outside

-- the outside's count must have risen where something of it failed, which only a server and a subscriber reach
abbrev pub ReachRose : Option Request → Type 0 → Type 0
ReachRose (Some (Serve path)) outside = outside
ReachRose (Some (Subscribe path)) outside = outside
ReachRose request outside = ⊥

-- Where these may be the octets of the source, this reply was written with the status, or what a fault leaves of it. Told are what the
-- input had left, and before the run and behind it the sources that were taken back, what the sink took, and the counts of the faults of the input and of the outside.
abbrev pub IsAnswered : (request : Option Request) (left : Option (List ℕ)) (used used_now : Option (List Used)) (taken taken_now : Option (List ℕ)) (faults faults_now reads reads_now status : ℕ) (octets : List ℕ) (reply : Reply) → Type 0
IsAnswered request left used used_now taken taken_now faults faults_now reads reads_now status octets reply =
    MayBeOctets request left used used_now octets → Took taken taken_now (Answers (SourceRose request (Rose faults faults_now) (Rose reads reads_now)) reply status)

-- of the one source that was taken back, where the sources that were taken back are told, only what is behind a script too long is left
abbrev pub UsesWhole : Option (List Used) → Option (List Used) → Type 0
UsesWhole None now = ⊤
UsesWhole (Some before) None = ⊤
UsesWhole (Some before) (Some now) = (u : Used) × (now ≡ before ++ u ∷ []) × (u.left ≡ left_behind (u.gave ++ u.left))

-- once the script was read, only what is behind a script too long is left of its source
abbrev pub LeavesRest : Option Request → ℕ → Option (List ℕ) → Option (List ℕ) → Option (List Used) → Option (List Used) → Type 0
LeavesRest None status left now before after = ⊤
LeavesRest (Some (On_input task)) status left now before after = HasRead status → LeftBehind left now
LeavesRest (Some (At_path task path)) status left now before after = HasRead status → UsesWhole before after
LeavesRest (Some (Big number)) status left now before after = ⊤
LeavesRest (Some (Serve path)) status left now before after = HasRead status ⊎ (status ≡ 6) → UsesWhole before after
LeavesRest (Some (Subscribe path)) status left now before after = HasRead status ⊎ (status ≡ 6) → UsesWhole before after

-- where the sources that were taken back are told, no more than one was, and it gave no more than the octets up to that with which a script is too long
abbrev pub UsesAtMost : Option (List Used) → Option (List Used) → Type 0
UsesAtMost None now = ⊤
UsesAtMost (Some before) None = ⊤
UsesAtMost (Some before) (Some now) = (now ≡ before) ⊎ ((u : Used) × (now ≡ before ++ u ∷ []) × (length u.gave ≤ max_script + 1))

-- What a path opened is taken back: the source; unless it couldn't be opened, or nothing was.
abbrev pub GivesSourceBack : List ℕ → Option (List (List ℕ)) → Option (List (List ℕ)) → Option (List Used) → Option (List Used) → ℕ → ℕ → Type 0
GivesSourceBack path opened opened_now used used_now reads reads_now =
    ((opened_now ≡ opened) × (used_now ≡ used)) ⊎ ((Adds opened opened_now path × (used_now ≡ used) × Rose reads reads_now) ⊎ (Adds opened opened_now path × AddsSome used used_now 1))

-- with any status a path's source is taken back
abbrev pub TakesBack : Option Request → Option (List (List ℕ)) → Option (List (List ℕ)) → Option (List Used) → Option (List Used) → ℕ → ℕ → Type 0
TakesBack None opened opened_now used used_now reads reads_now = ⊤
TakesBack (Some (On_input task)) opened opened_now used used_now reads reads_now = ⊤
TakesBack (Some (At_path task path)) opened opened_now used used_now reads reads_now = GivesSourceBack path opened opened_now used used_now reads reads_now
TakesBack (Some (Big number)) opened opened_now used used_now reads reads_now = ⊤
TakesBack (Some (Serve path)) opened opened_now used used_now reads reads_now = GivesSourceBack path opened opened_now used used_now reads reads_now
TakesBack (Some (Subscribe path)) opened opened_now used used_now reads reads_now = GivesSourceBack path opened opened_now used used_now reads reads_now

-- with any status a path's source is read no further
abbrev pub TakesAtMost : Option Request → Option (List Used) → Option (List Used) → Type 0
TakesAtMost None before after = ⊤
TakesAtMost (Some (On_input task)) before after = ⊤
TakesAtMost (Some (At_path task path)) before after = UsesAtMost before after
TakesAtMost (Some (Big number)) before after = ⊤
TakesAtMost (Some (Serve path)) before after = UsesAtMost before after
TakesAtMost (Some (Subscribe path)) before after = UsesAtMost before after

-- the path alone is handed to `open`, once; with 4 and 5 perhaps not
abbrev pub OpensPath : Option Request → Option (List (List ℕ)) → Option (List (List ℕ)) → ℕ → Type 0
OpensPath (Some (At_path task path)) before now status = Adds before now path ⊎ ((now ≡ before) × ((status ≡ 4) ⊎ (status ≡ 5)))
OpensPath (Some (Serve path)) before now status = Adds before now path ⊎ ((now ≡ before) × ((status ≡ 4) ⊎ (status ≡ 5)))
OpensPath (Some (Subscribe path)) before now status = Adds before now path ⊎ ((now ≡ before) × ((status ≡ 4) ⊎ (status ≡ 5)))
OpensPath None before now status = now ≡ before
OpensPath (Some (On_input task)) before now status = now ≡ before
OpensPath (Some (Big number)) before now status = now ≡ before

-- what else the outside tells stays as it was
abbrev pub Reaches : Option Request → Telling → Telling → Type 0
Reaches None before now = now ≡ before
Reaches (Some (On_input task)) before now = now ≡ before
Reaches (Some (At_path task path)) before now = now ≡ record before { opened = now.opened; used = now.used }
Reaches (Some (Big number)) before now = now ≡ before
Reaches (Some (Serve path)) before now =
    now ≡ record before { opened = now.opened; used = now.used; listened = now.listened; heard = now.heard; accepted = now.accepted; links = now.links; started = now.started }
Reaches (Some (Subscribe path)) before now =
    now ≡ record before { opened = now.opened; used = now.used; dialled = now.dialled; lines = now.lines; wires = now.wires; moments = now.moments }

-- the input stays as it is, but where it is asked for
abbrev pub InputStays : {A : Type 0} → Option Request → A → A → Type 0
InputStays (Some (On_input task)) before now = ⊤
InputStays None before now = now ≡ before
InputStays (Some (At_path task path)) before now = now ≡ before
InputStays (Some (Big number)) before now = now ≡ before
InputStays (Some (Serve path)) before now = now ≡ before
InputStays (Some (Subscribe path)) before now = now ≡ before
