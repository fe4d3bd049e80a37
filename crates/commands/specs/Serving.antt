-- What a run does for `serve`: it reads a configuration, opens what that names, and serves sessions.
--     AddsAll before now more      so many more are told
--     ListensBy, HearsBy, AcceptsBy, StartsBy, ServesBy      what a server did in full, and what is left of that where it was given up
--     GivesBack      what was opened for a server is taken back
--     end_code, end_text      the status and the text of a server's end
--     CountsAsTold      the numbers of a server's line are those of which the register was told
--     TellsServer before now Counts read status text      the whole texts that are written, each with its status
--     Serves before now Counts read status      what is done for a configuration that was read so
--     IsServed request before now Counts status octets      so it is where these may be the octets of the configuration
--     Shares, IsShared      which hub the jobs of a server share
use Rattle.std.specs.Prelude.{◌≡◌, ◌⊎◌, ◌≤◌, ◌==◌, ⊤, ℕ, Bool, true, false, Some, None, Ok, Err, List, [], ◌∷◌, ◌++◌, ◌+◌, length, map, codes, decimal}
use Rattle.std.specs.declared.option.Option.{Option}
use Rattle.std.specs.declared.result.Result.{Result}
use Rattle.std.specs.List.{list_any}
use Rattle.push_base.specs.Causes.{Rose}
use Rattle.push_base.specs.declared.role.Role.{Role}
use Rattle.push_outside.specs.Outside.{Telling, Used, Adds, AddsTold, AddsSome}
use Rattle.hubasking.specs.AskingHubs.{AskingHub, new_asking}
use Rattle.hublock.specs.Registers.{Ending, entered}
use Rattle.hubloops.specs.declared.loop_end.LoopEnd.{LoopEnd}
use Rattle.scripts.specs.Heads.{Head}
use Rattle.scripts.specs.Lines.{Word}
use Rattle.scripts.specs.Sources.{front_read}
use Rattle.scripts.specs.Words.{spaced, line}
use Rattle.scripts.specs.declared.outcome.Outcome.TheVariants as outcomes
use Rattle.scripts.specs.Outcomes.{status_of}
use Rattle.push_base.specs.Written.{IsFrontOf, Took}
use Rattle.replay.specs.ScriptTexts.{outside_text}
use Rattle.configurations.specs.Configurations.{Serving, serving_of}
use Rattle.serving.specs.declared.serve_end.ServeEnd.{ServeEnd}
use Rattle.serving.specs.declared.serve_end.ServeEnd.TheVariants as ends
use Rattle.serving.specs.Ends.{is_link_fault, is_starved}
use Rattle.serving.specs.Jobs.{AreSeats, jobs_of}
use Rattle.serving.specs.Serving.{is_full_run}
use Rattle.commands.specs.Observed.{Observed, IsTold}
use Rattle.commands.specs.Runs.{MayHaveGiven}
use Rattle.commands.specs.Status.{code_of}
use Rattle.commands.specs.Words.{Request, Serve}
use Rattle.commands.specs.declared.status.Status.TheVariants as statuses

-- so many more at the end of a list that is told
abbrev pub AddsAll : {A : Type 0} → Option (List A) → Option (List A) → List A → Type 0
AddsAll None now more = now ≡ None
AddsAll (Some known) now more = now ≡ Some (known ++ more)

-- the addresses of the links' sockets, and the links' numbers
abbrev pub addresses : Serving → List Word
addresses configuration = map (λ feed. feed.1) configuration.feeds

abbrev pub links : Serving → List ℕ
links configuration = map (λ feed. feed.0) configuration.feeds

-- Each of these says what a server did in full, and what may be left of that where it was given up.

-- it listened at its address; or perhaps not
abbrev pub ListensBy : Bool → Word → Option (List Word) → Option (List Word) → Type 0
ListensBy true address before now = Adds before now address
ListensBy false address before now = (now ≡ before) ⊎ Adds before now address

-- it heard at these addresses, in this order; or at the first of them
abbrev pub HearsBy : Bool → List Word → Option (List Word) → Option (List Word) → Type 0
HearsBy true all before now = AddsAll before now all
HearsBy false all before now = (front : List Word) × (rest : List Word) × (all ≡ front ++ rest) × AddsAll before now front

-- it accepted so many sessions; or no more than these
abbrev pub AcceptsBy : Bool → ℕ → Option (List ℕ) → Option (List ℕ) → Type 0
AcceptsBy true sessions before now = AddsTold before now (Some sessions)
AcceptsBy false sessions before now = (now ≡ before) ⊎ ((count : ℕ) × (count ≤ sessions) × AddsTold before now (Some count))

-- It handed over one job for each socket of a link, the clock's, and two for each session that got a seat, in this order and no others; or
-- the first of what these would be.
abbrev pub StartsBy : Bool → ℕ → List ℕ → ℕ → Option (List (List (Role × ℕ))) → Option (List (List (Role × ℕ))) → Type 0
StartsBy true turns linked sessions before now = (seats : ℕ) × AreSeats sessions seats × AddsTold before now (Some (jobs_of turns linked seats))
StartsBy false turns linked sessions before now = (now ≡ before)
    ⊎ ((front : List (Role × ℕ)) × (rest : List (Role × ℕ)) × (jobs_of turns linked sessions ≡ front ++ rest) × AddsTold before now (Some front))

-- all of this, as the configuration says
pub record ServesBy (full : Bool) (before now : Telling) (configuration : Serving) : Type 0 where
  pub listened : ListensBy full configuration.listen before.listened now.listened
  pub heard : HearsBy full (addresses configuration) before.heard now.heard
  pub accepted : AcceptsBy full configuration.sessions before.accepted now.accepted
  pub started : StartsBy full configuration.turns (links configuration) configuration.sessions before.started now.started

-- The datagrams of the sockets came back; where the server was given up, so many of those that were opened, all but one at most.
abbrev pub GivesLinks : Bool → ℕ → Option (List (List (List ℕ))) → Option (List (List (List ℕ))) → Type 0
GivesLinks true opened before now = AddsSome before now opened
GivesLinks false opened before now = (count : ℕ) × (opened ≤ count + 1) × AddsSome before now count

abbrev pub GivesLinksBack : Bool → List Word → Telling → Telling → Type 0
GivesLinksBack true all before now = AddsAll before.heard now.heard all × GivesLinks true (length all) before.links now.links
GivesLinksBack false all before now = (front : List Word) × (rest : List Word) × (all ≡ front ++ rest) × AddsAll before.heard now.heard front × GivesLinks false (length front) before.links now.links

-- The doors came back, unless none were opened: then nothing else was done.
abbrev pub GivesDoorsBack : Telling → Telling → ℕ → ℕ → Type 0
GivesDoorsBack before now others others_now = (now.listened ≡ before.listened)
    ⊎ (((now.heard ≡ before.heard) × (now.started ≡ before.started) × Rose others others_now) ⊎ AddsSome before.accepted now.accepted 1)

-- what was opened for a server is taken back
pub record GivesBack (full : Bool) (before now : Telling) (others others_now : ℕ) (configuration : Serving) : Type 0 where
  pub doors : GivesDoorsBack before now others others_now
  pub links : GivesLinksBack full (addresses configuration) before now

-- nothing of this was done
pub record IsUnserved (before now : Telling) : Type 0 where
  pub listened : now.listened ≡ before.listened
  pub heard : now.heard ≡ before.heard
  pub accepted : now.accepted ≡ before.accepted
  pub started : now.started ≡ before.started

-- the status of a server's end
abbrev pub end_code : ServeEnd → ℕ
end_code (ends.Served totals) = status_of outcomes.Done
end_code ends.NoMemory = status_of outcomes.NoMemory
end_code ends.OutsideFault = code_of statuses.OutsideFault

-- its text: how many sessions were served, and how many entries of each group were accepted meanwhile; or why it ended otherwise
abbrev pub end_text : ℕ → ServeEnd → List ℕ
end_text sessions (ends.Served totals) =
    line (spaced (codes "served" ∷ decimal sessions ∷ codes "changes" ∷ decimal totals.changes ∷ codes "heard" ∷ decimal totals.heard ∷ codes "moments" ∷ decimal totals.moments ∷ []))
end_text sessions ends.NoMemory = line (codes "no memory")
end_text sessions ends.OutsideFault = line (codes "outside fault")

-- something outside counted a fault, where the server ended for one
abbrev pub HasCause : ℕ → ℕ → ServeEnd → Type 0
HasCause before now ends.OutsideFault = Rose before now
HasCause before now end = ⊤

-- how a server ended was told, or that memory ran out for it
abbrev pub TellsEnd : Option (List ℕ) → Option (List ℕ) → ℕ → ServeEnd → ℕ → Type 0
TellsEnd before now sessions end status = (told : ServeEnd) × ((told ≡ end) ⊎ (told ≡ ends.NoMemory))
    × Took before now (λ wrote. ((status ≡ end_code told) × (wrote ≡ end_text sessions told)) ⊎ ((status ≡ status_of outcomes.WriteFault) × IsFrontOf wrote (end_text sessions told)))

-- Where a server served its sessions, the register was told once more how it ended: with these counts, and no loop for want of memory or as
-- a link's datagrams failed.
abbrev pub CountsAsTold : Option (List Ending) → Option (List Ending) → ServeEnd → Type 0
CountsAsTold before now (ends.Served totals) = (loops : List LoopEnd) × (now ≡ entered before (record { loops = loops; counts = totals }))
    × (list_any is_starved loops ≡ false) × (list_any is_link_fault loops ≡ false)
CountsAsTold before now ends.OutsideFault = ⊤
CountsAsTold before now ends.NoMemory = ⊤

-- The whole texts that are written, each with its status: the configuration wasn't read, which has a cause; memory ran out before it was;
-- that line is the first outside; or a server was begun as it says, and ended so.
pub data TellsServer (before now : Observed) (Counts : ServeEnd → Type 0) (read : Result Serving ℕ) (status : ℕ) (text : List ℕ) : Type 0 where
  Unread : Rose before.reads now.reads → IsUnserved before.told now.told → status ≡ status_of outcomes.ReadFault → text ≡ line (codes "read fault") → TellsServer before now Counts read status text
  Starved : IsUnserved before.told now.told → status ≡ status_of outcomes.NoMemory → text ≡ line (codes "no memory") → TellsServer before now Counts read status text
  Outside : (number : ℕ) → read ≡ Err number → IsUnserved before.told now.told → status ≡ status_of outcomes.Outside → text ≡ outside_text number → TellsServer before now Counts read status text
  Ended : (configuration : Serving) → (end : ServeEnd) → read ≡ Ok configuration → ServesBy (is_full_run end) before.told now.told configuration → GivesBack (is_full_run end) before.told now.told before.others now.others configuration → HasCause before.others now.others end
      → Counts end → status ≡ end_code end → text ≡ end_text configuration.sessions end → TellsServer before now Counts read status text

-- such a text was written with its status, or the output failed in the midst of one
unfoldable pub Serves : Observed → Observed → (ServeEnd → Type 0) → Result Serving ℕ → ℕ → Type 0
Serves before now Counts read status = Took before.printed now.printed (IsTold (TellsServer before now Counts read) status)

-- where a server is asked for, and these may be the octets of its configuration
abbrev pub IsServed : Option Request → Observed → Observed → (ServeEnd → Type 0) → ℕ → List ℕ → Type 0
IsServed (Some (Serve path)) before now Counts status octets = MayHaveGiven before.told.used now.told.used octets → Serves before now Counts (serving_of (front_read octets)) status
IsServed request before now Counts status octets = ⊤

-- ---- which hub is served

-- the hub with these homes and timers, in which nothing has changed yet
abbrev pub first_hub : Head → AskingHub
first_hub head = new_asking head.start head.timers

-- just this hub went behind a lock; or perhaps none
abbrev pub BeginsBy : Bool → AskingHub → Option (List AskingHub) → Option (List AskingHub) → Type 0
BeginsBy true hub before now = now ≡ entered before hub
BeginsBy false hub before now = (now ≡ before) ⊎ (now ≡ entered before hub)

-- with such a status a server has served its sessions
abbrev pub tells_full_run : ℕ → Bool
tells_full_run status = status == 0

-- where a configuration was read so, its jobs share the hub with its homes and timers, and no other goes behind a lock
abbrev pub Shares : Result Serving ℕ → ℕ → Option (List AskingHub) → Option (List AskingHub) → Type 0
Shares (Ok configuration) status before now = BeginsBy (tells_full_run status) (first_hub configuration.head) before now
Shares (Err number) status before now = now ≡ before

-- so it is where a server is asked for, and these may be the octets of its configuration; else no hub goes behind a lock
abbrev pub IsShared : Option Request → Option (List Used) → Option (List Used) → Option (List AskingHub) → Option (List AskingHub) → ℕ → List ℕ → Type 0
IsShared (Some (Serve path)) used used_now before now status octets = MayHaveGiven used used_now octets → Shares (serving_of (front_read octets)) status before now
IsShared request used used_now before now status octets = now ≡ before
