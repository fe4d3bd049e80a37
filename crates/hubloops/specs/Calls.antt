-- Calls of the hub, with their answers.
--     HubCall      one call
--     Does old call new      what the contract of the hub's call says of it
use Rattle.std.specs.Prelude.{◌≡◌, ℕ, ◌≤◌, Bool, true, List, ◌++◌, length, drop, Option, Some, None, Result, Ok, Err, IfSome}
use Rattle.pushserver.specs.Calls.{HubCall as PlainCall, ends, gives, goes, hears, moves}
use Rattle.pushserver.specs.PlainHubs.{Hub}
use Rattle.pushserver.specs.Hubs.{can_enter, hear, link_gone, moment, connect, state_now, taken_by, take_octets, disconnect}
use Rattle.pushserver.specs.Giving.{give}
use Rattle.pushserver.specs.KeptHubs.{StandsFor, Forgets}
use Rattle.pushserver.specs.Laws.{MayWantMemory}
use Rattle.pushserver.specs.declared.given.Given.{Given}
use Rattle.pushserver.specs.declared.given.Heard.{Heard}
use Rattle.pushserver.specs.declared.fault.ConnectFault.{ConnectFault}
use Rattle.pushserver.specs.declared.fault.ConnectFault.TheVariants as connects
use Rattle.pushserver.specs.declared.fault.HubFault.{HubFault}
use Rattle.pushserver.specs.declared.fault.HubFault.TheVariants as faults
use Rattle.hubasking.specs.AskingHubs.{AskingHub, given_by, untouched_by}
use Rattle.hubasking.specs.LinkAskings.{ask, asking_after, kept_questions, plain_questions}

-- one call, with its answer; of a moment its fault, if there was one
pub data HubCall : Type 0 where
  Took : (session : ℕ) (piece : List ℕ) (count : ℕ) → HubCall
  Gave : (session : ℕ) (before after : List ℕ) (answer : Result Given HubFault) → HubCall
  Received : (link : ℕ) (datagram : List ℕ) (answer : Result Heard HubFault) → HubCall
  Asked : (link : ℕ) (before after : List ℕ) (answer : Result (Option ℕ) HubFault) → HubCall
  Went : (link : ℕ) (answer : Result Bool HubFault) → HubCall
  Passed : (at : ℕ) (fault : Option HubFault) → HubCall
  Left : (session : ℕ) → HubCall
  Connected : (answer : Result ℕ ConnectFault) → HubCall

-- each plain hub that is stood for becomes this
abbrev pub Stands : AskingHub → AskingHub → (Hub → Hub) → Type 0
Stands old new f = (hub : Hub) → StandsFor old.hub hub → StandsFor new.hub (f hub)

-- what links are asked behind a call of the hub, by what is kept and by each plain hub that is stood for
abbrev pub AsksFor : AskingHub → PlainCall → AskingHub → Type 0
AsksFor old call new =
    (new.askings ≡ asking_after kept_questions call old.hub old.askings)
    × ((hub : Hub) → StandsFor old.hub hub → new.askings ≡ asking_after plain_questions call hub old.askings)

-- octets of a session's client
abbrev pub Takes : AskingHub → ℕ → List ℕ → ℕ → AskingHub → Type 0
Takes old session piece count new =
    ((hub : Hub) → StandsFor old.hub hub → count ≡ taken_by hub session piece)
    × Stands old new (λ hub. take_octets hub session piece)
    × (new.hub ≡ take_octets old.hub session piece)
    × (new.askings ≡ old.askings)

-- one piece of work for a session, by what the plain hub says
abbrev pub GivesAs : AskingHub → ℕ → List ℕ → List ℕ → Given → AskingHub → Type 0
GivesAs old session before after given new = (hub : Hub) → StandsFor old.hub hub
    → (given ≡ (give hub session (length before)).given)
    × (after ≡ (give hub session (length before)).octets ++ drop (length (give hub session (length before)).octets) before)
    × StandsFor new.hub (give hub session (length before)).hub

abbrev pub Gives : AskingHub → ℕ → List ℕ → List ℕ → Result Given HubFault → AskingHub → Type 0
Gives old session before after (Ok given) new = GivesAs old session before after given new × Forgets (give old.hub session (length before)).hub new.hub × AsksFor old (gives session (length before)) new
Gives old session before after (Err faults.NoMemory) new = (new ≡ old) × ((hub : Hub) → StandsFor old.hub hub → MayWantMemory hub session)

-- a datagram of a link: this became of it
abbrev pub HearsAs : AskingHub → ℕ → List ℕ → Heard → AskingHub → Type 0
HearsAs old link datagram heard new =
    ((hub : Hub) → StandsFor old.hub hub → (heard ≡ (hear hub link datagram).0) × StandsFor new.hub (hear hub link datagram).1)
    × (heard ≡ (hear old.hub link datagram).0)

abbrev pub Hears : AskingHub → ℕ → List ℕ → Result Heard HubFault → AskingHub → Type 0
Hears old link datagram (Ok heard) new = HearsAs old link datagram heard new × Forgets (hear old.hub link datagram).1 new.hub × AsksFor old (hears link datagram) new
Hears old link datagram (Err faults.NoMemory) new = new ≡ old

-- the link is asked what is due first: its datagram stands at the front of the buffer, of which the rest stays; nothing is due where there is none
abbrev pub Asks : AskingHub → ℕ → List ℕ → List ℕ → Result (Option ℕ) HubFault → AskingHub → Type 0
Asks old link before after (Ok count) new =
    ((given_by count after, new.askings) ≡ ask (state_now old.hub) old.askings link)
    × ((hub : Hub) → StandsFor old.hub hub → (given_by count after, new.askings) ≡ ask (state_now hub) old.askings link)
    × IfSome count (λ n. n ≤ length before) × (length after ≡ length before) × (untouched_by count after ≡ untouched_by count before) × (new.hub ≡ old.hub)
Asks old link before after (Err faults.NoMemory) new = (after ≡ before) × (new ≡ old)

-- a link has gone away: whether its rows went
abbrev pub GoesAs : AskingHub → ℕ → Bool → AskingHub → Type 0
GoesAs old link gone new =
    ((hub : Hub) → StandsFor old.hub hub → (gone ≡ (link_gone hub link).0) × StandsFor new.hub (link_gone hub link).1)
    × (gone ≡ (link_gone old.hub link).0)

abbrev pub Goes : AskingHub → ℕ → Result Bool HubFault → AskingHub → Type 0
Goes old link (Ok gone) new = GoesAs old link gone new × Forgets (link_gone old.hub link).1 new.hub × AsksFor old (goes link) new
Goes old link (Err faults.NoMemory) new = new ≡ old

-- it is a moment, which wants memory only where it can be entered
abbrev pub Passes : AskingHub → ℕ → Option HubFault → AskingHub → Type 0
Passes old at None new = Stands old new (λ hub. moment hub at) × Forgets (moment old.hub at) new.hub × AsksFor old (moves at) new
Passes old at (Some faults.NoMemory) new = (can_enter old.hub ≡ true) × (new ≡ old)

-- a session's connection is gone
abbrev pub Leaves : AskingHub → ℕ → AskingHub → Type 0
Leaves old session new = Stands old new (λ hub. disconnect hub session) × (new.hub ≡ disconnect old.hub session) × AsksFor old (ends session) new

-- a new session, or none where no seat is free
abbrev pub ConnectsAs : AskingHub → Option ℕ → AskingHub → Type 0
ConnectsAs old number new =
    ((hub : Hub) → StandsFor old.hub hub → ((connect hub).0 ≡ number) × StandsFor new.hub (connect hub).1)
    × ((connect old.hub).0 ≡ number)

abbrev pub Connects : AskingHub → Result ℕ ConnectFault → AskingHub → Type 0
Connects old (Ok number) new = ConnectsAs old (Some number) new × (new.hub ≡ (connect old.hub).1) × (new.askings ≡ old.askings)
Connects old (Err connects.NoSeat) new = ConnectsAs old None new × (new ≡ old)
Connects old (Err connects.NoMemory) new = ((connect old.hub).0 ≡ Some old.hub.numbers_given) × (new ≡ old)

-- what the contract of the hub's call says of it
unfoldable pub Does : AskingHub → HubCall → AskingHub → Type 0
Does old (Took session piece count) new = Takes old session piece count new
Does old (Gave session before after answer) new = Gives old session before after answer new
Does old (Received link datagram answer) new = Hears old link datagram answer new
Does old (Asked link before after answer) new = Asks old link before after answer new
Does old (Went link answer) new = Goes old link answer new
Does old (Passed at fault) new = Passes old at fault new
Does old (Left session) new = Leaves old session new
Does old (Connected answer) new = Connects old answer new

-- the fault of an answer, if it is one
abbrev pub fault_of : {A : Type 0} → Result A HubFault → Option HubFault
fault_of (Ok x) = None
fault_of (Err fault) = Some fault
