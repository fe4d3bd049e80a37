-- The clauses of one call of the hub are what is said of that call, and what was stood for is so after it.
use Rattle.std.specs.Prelude.{◌≡◌, ℕ, ◌≤◌, Bool, true, List, length, Option, Some, None, Result, Ok, Err, IfOk, IfSome, OnOk, OnErr, IsErrAnd, IsErrOf, refl}
use Rattle.std.proofs.Common.{sym, subst}
use Rattle.pushserver.specs.Calls.{HubCall as PlainCall, ends, gives, goes, hears, moves}
use Rattle.pushserver.specs.PlainHubs.{Hub}
use Rattle.pushserver.specs.Hubs.{can_enter, hear, link_gone, moment, connect, state_now, taken_by, take_octets, disconnect}
use Rattle.pushserver.specs.Giving.{give}
use Rattle.pushserver.specs.KeptHubs.{KeptHub, StandsFor, Forgets}
use Rattle.pushserver.specs.Laws.{MayWantMemory}
use Rattle.pushserver.specs.declared.given.Given.{Given}
use Rattle.pushserver.specs.declared.given.Heard.{Heard}
use Rattle.pushserver.specs.declared.fault.ConnectFault.{ConnectFault}
use Rattle.pushserver.specs.declared.fault.ConnectFault.TheVariants as connects
use Rattle.pushserver.specs.declared.fault.HubFault.{HubFault}
use Rattle.pushserver.specs.declared.fault.HubFault.TheVariants as faults
use Rattle.hubasking.specs.AskingHubs.{AskingHub, given_by, untouched_by}
use Rattle.hubasking.specs.LinkAskings.{ask, asking_after, kept_questions, plain_questions}
use Rattle.hubloops.specs.Calls.{HubCall, Does, Took, Gave, Received, Asked, Went, Passed, Left, Connected, fault_of, Stands, GivesAs, Gives, Hears, Asks, Goes, Passes, Connects}

-- what links are asked behind each call that gives an answer
abbrev AskedBy : {A : Type 0} → Result A HubFault → AskingHub → PlainCall → AskingHub → Type 0
AskedBy answer old call new = OnOk answer (new.askings ≡ asking_after kept_questions call old.hub old.askings)

abbrev AskedByAll : {A : Type 0} → Result A HubFault → AskingHub → PlainCall → AskingHub → Type 0
AskedByAll answer old call new = OnOk answer ((hub : Hub) → StandsFor old.hub hub → new.askings ≡ asking_after plain_questions call hub old.askings)

pub does_take : (old new : AskingHub) (session : ℕ) (piece : List ℕ) (count : ℕ)
    → ((hub : Hub) → StandsFor old.hub hub → count ≡ taken_by hub session piece)
    → Stands old new (λ hub. take_octets hub session piece)
    → new.hub ≡ take_octets old.hub session piece
    → new.askings ≡ old.askings
    → Does old (Took session piece count) new
unfolding Does
does_take old new session piece count a b c d = (a, b, c, d)

pub does_leave : (old new : AskingHub) (session : ℕ)
    → Stands old new (λ hub. disconnect hub session)
    → new.hub ≡ disconnect old.hub session
    → new.askings ≡ asking_after kept_questions (ends session) old.hub old.askings
    → ((hub : Hub) → StandsFor old.hub hub → new.askings ≡ asking_after plain_questions (ends session) hub old.askings)
    → Does old (Left session) new
unfolding Does
does_leave old new session a b c d = (a, b, (c, d))

passes_of : {A : Type 0} (old new : AskingHub) (at : ℕ) (answer : Result A HubFault)
    → OnOk answer ((hub : Hub) → StandsFor old.hub hub → StandsFor new.hub (moment hub at))
    → OnOk answer (Forgets (moment old.hub at) new.hub)
    → OnErr answer (new ≡ old)
    → OnErr answer (can_enter old.hub ≡ true)
    → AskedBy answer old (moves at) new → AskedByAll answer old (moves at) new
    → Passes old at (fault_of answer) new
passes_of old new at (Ok x) ok kept same room asking asks = (ok, kept, (asking, asks))
passes_of old new at (Err faults.NoMemory) ok kept same room asking asks = (room, same)

pub does_pass : {A : Type 0} (old new : AskingHub) (at : ℕ) (answer : Result A HubFault)
    → OnOk answer ((hub : Hub) → StandsFor old.hub hub → StandsFor new.hub (moment hub at))
    → OnOk answer (Forgets (moment old.hub at) new.hub)
    → OnErr answer (new ≡ old)
    → OnErr answer (can_enter old.hub ≡ true)
    → AskedBy answer old (moves at) new → AskedByAll answer old (moves at) new
    → Does old (Passed at (fault_of answer)) new
unfolding Does
does_pass old new at answer ok kept same room asking asks = passes_of old new at answer ok kept same room asking asks

hears_of : (old new : AskingHub) (link : ℕ) (datagram : List ℕ) (answer : Result Heard HubFault)
    → IfOk answer (λ heard. (hub : Hub) → StandsFor old.hub hub → (heard ≡ (hear hub link datagram).0) × StandsFor new.hub (hear hub link datagram).1)
    → IfOk answer (λ heard. (heard ≡ (hear old.hub link datagram).0) × Forgets (hear old.hub link datagram).1 new.hub)
    → OnErr answer (new ≡ old)
    → AskedBy answer old (hears link datagram) new → AskedByAll answer old (hears link datagram) new
    → Hears old link datagram answer new
hears_of old new link datagram (Ok heard) ok kept same asking asks = ((ok, kept.0), kept.1, (asking, asks))
hears_of old new link datagram (Err faults.NoMemory) ok kept same asking asks = same

pub does_hear : (old new : AskingHub) (link : ℕ) (datagram : List ℕ) (answer : Result Heard HubFault)
    → IfOk answer (λ heard. (hub : Hub) → StandsFor old.hub hub → (heard ≡ (hear hub link datagram).0) × StandsFor new.hub (hear hub link datagram).1)
    → IfOk answer (λ heard. (heard ≡ (hear old.hub link datagram).0) × Forgets (hear old.hub link datagram).1 new.hub)
    → OnErr answer (new ≡ old)
    → AskedBy answer old (hears link datagram) new → AskedByAll answer old (hears link datagram) new
    → Does old (Received link datagram answer) new
unfolding Does
does_hear old new link datagram answer ok kept same asking asks = hears_of old new link datagram answer ok kept same asking asks

pub does_ask : (old new : AskingHub) (link : ℕ) (before after : List ℕ) (count : Option ℕ)
    → (given_by count after, new.askings) ≡ ask (state_now old.hub) old.askings link
    → ((hub : Hub) → StandsFor old.hub hub → (given_by count after, new.askings) ≡ ask (state_now hub) old.askings link)
    → IfSome count (λ n. n ≤ length before)
    → length after ≡ length before
    → untouched_by count after ≡ untouched_by count before
    → new.hub ≡ old.hub
    → Does old (Asked link before after (Ok count)) new
unfolding Does
does_ask old new link before after count asked asks bound size rest same = (asked, asks, bound, size, rest, same)

asks_not : (Q : HubFault → Type 0) (old new : AskingHub) (link : ℕ) (before after : List ℕ) (answer : Result (Option ℕ) HubFault) → IsErrAnd answer Q → after ≡ before → new ≡ old → Asks old link before after answer new
asks_not Q old new link before after (Ok count) err untouched same = absurd err
asks_not Q old new link before after (Err faults.NoMemory) err untouched same = (untouched, same)

pub does_not_ask : (Q : HubFault → Type 0) (old new : AskingHub) (link : ℕ) (before after : List ℕ) (answer : Result (Option ℕ) HubFault)
    → IsErrAnd answer Q
    → after ≡ before
    → new ≡ old
    → Does old (Asked link before after answer) new
unfolding Does
does_not_ask Q old new link before after answer err untouched same = asks_not Q old new link before after answer err untouched same

goes_of : (old new : AskingHub) (link : ℕ) (answer : Result Bool HubFault)
    → IfOk answer (λ gone. (hub : Hub) → StandsFor old.hub hub → (gone ≡ (link_gone hub link).0) × StandsFor new.hub (link_gone hub link).1)
    → IfOk answer (λ gone. (gone ≡ (link_gone old.hub link).0) × Forgets (link_gone old.hub link).1 new.hub)
    → OnErr answer (new ≡ old)
    → AskedBy answer old (goes link) new → AskedByAll answer old (goes link) new
    → Goes old link answer new
goes_of old new link (Ok gone) ok kept same asking asks = ((ok, kept.0), kept.1, (asking, asks))
goes_of old new link (Err faults.NoMemory) ok kept same asking asks = same

pub does_go : (old new : AskingHub) (link : ℕ) (answer : Result Bool HubFault)
    → IfOk answer (λ gone. (hub : Hub) → StandsFor old.hub hub → (gone ≡ (link_gone hub link).0) × StandsFor new.hub (link_gone hub link).1)
    → IfOk answer (λ gone. (gone ≡ (link_gone old.hub link).0) × Forgets (link_gone old.hub link).1 new.hub)
    → OnErr answer (new ≡ old)
    → AskedBy answer old (goes link) new → AskedByAll answer old (goes link) new
    → Does old (Went link answer) new
unfolding Does
does_go old new link answer ok kept same asking asks = goes_of old new link answer ok kept same asking asks

gives_of : (old new : AskingHub) (session : ℕ) (before after : List ℕ) (answer : Result Given HubFault)
    → IfOk answer (λ given. GivesAs old session before after given new)
    → OnErr answer ((hub : Hub) → StandsFor old.hub hub → MayWantMemory hub session)
    → OnOk answer (Forgets (give old.hub session (length before)).hub new.hub)
    → OnErr answer (new ≡ old)
    → AskedBy answer old (gives session (length before)) new → AskedByAll answer old (gives session (length before)) new
    → Gives old session before after answer new
gives_of old new session before after (Ok given) ok memory kept same asking asks = (ok, kept, (asking, asks))
gives_of old new session before after (Err faults.NoMemory) ok memory kept same asking asks = (same, memory)

pub does_give : (old new : AskingHub) (session : ℕ) (before after : List ℕ) (answer : Result Given HubFault)
    → IfOk answer (λ given. GivesAs old session before after given new)
    → OnErr answer ((hub : Hub) → StandsFor old.hub hub → MayWantMemory hub session)
    → OnOk answer (Forgets (give old.hub session (length before)).hub new.hub)
    → OnErr answer (new ≡ old)
    → AskedBy answer old (gives session (length before)) new → AskedByAll answer old (gives session (length before)) new
    → Does old (Gave session before after answer) new
unfolding Does
does_give old new session before after answer ok memory kept same asking asks = gives_of old new session before after answer ok memory kept same asking asks

connects_of : (old new : AskingHub) (answer : Result ℕ ConnectFault)
    → IfOk answer (λ number. (hub : Hub) → StandsFor old.hub hub → ((connect hub).0 ≡ Some number) × StandsFor new.hub (connect hub).1)
    → (IsErrOf answer connects.NoSeat → (hub : Hub) → StandsFor old.hub hub → ((connect hub).0 ≡ None) × StandsFor new.hub (connect hub).1)
    → IfOk answer (λ number. ((connect old.hub).0 ≡ Some number) × (new.hub ≡ (connect old.hub).1))
    → OnErr answer (new ≡ old)
    → (IsErrOf answer connects.NoMemory → (connect old.hub).0 ≡ Some old.hub.numbers_given)
    → (IsErrOf answer connects.NoSeat → (connect old.hub).0 ≡ None)
    → new.askings ≡ old.askings
    → Connects old answer new
connects_of old new (Ok number) ok no_seat kept same seat seats asking = ((ok, kept.0), kept.1, asking)
connects_of old new (Err connects.NoSeat) ok no_seat kept same seat seats asking = ((no_seat refl, seats refl), same)
connects_of old new (Err connects.NoMemory) ok no_seat kept same seat seats asking = (seat refl, same)

pub does_connect : (old new : AskingHub) (answer : Result ℕ ConnectFault)
    → IfOk answer (λ number. (hub : Hub) → StandsFor old.hub hub → ((connect hub).0 ≡ Some number) × StandsFor new.hub (connect hub).1)
    → (IsErrOf answer connects.NoSeat → (hub : Hub) → StandsFor old.hub hub → ((connect hub).0 ≡ None) × StandsFor new.hub (connect hub).1)
    → IfOk answer (λ number. ((connect old.hub).0 ≡ Some number) × (new.hub ≡ (connect old.hub).1))
    → OnErr answer (new ≡ old)
    → (IsErrOf answer connects.NoMemory → (connect old.hub).0 ≡ Some old.hub.numbers_given)
    → (IsErrOf answer connects.NoSeat → (connect old.hub).0 ≡ None)
    → new.askings ≡ old.askings
    → Does old (Connected answer) new
unfolding Does
does_connect old new answer ok no_seat kept same seat seats asking = connects_of old new answer ok no_seat kept same seat seats asking

-- ---- a hub that stands for a plain one does so after each call

abbrev pub StandsForOne : AskingHub → Type 0
StandsForOne k = (hub : Hub) × StandsFor k.hub hub

stays : (old new : AskingHub) → new ≡ old → StandsForOne old → StandsForOne new
stays old new same s = subst StandsForOne (sym same) s

gives_stands : (old new : AskingHub) (session : ℕ) (before after : List ℕ) (answer : Result Given HubFault) → Gives old session before after answer new → StandsForOne old → StandsForOne new
gives_stands old new session before after (Ok given) d (hub, s) = ((give hub session (length before)).hub, (d.0 hub s).2)
gives_stands old new session before after (Err faults.NoMemory) d s = stays old new d.0 s

hears_stands : (old new : AskingHub) (link : ℕ) (datagram : List ℕ) (answer : Result Heard HubFault) → Hears old link datagram answer new → StandsForOne old → StandsForOne new
hears_stands old new link datagram (Ok heard) d (hub, s) = ((hear hub link datagram).1, (d.0.0 hub s).1)
hears_stands old new link datagram (Err faults.NoMemory) d s = stays old new d s

asks_stands : (old new : AskingHub) (link : ℕ) (before after : List ℕ) (answer : Result (Option ℕ) HubFault) → Asks old link before after answer new → StandsForOne old → StandsForOne new
asks_stands old new link before after (Ok count) d (hub, s) = (hub, subst (λ (k : KeptHub). StandsFor k hub) (sym d.5) s)
asks_stands old new link before after (Err faults.NoMemory) d s = stays old new d.1 s

goes_stands : (old new : AskingHub) (link : ℕ) (answer : Result Bool HubFault) → Goes old link answer new → StandsForOne old → StandsForOne new
goes_stands old new link (Ok gone) d (hub, s) = ((link_gone hub link).1, (d.0.0 hub s).1)
goes_stands old new link (Err faults.NoMemory) d s = stays old new d s

passes_stands : (old new : AskingHub) (at : ℕ) (fault : Option HubFault) → Passes old at fault new → StandsForOne old → StandsForOne new
passes_stands old new at None d (hub, s) = (moment hub at, d.0 hub s)
passes_stands old new at (Some faults.NoMemory) d s = stays old new d.1 s

connects_stands : (old new : AskingHub) (answer : Result ℕ ConnectFault) → Connects old answer new → StandsForOne old → StandsForOne new
connects_stands old new (Ok number) d (hub, s) = ((connect hub).1, (d.0.0 hub s).1)
connects_stands old new (Err connects.NoSeat) d s = stays old new d.1 s
connects_stands old new (Err connects.NoMemory) d s = stays old new d.1 s

pub stands_after : (call : HubCall) (old new : AskingHub) → Does old call new → StandsForOne old → StandsForOne new
unfolding Does
stands_after (Took session piece count) old new d (hub, s) = (take_octets hub session piece, d.1 hub s)
stands_after (Gave session before after answer) old new d s = gives_stands old new session before after answer d s
stands_after (Received link datagram answer) old new d s = hears_stands old new link datagram answer d s
stands_after (Asked link before after answer) old new d s = asks_stands old new link before after answer d s
stands_after (Went link answer) old new d s = goes_stands old new link answer d s
stands_after (Passed at fault) old new d s = passes_stands old new at fault d s
stands_after (Left session) old new d (hub, s) = (disconnect hub session, d.0 hub s)
stands_after (Connected answer) old new d s = connects_stands old new answer d s
