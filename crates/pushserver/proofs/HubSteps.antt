-- Each call keeps a hub that stands for a plain one.
--     keeps-hub      what is kept then stands for a plain hub
--     update-stands, hear-stands, gone-stands, moment-stands, connect-stands, take-stands, stop-stands, end-stands, give-stands      each call
use Rattle.std.proofs.Common.{◌≡◌, ℕ, Bool, List, ◌++◌, length, drop, Option, sym, ap, subst, ◌∙◌}
use Rattle.pushserver.specs.declared.given.Given.{Given}
use Rattle.pushserver.specs.declared.given.Heard.{Heard}
use Rattle.pushserver.specs.declared.hub_state.HubState.{HubState}
use Rattle.pushserver.specs.PlainHubs.{Hub}
use Rattle.pushserver.specs.Hubs.{records_now, update, hear, link_gone, moment, connect, taken_by, take_octets, stop, disconnect}
use Rattle.pushserver.specs.Giving.{give}
use Rattle.pushserver.specs.KeptHubs.{KeptHub, Forgets, StandsFor}
use Rattle.dsotlv.specs.Laws.{AreOctets}
use Rattle.pushserver.specs.Simulation.{BothAnswer}
use Rattle.pushserver.specs.HubState.{Gave, IsHub, kept_of}
use Rattle.livesessions.specs.Watched.{Watches}
use Rattle.subscr.specs.Watching.{watching_of}
use Rattle.pushserver.proofs.ForgottenEntries.{forgets-same}
use Rattle.pushserver.proofs.hub_steps.Calls.{updates_stand, hears_stand, goings_stand, moments_stand, connects_stand, takes_stand, stops_stand, ends_stand}
use Rattle.pushserver.proofs.hub_steps.Forgetting.{forgetting_stands}
use Rattle.pushserver.proofs.hub_steps.Giving.{gives_stand}

-- the same is kept
stays : (k later : KeptHub) → later ≡ k → (hub : Hub) → StandsFor k hub → StandsFor later hub
stays k later is hub stands = subst (λ (k : KeptHub). StandsFor k hub) (sym is) stands

-- what stands for a plain hub as it is seen does so as it is kept
pub seen : (k now : KeptHub) → k ≡ now → (hub : Hub) → StandsFor now hub → StandsFor k hub
seen k now view hub stands = stays now k view hub stands

-- what was kept stood for a plain hub; what is kept then does so, too
pub keeps-hub : (keeping later : HubState) (step : Hub → Hub) → later.index.rows ≡ records_now (kept_of later) → Watches (watching_of later.watchers) later.sessions → ((hub : Hub) → StandsFor (kept_of keeping) hub → StandsFor (kept_of later) (step hub)) → IsHub keeping → IsHub later
keeps-hub keeping later step index watched stands is = record { index = index; watched = watched; hub = step is.hub; stands = stands is.hub is.stands }

pub same-hub : (keeping later : HubState) → later.index.rows ≡ records_now (kept_of later) → Watches (watching_of later.watchers) later.sessions → kept_of later ≡ kept_of keeping → IsHub keeping → IsHub later
same-hub keeping later index watched same is = keeps-hub keeping later (λ hub. hub) index watched (stays (kept_of keeping) (kept_of later) same) is

-- an answer, and what is kept then
answers : {X : Type 0} (a : X) (later : KeptHub) (k : X × KeptHub) (p : X × Hub) → a ≡ k.0 → Forgets k.1 later → BothAnswer k p → (a ≡ p.0) × StandsFor later p.1
answers a later k p answer is both = (answer ∙ both.0, forgetting_stands k.1 later p.1 both.1 is)

pub update-stands : (k later : KeptHub) (message : List ℕ) (code : ℕ) → AreOctets message → code ≡ (update k message).0 → Forgets (update k message).1 later
    → (hub : Hub) → StandsFor k hub → (code ≡ (update hub message).0) × StandsFor later (update hub message).1
update-stands k later message code octets code_is is hub stands = answers code later (update k message) (update hub message) code_is is (updates_stand k hub message stands octets)

pub hear-stands : (k later : KeptHub) (link : ℕ) (datagram : List ℕ) (heard : Heard) → AreOctets datagram → heard ≡ (hear k link datagram).0 → Forgets (hear k link datagram).1 later
    → (hub : Hub) → StandsFor k hub → (heard ≡ (hear hub link datagram).0) × StandsFor later (hear hub link datagram).1
hear-stands k later link datagram heard octets heard_is is hub stands = answers heard later (hear k link datagram) (hear hub link datagram) heard_is is (hears_stand k hub link datagram stands octets)

pub gone-stands : (k later : KeptHub) (link : ℕ) (gone : Bool) → gone ≡ (link_gone k link).0 → Forgets (link_gone k link).1 later → (hub : Hub) → StandsFor k hub → (gone ≡ (link_gone hub link).0) × StandsFor later (link_gone hub link).1
gone-stands k later link gone gone_is is hub stands = answers gone later (link_gone k link) (link_gone hub link) gone_is is (goings_stand k hub link stands)

pub moment-stands : (k later : KeptHub) (t : ℕ) → Forgets (moment k t) later → (hub : Hub) → StandsFor k hub → StandsFor later (moment hub t)
moment-stands k later t is hub stands = forgetting_stands (moment k t) later (moment hub t) (moments_stand k hub t stands) is

pub connect-stands : (k later : KeptHub) (number : Option ℕ) → number ≡ (connect k).0 → later ≡ (connect k).1 → (hub : Hub) → StandsFor k hub → ((connect hub).0 ≡ number) × StandsFor later (connect hub).1
connect-stands k later number number_is is hub stands = let both = answers number later (connect k) (connect hub) number_is (forgets-same (connect k).1 later is) (connects_stand k hub stands) in (sym both.0, both.1)

pub take-stands : (k later : KeptHub) (number : ℕ) (piece : List ℕ) (count : ℕ) → AreOctets piece → count ≡ taken_by k number piece → later ≡ take_octets k number piece
    → (hub : Hub) → StandsFor k hub → (count ≡ taken_by hub number piece) × StandsFor later (take_octets hub number piece)
take-stands k later number piece count octets count_is is hub stands =
    answers count later (taken_by k number piece, take_octets k number piece) (taken_by hub number piece, take_octets hub number piece) count_is (forgets-same (take_octets k number piece) later is) (takes_stand k hub number piece stands octets)

pub stop-stands : (k later : KeptHub) (number rcode delay : ℕ) → later ≡ stop k number rcode delay → (hub : Hub) → StandsFor k hub → StandsFor later (stop hub number rcode delay)
stop-stands k later number rcode delay is hub stands = stays (stop k number rcode delay) later is (stop hub number rcode delay) (stops_stand k hub number rcode delay stands)

pub end-stands : (k later : KeptHub) (number : ℕ) → later ≡ disconnect k number → (hub : Hub) → StandsFor k hub → StandsFor later (disconnect hub number)
end-stands k later number is hub stands = stays (disconnect k number) later is (disconnect hub number) (ends_stand k hub number stands)

-- one call of give
pub give-stands : (k later : KeptHub) (number : ℕ) (old new : List ℕ) (given : Given) → Gave (give k number (length old)) given old new later
    → (hub : Hub) → StandsFor k hub → (given ≡ (give hub number (length old)).given) × (new ≡ (give hub number (length old)).octets ++ drop (length (give hub number (length old)).octets) old)
    × StandsFor later (give hub number (length old)).hub
give-stands k later number old new given gave hub stands =
    let both = gives_stand k hub number (length old) stands in
    (gave.given_is ∙ both.given, gave.octets ∙ ap (λ (o : List ℕ). o ++ drop (length o) old) both.octets, forgetting_stands (give k number (length old)).hub later (give hub number (length old)).hub both.hub gave.hub)
