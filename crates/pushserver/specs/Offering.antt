-- An entry that is offered to a hub: it is made where it is accepted and the point isn't the last one.
--     offered entry hub      what became of it, and the hub after it
--     offered_changes entry hub      the keys that it would change
--     code_of, heard_of, is_made      what that says of an update, which is never idle; of a hearing, which is never refused; of a link that goes
use Rattle.std.specs.Prelude.{ℕ, Bool, true, false, List, [], if◌then◌else◌}
use Rattle.rrset.specs.Rcodes.{noerror, servfail}
use Rattle.rrset.specs.declared.record.Changed.{Changed}
use Rattle.history.specs.Plans.{Plan, refuse, idle, accept, planned}
use Rattle.history.specs.declared.entry.Entry.{Entry}
use Rattle.pushserver.specs.declared.entering.Offered.{Offered}
use Rattle.pushserver.specs.declared.entering.Offered.TheVariants as offers
use Rattle.pushserver.specs.declared.given.Heard.{Heard}
use Rattle.pushserver.specs.declared.given.Heard.TheVariants.{Entered, Ignored}
use Rattle.pushserver.specs.declared.given.Why.TheVariants as whys
use Rattle.pushserver.specs.Hubs.{SessionKind, HubOf, state_now, entered_keeping, can_enter}

abbrev pub offered_by : {A Q M S : Type 0} {kind : SessionKind A Q M S} → Plan → Entry → HubOf kind → Offered × HubOf kind
offered_by (refuse code) entry hub = (offers.Refused code, hub)
offered_by idle entry hub = (offers.Idle, hub)
offered_by (accept changed) entry hub = if can_enter hub then (offers.Made, entered_keeping entry hub) else (offers.Last, hub)

abbrev pub offered : {A Q M S : Type 0} {kind : SessionKind A Q M S} → Entry → HubOf kind → Offered × HubOf kind
offered entry hub = offered_by (planned (state_now hub) entry) entry hub

abbrev pub code_of : Offered → ℕ
code_of (offers.Refused code) = code
code_of offers.Made = noerror
code_of _ = servfail

abbrev pub heard_of : Offered → Heard
heard_of offers.Made = Entered
heard_of offers.Last = Ignored whys.Last
heard_of _ = Ignored whys.Nothing

abbrev pub is_made : Offered → Bool
is_made offers.Made = true
is_made _ = false

-- the keys that an entry which is offered would change: none where it isn't accepted
abbrev pub changes_by : Plan → List Changed
changes_by (refuse code) = []
changes_by idle = []
changes_by (accept changed) = changed

abbrev pub offered_changes : {A Q M S : Type 0} {kind : SessionKind A Q M S} → Entry → HubOf kind → List Changed
offered_changes entry hub = changes_by (planned (state_now hub) entry)
