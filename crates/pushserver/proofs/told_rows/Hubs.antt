-- The history of a hub stays tellable: of a new hub, and after each entry.
--     entered_tells, update_tells, moment_tells, link_tells, new_tells
--     new_stands      what is kept of a new hub stands for it
use Rattle.std.proofs.Common.{◌≡◌, ℕ, List, [], sym, ap, subst, refl, arith}
use Rattle.std.specs.Prelude.{Ok, IsTrue}
use Rattle.std.specs.List.{AllByRecursion, IsDistinct}
use Rattle.dnsname.specs.Names.{is_name}
use Rattle.dsotlv.specs.Laws.{AreOctets}
use Rattle.dsosession.specs.declared.session.Timers.{Timers}
use Rattle.dnswire.specs.declared.message.Update.{Update}
use Rattle.history.specs.Entries.{a_link, brought, concern}
use Rattle.history.specs.Plans.{IsStart}
use Rattle.history.specs.AtHome.{AreAtHome, homes_in}
use Rattle.history.specs.States.{State, after, state_at, verdict}
use Rattle.history.specs.declared.entry.Entry.{Entry}
use Rattle.history.specs.declared.entry.Entry.TheVariants as entries
use Rattle.pushserver.specs.Hubs.{newest, state_now, entered}
use Rattle.pushserver.specs.PlainHubs.{Hub, new_hub}
use Rattle.pushserver.specs.Rows.{IsTellable}
use Rattle.pushserver.specs.KeptHubs.{new_kept, StandsFor}
use Rattle.pushserver.proofs.told_rows.HubTells.{StatesTell}
use Rattle.pushserver.proofs.told_rows.HeardRows.{Brought}
use Rattle.pushserver.proofs.told_rows.Histories.{states-more}
use Rattle.pushserver.proofs.told_rows.Updated.{update-tellable, moment-tellable, link-tellable, start-tellable}

-- ---- an entry

pub entered_tells : (hub : Hub) (entry : Entry) → StatesTell hub → IsTellable (after (state_now hub) entry) → StatesTell (entered entry hub)
entered_tells hub entry states new = states-more hub.start hub.history entry states new

pub update_tells : (hub : Hub) (message : List ℕ) (update : Update) → StatesTell hub → AreOctets message → verdict (state_now hub) message ≡ Ok update → StatesTell (entered (entries.Update update) hub)
update_tells hub message update states octets e = entered_tells hub (entries.Update update) states (update-tellable (state_now hub) message update (states (newest hub) (omega arith)) octets e)

pub moment_tells : (hub : Hub) (t : ℕ) → StatesTell hub → StatesTell (entered (entries.Moment t) hub)
moment_tells hub t states = entered_tells hub (entries.Moment t) states (moment-tellable (state_now hub) t (states (newest hub) (omega arith)))

pub link_tells : (hub : Hub) (entry : Entry) (link : ℕ) → concern entry ≡ a_link link → Brought AreOctets (brought entry) → StatesTell hub → StatesTell (entered entry hub)
link_tells hub entry link one brings states = entered_tells hub entry states (link-tellable (state_now hub) entry link one brings (states (newest hub) (omega arith)))

-- ---- a new hub

pub new_tells : (start : State) (timers : Timers) → IsTellable start → StatesTell (new_hub start timers)
new_tells start timers is point within =
    let first : point ≡ 0 = omega (arith, within) in
    subst IsTellable (sym (ap (λ (n : ℕ). state_at start [] n) first)) is

pub new_stands : (start : State) (timers : Timers) → IsStart start → AreAtHome start → AllByRecursion (λ h. IsTrue (is_name h.0)) (homes_in start) → StandsFor (new_kept start timers) (new_hub start timers)
unfolding IsDistinct
new_stands start timers begins home names = record {
  sound = record { begins = begins; states = new_tells start timers (start-tellable start begins home names); sessions = tt; numbers = tt; few = omega arith };
  timers = refl;
  numbers_given = refl;
  past = record { begins = omega arith; start_is = refl; entries = refl; counts_are = refl };
  state = refl;
  newest = refl;
  since = tt;
  sessions = tt;
}
