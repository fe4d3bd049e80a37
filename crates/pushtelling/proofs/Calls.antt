-- Any calls keep the telling.
use Rattle.std.proofs.Common.{◌≡◌, ℕ, List, [], ◌∷◌, ◌++◌, map, sym, ◌∙◌}
use Rattle.std.specs.Prelude.{IsTrue}
use Rattle.std.specs.List.{AllByRecursion}
use Rattle.dnsname.specs.Names.{Labels, is_name}
use Rattle.rrset.specs.RecordSet.{matching}
use Rattle.dsosession.specs.declared.session.Timers.{Timers}
use Rattle.history.proofs.Starts.{start-home}
use Rattle.history.specs.AtHome.{AreAtHome, named_zones, named_links}
use Rattle.history.specs.Homes.{NamedHome}
use Rattle.history.specs.declared.entry.HomeKind.TheVariants as kinds
use Rattle.linkcache.specs.Rows.{names_of}
use Rattle.history.specs.States.{State, LinkState, records_at}
use Rattle.pushserver.specs.Calls.{HubCall, updates, hears, takes, after_calls, BringsOctets}
use Rattle.pushserver.specs.Hubs.{newest}
use Rattle.pushserver.specs.PlainHubs.{Hub, Session, Subscription, told, note_of, new_hub, sent}
use Rattle.pushserver.specs.ToldMessages.{TellsHistory, set_after}
use Rattle.pushserver.proofs.AskedFor.{IsAsked, all_asked, matching-sent}
use Rattle.pushserver.proofs.Walks.{AnyMessage, BringsGood, bring_any, keeps-calls}
use Rattle.pushserver.proofs.hub_steps.Pairs.{all-weaken}
use Rattle.pushserver.proofs.session_steps.Lists.{each-both}
use Rattle.dsotlv.specs.Laws.{AreOctets}
use Rattle.pushserver.proofs.told_rows.Hubs.{new_tells}
use Rattle.pushserver.proofs.told_rows.Updated.{start-tellable}
use Rattle.pushtelling.specs.Laws.{IsStartOfHomes, SessionsTellTheHistory, MessagesStay}
use Rattle.pushtelling.proofs.Following.{Follows, follows-itself, follows_keeps}
use Rattle.pushtelling.proofs.Hubs.{HubTells, hub_keeps}
use Rattle.pushtelling.proofs.Messages.{LeadsTo, each_right-hub}
use Rattle.pushtelling.proofs.Tells.{Tells}

brings-good : (call : HubCall) → BringsOctets call → BringsGood AreOctets call
brings-good (updates message) octets = octets
brings-good (hears link datagram) octets = octets
brings-good (takes number piece) octets = octets
brings-good _ octets = tt

-- those of reverse domains with others behind them
reverse-names : (reverses : List Labels) (others : List NamedHome) → AllByRecursion (λ h. IsTrue (is_name h.0)) (map (λ r. (r, kinds.Reverse)) reverses ++ others)
    → AllByRecursion (λ n. IsTrue (is_name n)) reverses × AllByRecursion (λ h. IsTrue (is_name h.0)) others
reverse-names [] others all = (tt, all)
reverse-names (r ∷ rs) others all = let more = reverse-names rs others all.1 in ((all.0, more.0), more.1)

-- the names of the links, which stand behind the zones
link-names : (zones : List NamedHome) (links : List LinkState) → AllByRecursion (λ h. IsTrue (is_name h.0)) (zones ++ named_links links) → AllByRecursion (λ l. AllByRecursion (λ n. IsTrue (is_name n)) (names_of l.rules)) links
link-names [] [] all = tt
link-names [] (l ∷ ls) all =
    let more = reverse-names l.rules.reverses (named_links ls) all.1 in
    ((all.0, more.0), link-names [] ls more.1)
link-names (z ∷ zs) ls all = link-names zs ls all.1

pub start-at-home : (start : State) → IsStartOfHomes start → AreAtHome start
start-at-home start is = start-home start is.begins is.apart (link-names (named_zones start.zones) start.links is.names)

pub new-hub : (start : State) (timers : Timers) → IsStartOfHomes start → HubTells (new_hub start timers)
new-hub start timers is = record { states = new_tells start timers (start-tellable start is.begins (start-at-home start is) is.names); sessions = tt }

-- a session of such a hub tells the history
pub tells_history : (hub : Hub) (session : Session) → Tells hub.start hub.history session → TellsHistory hub session
tells_history hub session h = record {
  each = each_right-hub hub [] session.made h.most.each;
  all = each-both (LeadsTo hub.start hub.history session.made (note_of (newest hub) session)) (λ (s : Subscription). IsAsked session.subscriptions s.question)
      (λ (s : Subscription). set_after session.made s ≡ matching s.question (sent hub session s.question.name))
      (λ s right asked. right ∙ sym (matching-sent session.subscriptions s.question (records_at hub.start hub.history (told (note_of (newest hub) session) s.question.name)) asked))
      session.subscriptions h.all (all_asked session.subscriptions);
  notes = h.most.notes;
  ids = h.most.asked.ids;
  questions = h.most.asked.questions;
  whole = h.whole;
}

pub sessions_tell : SessionsTellTheHistory
sessions_tell start timers calls is octets =
    let hub = after_calls calls (new_hub start timers) in
    let good = all-weaken BringsOctets (BringsGood AreOctets) brings-good calls octets in
    let keeps = keeps-calls AreOctets HubTells hub_keeps calls (new_hub start timers) good (new-hub start timers is) in
    all-weaken (λ (e : ℕ × Session). Tells hub.start hub.history e.1) (λ (e : ℕ × Session). TellsHistory hub e.1) (λ e t. tells_history hub e.1 t) hub.sessions keeps.sessions

-- what was told stays
pub messages_stay : MessagesStay
messages_stay hub calls number after low found = (keeps-calls AnyMessage (Follows hub) (follows_keeps hub) calls hub (bring_any calls) (follows-itself hub)).each number after low found
