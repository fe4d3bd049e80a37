-- What calls leave of a hub's history, and a hub without links.
--     Grew hub later, calls-grow      the start stays, and entries are appended
--     records-stay      so the records of a point stay
--     Unlinked hub, no-links      a hub that began without links never has one
--     no-key      and nothing is reconfirmed there
use Rattle.std.proofs.Common.{◌≡◌, ℕ, zero, suc, ◌≤◌, Bool, true, false, cond, ltb, List, [], ◌∷◌, ◌++◌, map, fold, take, Option, Some, None, Result, Ok, Err, refl, sym, ap, ◌∙◌, append_assoc, append-nil}
use Rattle.std.specs.Prelude.{slice_get, option_map, option_and_then}
use Rattle.push_base.specs.Cases.{changed_at}
use Rattle.dnswire.specs.declared.message.Update.{Update}
use Rattle.dnswire.proofs.Entries.{done_then, same_done}
use Rattle.rrset.specs.RecordSet.{RecordSet}
use Rattle.rrset.specs.Records.{key_of}
use Rattle.rrset.specs.declared.record.Rr.{Rr}
use Rattle.rrset.specs.declared.record.Key.{Key}
use Rattle.zoneupdate.specs.Zones.{ZoneState}
use Rattle.zoneupdate.specs.Updates.{judged}
use Rattle.linkcache.specs.Rows.{heard_by}
use Rattle.history.specs.Entries.{Concern, a_zone, a_link, all_links, concern}
use Rattle.history.specs.States.{State, LinkState, home_names, zone_for, with_rows, updated, link_after, link_at_moment, after, after_by, records, state_at, records_at, key_heard, reconfirm_key, home_of}
use Rattle.history.specs.declared.entry.Entry.{Entry}
use Rattle.history.specs.declared.entry.Home.{Home}
use Rattle.history.specs.declared.entry.Home.TheVariants as homes
use Rattle.history.proofs.LongerHistory.{state_at-append}
use Rattle.pushserver.specs.Calls.{HubCall, after_calls}
use Rattle.pushserver.specs.Hubs.{newest}
use Rattle.pushserver.specs.PlainHubs.{Hub}
use Rattle.pushserver.proofs.Walks.{AnyMessage, IsKept, bring_any, keeps-calls}

-- ---- the history grows

pub record Grew (hub later : Hub) : Type 0 where
  pub start : later.start ≡ hub.start
  pub more : List Entry
  pub is : later.history ≡ hub.history ++ more

grows-kept : (hub : Hub) → IsKept AnyMessage (Grew hub)
grows-kept hub = record {
  reads = λ later number session found there is h. tt;
  takes_up = λ later number session found there is h. record { start = h.start; more = h.more; is = h.is };
  changes = λ later number f step h. record { start = h.start; more = h.more; is = h.is };
  enters = λ later entry by h. record { start = h.start; more = h.more ++ entry ∷ []; is = ap (λ (es : List Entry). es ++ entry ∷ []) h.is ∙ append_assoc hub.history h.more (entry ∷ []) };
  ends = λ later point reason h. record { start = h.start; more = h.more; is = h.is };
  takes_in = λ later number piece any h. record { start = h.start; more = h.more; is = h.is };
  asks_stop = λ later number rcode delay h. record { start = h.start; more = h.more; is = h.is };
  makes = λ later h. record { start = h.start; more = h.more; is = h.is };
  drops = λ later number h. record { start = h.start; more = h.more; is = h.is };
}

pub calls-grow : (hub : Hub) (calls : List HubCall) → Grew hub (after_calls calls hub)
calls-grow hub calls = keeps-calls AnyMessage (Grew hub) (grows-kept hub) calls hub (bring_any calls) (record { start = refl; more = []; is = sym (append-nil hub.history) })

pub records-stay : (hub later : Hub) (point : ℕ) → Grew hub later → point ≤ newest hub → records_at later.start later.history point ≡ records_at hub.start hub.history point
records-stay hub later point g within = (λ i. records_at (g.start i) (g.is i) point) ∙ ap records (state_at-append hub.start hub.history g.more point within)

-- ---- no links

updated-links : (state : State) (update : Update) (later : State) → updated state update ≡ Ok later → later.links ≡ state.links
updated-links state update later e =
    let zone = done_then {A = ZoneState} (zone_for state update.zones) _ later e in
    let rows = done_then {A = RecordSet} (judged (home_names state) zone.0 update) _ later zone.2 in
    ap (λ (s : State). s.links) (sym (same_done (with_rows state zone.0.apex rows.0) later rows.2))

changed-none : (f : LinkState → LinkState) (place : ℕ) → changed_at place f [] ≡ []
changed-none f zero = refl
changed-none f (suc place) = refl

pub after-links : (state : State) (entry : Entry) → state.links ≡ [] → (after state entry).links ≡ []
after-links state entry none = by (concern entry)
  where
    by : (c : Concern) → (after_by entry state c).links ≡ []
    by (a_zone update) = of_update (updated state update) refl
      where
        of_update : (r : Result State ℕ) → updated state update ≡ r → (elim r as (λ _. State) [ Err code ↦ state | Ok later ↦ later ]).links ≡ []
        of_update (Err code) is = none
        of_update (Ok later) is = updated-links state update later is ∙ none
    by (a_link place) = ap (changed_at place (link_after entry state.now)) none ∙ changed-none (link_after entry state.now) place
    by (all_links t) = of_moment (ltb state.now t)
      where
        of_moment : (b : Bool) → (cond b (record state { now = t; links = map (link_at_moment t) state.links }) state).links ≡ []
        of_moment true = ap (map (link_at_moment t)) none
        of_moment false = none

abbrev pub Unlinked : Hub → Type 0
Unlinked hub = hub.start.links ≡ []

folded-links : (entries : List Entry) (state : State) → state.links ≡ [] → (fold after state entries).links ≡ []
folded-links [] state none = none
folded-links (entry ∷ entries) state none = folded-links entries (after state entry) (after-links state entry none)

pub no-links : (hub : Hub) (point : ℕ) → Unlinked hub → (state_at hub.start hub.history point).links ≡ []
no-links hub point none = folded-links (take point hub.history) hub.start none

pub unlinked-on : (hub : Hub) (calls : List HubCall) → Unlinked hub → Unlinked (after_calls calls hub)
unlinked-on hub calls none = ap (λ (s : State). s.links) (calls-grow hub calls).start ∙ none

none-there : (i : ℕ) (links : List LinkState) → links ≡ [] → slice_get links i ≡ None
none-there i [] none = by i
  where
    by : (i : ℕ) → ◌≡◌ {A = Option LinkState} (slice_get [] i) None
    by zero = refl
    by (suc i) = refl
none-there i (l ∷ links) none = absurd cc

abbrev asked_at : Rr → ℕ → Option LinkState → Option (ℕ × Key)
asked_at rr i o = option_and_then (λ (l : LinkState). option_map (λ r. (i, key_of r)) (heard_by l.rules rr)) o

pub no-key : (state : State) (rr : Rr) → state.links ≡ [] → reconfirm_key state rr ≡ None
no-key state rr none = by (home_of state rr.owner)
  where
    by : (o : Option Home) → key_heard state rr o ≡ None
    by None = refl
    by (Some (homes.Zone i)) = refl
    by (Some (homes.Link i)) = ap (asked_at rr i) (none-there i state.links none)
