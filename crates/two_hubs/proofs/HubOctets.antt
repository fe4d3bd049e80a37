-- Each record that a hub to which calls lead has, or has had, has rdata of octets.
--     reached-below
use Rattle.std.proofs.Common.{◌≡◌, ℕ, ◌≤◌, Bool, true, false, leb, List, [], ◌∷◌, ◌++◌, length, refl, sym, ap, subst, ◌∙◌, arith}
use Rattle.std.specs.Prelude.{IsTrue}
use Rattle.std.specs.List.{AllByRecursion}
use Rattle.std.proofs.lemmas.Bool.{leb-true, leb-false}
use Rattle.std.proofs.lemmas.List.{length-append}
use Rattle.dnsname.specs.Names.{IsName, is_name}
use Rattle.dnsname.proofs.Decisions.{is_name-Decides}
use Rattle.dsotlv.specs.Laws.{AreOctets}
use Rattle.dsosession.specs.declared.session.Timers.{Timers}
use Rattle.zoneupdate.specs.Zones.{ZoneState}
use Rattle.history.specs.AtHome.{named_zones, named_links}
use Rattle.history.specs.Homes.{NamedHome}
use Rattle.history.specs.States.{State, after, state_at}
use Rattle.history.specs.declared.entry.Entry.{Entry}
use Rattle.history.proofs.LongerHistory.{state_at-append}
use Rattle.pushserver.specs.Calls.{HubCall, updates, hears, goes, moves, connects, takes, gives, stops, ends}
use Rattle.pushserver.specs.Hubs.{newest, state_now, entered}
use Rattle.pushserver.specs.PlainHubs.{Hub, new_hub}
use Rattle.pushserver.proofs.Walks.{Entering, by_update, by_moment, by_link, IsKept, BringsGood, keeps-calls}
use Rattle.pushserver.proofs.hub_steps.Pairs.{all-weaken}
use Rattle.pushserver.proofs.told_rows.Histories.{state_at-last}
use Rattle.pushtelling.specs.Laws.{IsStartOfHomes}
use Rattle.pushtelling.proofs.Calls.{new-hub}
use Rattle.pushtelling.proofs.Hubs.{HubTells, hub_keeps}
use Rattle.script_laws.specs.Reached.{FitsCall, IsReached}
use Rattle.two_hubs.proofs.RowOctets.{StateBelow, start-below, update-below, moment-below, link-below}

-- ---- states of a history

module _ (P : State → Type 0) where
  abbrev pub EachState : Hub → Type 0
  EachState hub = (point : ℕ) → point ≤ newest hub → P (state_at hub.start hub.history point)

  pub one-more : (start : State) (history : List Entry) (entry : Entry) → ((point : ℕ) → point ≤ length history → P (state_at start history point)) → P (after (state_at start history (length history)) entry)
      → (point : ℕ) → point ≤ length (history ++ entry ∷ []) → P (state_at start (history ++ entry ∷ []) point)
  one-more start history entry old new point within = by (leb point (length history)) refl
    where
      by : (b : Bool) → leb point (length history) ≡ b → P (state_at start (history ++ entry ∷ []) point)
      by true is =
          let early = leb-true point (length history) is in
          subst P (sym (state_at-append start history (entry ∷ []) point early)) (old point early)
      by false is =
          let late = leb-false point (length history) is in
          let last : point ≡ length (history ++ entry ∷ []) = omega (arith, late, within, length-append history (entry ∷ [])) in
          subst P (sym (ap (state_at start (history ++ entry ∷ [])) last ∙ state_at-last start history entry)) new

-- ---- the walk

record HubBelow (hub : Hub) : Type 0 where
  pub tells : HubTells hub
  pub states : EachState StateBelow hub

enters-below : (hub : Hub) (entry : Entry) → Entering AreOctets hub entry → EachState StateBelow hub → EachState StateBelow (entered entry hub)
enters-below hub entry (by_update message u octets is room) h = one-more StateBelow hub.start hub.history entry h (update-below (state_now hub) message u (h (newest hub) (omega arith)) octets is)
enters-below hub entry (by_moment t room) h = one-more StateBelow hub.start hub.history entry h (moment-below (state_now hub) t (h (newest hub) (omega arith)))
enters-below hub entry (by_link made link one brings is room) h = one-more StateBelow hub.start hub.history entry h (link-below (state_now hub) entry link one brings (h (newest hub) (omega arith)))

below-kept : IsKept AreOctets HubBelow
below-kept = record {
  reads = λ hub number session found there is h. hub_keeps.reads hub number session found there is h.tells;
  takes_up = λ hub number session found there is h. record { tells = hub_keeps.takes_up hub number session found there is h.tells; states = h.states };
  changes = λ hub number f step h. record { tells = hub_keeps.changes hub number f step h.tells; states = h.states };
  enters = λ hub entry by h. record { tells = hub_keeps.enters hub entry by h.tells; states = enters-below hub entry by h.states };
  ends = λ hub point reason h. record { tells = hub_keeps.ends hub point reason h.tells; states = h.states };
  takes_in = λ hub number piece good h. record { tells = hub_keeps.takes_in hub number piece good h.tells; states = h.states };
  asks_stop = λ hub number rcode delay h. record { tells = hub_keeps.asks_stop hub number rcode delay h.tells; states = h.states };
  makes = λ hub h. record { tells = hub_keeps.makes hub h.tells; states = h.states };
  drops = λ hub number h. record { tells = hub_keeps.drops hub number h.tells; states = h.states };
}

brings-good : (call : HubCall) → FitsCall call → BringsGood AreOctets call
brings-good (updates message) fit = fit.0
brings-good (hears link datagram) fit = fit.0
brings-good (goes link) fit = tt
brings-good (moves t) fit = tt
brings-good connects fit = tt
brings-good (takes number piece) fit = fit.0
brings-good (gives number room) fit = tt
brings-good (stops number rcode delay) fit = tt
brings-good (ends number) fit = tt

-- ---- a new hub

zone-names : (zones : List ZoneState) (others : List NamedHome) → AllByRecursion (λ h. IsTrue (is_name h.0)) (named_zones zones ++ others) → AllByRecursion (λ (z : ZoneState). IsName z.apex) zones
zone-names [] others h = tt
zone-names (z ∷ zones) others h = ((is_name-Decides z.apex).0 h.0, zone-names zones others h.1)

new-states : (start : State) (timers : Timers) → IsStartOfHomes start → EachState StateBelow (new_hub start timers)
new-states start timers is point within =
    let first : point ≡ 0 = omega (arith, within) in
    subst StateBelow (sym (ap (λ (n : ℕ). state_at start [] n) first)) (start-below start is.begins (zone-names start.zones (named_links start.links) is.names))

pub reached-below : (hub : Hub) → IsReached hub → EachState StateBelow hub
reached-below hub r =
    let first : Hub = new_hub r.start r.timers in
    let good = all-weaken FitsCall (BringsGood AreOctets) brings-good r.calls r.fit in
    let kept = keeps-calls AreOctets HubBelow below-kept r.calls first good (record { tells = new-hub r.start r.timers r.homes; states = new-states r.start r.timers r.homes }) in
    subst (EachState StateBelow) (sym r.is) kept.states
