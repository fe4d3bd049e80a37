-- What a peer sends, and what changes the hub alone.
--     sends-stand      octets to the session of a peer and back
--     updates-stand, links-stand, stops-stand      calls of the hub
use Rattle.std.proofs.Common.{◌≡◌, ℕ, ◌<◌, ◌^◌, Bool, true, false, cond, List, [], ◌∷◌, ◌++◌, find, Option, Some, None, option_map, refl, sym, ap, subst}
use Rattle.std.specs.Prelude.{IsTrue, codes}
use Rattle.std.specs.List.{AllByRecursion}
use Rattle.std.specs.Str.{bytes_eq}
use Rattle.coalesce.proofs.ReadBack.{each-append}
use Rattle.dsotlv.specs.Laws.{AreOctets}
use Rattle.dsosession.specs.declared.session.EndReason.{EndReason}
use Rattle.pushserver.specs.PlainHubs.{Hub}
use Rattle.pushserver.specs.Hubs.{connect}
use Rattle.pushserver.specs.Calls.{updates as updating, stops as stopping}
use Rattle.scripts.specs.Lines.{Word}
use Rattle.scripts.specs.declared.line.LinkEvent.{LinkEvent}
use Rattle.scripts.specs.declared.line.LinkEvent.TheVariants as link_events
use Rattle.scripts.specs.Scripts.{is_peer}
use Rattle.replay.specs.World.{World, seat_of, number_in, session_number, cut_peer}
use Rattle.replay.specs.PassedOctets.{Exchanged, exchanged, enough}
use Rattle.replay.specs.Text.{Printed, printing, link_calls, link_does, updates, exchanges, sends, asked_to_stop, stops}
use Rattle.scripts.proofs.lines.SameWords.{word_itself}
use Rattle.replay.proofs.worlds.LinesDoing.{stop-does}
use Rattle.script_laws.specs.Lines.{IsLinkWithin}
use Rattle.script_laws.specs.Numbers.{KeepsNumbers, IsForNoOther, AreForNoOther}
use Rattle.script_laws.specs.Reached.{FitsCall}
use Rattle.script_laws.specs.Joined.{ShownToEach, WorldStands}
use Rattle.script_laws.specs.Walk.{IsExchangeOf}
use Rattle.script_laws.proofs.lines.Premises.{LineLaws}
use Rattle.script_laws.proofs.lines.Knowing.{LeadsTo, leads-none, leads-on}
use Rattle.script_laws.proofs.lines.Opening.{peer-cut}

-- the number of a peer that comes
number-new : (w : Word) (n : ℕ) (peers : List (Word × ℕ)) → number_in peers w ≡ None → number_in (peers ++ (w, n) ∷ []) w ≡ Some n
number-new w n [] none = ap (λ (b : Bool). option_map (λ (e : Word × ℕ). e.1) (cond b (Some (w, n)) None)) (word_itself w)
number-new w n (e ∷ es) none = by (bytes_eq e.0 w) none (number-new w n es)
  where
    sought : List (Word × ℕ) → Option (Word × ℕ)
    sought xs = find (λ (x : Word × ℕ). bytes_eq x.0 w) xs

    by : (b : Bool) → option_map (λ (x : Word × ℕ). x.1) (cond b (Some e) (sought es)) ≡ None → (number_in es w ≡ None → number_in (es ++ (w, n) ∷ []) w ≡ Some n)
        → option_map (λ (x : Word × ℕ). x.1) (cond b (Some e) (sought (es ++ (w, n) ∷ []))) ≡ Some n
    by true none rest = absurd cc
    by false none rest = rest none

-- a call on a link fits, and neither connects nor is for a session
link-is-own : (event : LinkEvent) (w : Word) (world : World) (session : Option ℕ) → IsLinkWithin event
    → AllByRecursion FitsCall (link_calls event w world) × AllByRecursion KeepsNumbers (link_calls event w world) × AllByRecursion (IsForNoOther session) (link_calls event w world)
link-is-own (link_events.Hear datagram) w world session within = (((within.0, tt), tt), (tt, tt), (tt, tt))
link-is-own link_events.Gone w world session within = (((tt, tt), tt), (tt, tt), (tt, tt))
link-is-own link_events.Asks w world session within = (tt, tt, tt)

module _ (laws : LineLaws) (all : List Word) (shown : ShownToEach) where
  -- ---- calls of the hub

  module _ (world : World) (stands : WorldStands shown world) where
    pub updates-stand : (message : List ℕ) → AreOctets message → LeadsTo all shown world (updates message world).0
    updates-stand message good = record {
      stands = laws.hubs_go_on shown world [] (updating message ∷ []) stands ((good, tt), tt) (tt, tt) (tt, tt);
      clients = λ w. refl;
      peers = λ h. h;
    }

    -- what happens on the link of a word
    pub links-stand : (w : Word) (event : LinkEvent) → IsLinkWithin event → LeadsTo all shown world (link_does event w world).0
    links-stand w event within =
        let own = link-is-own event w world (session_number world []) within in
        record { stands = laws.hubs_go_on shown world [] (link_calls event w world) stands own.0 own.1 own.2; clients = λ v. refl; peers = λ h. h }

    pub stops-stand : (w : Word) (rcode delay : ℕ) → rcode < 16 → delay < 2 ^ 32 → LeadsTo all shown world (stops w rcode delay world).0
    stops-stand w rcode delay small short = stop-does world (LeadsTo all shown world) w rcode delay (λ seat found. stopped-stands seat.session) (stopped-stands (session_number world w))
      where
        stopped-stands : (o : Option ℕ) → LeadsTo all shown world (asked_to_stop o rcode delay world)
        stopped-stands None = leads-none all shown world stands
        stopped-stands (Some number) = record {
          stands = laws.hubs_go_on shown world [] (stopping number rcode delay ∷ []) stands ((tt, (small, short)), tt) (tt, tt) (tt, tt);
          clients = λ v. refl;
          peers = λ h. h;
        }

  -- ---- an exchange

  exchanges-stand : (world : World) → WorldStands shown world → (w : Word) (number : ℕ) (octets : List ℕ) → session_number world w ≡ Some number → AreOctets octets
      → LeadsTo all shown world (exchanges w number octets world).0
  exchanges-stand world stands w number octets has good = by x.over
    where
      x : Exchanged
      x = exchanged enough number octets world.hub []

      is : IsExchangeOf number world.hub x
      is = laws.exchanges enough number octets [] world.hub good

      later : World
      later = record world { hub = x.hub }

      behind : WorldStands shown later
      behind =
          let own = laws.own number is.calls is.own in
          subst (λ (h : Hub). WorldStands shown (record world { hub = h })) (sym is.hub_is)
          (laws.hubs_go_on shown world w is.calls stands is.fit own.1 (subst (λ (o : Option ℕ). AreForNoOther o is.calls) (sym has) own.0))

      by : (o : Option EndReason) → LeadsTo all shown world (elim o as (λ _. World) [ None ↦ later | Some reason ↦ cut_peer w later ])
      by None = record { stands = behind; clients = λ v. refl; peers = λ h. h }
      by (Some reason) = leads-on all shown world later (cut_peer w later) (λ v. refl) (λ h. h) (peer-cut laws all shown later behind w)

  abbrev new_peer : World → Word → ℕ → World
  new_peer world w number = record world { hub = (connect world.hub).1; peers = world.peers ++ (w, number) ∷ [] }

  pub sends-stand : (world : World) → WorldStands shown world → (w : Word) (octets : List ℕ) → seat_of world w ≡ None → IsTrue (is_peer all w) → AreOctets octets → LeadsTo all shown world (sends w octets world).0
  sends-stand world stands w octets nobody peer good = by (session_number world w) refl
    where
      new_place : Option ℕ → Option (ℕ × World)
      new_place o = option_map (λ number. (number, new_peer world w number)) o

      by_place : Option (ℕ × World) → Printed
      by_place o = elim o as (λ _. Printed) [
        | None ↦ printing (codes "noseat" ∷ w ∷ []) world
        | Some place ↦ exchanges w place.0 octets place.1
      ]

      comes : (number : ℕ) → session_number world w ≡ None → (connect world.hub).0 ≡ Some number → LeadsTo all shown world (exchanges w number octets (new_peer world w number)).0
      comes number none is =
          let later = new_peer world w number in
          let new = laws.peers_open shown world w number stands nobody none is in
          leads-on all shown world later (exchanges w number octets later).0 (λ v. refl) (λ h. each-append (λ (p : Word × ℕ). IsTrue (is_peer all p.0)) world.peers ((w, number) ∷ []) h (peer, tt))
          (exchanges-stand later new w number octets (number-new w number world.peers none) good)

      by_connect : session_number world w ≡ None → (o : Option ℕ) → (connect world.hub).0 ≡ o → LeadsTo all shown world (by_place (new_place o)).0
      by_connect none None is = leads-none all shown world stands
      by_connect none (Some number) is = comes number none is

      by : (o : Option ℕ) → session_number world w ≡ o → LeadsTo all shown world (by_place (elim o as (λ _. Option (ℕ × World)) [ Some number ↦ Some (number, world) | None ↦ new_place (connect world.hub).0 ])).0
      by (Some number) has = exchanges-stand world stands w number octets has good
      by None none = by_connect none (connect world.hub).0 refl
