-- A peer's place: the session that it has, or the new one that its first line makes.
--     IsPlaced w earlier number world      what the world with the peer's session is to the one before it
--     placed-is      the law
use Rattle.std.proofs.Common.{◌≡◌, ◌⊎◌, inl, inr, ℕ, true, cond, List, [], ◌∷◌, ◌++◌, Option, Some, None, option_map, find, refl, sym, ◌∙◌, ap, subst}
use Rattle.std.specs.Option.{option_or}
use Rattle.std.specs.Str.{bytes_eq}
use Rattle.std.proofs.lemmas.List.Folds.{find-append}
use Rattle.std.proofs.lemmas.Slice.Eq.{bytes_eq-Decides}
use Rattle.dsotlv.proofs.Results.{same_found}
use Rattle.pushserver.specs.PlainHubs.{Hub}
use Rattle.pushserver.specs.Calls.{HubCall, connects}
use Rattle.pushserver.specs.Hubs.{connect}
use Rattle.hubasking.specs.LinkAskings.{Askings}
use Rattle.scripts.specs.Lines.{Word}
use Rattle.replay.specs.World.{World, session_number}
use Rattle.replay.specs.Text.{placed, sends, exchanges}
use Rattle.replay.specs.Askings.{calls_asks}
use Rattle.replay.specs.LineCalls.{exchanges_calls, send_calls}
use Rattle.replay.proofs.worlds.LinesDoing.{by_connected, by_number}

-- the peer has the session; its next line does what it does in the world with the session; and the hub is the one before, or has one session more
pub record IsPlaced (w : Word) (earlier : World) (number : ℕ) (world : World) : Type 0 where
  pub known : session_number world w ≡ Some number
  pub does : (octets : List ℕ) → sends w octets earlier ≡ exchanges w number octets world
  pub asks : (octets : List ℕ) (askings : Askings) → calls_asks (send_calls w octets earlier) earlier.hub askings ≡ calls_asks (exchanges_calls w number octets world) world.hub askings
  pub hub : (world.hub ≡ earlier.hub) ⊎ (world.hub ≡ (connect earlier.hub).1)

abbrev Peers : Type 0
Peers = List (Word × ℕ)

abbrev entry_of : Word → Peers → Option (Word × ℕ)
entry_of w peers = find (λ e. bytes_eq e.0 w) peers

-- a peer that comes last is found, where no other has its word
last-peer : (w : Word) (peers : Peers) (number : ℕ) → option_map (λ (e : Word × ℕ). e.1) (entry_of w peers) ≡ None → option_map (λ (e : Word × ℕ). e.1) (entry_of w (peers ++ (w, number) ∷ [])) ≡ Some number
last-peer w peers number none =
    ap (option_map (λ (e : Word × ℕ). e.1)) (find-append (λ e. bytes_eq e.0 w) peers ((w, number) ∷ []))
    ∙ by (entry_of w peers) none
  where
    itself : bytes_eq w w ≡ true
    itself = (bytes_eq-Decides w w).1 refl

    by : (o : Option (Word × ℕ)) → option_map (λ (e : Word × ℕ). e.1) o ≡ None → option_map (λ (e : Word × ℕ). e.1) (option_or o (entry_of w ((w, number) ∷ []))) ≡ Some number
    by None none = ap (λ b. option_map (λ (e : Word × ℕ). e.1) (cond b (Some (w, number)) None)) itself
    by (Some e) none = absurd cc

-- the calls of its octets, by the session that it has, and by the new one
abbrev sending : Word → List ℕ → List HubCall → Option (ℕ × World) → List HubCall
sending w octets first o = elim o as (λ _. List HubCall) [ None ↦ [] | Some place ↦ first ++ exchanges_calls w place.0 octets place.1 ]

abbrev connecting : Option ℕ → List HubCall
connecting o = elim o as (λ _. List HubCall) [ None ↦ [] | Some number ↦ connects ∷ [] ]

module _ (w : Word) (earlier : World) where
  abbrev with_peer : ℕ → World
  with_peer number = record earlier { hub = (connect earlier.hub).1; peers = earlier.peers ++ (w, number) ∷ [] }

  abbrev by_new : Option ℕ → Option (ℕ × World)
  by_new o = option_map (λ number. (number, with_peer number)) o

  abbrev by_place : Option ℕ → Option (ℕ × World)
  by_place o = elim o as (λ _. Option (ℕ × World)) [ Some number ↦ Some (number, earlier) | None ↦ by_new (connect earlier.hub).0 ]

  abbrev at_place : ℕ → World → Option (ℕ × World)
  at_place number world = Some (number, world)

  abbrev calls_by : List ℕ → Option ℕ → List HubCall
  calls_by octets o = sending w octets (elim o as (λ _. List HubCall) [ None ↦ connecting (connect earlier.hub).0 | Some number ↦ [] ]) (by_place o)

  pub asks-known : (number : ℕ) → session_number earlier w ≡ Some number → (octets : List ℕ) (askings : Askings)
      → calls_asks (send_calls w octets earlier) earlier.hub askings ≡ calls_asks (exchanges_calls w number octets earlier) earlier.hub askings
  asks-known number known octets askings = ap (λ (o : Option ℕ). calls_asks (calls_by octets o) earlier.hub askings) known

  -- the session that the peer has
  has-one : (number : ℕ) → session_number earlier w ≡ Some number → IsPlaced w earlier number earlier
  has-one number known = record { known = known; does = λ octets. ap (by_number earlier w octets) known; asks = asks-known number known; hub = inl refl }

  -- a new one
  has-new : (number : ℕ) → session_number earlier w ≡ None → (connect earlier.hub).0 ≡ Some number → IsPlaced w earlier number (with_peer number)
  has-new number none made = record {
    known = last-peer w earlier.peers number none;
    does = λ octets. ap (by_number earlier w octets) none ∙ ap (λ o. by_connected earlier w octets (o, (connect earlier.hub).1)) made;
    asks = λ octets askings. ap (λ (o : Option ℕ). calls_asks (calls_by octets o) earlier.hub askings) none ∙ ap (λ (o : Option ℕ). calls_asks (sending w octets (connecting o) (by_new o)) earlier.hub askings) made;
    hub = inr refl;
  }

  pub placed-is : (number : ℕ) (world : World) → placed w earlier ≡ Some (number, world) → IsPlaced w earlier number world
  placed-is number world is = by (session_number earlier w) refl is
    where
      moved : (n : ℕ) (there : World) → at_place n there ≡ at_place number world → IsPlaced w earlier n there → IsPlaced w earlier number world
      moved n there same h = subst (λ (p : ℕ × World). IsPlaced w earlier p.0 p.1) (same_found (n, there) (number, world) same) h

      by_made : (o : Option ℕ) → session_number earlier w ≡ None → (connect earlier.hub).0 ≡ o → by_new o ≡ at_place number world → IsPlaced w earlier number world
      by_made None none made same = absurd cc
      by_made (Some n) none made same = moved n (with_peer n) same (has-new n none made)

      by : (o : Option ℕ) → session_number earlier w ≡ o → by_place o ≡ at_place number world → IsPlaced w earlier number world
      by (Some n) known same = moved n earlier same (has-one n known)
      by None none same = by_made (connect earlier.hub).0 none refl same

-- what holds of a hub and of it with one session more holds of the hub with the peer's session
pub placed-holds : (P : Hub → Type 0) (w : Word) (earlier : World) (number : ℕ) (world : World) → IsPlaced w earlier number world → P earlier.hub → P (connect earlier.hub).1 → P world.hub
placed-holds P w earlier number world p before behind = by p.hub
  where
    by : (world.hub ≡ earlier.hub) ⊎ (world.hub ≡ (connect earlier.hub).1) → P world.hub
    by (inl same) = subst P (sym same) before
    by (inr same) = subst P (sym same) behind
