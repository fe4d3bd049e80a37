-- A settle that printed its line alone leaves the client joined to its session.
--     KeepsSession      a seat of the word has a session
--     settled-joined      so it is behind such a settle
use Rattle.std.proofs.Common.{◌≡◌, ℕ, ◌==◌, Bool, true, false, not, ◌&&◌, ◌||◌, List, [], ◌∷◌, ◌++◌, length, Option, Some, None, refl, sym, ◌∙◌, ap, subst, arith, true≢false}
use Rattle.std.specs.Prelude.{IsTrue, is_some, is_none, codes}
use Rattle.std.specs.Str.{bytes_eq}
use Rattle.std.proofs.lemmas.Bool.{eqb-true}
use Rattle.rrset.proofs.Sets.{both_true}
use Rattle.pushserver.specs.Calls.{after_calls}
use Rattle.pushserver.specs.PlainHubs.{Hub}
use Rattle.pushclient.specs.Clients.{Connection, closed_as, is_connected}
use Rattle.pushclient.proofs.SoundWishes.{some_is}
use Rattle.scripts.specs.Lines.{Word, settle}
use Rattle.replay.specs.World.{World, Seat, seat_of, with_seat, is_over, world_cut_if}
use Rattle.replay.specs.PassedOctets.{Passed, passed, enough, settled}
use Rattle.replay.specs.TextWords.{by_history}
use Rattle.scripts.specs.Words.{spaced}
use Rattle.replay.specs.Text.{Printed, quietly, line_does, end_lines, close_lines, finished}
use Rattle.replay.specs.HeldPoints.{settles_alone}
use Rattle.script_laws.specs.Joined.{ShownToEach, WorldStands, PassesSo}
use Rattle.script_laws.specs.Walk.{SettlesPass}
use Rattle.replay.proofs.worlds.SeatsFound.{put-found}
use Rattle.script_laws.proofs.lines.Passing.{told-none}
use Rattle.script_laws.proofs.texts.Along.{seat-stands}
use Rattle.script_laws.proofs.texts.Shows.{stands_as}

-- each seat of the word has a session
abbrev pub KeepsSession : World → Word → Type 0
KeepsSession world w = (seat : Seat) → seat_of world w ≡ Some seat → (number : ℕ) × (seat.session ≡ Some number)

-- a line alone
none-behind : (l : List ℕ) (ls : List (List ℕ)) → (length (l ∷ ls) == 1) ≡ true → ls ≡ []
none-behind l [] is = refl
none-behind l (m ∷ ms) is = (let one : length (l ∷ m ∷ ms) ≡ 1 = eqb-true (length (l ∷ m ∷ ms)) 1 is in absurd (omega (arith, one)))

-- a client of the hub with a connection has a session
apart-without : (lone : Bool) (c : Option Connection) → IsTrue (lone || is_none c) → (not lone && is_some c) ≡ true → ⊥
apart-without true c apart is = true≢false (sym is)
apart-without false None apart is = true≢false (sym is)
apart-without false (Some c) apart is = true≢false (sym apart)

abbrev passed_as : World → Seat → Option ℕ → Passed
passed_as world seat o = elim o as (λ _. Passed) [ None ↦ passed world seat 0 | Some number ↦ settled enough number world seat None ]

abbrev settled_as : Word → World → Option Seat → Printed
settled_as w world o = elim o as (λ _. Printed) [ None ↦ quietly world | Some seat ↦ finished (codes "settle" ∷ w ∷ []) (passed_as world seat seat.session) ]

abbrev joined_in : Option Seat → Bool
joined_in o = elim o as (λ _. Bool) [ None ↦ false | Some seat ↦ not seat.is_lone && is_connected seat.client ]

module _ (settles : SettlesPass) (shown : ShownToEach) (world : World) (w : Word) (stands : WorldStands shown world) where
  module _ (seat : Seat) (there : seat_of world w ≡ Some seat) (number : ℕ) (has : seat.session ≡ Some number) where
    -- another seat with this session stands in its place
    in-place : (hub : Hub) (x : Seat) → x.word ≡ seat.word → x.session ≡ seat.session → KeepsSession (with_seat x (record world { hub = hub })) w
    in-place hub x word session seat2 found =
        let same : x ≡ seat2 = some_is x seat2 (sym (put-found (record world { hub = hub }) w seat x there word) ∙ found) in
        (number, ap (λ s. s.session) (sym same) ∙ session ∙ has)

    of-passed : (p : Passed) → (c : Connection) → PassesSo number world (shown seat.word) seat c p → (length (finished (codes "settle" ∷ w ∷ []) p).1 == 1) ≡ true → KeepsSession (finished (codes "settle" ∷ w ∷ []) p).0 w
    of-passed p c so alone =
        let ending : List (List ℕ) = end_lines p.seat.word p.over ++ close_lines p.seat.word (closed_as p.seat.client) in
        let none : ending ≡ [] = none-behind (spaced (codes "settle" ∷ w ∷ [])) ending alone in
        let told = told-none p.seat.word p.over (closed_as p.seat.client) (ap length none) in
        let kept : KeepsSession (with_seat p.seat p.world) w = subst (λ (v : World). KeepsSession (with_seat p.seat v) w) (sym so.world_is) (in-place (after_calls so.calls world.hub) p.seat so.word so.session) in
        subst (λ (b : Bool). KeepsSession (world_cut_if b p.seat (with_seat p.seat p.world)) w) (λ i. is_over (sym told.0 i) (sym told.1 i)) kept

  of-session : (seat : Seat) → seat_of world w ≡ Some seat → (not seat.is_lone && is_connected seat.client) ≡ true → (o : Option ℕ) → seat.session ≡ o → stands_as world.hub (shown seat.word) seat o
      → (length (finished (codes "settle" ∷ w ∷ []) (passed_as world seat o)).1 == 1) ≡ true → KeepsSession (finished (codes "settle" ∷ w ∷ []) (passed_as world seat o)).0 w
  of-session seat there joined None has apart alone = absurd (apart-without seat.is_lone seat.client.connection apart.client joined)
  of-session seat there joined (Some number) has with_session alone =
      of-passed seat there number has (settled enough number world seat None) with_session.connection
      (settles enough number None (λ reason e. absurd cc) world (shown seat.word) seat with_session.session with_session.connection stands.reached with_session.joined) alone

  by-seat : (o : Option Seat) → seat_of world w ≡ o → joined_in o ≡ true → (length (settled_as w world o).1 == 1) ≡ true → KeepsSession (settled_as w world o).0 w
  by-seat None there joined alone = absurd (true≢false (sym joined))
  by-seat (Some seat) there joined alone = of-session seat there joined seat.session refl (seat-stands shown world w seat stands there) alone

  pub settled-joined : settles_alone w (settle w) world ≡ true → KeepsSession (line_does by_history (settle w) world).0 w
  settled-joined alone =
      let two = both_true (bytes_eq w w && length (line_does by_history (settle w) world).1 == 1) (joined_in (seat_of world w)) alone in
      by-seat (seat_of world w) refl two.1 (both_true (bytes_eq w w) (length (line_does by_history (settle w) world).1 == 1) two.0).1
