-- What octets that pass leave of the world, and what they keep of the hub and of the client.
--     passed-world      they change the world's hub alone
--     passing-keeps      what calls for the client's session keep of the hub, and what passings keep of the client
--     passed-names      the client keeps its word, its session, and whether it is a lone one
--     pass-does      what such a line does, by whether there is the client
use Rattle.std.proofs.Common.{◌≡◌, ℕ, zero, suc, ◌-◌, ◌==◌, Bool, true, false, cond, not, ◌&&◌, take, min, length, Option, Some, None, refl}
use Rattle.std.specs.Prelude.{is_some}
use Rattle.dsosession.specs.declared.session.EndReason.{EndReason}
use Rattle.pushserver.specs.PlainHubs.{Hub}
use Rattle.pushserver.specs.Hubs.{take_octets, taken_by}
use Rattle.pushserver.specs.Giving.{give}
use Rattle.scripts.specs.Lines.{Word}
use Rattle.replay.specs.World.{World, Seat, seat_of}
use Rattle.replay.specs.PassedOctets.{Passed, passed, enough, max_wire, nothing_emitted, say, up, emit, down, round, settled}
use Rattle.replay.specs.Text.{Printed, quietly, finished, passing_of, passes_way, way_words, passes}
use Rattle.scripts.specs.declared.line.Way.{Way}
use Rattle.scripts.specs.declared.line.Way.TheVariants as ways
use Rattle.replay.proofs.worlds.Keeping.{keeps-emitted}

-- ---- the world

abbrev with_hub_of : World → Passed → World
with_hub_of world p = record world { hub = p.world.hub }

abbrev settled_by : ℕ → ℕ → Passed → Option EndReason → Bool → Passed
settled_by turns number r so_far b = elim b as (λ _. Passed) [ true ↦ record r { over = so_far } | false ↦ settled turns number r.world r.seat so_far ]

abbrev either_end : Option EndReason → Option EndReason → Option EndReason
either_end first second = cond (is_some first) first second

rounds-world : (turns number : ℕ) (world : World) (seat : Seat) (over : Option EndReason) → (settled turns number world seat over).world ≡ with_hub_of world (settled turns number world seat over)
rounds-world zero number world seat over = refl
rounds-world (suc turns) number world seat over = by (rounds-world turns number r.world r.seat (either_end over r.over)) (r.count == 0 && not r.reacted)
  where
    r : Passed
    r = round number world seat

    so_far : Option EndReason
    so_far = either_end over r.over

    by : (settled turns number r.world r.seat so_far).world ≡ with_hub_of r.world (settled turns number r.world r.seat so_far) → (b : Bool) → (settled_by turns number r so_far b).world ≡ with_hub_of world (settled_by turns number r so_far b)
    by rest true = refl
    by rest false = rest

abbrev pub passed_as : Way → World → Seat → Option ℕ → Passed
passed_as way world seat o = elim o as (λ _. Passed) [ None ↦ passed world seat 0 | Some number ↦ passing_of way number world seat ]

pub passed-world : (way : Way) (world : World) (seat : Seat) → (passes_way way world seat).world ≡ with_hub_of world (passes_way way world seat)
passed-world way world seat = by way seat.session
  where
    by : (v : Way) (o : Option ℕ) → (passed_as v world seat o).world ≡ with_hub_of world (passed_as v world seat o)
    by v None = refl
    by (ways.Say n) (Some number) = refl
    by (ways.Up n) (Some number) = refl
    by (ways.Emit n) (Some number) = refl
    by (ways.Down n) (Some number) = refl
    by ways.Settle (Some number) = rounds-world enough number world seat None

-- ---- the hub and the client

-- what the passings of a client keep of its seat
pub record PassingsKeep (S : Seat → Type 0) : Type 0 where
  pub says : (n : ℕ) (world : World) (seat : Seat) → S seat → S (say n world seat).seat
  pub ups : (number n : ℕ) (world : World) (seat : Seat) → S seat → S (up number n world seat).seat
  pub emits : (number n : ℕ) (world : World) (seat : Seat) → S seat → S (emit number n world seat).seat
  pub downs : (n : ℕ) (world : World) (seat : Seat) → S seat → S (down n world seat).seat

module _ (P : Hub → Type 0) (S : Seat → Type 0) (keep : PassingsKeep S) (number : ℕ) (gives : (hub : Hub) (room : ℕ) → P hub → P (give hub number room).hub)
    (takes : (hub : Hub) (seat : Seat) (k : ℕ) → S seat → P hub → P (take_octets hub number (take k seat.up_wire))) where
  -- the two that the hub takes part in
  pub up-keeps : (n : ℕ) (world : World) (seat : Seat) → P world.hub → S seat → P (up number n world seat).world.hub × S (up number n world seat).seat
  up-keeps n world seat p s = (takes world.hub seat (taken_by world.hub number (take n seat.up_wire)) s p, keep.ups number n world seat s)

  pub emit-keeps : (n : ℕ) (world : World) (seat : Seat) → P world.hub → S seat → P (emit number n world seat).world.hub × S (emit number n world seat).seat
  emit-keeps n world seat p s = (keeps-emitted P number gives enough (min n (max_wire - length seat.down_wire)) (nothing_emitted world.hub seat.filled) p, keep.emits number n world seat s)

  round-keeps : (world : World) (seat : Seat) → P world.hub → S seat → P (round number world seat).world.hub × S (round number world seat).seat
  round-keeps world seat p s =
      let first = say max_wire world seat in
      let second = up number max_wire world first.seat in
      let third = emit number max_wire second.world second.seat in
      let risen = up-keeps max_wire world first.seat p (keep.says max_wire world seat s) in
      let given = emit-keeps max_wire second.world second.seat risen.0 risen.1 in
      (given.0, keep.downs max_wire third.world third.seat given.1)

  pub rounds-keep : (turns : ℕ) (world : World) (seat : Seat) (over : Option EndReason) → P world.hub → S seat → P (settled turns number world seat over).world.hub × S (settled turns number world seat over).seat
  rounds-keep zero world seat over p s = (p, s)
  rounds-keep (suc turns) world seat over p s = by (rounds-keep turns r.world r.seat (either_end over r.over) one.0 one.1) (r.count == 0 && not r.reacted)
    where
      r : Passed
      r = round number world seat

      one : P r.world.hub × S r.seat
      one = round-keeps world seat p s

      so_far : Option EndReason
      so_far = either_end over r.over

      by : P (settled turns number r.world r.seat so_far).world.hub × S (settled turns number r.world r.seat so_far).seat → (b : Bool) → P (settled_by turns number r so_far b).world.hub × S (settled_by turns number r so_far b).seat
      by rest true = one
      by rest false = rest

-- by whether the client has a session
pub passing-keeps : (P : Hub → Type 0) (S : Seat → Type 0) → PassingsKeep S → (way : Way) (world : World) (seat : Seat)
    → ((number : ℕ) → seat.session ≡ Some number → ((hub : Hub) (room : ℕ) → P hub → P (give hub number room).hub))
    → ((number : ℕ) → seat.session ≡ Some number → (hub : Hub) (x : Seat) (k : ℕ) → S x → P hub → P (take_octets hub number (take k x.up_wire)))
    → P world.hub → S seat → P (passes_way way world seat).world.hub × S (passes_way way world seat).seat
passing-keeps P S keep way world seat gives takes p s = by way seat.session refl
  where
    by : (v : Way) (o : Option ℕ) → seat.session ≡ o → P (passed_as v world seat o).world.hub × S (passed_as v world seat o).seat
    by v None none = (p, s)
    by (ways.Say n) (Some number) some = (p, keep.says n world seat s)
    by (ways.Up n) (Some number) some = up-keeps P S keep number (gives number some) (takes number some) n world seat p s
    by (ways.Emit n) (Some number) some = emit-keeps P S keep number (gives number some) (takes number some) n world seat p s
    by (ways.Down n) (Some number) some = (p, keep.downs n world seat s)
    by ways.Settle (Some number) some = rounds-keep P S keep number (gives number some) (takes number some) enough world seat None p s

-- ---- what the client keeps

pub record IsNamedAs (seat x : Seat) : Type 0 where
  pub word : x.word ≡ seat.word
  pub is_lone : x.is_lone ≡ seat.is_lone
  pub session : x.session ≡ seat.session

named-keep : (seat : Seat) → PassingsKeep (IsNamedAs seat)
named-keep seat = record {
  says = λ n world x named. record { word = named.word; is_lone = named.is_lone; session = named.session };
  ups = λ number n world x named. record { word = named.word; is_lone = named.is_lone; session = named.session };
  emits = λ number n world x named. record { word = named.word; is_lone = named.is_lone; session = named.session };
  downs = λ n world x named. record { word = named.word; is_lone = named.is_lone; session = named.session };
}

pub passed-names : (way : Way) (world : World) (seat : Seat) → IsNamedAs seat (passes_way way world seat).seat
passed-names way world seat = (passing-keeps (λ hub. Unit {0}) (IsNamedAs seat) (named-keep seat) way world seat (λ number some hub room p. tt) (λ number some hub x k named p. tt) tt (record { word = refl; is_lone = refl; session = refl })).1

-- ---- the line

abbrev pub does_by : Way → Word → World → Option Seat → Printed
does_by way w world o = elim o as (λ _. Printed) [ None ↦ quietly world | Some seat ↦ finished (way_words way w (passes_way way world seat).count) (passes_way way world seat) ]

pub pass-does : (P : World → Type 0) (way : Way) (w : Word) (world : World) → P world
    → ((seat : Seat) → seat_of world w ≡ Some seat → P (finished (way_words way w (passes_way way world seat).count) (passes_way way world seat)).0) → P (passes way w world).0
pass-does P way w world none some = by (seat_of world w) refl
  where
    by : (o : Option Seat) → seat_of world w ≡ o → P (does_by way w world o).0
    by None e = none
    by (Some seat) e = some seat e
