-- Rounds until nothing moves.
--     Settling      the rounds so far lead to the whole
--     settling-begins, settling-more, settles-still, settles-used_up      one more
use Rattle.std.proofs.Common.{◌≡◌, ℕ, suc, ◌==◌, ◌&&◌, Bool, true, false, cond, not, List, ◌++◌, Option, None, refl, sym, ◌∙◌, ap, subst, arith}
use Rattle.std.proofs.lemmas.Bool.Decides.{nat_tests}
use Rattle.std.specs.Prelude.{is_some}
use Rattle.dsosession.specs.declared.session.EndReason.{EndReason}
use Rattle.pushserver.specs.Calls.{HubCall}
use Rattle.hubasking.specs.AskingHubs.{AskingHub}
use Rattle.hubasking.specs.LinkAskings.{Askings}
use Rattle.replay.specs.World.{World, Seat}
use Rattle.replay.specs.PassedOctets.{is_still, Passed, passed, enough, round, settled}
use Rattle.replay.specs.Askings.{calls_asks}
use Rattle.replay.specs.LineCalls.{round_calls, settle_calls}
use Rattle.replay.specs.KeptAskings.{StandsFor}
use Rattle.replay.specs.KeptWorlds.{KeptSeat, StandsForSeat}
use Rattle.replay.specs.KeptPassings.{Turns, Moves}
use Rattle.replay.proofs.calls.Behind.{asks-append}
use Rattle.replay.proofs.calls.Passed.{rounds-by}

abbrev either_end : Option EndReason → Option EndReason → Option EndReason
either_end first second = cond (is_some first) first second

-- what a settle makes of a round
abbrev settled_by : ℕ → ℕ → Passed → Option EndReason → Bool → Passed
settled_by turns number r so_far true = record r { over = so_far }
settled_by turns number r so_far false = settled turns number r.world r.seat so_far

-- the rounds so far lead to the whole
pub record IsSettling (whole : Passed) (asked : Askings) (number turns : ℕ) (hub : AskingHub) (kept : KeptSeat) (over : Option EndReason) : Type 0 where
  pub world : World
  pub seat : Seat
  pub stands : StandsFor hub world.hub
  pub seated : StandsForSeat kept seat
  pub same : whole ≡ settled turns number world seat over
  pub asks : calls_asks (settle_calls turns number world seat) world.hub hub.askings ≡ asked

unfoldable pub Settling : ℕ → AskingHub → KeptSeat → ℕ → AskingHub → KeptSeat → Option EndReason → Type 0
Settling number start before turns hub kept over = (kept.word ≡ before.word) × ((world : World) (seat : Seat) → StandsFor start world.hub → StandsForSeat before seat → IsSettling (settled enough number world seat None) (calls_asks (settle_calls enough number world seat) world.hub start.askings) number turns hub kept over)

pub settling-begins : (number : ℕ) (start : AskingHub) (before : KeptSeat) → Settling number start before enough start before None
unfolding Settling
settling-begins number start before = (refl, λ world seat stands s. record { world = world; seat = seat; stands = stands; seated = s; same = refl; asks = refl })

still_so : (b : Bool) (still : Bool) → b ≡ not still → still ≡ not b
still_so true true e = absurd cc
still_so true false e = refl
still_so false true e = refl
still_so false false e = absurd cc

pub turned : (b c : Bool) → not b ≡ c → b ≡ not c
turned true true e = absurd cc
turned true false e = refl
turned false true e = refl
turned false false e = absurd cc

-- a round in which nothing moved
no-octets : (count : ℕ) (reacted : Bool) → (count == 0 && not reacted) ≡ true → 0 ≡ count
no-octets count reacted h = grind (arith, nat_tests)

-- the calls of a round, and those of the rounds behind it
abbrev turn_calls : ℕ → ℕ → World → Seat → Bool → List HubCall
turn_calls number turns world seat b = elim b as (λ _. List HubCall) [
  | true ↦ round_calls number world seat
  | false ↦ round_calls number world seat ++ settle_calls turns number (round number world seat).world (round number world seat).seat
]

asks-turn : (number turns : ℕ) (world : World) (seat : Seat) (first asked : Askings) (b : Bool) → is_still (round number world seat) ≡ b → calls_asks (settle_calls (suc turns) number world seat) world.hub first ≡ asked
    → calls_asks (turn_calls number turns world seat b) world.hub first ≡ asked
asks-turn number turns world seat first asked b still is = sym (ap (λ (t : Bool). calls_asks (turn_calls number turns world seat t) world.hub first) still) ∙ is

-- one round more
module _ (number turns : ℕ) (start hub later : AskingHub) (before kept after : KeptSeat) (over over_turn over_then : Option EndReason) (moves : Bool)
    (s : Settling number start before (suc turns) hub kept over) (t : Turns number hub kept moves over_turn later after) (over_is : over_then ≡ either_end over over_turn) where
  pub settling-more : moves ≡ true → Settling number start before turns later after over_then
  unfolding Settling Turns
  settling-more is = (
    t.0 ∙ s.0,
    λ world seat stands seated.
        let i = s.1 world seat stands seated in
        let r = t.1 i.world i.seat i.stands i.seated in
        let p = round number i.world i.seat in
        let still : is_still p ≡ false = still_so moves (is_still p) r.moved ∙ ap not is in
        record {
          world = p.world;
          seat = p.seat;
          stands = r.stands;
          seated = r.seat;
          same = i.same ∙ ap (settled_by turns number p (either_end over p.over)) still ∙ ap (settled turns number p.world p.seat) (ap (either_end over) (sym r.end_told) ∙ sym over_is);
          asks =
              (λ k. calls_asks (settle_calls turns number p.world p.seat) (rounds-by number i.world i.seat k) (r.asks k))
              ∙ sym (asks-append (round_calls number i.world i.seat) (settle_calls turns number p.world p.seat) i.world.hub hub.askings)
              ∙ asks-turn number turns i.world i.seat hub.askings (calls_asks (settle_calls enough number world seat) world.hub start.askings) false still i.asks;
        },
  )

  pub settles-still : moves ≡ false → Moves (λ world seat. settled enough number world seat None) (settle_calls enough number) start before 0 over_then later after
  unfolding Settling Turns Moves
  settles-still is = (
    t.0 ∙ s.0,
    λ world seat stands seated.
        let i = s.1 world seat stands seated in
        let r = t.1 i.world i.seat i.stands i.seated in
        let p = round number i.world i.seat in
        let still : is_still p ≡ true = still_so moves (is_still p) r.moved ∙ ap not is in
        let whole : settled enough number world seat None ≡ record p { over = over_then } =
        i.same ∙ ap (settled_by turns number p (either_end over p.over)) still ∙ ap (λ (o : Option EndReason). record p { over = o }) (ap (either_end over) (sym r.end_told) ∙ sym over_is) in
        record {
          moved = no-octets p.count p.reacted still ∙ sym (ap (λ (q : Passed). q.count) whole);
          end_told = sym (ap (λ (q : Passed). q.over) whole);
          stands = subst (λ (q : Passed). StandsFor later q.world.hub) (sym whole) r.stands;
          asks = r.asks ∙ asks-turn number turns i.world i.seat hub.askings (calls_asks (settle_calls enough number world seat) world.hub start.askings) true still i.asks;
          seat = subst (λ (q : Passed). StandsForSeat after q.seat) (sym whole) r.seat;
        },
  )

-- all rounds are made
pub settles-used_up : (number turns : ℕ) (start hub : AskingHub) (before kept : KeptSeat) (over : Option EndReason) → turns ≡ 0 → Settling number start before turns hub kept over
    → Moves (λ world seat. settled enough number world seat None) (settle_calls enough number) start before 0 over hub kept
unfolding Settling Moves
settles-used_up number turns start hub before kept over none s = (
  s.0,
  λ world seat stands seated.
      let i = s.1 world seat stands seated in
      let whole : settled enough number world seat None ≡ record (passed i.world i.seat 0) { over = over } = i.same ∙ ap (λ (n : ℕ). settled n number i.world i.seat over) none in
      record {
        moved = sym (ap (λ (q : Passed). q.count) whole);
        end_told = sym (ap (λ (q : Passed). q.over) whole);
        stands = subst (λ (q : Passed). StandsFor hub q.world.hub) (sym whole) i.stands;
        asks = sym (ap (λ (n : ℕ). calls_asks (settle_calls n number i.world i.seat) i.world.hub hub.askings) none) ∙ i.asks;
        seat = subst (λ (q : Passed). StandsForSeat kept q.seat) (sym whole) i.seated;
      },
)
