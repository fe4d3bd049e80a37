-- An exchange, round by round.
use Rattle.std.proofs.Common.{◌≡◌, inr, ℕ, suc, ◌≤◌, ◌==◌, ◌||◌, Bool, true, false, List, [], ◌++◌, length, take, drop, min, Option, Some, None, sym, ◌∙◌, ap, subst, refl, arith, eq-eqb, ne_eqb, ◌<◌}
use Rattle.std.specs.Prelude.{nat_le}
use Rattle.std.proofs.lemmas.Bool.{leb-true, leb-false}
use Rattle.pushserver.specs.PlainHubs.{Session, Hub}
use Rattle.pushsession.specs.Sessions.{room_of}
use Rattle.pushserver.specs.Hubs.{session_of, taken_by, take_octets}
use Rattle.pushserver.specs.Calls.{HubCall, after_calls}
use Rattle.hubasking.specs.AskingHubs.{AskingHub}
use Rattle.hubasking.specs.LinkAskings.{Askings}
use Rattle.replay.specs.PassedOctets.{Emitted, Exchanged, emitted, exchanged, nothing_emitted, enough}
use Rattle.replay.specs.declared.exchanging.Emission.{Emission}
use Rattle.replay.specs.Askings.{calls_asks}
use Rattle.replay.specs.LineCalls.{emit_calls, fed_calls, exchange_calls}
use Rattle.replay.specs.KeptAskings.{StandsFor}
use Rattle.replay.specs.KeptExchanges.{Emits, IsEmitted, IsExchanged, Exchanges}
use Rattle.replay.proofs.exchanges.Taking.{take-front}
use Rattle.replay.proofs.calls.Behind.{asks-append}
use Rattle.replay.proofs.calls.Emitted.{emits-by}

-- rounds so far lead to the whole
pub record IsRound (whole : Exchanged) (asked : Askings) (number turns : ℕ) (kept : AskingHub) (rest : List ℕ) (answer : List ℕ) : Type 0 where
  pub hub : Hub
  pub stands : StandsFor kept hub
  pub same : whole ≡ exchanged turns number rest hub answer
  pub asks : calls_asks (exchange_calls turns number rest hub) hub kept.askings ≡ asked

unfoldable pub Rounds : AskingHub → ℕ → List ℕ → ℕ → AskingHub → List ℕ → List ℕ → Type 0
Rounds start number sent turns kept rest answer = (hub : Hub) → StandsFor start hub → IsRound (exchanged enough number sent hub []) (calls_asks (exchange_calls enough number sent hub) hub start.askings) number turns kept rest answer

pub rounds-begin : (start : AskingHub) (number : ℕ) (sent : List ℕ) → Rounds start number sent enough start sent []
unfolding Rounds
rounds-begin start number sent hub stands = record { hub = hub; stands = stands; same = refl; asks = refl }

abbrev pub Takes : AskingHub → ℕ → List ℕ → ℕ → AskingHub → Type 0
Takes kept number piece count later = (hub : Hub) → StandsFor kept hub → (count ≡ taken_by hub number piece) × StandsFor later (take_octets hub number piece) × (later.askings ≡ kept.askings)

module _ (whole : Exchanged) (asked : Askings) (number left count : ℕ) (rest : List ℕ) (kept between later : AskingHub) (answer now : List ℕ) (emission : Emission)
    (r : IsRound whole asked number (suc left) kept rest answer) (takes : Takes kept number rest count between) (made : (hub : Hub) → StandsFor between hub → IsEmitted (emitted enough number enough (nothing_emitted hub [])) (calls_asks (emit_calls enough number enough hub) hub between.askings) answer later now None emission) where
  abbrev taken : (count ≡ taken_by r.hub number rest) × StandsFor between (take_octets r.hub number rest) × (between.askings ≡ kept.askings)
  taken = takes r.hub r.stands

  abbrev fed : ℕ → Emitted
  fed k = emitted enough number enough (nothing_emitted (take_octets r.hub number (take k rest)) [])

  given : IsEmitted (fed count) (calls_asks (emit_calls enough number enough (take_octets r.hub number (take count rest))) (take_octets r.hub number (take count rest)) between.askings) answer later now None emission
  given = subst (λ (h : Hub). IsEmitted (emitted enough number enough (nothing_emitted h [])) (calls_asks (emit_calls enough number enough h) h between.askings) answer later now None emission)
      (sym (take-front kept.hub r.hub number rest r.stands) ∙ ap (λ k. take_octets r.hub number (take k rest)) (sym taken.0))
      (made (take_octets r.hub number rest) taken.1)

  abbrev after : ℕ → Bool → Exchanged
  after k b = elim b as (λ _. Exchanged) [
    | true ↦ record { hub = (fed k).hub; octets = answer ++ (fed k).octets; over = (fed k).over }
    | false ↦ exchanged left number (drop k rest) (fed k).hub (answer ++ (fed k).octets)
  ]

  rounded : (b : Bool) → (count == 0 || count == length rest) ≡ b → whole ≡ after count b
  rounded b e = r.same ∙ ap (λ k. after k (k == 0 || k == length rest)) (sym taken.0) ∙ ap (after count) e

  -- what is asked behind a round, and behind those that follow
  abbrev first_calls : ℕ → List HubCall
  first_calls k = fed_calls number (take k rest) r.hub

  abbrev calls_of : ℕ → Bool → List HubCall
  calls_of k b = elim b as (λ _. List HubCall) [ true ↦ first_calls k | false ↦ first_calls k ++ exchange_calls left number (drop k rest) (after_calls (first_calls k) r.hub) ]

  asks_rounded : (b : Bool) → (count == 0 || count == length rest) ≡ b → calls_asks (calls_of count b) r.hub kept.askings ≡ asked
  asks_rounded b e =
      sym (ap (λ (k : ℕ). calls_asks (calls_of k (k == 0 || k == length rest)) r.hub kept.askings) (sym taken.0) ∙ ap (λ (t : Bool). calls_asks (calls_of count t) r.hub kept.askings) e) ∙ r.asks

  -- taking octets makes nothing be asked otherwise
  asks_first : later.askings ≡ calls_asks (first_calls count) r.hub kept.askings
  asks_first = given.asks ∙ ap (λ (a : Askings). calls_asks (emit_calls enough number enough (take_octets r.hub number (take count rest))) (take_octets r.hub number (take count rest)) a) taken.2

  hub_first : (fed count).hub ≡ after_calls (first_calls count) r.hub
  hub_first = emits-by enough number enough (nothing_emitted (take_octets r.hub number (take count rest)) [])

  within : count ≤ length rest
  within = subst (λ n. n ≤ length rest) (sym taken.0) (fits (session_of r.hub number))
    where
      least : (m n : ℕ) → min m n ≤ m
      least m n = omega arith

      fits : (o : Option Session) → (elim o as (λ _. ℕ) [ None ↦ 0 | Some session ↦ min (length rest) (room_of session) ]) ≤ length rest
      fits None = omega arith
      fits (Some session) = least (length rest) (room_of session)

  -- all that had room went in
  same_test : (b : Bool) → nat_le (length rest) count ≡ b → (count == length rest) ≡ b
  same_test true e = subst (λ (n : ℕ). (n == length rest) ≡ true) (both count (length rest) within (leb-true (length rest) count e)) (eq-eqb (length rest) (length rest) refl)
    where
      both : (m n : ℕ) → m ≤ n → n ≤ m → n ≡ m
      both m n h i = omega arith
  same_test false e = ne_eqb count (length rest) (apart count (length rest) (leb-false (length rest) count e))
    where
      apart : (m n : ℕ) → m < n → m ≡ n → ⊥
      apart m n h e = omega arith

  tested : (b : Bool) → (count == 0 || nat_le (length rest) count) ≡ b → (count == 0 || count == length rest) ≡ b
  tested b e = ap (λ t. count == 0 || t) (same_test (nat_le (length rest) count) refl) ∙ e

  pub round-last : (count == 0 || nat_le (length rest) count) ≡ true → IsExchanged whole asked later now emission.over
  round-last e =
      let is = sym (rounded true (tested true e)) in
      record {
        end_told = given.end_told ∙ ap (λ (x : Exchanged). x.over) is;
        written = given.written ∙ ap (λ (x : Exchanged). x.octets) is;
        stands = subst (λ (x : Exchanged). StandsFor later x.hub) is given.stands;
        asks = asks_first ∙ asks_rounded true (tested true e);
      }

  pub round-more : (count == 0 || nat_le (length rest) count) ≡ false → IsRound whole asked number left later (drop count rest) now
  round-more e = record {
    hub = (fed count).hub;
    stands = given.stands;
    same = rounded false (tested false e) ∙ ap (exchanged left number (drop count rest) (fed count).hub) (sym given.written);
    asks =
        let more : Hub → Askings → Askings = λ h a. calls_asks (exchange_calls left number (drop count rest) h) h a in
        (λ i. more (hub_first i) (asks_first i)) ∙ sym (asks-append (first_calls count) (exchange_calls left number (drop count rest) (after_calls (first_calls count) r.hub)) r.hub kept.askings) ∙ asks_rounded false (tested false e);
  }

pub rounds-used_up : (whole : Exchanged) (asked : Askings) (number : ℕ) (kept : AskingHub) (rest answer : List ℕ) → IsRound whole asked number 0 kept rest answer → IsExchanged whole asked kept answer None
rounds-used_up whole asked number kept rest answer r = record {
  end_told = ap (λ (x : Exchanged). x.over) (sym r.same);
  written = ap (λ (x : Exchanged). x.octets) (sym r.same);
  stands = subst (λ (x : Exchanged). StandsFor kept x.hub) (sym r.same) r.stands;
  asks = r.asks;
}

-- ---- the same of all hubs that are stood for

-- a peer is told nothing of first answers, and octets come without a bound
emits-all : (between later : AskingHub) (number : ℕ) (answer now : List ℕ) (emission : Emission) → Emits 18446744073709551615 between number answer None later now None emission
    → (hub : Hub) → StandsFor between hub → IsEmitted (emitted enough number enough (nothing_emitted hub [])) (calls_asks (emit_calls enough number enough hub) hub between.askings) answer later now None emission
unfolding Emits
emits-all between later number answer now emission made hub stands =
    made enough hub [] (omega arith, inr refl) stands tt

pub exchanges-last : (start kept between later : AskingHub) (number left count : ℕ) (sent rest answer now : List ℕ) (emission : Emission)
    → Rounds start number sent (suc left) kept rest answer → Takes kept number rest count between → Emits 18446744073709551615 between number answer None later now None emission
    → (count == 0 || nat_le (length rest) count) ≡ true → Exchanges start number sent later now emission.over
unfolding Rounds Exchanges
exchanges-last start kept between later number left count sent rest answer now emission r takes made is hub stands =
    round-last (exchanged enough number sent hub []) (calls_asks (exchange_calls enough number sent hub) hub start.askings) number left count rest kept between later answer now emission (r hub stands) takes (emits-all between later number answer now emission made) is

pub rounds-more : (start kept between later : AskingHub) (number left count : ℕ) (sent rest answer now : List ℕ) (emission : Emission)
    → Rounds start number sent (suc left) kept rest answer → Takes kept number rest count between → Emits 18446744073709551615 between number answer None later now None emission
    → (count == 0 || nat_le (length rest) count) ≡ false → Rounds start number sent left later (drop count rest) now
unfolding Rounds
rounds-more start kept between later number left count sent rest answer now emission r takes made is hub stands =
    round-more (exchanged enough number sent hub []) (calls_asks (exchange_calls enough number sent hub) hub start.askings) number left count rest kept between later answer now emission (r hub stands) takes (emits-all between later number answer now emission made) is

pub exchanges-used_up : (start kept : AskingHub) (number left : ℕ) (sent rest answer : List ℕ) → left ≡ 0 → Rounds start number sent left kept rest answer → Exchanges start number sent kept answer None
unfolding Rounds Exchanges
exchanges-used_up start kept number left sent rest answer none r hub stands =
    let whole = exchanged enough number sent hub [] in
    let asked = calls_asks (exchange_calls enough number sent hub) hub start.askings in
    rounds-used_up whole asked number kept rest answer (subst (λ (n : ℕ). IsRound whole asked number n kept rest answer) none (r hub stands))
