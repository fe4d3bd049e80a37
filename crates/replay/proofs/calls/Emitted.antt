-- The hub behind octets that are asked for is that behind these calls.
--     emits-by      octets are asked for
--     exchanges-by      octets go into a session and out of it
use Rattle.std.proofs.Common.{◌≡◌, ℕ, zero, suc, ◌-◌, Bool, true, false, ◌||◌, ◌==◌, List, [], ◌∷◌, ◌++◌, length, take, drop, Some, refl, sym, ◌∙◌, ap}
use Rattle.pushserver.specs.declared.given.Given.{Given}
use Rattle.pushserver.specs.declared.given.Given.TheVariants.{Bytes, Worked, Nothing, Ending, End}
use Rattle.pushserver.specs.Calls.{HubCall, gives, after_calls}
use Rattle.pushserver.specs.Giving.{give}
use Rattle.pushserver.specs.Hubs.{taken_by, take_octets}
use Rattle.pushserver.specs.PlainHubs.{Hub, Giving}
use Rattle.replay.specs.PassedOctets.{Emitted, Exchanged, emitted, nothing_emitted, with_giving, exchanged, enough}
use Rattle.replay.specs.LineCalls.{emit_calls, fed_calls, exchange_calls}
use Rattle.replay.proofs.calls.Behind.{calls-append}

abbrev EmitsBy : ℕ → Type 0
EmitsBy turns = (number budget : ℕ) (so_far : Emitted) → (emitted turns number budget so_far).hub ≡ after_calls (emit_calls turns number budget so_far.hub) so_far.hub

emits-turn : (turns : ℕ) → EmitsBy turns → EmitsBy (suc turns)
emits-turn turns rest number budget so_far = by (budget == 0)
  where
    g : Giving
    g = give so_far.hub number budget

    by_given : (w : Given) → (elim w as (λ _. Emitted) [
      | Bytes n ↦ emitted turns number (budget - n) (with_giving g number so_far)
      | Worked ↦ emitted turns number budget (record (with_giving g number so_far) { reacted = true })
      | Nothing ↦ with_giving g number so_far
      | Ending ↦ with_giving g number so_far
      | End reason ↦ record (with_giving g number so_far) { over = Some reason }
    ]).hub ≡ after_calls (elim w as (λ _. List HubCall) [
      | Bytes n ↦ emit_calls turns number (budget - n) g.hub
      | Worked ↦ emit_calls turns number budget g.hub
      | Nothing ↦ []
      | Ending ↦ []
      | End reason ↦ []
    ]) g.hub
    by_given (Bytes n) = rest number (budget - n) (with_giving g number so_far)
    by_given Worked = rest number budget (record (with_giving g number so_far) { reacted = true })
    by_given Nothing = refl
    by_given Ending = refl
    by_given (End reason) = refl

    by : (b : Bool) → (elim b as (λ _. Emitted) [
      | true ↦ so_far
      | false ↦ elim g.given as (λ _. Emitted) [
        | Bytes n ↦ emitted turns number (budget - n) (with_giving g number so_far)
        | Worked ↦ emitted turns number budget (record (with_giving g number so_far) { reacted = true })
        | Nothing ↦ with_giving g number so_far
        | Ending ↦ with_giving g number so_far
        | End reason ↦ record (with_giving g number so_far) { over = Some reason }
      ]
    ]).hub ≡ after_calls (elim b as (λ _. List HubCall) [
      | true ↦ []
      | false ↦ gives number budget ∷ (elim g.given as (λ _. List HubCall) [
        | Bytes n ↦ emit_calls turns number (budget - n) g.hub
        | Worked ↦ emit_calls turns number budget g.hub
        | Nothing ↦ []
        | Ending ↦ []
        | End reason ↦ []
      ])
    ]) so_far.hub
    by true = refl
    by false = by_given g.given

pub emits-by : (turns : ℕ) → EmitsBy turns
emits-by zero number budget so_far = refl
emits-by (suc turns) number budget so_far = emits-turn turns (emits-by turns) number budget so_far

abbrev ExchangesBy : ℕ → Type 0
ExchangesBy turns = (number : ℕ) (octets : List ℕ) (hub : Hub) (so_far : List ℕ) → (exchanged turns number octets hub so_far).hub ≡ after_calls (exchange_calls turns number octets hub) hub

exchanges-turn : (turns : ℕ) → ExchangesBy turns → ExchangesBy (suc turns)
exchanges-turn turns rest number octets hub so_far = by (k == 0 || k == length octets)
  where
    k : ℕ
    k = taken_by hub number octets

    e : Emitted
    e = emitted enough number enough (nothing_emitted (take_octets hub number (take k octets)) [])

    first : List HubCall
    first = fed_calls number (take k octets) hub

    hub_first : e.hub ≡ after_calls first hub
    hub_first = emits-by enough number enough (nothing_emitted (take_octets hub number (take k octets)) [])

    by : (b : Bool) → (elim b as (λ _. Exchanged) [
      | true ↦ record { hub = e.hub; octets = so_far ++ e.octets; over = e.over }
      | false ↦ exchanged turns number (drop k octets) e.hub (so_far ++ e.octets)
    ]).hub ≡ after_calls (elim b as (λ _. List HubCall) [ true ↦ first | false ↦ first ++ exchange_calls turns number (drop k octets) (after_calls first hub) ]) hub
    by true = hub_first
    by false =
        rest number (drop k octets) e.hub (so_far ++ e.octets)
        ∙ ap (λ (h : Hub). after_calls (exchange_calls turns number (drop k octets) h) h) hub_first
        ∙ sym (calls-append first (exchange_calls turns number (drop k octets) (after_calls first hub)) hub)

pub exchanges-by : (turns : ℕ) → ExchangesBy turns
exchanges-by zero number octets hub so_far = refl
exchanges-by (suc turns) number octets hub so_far = exchanges-turn turns (exchanges-by turns) number octets hub so_far
