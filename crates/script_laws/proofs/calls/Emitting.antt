-- What is given and exchanged is what calls of the hub hand out.
--     in-append      what calls do, and others behind them
--     emits      octets are asked for
--     exchanges      octets go into a session and out of it
--     all-emitted, all-exchanged      what holds of each of these calls
use Rattle.std.proofs.Common.{◌≡◌, ℕ, zero, suc, ◌-◌, Bool, true, false, ◌||◌, List, [], ◌∷◌, ◌++◌, length, take, drop, Some, refl, sym, ◌∙◌, ap, subst, append_assoc, append-nil}
use Rattle.std.specs.Prelude.{◌==◌, if◌then◌else◌}
use Rattle.std.specs.List.{AllByRecursion}
use Rattle.coalesce.proofs.ReadBack.{each-append}
use Rattle.pushserver.specs.declared.given.Given.{Given}
use Rattle.pushserver.specs.declared.given.Given.TheVariants.{Bytes, Worked, Nothing, Ending, End}
use Rattle.pushserver.specs.PlainHubs.{Hub, Giving}
use Rattle.pushserver.specs.Hubs.{taken_by, take_octets}
use Rattle.pushserver.specs.Giving.{give}
use Rattle.pushserver.specs.Calls.{HubCall, takes, gives, called, after_calls}
use Rattle.livesessions.proofs.SessionLists.{number-itself}
use Rattle.pushtelling.specs.Runs.{hands_out, in_calls, handed_out}
use Rattle.replay.specs.PassedOctets.{Emitted, Exchanged, emitted, nothing_emitted, with_giving, exchanged, enough}
use Rattle.replay.proofs.worlds.Keeping.{InParts}
use Rattle.replay.specs.LineCalls.{emit_calls, fed_calls, exchange_calls}
use Rattle.script_laws.proofs.hubs.Reaching.{calls-append}

-- ---- calls one behind the other

pub in-append : {X : Type 0} (does : Hub → HubCall → List X) (calls more : List HubCall) (hub : Hub) → in_calls does (calls ++ more) hub ≡ in_calls does calls hub ++ in_calls does more (after_calls calls hub)
in-append does [] more hub = refl
in-append does (call ∷ calls) more hub =
    let later = called call hub in
    ap (λ xs. does hub call ++ xs) (in-append does calls more later) ∙ sym (append_assoc (does hub call) (in_calls does calls later) (in_calls does more (after_calls calls later)))

-- ---- octets are asked for

-- the hub behind them, and the octets behind those that came before
pub record EmitsBy (number : ℕ) (hub : Hub) (front : List ℕ) (e : Emitted) (calls : List HubCall) : Type 0 where
  pub hub_is : e.hub ≡ after_calls calls hub
  pub octets : e.octets ≡ front ++ handed_out number calls hub

emits-none : (number : ℕ) (hub : Hub) (front : List ℕ) (e : Emitted) → e.hub ≡ hub → e.octets ≡ front → EmitsBy number hub front e []
emits-none number hub front e hub_is octets = record { hub_is = hub_is; octets = octets ∙ sym (append-nil front) }

-- a call more in front
emits-more : (number budget : ℕ) (hub : Hub) (front : List ℕ) (e : Emitted) (calls : List HubCall) → EmitsBy number (give hub number budget).hub (front ++ (give hub number budget).octets) e calls
    → EmitsBy number hub front e (gives number budget ∷ calls)
emits-more number budget hub front e calls h =
    let g : Giving = give hub number budget in
    record {
      hub_is = h.hub_is;
      octets = h.octets ∙ append_assoc front g.octets (handed_out number calls g.hub)
          ∙ ap (λ (b : Bool). front ++ ((if b then g.octets else []) ++ handed_out number calls g.hub)) (sym (number-itself number));
    }

pub emits : (turns number budget : ℕ) (so_far : Emitted) → EmitsBy number so_far.hub so_far.octets (emitted turns number budget so_far) (emit_calls turns number budget so_far.hub)
emits zero number budget so_far = emits-none number so_far.hub so_far.octets so_far refl refl
emits (suc turns) number budget so_far = by (λ n e. emits turns number n e) (budget == 0)
  where
    g : Giving
    g = give so_far.hub number budget

    Later : Type 0
    Later = (n : ℕ) (e : Emitted) → EmitsBy number e.hub e.octets (emitted turns number n e) (emit_calls turns number n e.hub)

    from : (e : Emitted) (calls : List HubCall) → EmitsBy number g.hub (so_far.octets ++ g.octets) e calls → EmitsBy number so_far.hub so_far.octets e (gives number budget ∷ calls)
    from e calls h = emits-more number budget so_far.hub so_far.octets e calls h

    last : (e : Emitted) → e.hub ≡ g.hub → e.octets ≡ so_far.octets ++ g.octets → EmitsBy number so_far.hub so_far.octets e (gives number budget ∷ [])
    last e is octets = from e [] (emits-none number g.hub (so_far.octets ++ g.octets) e is octets)

    by_given : Later → (given : Given) → EmitsBy number so_far.hub so_far.octets
        (elim given as (λ _. Emitted) [
          | Bytes n ↦ emitted turns number (budget - n) (with_giving g number so_far)
          | Worked ↦ emitted turns number budget (record (with_giving g number so_far) { reacted = true })
          | Nothing ↦ with_giving g number so_far
          | Ending ↦ with_giving g number so_far
          | End reason ↦ record (with_giving g number so_far) { over = Some reason }
        ])
        (gives number budget ∷ (elim given as (λ _. List HubCall) [
          | Bytes n ↦ emit_calls turns number (budget - n) g.hub
          | Worked ↦ emit_calls turns number budget g.hub
          | Nothing ↦ []
          | Ending ↦ []
          | End reason ↦ []
        ]))
    by_given later (Bytes n) = from _ _ (later (budget - n) (with_giving g number so_far))
    by_given later Worked = from _ _ (later budget (record (with_giving g number so_far) { reacted = true }))
    by_given later Nothing = last (with_giving g number so_far) refl refl
    by_given later Ending = last (with_giving g number so_far) refl refl
    by_given later (End reason) = last (record (with_giving g number so_far) { over = Some reason }) refl refl

    by : Later → (b : Bool) → EmitsBy number so_far.hub so_far.octets
        (elim b as (λ _. Emitted) [
          | true ↦ so_far
          | false ↦ elim g.given as (λ _. Emitted) [
            | Bytes n ↦ emitted turns number (budget - n) (with_giving g number so_far)
            | Worked ↦ emitted turns number budget (record (with_giving g number so_far) { reacted = true })
            | Nothing ↦ with_giving g number so_far
            | Ending ↦ with_giving g number so_far
            | End reason ↦ record (with_giving g number so_far) { over = Some reason }
          ]
        ])
        (elim b as (λ _. List HubCall) [
          | true ↦ []
          | false ↦ gives number budget ∷ (elim g.given as (λ _. List HubCall) [
            | Bytes n ↦ emit_calls turns number (budget - n) g.hub
            | Worked ↦ emit_calls turns number budget g.hub
            | Nothing ↦ []
            | Ending ↦ []
            | End reason ↦ []
          ])
        ])
    by later true = emits-none number so_far.hub so_far.octets so_far refl refl
    by later false = by_given later g.given

-- ---- octets go in and out

pub record ExchangesBy (number : ℕ) (hub : Hub) (front : List ℕ) (x : Exchanged) (calls : List HubCall) : Type 0 where
  pub hub_is : x.hub ≡ after_calls calls hub
  pub octets : x.octets ≡ front ++ handed_out number calls hub

-- what is emitted for a piece
pub fed_emitted : ℕ → List ℕ → Hub → Emitted
fed_emitted number piece hub = emitted enough number enough (nothing_emitted (take_octets hub number piece) [])

pub feeds : (number : ℕ) (piece : List ℕ) (hub : Hub) (filled : List (ℕ × ℕ)) → let e = emitted enough number enough (nothing_emitted (take_octets hub number piece) filled) in
    (e.hub ≡ after_calls (fed_calls number piece hub) hub) × (e.octets ≡ handed_out number (fed_calls number piece hub) hub)
feeds number piece hub filled = let h = emits enough number enough (nothing_emitted (take_octets hub number piece) filled) in (h.hub_is, h.octets)

exchanges-behind : (number : ℕ) (hub : Hub) (front : List ℕ) (first more : List HubCall) (x : Exchanged) → ExchangesBy number (after_calls first hub) (front ++ handed_out number first hub) x more → ExchangesBy number hub front x (first ++ more)
exchanges-behind number hub front first more x h = record {
  hub_is = h.hub_is ∙ sym (calls-append first more hub);
  octets = h.octets ∙ append_assoc front (handed_out number first hub) (handed_out number more (after_calls first hub)) ∙ ap (λ (os : List ℕ). front ++ os) (sym (in-append (hands_out number) first more hub));
}

pub exchanges : (turns number : ℕ) (octets : List ℕ) (hub : Hub) (so_far : List ℕ) → ExchangesBy number hub so_far (exchanged turns number octets hub so_far) (exchange_calls turns number octets hub)
exchanges zero number octets hub so_far = record { hub_is = refl; octets = sym (append-nil so_far) }
exchanges (suc turns) number octets hub so_far = by (exchanges turns number (drop k octets) e.hub (so_far ++ e.octets)) (k == 0 || k == length octets)
  where
    k : ℕ
    k = taken_by hub number octets

    e : Emitted
    e = emitted enough number enough (nothing_emitted (take_octets hub number (take k octets)) [])

    first : List HubCall
    first = fed_calls number (take k octets) hub

    is : (e.hub ≡ after_calls first hub) × (e.octets ≡ handed_out number first hub)
    is = feeds number (take k octets) hub []

    more : Hub → List HubCall
    more h = exchange_calls turns number (drop k octets) h

    by : ExchangesBy number e.hub (so_far ++ e.octets) (exchanged turns number (drop k octets) e.hub (so_far ++ e.octets)) (more e.hub) → (b : Bool) → ExchangesBy number hub so_far
        (elim b as (λ _. Exchanged) [ true ↦ record { hub = e.hub; octets = so_far ++ e.octets; over = e.over } | false ↦ exchanged turns number (drop k octets) e.hub (so_far ++ e.octets) ])
        (elim b as (λ _. List HubCall) [ true ↦ first | false ↦ first ++ more (after_calls first hub) ])
    by rest true = record { hub_is = is.0; octets = ap (λ (os : List ℕ). so_far ++ os) is.1 }
    by rest false =
        let x : Exchanged = exchanged turns number (drop k octets) e.hub (so_far ++ e.octets) in
        exchanges-behind number hub so_far first (more (after_calls first hub)) x
        (subst (λ (h : Hub). ExchangesBy number h (so_far ++ handed_out number first hub) x (more h)) is.0
        (subst (λ (os : List ℕ). ExchangesBy number e.hub (so_far ++ os) x (more e.hub)) is.1 rest))

-- ---- what holds of each call

module _ (P : HubCall → Type 0) (number : ℕ) (giving : (room : ℕ) → P (gives number room)) where
  pub all-emitted : (turns budget : ℕ) (hub : Hub) → AllByRecursion P (emit_calls turns number budget hub)
  all-emitted zero budget hub = tt
  all-emitted (suc turns) budget hub = by (λ n h. all-emitted turns n h) (budget == 0)
    where
      g : Giving
      g = give hub number budget

      by_given : ((n : ℕ) (h : Hub) → AllByRecursion P (emit_calls turns number n h)) → (given : Given) → AllByRecursion P (elim given as (λ _. List HubCall) [
        | Bytes n ↦ emit_calls turns number (budget - n) g.hub
        | Worked ↦ emit_calls turns number budget g.hub
        | Nothing ↦ []
        | Ending ↦ []
        | End reason ↦ []
      ])
      by_given later (Bytes n) = later (budget - n) g.hub
      by_given later Worked = later budget g.hub
      by_given later Nothing = tt
      by_given later Ending = tt
      by_given later (End reason) = tt

      by : ((n : ℕ) (h : Hub) → AllByRecursion P (emit_calls turns number n h)) → (b : Bool) → AllByRecursion P (elim b as (λ _. List HubCall) [
        | true ↦ []
        | false ↦ gives number budget ∷ (elim g.given as (λ _. List HubCall) [
          | Bytes n ↦ emit_calls turns number (budget - n) g.hub
          | Worked ↦ emit_calls turns number budget g.hub
          | Nothing ↦ []
          | Ending ↦ []
          | End reason ↦ []
        ])
      ])
      by later true = tt
      by later false = (giving budget, by_given later g.given)

  module _ (Good : List ℕ → Type 0) (parts : InParts Good) (taking : (piece : List ℕ) → Good piece → P (takes number piece)) where
    pub all-exchanged : (turns : ℕ) (octets : List ℕ) (hub : Hub) → Good octets → AllByRecursion P (exchange_calls turns number octets hub)
    all-exchanged zero octets hub good = tt
    all-exchanged (suc turns) octets hub good = by (λ os h g. all-exchanged turns os h g) (k == 0 || k == length octets)
      where
        k : ℕ
        k = taken_by hub number octets

        first : List HubCall
        first = fed_calls number (take k octets) hub

        all-first : AllByRecursion P first
        all-first = (taking (take k octets) (parts.front k octets good), all-emitted enough enough (take_octets hub number (take k octets)))

        by : ((os : List ℕ) (h : Hub) → Good os → AllByRecursion P (exchange_calls turns number os h)) → (b : Bool)
            → AllByRecursion P (elim b as (λ _. List HubCall) [ true ↦ first | false ↦ first ++ exchange_calls turns number (drop k octets) (after_calls first hub) ])
        by rest true = all-first
        by rest false = each-append P first (exchange_calls turns number (drop k octets) (after_calls first hub)) all-first (rest (drop k octets) (after_calls first hub) (parts.rest k octets good))
