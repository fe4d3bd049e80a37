-- What a resting session gives for octets: what it makes of the whole messages in them, in however many exchanges they go in.
--     ExchangedAs      an exchange is as the messages say
--     exchanges      each exchange of a resting session is
--     exchanged-over, exchanged-told      a session that has ended gives nothing more, and its end is told again
use Rattle.std.proofs.Common.{◌≡◌, ℕ, zero, suc, ◌-◌, ◌≤◌, ◌==◌, ◌||◌, min, Bool, true, false, List, [], ◌∷◌, ◌++◌, length, take, drop, Option, Some, None, option_map, inl, inr, ◌⊎◌, refl, sym, ◌∙◌, ap, subst, arith, append_assoc, append-nil, take_all, take-append-drop, length-append, length-drop}
use Rattle.std.proofs.lemmas.Bool.{eqb-true, eqb-false, or_cases, or_parts}
use Rattle.std.proofs.lemmas.List.{length-take}
use Rattle.dsosession.specs.declared.session.EndReason.{EndReason}
use Rattle.dsotlv.specs.Laws.{AreOctets}
use Rattle.dsotlv.specs.Messages.{first_message, messages_in}
use Rattle.dsotlv.proofs.FrameLaws.{Split}
use Rattle.dsotlv.proofs.StreamLaws.{none_found}
use Rattle.pushserver.specs.declared.given.Given.TheVariants.{End}
use Rattle.pushserver.specs.Hubs.{state_now, taken_by, take_octets}
use Rattle.pushserver.specs.PlainHubs.{Hub}
use Rattle.pushserver.specs.Giving.{did}
use Rattle.replay.specs.PassedOctets.{Emitted, Exchanged, emitted, exchanged, nothing_emitted, with_giving, enough}
use Rattle.replay.proofs.turns.ZoneSizes.{IsBounded}
use Rattle.replay.proofs.turns.Turns.{exchanged_as, emitted-turn}
use Rattle.replay.proofs.rest.AtRest.{Core, Ran, resting, ran, behind_octets, At, Longer, IsOver, EmittedBy, EmittedAs, EmitsAsRan, StaysLonger}
use Rattle.replay.proofs.rest.RanLaws.{followed_by, followed, ran-append}
use Rattle.replay.proofs.rest.StreamCounts.{rest-has-none}
use Rattle.replay.proofs.rest.RestingStreams.{short-rest, octets-front, first_part, second_part, cut_behind, second-octets}
use Rattle.replay.proofs.rest.RestingHubs.{taken-by, at-taken, over-taken, over-octets, give-over}

-- ---- what an exchange is

-- the session goes on
pub record ExchangedLive (hub : Hub) (number : ℕ) (rest so_far : List ℕ) (r : Ran) (x : Exchanged) : Type 0 where
  pub octets : x.octets ≡ so_far ++ r.octets
  pub over : x.over ≡ None
  pub at : At hub number x.hub (resting r.core rest [])

-- the session has ended, and the end is told
pub record ExchangedEnd (hub : Hub) (number : ℕ) (reason : EndReason) (so_far : List ℕ) (r : Ran) (x : Exchanged) : Type 0 where
  pub octets : x.octets ≡ so_far ++ r.octets
  pub told : x.over ≡ Some reason
  pub over : IsOver hub number x.hub reason

abbrev pub ExchangedBy : Hub → ℕ → List ℕ → List ℕ → Exchanged → Ran → Option EndReason → Type 0
ExchangedBy hub number rest so_far x r None = ExchangedLive hub number rest so_far r x
ExchangedBy hub number rest so_far x r (Some reason) = ExchangedEnd hub number reason so_far r x

abbrev pub ExchangedAs : Hub → ℕ → List ℕ → List ℕ → Exchanged → Option Ran → Type 0
ExchangedAs hub number rest so_far x None = Longer hub x.hub
ExchangedAs hub number rest so_far x (Some r) = ExchangedBy hub number rest so_far x r r.over

-- ---- one turn

-- what calls of give make of a piece that goes in
abbrev pub fed : ℕ → Hub → List ℕ → Emitted
fed number later piece = emitted enough number enough (nothing_emitted (take_octets later number piece) [])

module _ (turns number : ℕ) (octets : List ℕ) (later : Hub) (so_far : List ℕ) where
  abbrev again : Emitted → ℕ → Exchanged
  again e k = exchanged turns number (drop k octets) e.hub (so_far ++ e.octets)

  abbrev after_test : ℕ → Bool → Exchanged
  after_test k true = exchanged_as (fed number later (take k octets)) so_far
  after_test k false = again (fed number later (take k octets)) k

  exchanged-turn : (k : ℕ) (b : Bool) → taken_by later number octets ≡ k → (k == 0 || k == length octets) ≡ b → exchanged (suc turns) number octets later so_far ≡ after_test k b
  exchanged-turn k b taken test = ap (λ (n : ℕ). after_test n (n == 0 || n == length octets)) taken ∙ ap (λ (c : Bool). after_test k c) test

-- ---- a session that has ended

module _ (hub : Hub) (number : ℕ) (reason : EndReason) where
  pub record StaysOver (so_far : List ℕ) (x : Exchanged) : Type 0 where
    pub octets : x.octets ≡ so_far
    pub over : IsOver hub number x.hub reason

  module _ (later : Hub) (piece : List ℕ) (over : IsOver hub number later reason) where
    abbrev fed_hub : Hub
    fed_hub = take_octets later number piece

    still_over : IsOver hub number fed_hub reason
    still_over = over-octets hub number later reason over piece

    -- one call says the end
    abbrev end_told : Emitted
    end_told = record (with_giving (did (End reason) fed_hub) number (nothing_emitted fed_hub [])) { over = Some reason }

    one-call : fed number later piece ≡ end_told
    one-call = emitted-turn 18446744073709551615 number enough (nothing_emitted fed_hub []) refl (did (End reason) fed_hub) (give-over hub number fed_hub reason still_over enough)

    fed-over : (so_far : List ℕ) → StaysOver so_far (exchanged_as (fed number later piece) so_far)
    fed-over so_far = record {
      octets = ap (λ (e : Emitted). so_far ++ e.octets) one-call ∙ append-nil so_far;
      over = subst (λ (h : Hub). IsOver hub number h reason) (sym (ap (λ (e : Emitted). e.hub) one-call)) still_over;
    }

    fed-told : (fed number later piece).over ≡ Some reason
    fed-told = ap (λ (e : Emitted). e.over) one-call

  pub exchanged-over : (turns : ℕ) (octets : List ℕ) (later : Hub) (so_far : List ℕ) → IsOver hub number later reason → StaysOver so_far (exchanged turns number octets later so_far)
  exchanged-over zero octets later so_far over = record { octets = refl; over = over }
  exchanged-over (suc turns) octets later so_far over = subst (λ (x : Exchanged). StaysOver so_far x)
      (sym (exchanged-turn turns number octets later so_far 0 true (over-taken hub number later reason over octets) refl)) (fed-over later (take 0 octets) over so_far)

  -- its end is told again, where there is a turn
  pub exchanged-told : (turns : ℕ) (octets : List ℕ) (later : Hub) (so_far : List ℕ) → 1 ≤ turns → IsOver hub number later reason → (exchanged turns number octets later so_far).over ≡ Some reason
  exchanged-told zero octets later so_far some over = absurd (omega (arith, some))
  exchanged-told (suc turns) octets later so_far some over =
      ap (λ (x : Exchanged). x.over) (exchanged-turn turns number octets later so_far 0 true (over-taken hub number later reason over octets) refl) ∙ fed-told later (take 0 octets) over

-- ---- how many octets go in

-- where the turns end, all octets have gone in
all_taken : (n m : ℕ) → m ≤ 65536 → (min n (69633 - m) == 0 || min n (69633 - m) == n) ≡ true → n ≤ min n (69633 - m)
all_taken n m short test = by (or_cases (min n (69633 - m) == 0) (min n (69633 - m) == n) test)
  where
    none : (k : ℕ) → k ≡ min n (69633 - m) → k ≡ 0 → n ≤ k
    none k is e = omega (arith, is, e, short)

    by : ((min n (69633 - m) == 0) ≡ true) ⊎ ((min n (69633 - m) == n) ≡ true) → n ≤ min n (69633 - m)
    by (inl e) = none (min n (69633 - m)) refl (eqb-true (min n (69633 - m)) 0 e)
    by (inr e) = omega (arith, eqb-true (min n (69633 - m)) n e)

-- and where they go on, some have
some_taken : (k n : ℕ) → (k == 0 || k == n) ≡ false → 1 ≤ k
some_taken zero n test = absurd (eqb-false 0 0 (or_parts (0 == 0) (0 == n) test).0 refl)
some_taken (suc k) n test = omega arith

-- and some are left
some_left : (n m : ℕ) → (min n m == 0 || min n m == n) ≡ false → 1 ≤ n - min n m
some_left n m test = by (n - min n m) refl
  where
    by : (left : ℕ) → n - min n m ≡ left → 1 ≤ left
    by zero e = absurd (eqb-false (min n m) n (or_parts (min n m == 0) (min n m == n) test).1 (omega (arith, e)))
    by (suc left) e = omega arith

-- ---- the exchanges of a session at rest

module _ (hub : Hub) (number : ℕ) where
  -- what was emitted, when all octets have gone in
  once-by : (rest so_far : List ℕ) (e : Emitted) (r : Ran) (over : Option EndReason) → EmittedBy hub number rest r e over → ExchangedBy hub number rest so_far (exchanged_as e so_far) r over
  once-by rest so_far e r None told = record { octets = ap (λ (octets : List ℕ). so_far ++ octets) told.octets; over = told.over; at = told.at }
  once-by rest so_far e r (Some reason) told = record { octets = ap (λ (octets : List ℕ). so_far ++ octets) told.octets; told = told.told; over = told.over }

  once : (rest so_far : List ℕ) (e : Emitted) (o : Option Ran) → EmittedAs hub number rest e o → ExchangedAs hub number rest so_far (exchanged_as e so_far) o
  once rest so_far e None told = told
  once rest so_far e (Some r) told = once-by rest so_far e r r.over told

  -- what was emitted before counts as what the session wrote
  behind-by : (rest so_far before octets : List ℕ) (x : Exchanged) (r : Ran) (over : Option EndReason) → before ≡ octets → ExchangedBy hub number rest (so_far ++ before) x r over
      → ExchangedBy hub number rest so_far x (behind_octets octets r) over
  behind-by rest so_far before octets x r None is told = record { octets = told.octets ∙ append_assoc so_far before r.octets ∙ ap (λ (o : List ℕ). so_far ++ (o ++ r.octets)) is; over = told.over; at = told.at }
  behind-by rest so_far before octets x r (Some reason) is told = record { octets = told.octets ∙ append_assoc so_far before r.octets ∙ ap (λ (o : List ℕ). so_far ++ (o ++ r.octets)) is; told = told.told; over = told.over }

  behind : (rest so_far before octets : List ℕ) (x : Exchanged) (o : Option Ran) → before ≡ octets → ExchangedAs hub number rest (so_far ++ before) x o → ExchangedAs hub number rest so_far x (option_map (behind_octets octets) o)
  behind rest so_far before octets x None is told = told
  behind rest so_far before octets x (Some r) is told = behind-by rest so_far before octets x r r.over is told

-- what is said of exchanges of so many turns
abbrev pub Exchanges : Hub → ℕ → ℕ → Type 0
Exchanges hub number turns = (octets : List ℕ) (later : Hub) (core : Core) (input so_far : List ℕ) → At hub number later (resting core input []) → first_message input ≡ None → AreOctets (input ++ octets) → length octets ≤ turns
    → ExchangedAs hub number (messages_in (input ++ octets)).1 so_far (exchanged turns number octets later so_far) (ran hub (messages_in (input ++ octets)).0 core)

module _ (stays-longer : (hub : Hub) → StaysLonger hub) (hub : Hub) (number turns : ℕ) (others : Exchanges hub number turns) (octets so_far : List ℕ) (e : Emitted) (rest : List ℕ) (k : ℕ) where
  abbrev whole_rest : Split
  whole_rest = messages_in (rest ++ drop k octets)

  -- the further turns, when some octets are left
  go_on-by : (below : AreOctets (rest ++ drop k octets)) → first_message rest ≡ None → 1 ≤ length (drop k octets) → length (drop k octets) ≤ turns → (later : Hub) (r : Ran) (over : Option EndReason) → r.over ≡ over → EmittedBy hub number rest r e over
      → ExchangedAs hub number whole_rest.1 so_far (again turns number octets later so_far e k) (followed_by hub whole_rest.0 r over)
  go_on-by below none some few later r None is told =
      behind hub number whole_rest.1 so_far e.octets r.octets (again turns number octets later so_far e k) (ran hub whole_rest.0 r.core) told.octets
      (others (drop k octets) e.hub r.core rest (so_far ++ e.octets) told.at none below few)
  go_on-by below none some few later r (Some reason) is told =
      let still = exchanged-over hub number reason turns (drop k octets) e.hub (so_far ++ e.octets) told.over in
      let end : ExchangedEnd hub number reason so_far r (again turns number octets later so_far e k) = record {
        octets = still.octets ∙ ap (λ (o : List ℕ). so_far ++ o) told.octets;
        told = exchanged-told hub number reason turns (drop k octets) e.hub (so_far ++ e.octets) (omega (arith, some, few)) told.over;
        over = still.over;
      } in
      subst (λ (o : Option EndReason). ExchangedBy hub number whole_rest.1 so_far (again turns number octets later so_far e k) r o) (sym is) end

  go_on : (below : AreOctets (rest ++ drop k octets)) → first_message rest ≡ None → 1 ≤ length (drop k octets) → length (drop k octets) ≤ turns → (later : Hub) (o : Option Ran) → EmittedAs hub number rest e o
      → ExchangedAs hub number whole_rest.1 so_far (again turns number octets later so_far e k) (followed hub whole_rest.0 o)
  go_on below none some few later None told = (stays-longer hub).exchanged turns number (drop k octets) e.hub (so_far ++ e.octets) told
  go_on below none some few later (Some r) told = go_on-by below none some few later r r.over refl told

module _ (stays-longer : (hub : Hub) → StaysLonger hub) (emits-as-ran : EmitsAsRan) (hub : Hub) (number : ℕ) (bounded : IsBounded (state_now hub)) where
  -- no octets, and no turn
  exchanges-none : Exchanges hub number 0
  exchanges-none [] later core input so_far at none below few = subst (λ (s : Split). ExchangedAs hub number s.1 so_far (exchanged 0 number [] later so_far) (ran hub s.0 core))
      (sym (ap (λ (octets : List ℕ). messages_in octets) (append-nil input) ∙ none_found input none)) (record { octets = sym (append-nil so_far); over = refl; at = at })
  exchanges-none (o ∷ os) later core input so_far at none below few = absurd (omega (arith, few))

  module _ (turns : ℕ) (octets : List ℕ) (later : Hub) (core : Core) (input so_far : List ℕ) (at : At hub number later (resting core input [])) (none : first_message input ≡ None) (below : AreOctets (input ++ octets)) where
    abbrev going_in : ℕ
    going_in = min (length octets) (69633 - length input)

    abbrev piece : List ℕ
    piece = take going_in octets

    short : length input ≤ 65536
    short = short-rest input (octets-front input octets below) none

    piece-size : length piece ≡ going_in
    piece-size = omega (arith, length-take going_in octets)

    -- what the calls of give make of the piece that goes in
    told : EmittedAs hub number (first_part input piece).1 (fed number later piece) (ran hub (first_part input piece).0 core)
    told = emits-as-ran hub number (take_octets later number piece) core (input ++ piece) bounded
        (at-taken hub number later core input at piece (omega (arith, piece-size))) (omega (arith, short, piece-size, length-append input piece))

    exchanges-by : Exchanges hub number turns → length octets ≤ suc turns → (b : Bool) → (going_in == 0 || going_in == length octets) ≡ b
        → ExchangedAs hub number (messages_in (input ++ octets)).1 so_far (after_test turns number octets later so_far going_in b) (ran hub (messages_in (input ++ octets)).0 core)
    exchanges-by others few true test =
        subst (λ (p : List ℕ). ExchangedAs hub number (messages_in (input ++ p)).1 so_far (exchanged_as (fed number later piece) so_far) (ran hub (messages_in (input ++ p)).0 core))
        (take_all going_in octets (all_taken (length octets) (length input) short test))
        (once hub number (first_part input piece).1 so_far (fed number later piece) (ran hub (first_part input piece).0 core) told)
    exchanges-by others few false test =
        let behind : List ℕ = drop going_in octets in
        let whole : piece ++ behind ≡ octets = take-append-drop going_in octets in
        let some = some_taken going_in (length octets) test in
        let left : length behind ≤ turns = omega (arith, few, some, length-drop going_in octets) in
        let more : 1 ≤ length behind = omega (arith, some_left (length octets) (69633 - length input) test, length-drop going_in octets) in
        let second = second_part input piece behind in
        let last = go_on stays-longer hub number turns others octets so_far (fed number later piece) (first_part input piece).1 going_in (second-octets input piece behind octets whole below)
        (rest-has-none (input ++ piece)) more left later (ran hub (first_part input piece).0 core) told in
        let parts = subst (λ (o : Option Ran). ExchangedAs hub number second.1 so_far (again turns number octets later so_far (fed number later piece) going_in) o) (sym (ran-append hub (first_part input piece).0 second.0 core)) last in
        subst (λ (s : Split). ExchangedAs hub number s.1 so_far (again turns number octets later so_far (fed number later piece) going_in) (ran hub s.0 core)) (sym (cut_behind input piece behind octets whole)) parts

    exchanges-more : Exchanges hub number turns → length octets ≤ suc turns
        → ExchangedAs hub number (messages_in (input ++ octets)).1 so_far (exchanged (suc turns) number octets later so_far) (ran hub (messages_in (input ++ octets)).0 core)
    exchanges-more others few = subst (λ (x : Exchanged). ExchangedAs hub number (messages_in (input ++ octets)).1 so_far x (ran hub (messages_in (input ++ octets)).0 core))
        (sym (exchanged-turn turns number octets later so_far going_in (going_in == 0 || going_in == length octets) (taken-by hub number later core input at octets) refl))
        (exchanges-by others few (going_in == 0 || going_in == length octets) refl)

  pub exchanges : (turns : ℕ) → Exchanges hub number turns
  exchanges zero = exchanges-none
  exchanges (suc turns) = λ octets later core input so_far at none below few. exchanges-more turns octets later core input so_far at none below (exchanges turns) few
