-- The first of the events that are left.
--     first-is      what is known of it
--     some-first      there is one
--     takes-first      it is taken off
--     if_takes      so where a text is made
--     carries-shown, carries-so      what a client carries
use Rattle.std.proofs.Common.{◌≡◌, ℕ, ◌<◌, List, [], ◌∷◌, length, arith, string_bytes, IfOk, Result, Ok, Err, Global, sym, subst, refl}
use Rattle.std.specs.declared.string.String.{String}
use Rattle.rrset.specs.declared.record.Question.{Question}
use Rattle.scripts.specs.Lines.{Word}
use Rattle.scripts.specs.Events.{client_at, known_clients}
use Rattle.scripts.specs.declared.clients.KnownClient.{KnownClient}
use Rattle.scripts.specs.declared.event.Event.{Event}
use Rattle.scripts.specs.declared.event.Event.TheVariants as events
use Rattle.scripts.specs.declared.line.ClientEvent.{ClientEvent}
use Rattle.scripts.specs.declared.line.ClientEvent.TheVariants as client_events
use Rattle.replay.specs.KeptTwoWorlds.{Carries, CarriesShown, FirstIs, RunsCarry, Takes}
use Rattle.replay.specs.declared.two_worlds.Worlds as program

pub first-is : (P : Event → Type 0) (happened rest : List Event) (event : Event) → happened ≡ event ∷ rest → FirstIs P happened → P event
first-is P happened rest event is first = subst (FirstIs P) is first

pub some-first : (P : Event → Type 0) (happened : List Event) → FirstIs P happened → 0 < length happened
some-first P [] first = absurd first
some-first P (event ∷ events) first = omega arith

pub takes-first : (P : Event → Type 0) (happened rest later : List Event) (event : Event) → happened ≡ event ∷ rest → later ≡ rest → P event → Takes P happened later
takes-first P happened rest later event is same p = subst (λ (es : List Event). Takes P es later) (sym is) (p, same)

pub if_takes : {E : Type 0} (P : List ℕ → Event → Type 0) (Q : List ℕ → Type 0) (r : Result (String Global) E) (happened rest later : List Event) (event : Event) → happened ≡ event ∷ rest → later ≡ rest → ((text : List ℕ) → Takes (P text) happened later → Q text)
    → IfOk r (λ text. P (string_bytes text) event) → IfOk r (λ text. Q (string_bytes text))
if_takes P Q (Ok text) happened rest later event is same does p = does (string_bytes text) (takes-first (P (string_bytes text)) happened rest later event is same p)
if_takes P Q (Err e) happened rest later event is same does p = tt

-- ---- a carry

-- what is shown of a name, as it is written
pub carries-shown : {E : Type 0} (w : Word) (event : ClientEvent) (question : Question) (written v : List ℕ) (before after : program.Worlds) (r : Result (String Global) E)
    → event ≡ client_events.Show question written → v ≡ written → IfOk r (λ text. Carries w question v before (string_bytes text) after) → IfOk r (λ text. CarriesShown w event before (string_bytes text) after)
carries-shown w event question written v before after r is same carried =
    subst (λ (e : ClientEvent). IfOk r (λ text. CarriesShown w e before (string_bytes text) after)) (sym is)
    (subst (λ (u : List ℕ). IfOk r (λ text. Carries w question u before (string_bytes text) after)) same carried)

-- by the client of a number
pub carries-so : {E : Type 0} (clients : List KnownClient) (event : Event) (shown : ClientEvent) (number : ℕ) (w : Word) (before after : program.Worlds) (r : Result (String Global) E)
    → event ≡ events.Client number shown → w ≡ (client_at (known_clients clients) number).0 → IfOk r (λ text. CarriesShown w shown before (string_bytes text) after) → IfOk r (λ text. RunsCarry clients event before (string_bytes text) after)
carries-so clients event shown number w before after r is word carried =
    subst (λ (e : Event). IfOk r (λ text. RunsCarry clients e before (string_bytes text) after)) (sym is)
    (subst (λ (u : Word). IfOk r (λ text. CarriesShown u shown before (string_bytes text) after)) word carried)
