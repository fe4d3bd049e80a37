-- What is asked behind calls of the hub, and behind others that follow them.
--     asks-append, calls-append      calls one behind the other
--     asks-on      the same, where the first calls led to this hub
--     AsksOnce      behind one call
--     withouts-by, cuts-by      the hub where a session goes, or goes if a connection is over
use Rattle.std.proofs.Common.{◌≡◌, ℕ, Bool, true, false, cond, List, [], ◌∷◌, ◌++◌, Option, Some, None, refl, sym, ◌∙◌, ap}
use Rattle.pushserver.specs.Calls.{HubCall, called, after_calls}
use Rattle.pushserver.specs.PlainHubs.{Hub}
use Rattle.hubasking.specs.LinkAskings.{Askings, plain_questions, asking_after}
use Rattle.hubasking.specs.AskingHubs.{AskingHub}
use Rattle.replay.specs.World.{Seat, hub_without, hub_cut_if}
use Rattle.replay.specs.Askings.{calls_asks}
use Rattle.replay.specs.LineCalls.{end_calls}
use Rattle.replay.specs.KeptAskings.{StandsFor}

pub asks-append : (calls more : List HubCall) (hub : Hub) (askings : Askings) → calls_asks (calls ++ more) hub askings ≡ calls_asks more (after_calls calls hub) (calls_asks calls hub askings)
asks-append [] more hub askings = refl
asks-append (call ∷ calls) more hub askings = asks-append calls more (called call hub) (asking_after plain_questions call hub askings)

pub calls-append : (calls more : List HubCall) (hub : Hub) → after_calls (calls ++ more) hub ≡ after_calls more (after_calls calls hub)
calls-append [] more hub = refl
calls-append (call ∷ calls) more hub = calls-append calls more (called call hub)

-- behind calls that led to a hub, and others there
pub asks-on : (calls more : List HubCall) (hub there : Hub) (first between later : Askings) → there ≡ after_calls calls hub → between ≡ calls_asks calls hub first → later ≡ calls_asks more there between
    → later ≡ calls_asks (calls ++ more) hub first
asks-on calls more hub there first between later led asked then =
    then ∙ (λ i. calls_asks more (led i) (asked i)) ∙ sym (asks-append calls more hub first)

-- in every hub that is stood for
abbrev pub AsksOnce : HubCall → AskingHub → AskingHub → Type 0
AsksOnce call kept later = (hub : Hub) → StandsFor kept hub → later.askings ≡ asking_after plain_questions call hub kept.askings

-- ---- sessions that go

pub withouts-by : (o : Option ℕ) (hub : Hub) → hub_without o hub ≡ after_calls (end_calls o) hub
withouts-by None hub = refl
withouts-by (Some number) hub = refl

pub cuts-by : (over : Bool) (seat : Seat) (hub : Hub) → hub_cut_if over seat hub ≡ after_calls (cond over (end_calls seat.session) []) hub
cuts-by true seat hub = withouts-by seat.session hub
cuts-by false seat hub = refl
