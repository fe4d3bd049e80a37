-- What a session has to say, and octets to the session of a peer and back.
--     written given buffer      the octets that a call of give copied
--     turn_of given      what follows a call of give
--     has_worked given      whether it reacted to a message
--     has_end told id, not_told told entry      whether the end of an ID is told
--     noted_if notes told, TellsNoted      ends that are noted, or none; what was noted tells them
--     Remembers, Gives      one call of give: what it told of first answers, and all
--     Emits, Exchanges      calls of give until there is no more or so many octets came; an exchange
use Rattle.std.specs.Prelude.{⊤, ◌≡◌, ◌≤◌, ◌⊎◌, ◌++◌, ◌==◌, ℕ, Bool, true, false, not, List, [], take, Option, Some, None}
use Rattle.std.specs.List.{list_any}
use Rattle.push_base.specs.Limits.{max_number}
use Rattle.dsosession.specs.declared.session.EndReason.{EndReason}
use Rattle.pushserver.specs.declared.given.Given.{Given}
use Rattle.pushserver.specs.declared.given.Given.TheVariants.{Bytes, Worked, Nothing, Ending, End}
use Rattle.pushserver.specs.PlainHubs.{Hub, Giving}
use Rattle.pushserver.specs.Giving.{give}
use Rattle.pushserver.specs.Calls.{gives}
use Rattle.hubasking.specs.AskingHubs.{AskingHub}
use Rattle.hubasking.specs.LinkAskings.{Askings, plain_questions, asking_after}
use Rattle.inflight.specs.Ends.{remembers}
use Rattle.replay.specs.declared.exchanging.Turn.{Turn}
use Rattle.replay.specs.declared.exchanging.Turn.TheVariants.{More, Last}
use Rattle.replay.specs.declared.exchanging.Emission.{Emission}
use Rattle.replay.specs.PassedOctets.{Emitted, Exchanged, emitted, exchanged, nothing_emitted, subscriptions_in, enough}
use Rattle.replay.specs.Askings.{calls_asks}
use Rattle.replay.specs.LineCalls.{emit_calls, exchange_calls}
use Rattle.replay.specs.KeptAskings.{StandsFor}
use Rattle.replay.specs.KeptWorlds.{TellsEnds}

-- the octets that a call of give copied into a buffer
abbrev pub written : Given → List ℕ → List ℕ
written (Bytes count) buffer = take count buffer
written _ buffer = []

-- what follows a call of give
abbrev pub turn_of : Given → Turn
turn_of (Bytes n) = More
turn_of Worked = More
turn_of Nothing = Last None
turn_of Ending = Last None
turn_of (End reason) = Last (Some reason)

-- whether a message was reacted to, or a stop, without octets
abbrev pub has_worked : Given → Bool
has_worked Worked = true
has_worked _ = false

-- the ends that are told, where they are noted
abbrev pub noted_if : Bool → List (ℕ × ℕ) → Option (List (ℕ × ℕ))
noted_if true told = Some told
noted_if false told = None

-- what was noted tells the ends
abbrev pub TellsNoted : Option (List (ℕ × ℕ)) → List (ℕ × ℕ) → Type 0
TellsNoted (Some told) plain = TellsEnds told plain
TellsNoted None plain = ⊤

-- the ends of first answers that were told, where a session has these subscriptions behind a call
abbrev pub Remembers : Hub → ℕ → Option (List (ℕ × ℕ)) → Option (List (ℕ × ℕ)) → Type 0
Remembers hub number before later = (plain : List (ℕ × ℕ)) → TellsNoted before plain → TellsNoted later (remembers (subscriptions_in hub number) plain)

-- whether the end of an ID is told
abbrev pub has_end : List (ℕ × ℕ) → ℕ → Bool
has_end told id = list_any (λ e. e.0 == id) told

-- an end of another ID
abbrev pub not_told : List (ℕ × ℕ) → ℕ × ℕ → Bool
not_told told entry = not (has_end told entry.0)

-- one call of give was this, behind which links are asked this
pub record IsGiven (g : Giving) (asked : Askings) (number : ℕ) (before : List ℕ) (told : Option (List (ℕ × ℕ))) (later : AskingHub) (octets : List ℕ) (told_later : Option (List (ℕ × ℕ))) (given : Given) : Type 0 where
  pub answers : given ≡ g.given
  pub written : octets ≡ before ++ g.octets
  pub ends : Remembers g.hub number told told_later
  pub stands : StandsFor later g.hub
  pub asks : later.askings ≡ asked

-- in every hub that is stood for
unfoldable pub Gives : ℕ → AskingHub → ℕ → List ℕ → Option (List (ℕ × ℕ)) → AskingHub → List ℕ → Option (List (ℕ × ℕ)) → Given → Type 0
Gives room kept number before told later octets told_later given = (hub : Hub) → StandsFor kept hub → IsGiven (give hub number room) (asking_after plain_questions (gives number room) hub kept.askings) number before told later octets told_later given

-- calls of give made these octets behind others, and this end, and links are asked this then
pub record IsEmitted (e : Emitted) (asked : Askings) (before : List ℕ) (later : AskingHub) (octets : List ℕ) (told : Option (List (ℕ × ℕ))) (emission : Emission) : Type 0 where
  pub end_told : emission.over ≡ e.over
  pub reacts : emission.reacted ≡ e.reacted
  pub written : octets ≡ before ++ e.octets
  pub ends : TellsNoted told e.filled
  pub stands : StandsFor later e.hub
  pub asks : later.askings ≡ asked

-- a number of octets that are allowed, or the greatest number for any greater one
abbrev pub Allows : ℕ → ℕ → Type 0
Allows count budget = (count ≤ budget) × ((count ≡ budget) ⊎ (count ≡ max_number))

-- in every hub that is stood for, whatever was told of first answers, where so many octets may come
unfoldable pub Emits : ℕ → AskingHub → ℕ → List ℕ → Option (List (ℕ × ℕ)) → AskingHub → List ℕ → Option (List (ℕ × ℕ)) → Emission → Type 0
Emits count kept number before told later octets told_later emission = (budget : ℕ) (hub : Hub) (plain : List (ℕ × ℕ)) → Allows count budget → StandsFor kept hub → TellsNoted told plain
    → IsEmitted (emitted enough number budget (nothing_emitted hub plain)) (calls_asks (emit_calls enough number budget hub) hub kept.askings) before later octets told_later emission

-- an exchange made these octets and this end, and links are asked this then
pub record IsExchanged (x : Exchanged) (asked : Askings) (later : AskingHub) (octets : List ℕ) (over : Option EndReason) : Type 0 where
  pub end_told : over ≡ x.over
  pub written : octets ≡ x.octets
  pub stands : StandsFor later x.hub
  pub asks : later.askings ≡ asked

-- in every hub that is stood for
unfoldable pub Exchanges : AskingHub → ℕ → List ℕ → AskingHub → List ℕ → Option EndReason → Type 0
Exchanges kept number sent later octets over = (hub : Hub) → StandsFor kept hub → IsExchanged (exchanged enough number sent hub []) (calls_asks (exchange_calls enough number sent hub) hub kept.askings) later octets over
