-- A machine that browses, as a plain client with what is shown of it.
--     Browsing      the plain machine
--     turned octets now b      a read gave these octets, and now it is this moment: what changed of what is shown, and the machine then
--     is_idle octets now b      the read gave none, and by this moment nothing is due
--     StandsAs browser b      what is kept stands for the plain machine
use Rattle.std.specs.Prelude.{◌≡◌, ℕ, zero, suc, ◌^◌, Bool, true, false, not, ◌&&◌, ◌||◌, List, [], ◌∷◌, ◌++◌, length, fold, Option, Some, None, nat_le, ◌==◌, if◌then◌else◌}
use Rattle.std.specs.List.{list_any}
use Rattle.rrset.specs.Records.{same_question}
use Rattle.rrset.specs.declared.record.Question.{Question}
use Rattle.pushclient.specs.Clients.{Client, Held, asked_only, refused_with, set_held, new_client, connected, cut, subscribe, unsubscribe, take_octets, held}
use Rattle.pushclient.specs.Steps.{step, moment}
use Rattle.pushclient.specs.Rule.{StandsFor}
use Rattle.pushclient.specs.declared.client.Asked.{Asked}
use Rattle.pushclient.specs.declared.client.Asked.TheVariants as asked
use Rattle.pushclient.specs.declared.client.Step.{Step}
use Rattle.pushclient.specs.declared.client.Step.TheVariants as steps
use Rattle.services.specs.Services.{Known, services, needs}
use Rattle.services.specs.declared.service.Service.{Service}
use Rattle.services.specs.declared.service.Change.{Change}
use Rattle.browsing.specs.declared.showing.Showing.{Showing}
use Rattle.browsing.specs.declared.showing.Progress.{Progress}
use Rattle.browsing.specs.declared.showing.TheConstants as times
use Rattle.browsing.specs.declared.stage.Stage.{Stage}
use Rattle.browsing.specs.declared.stage.Stage.TheVariants as stages
use Rattle.browsing.specs.declared.browser.Browser.{Browser}
use Rattle.browsing.specs.Showing.{is_overdue, later, shows, shows_nothing, begins_anew}

-- ---- hearing

-- behind this step the client has nothing to react to
abbrev pub is_last : Step → Bool
is_last steps.Waiting = true
is_last (steps.Closed reason) = true
is_last _ = false

-- the client reacts to so many messages at most, one after the other, until none is whole or it has closed
abbrev pub reacts_to : ℕ → Client → Client
reacts_to zero client = client
reacts_to (suc more) client = (let one = step client in elim (is_last one.0) [ true ↦ one.1 | false ↦ reacts_to more one.1 ])

unfoldable pub reacts : Client → Client
reacts client = reacts_to 18446744073709551615 client

-- octets that have room go in, and what is whole then is reacted to (RFC 7766, 8)
abbrev pub hears : List ℕ → Client → Client
hears octets client = reacts (take_octets octets client)

-- ---- asking

-- a question is asked, and noted where it wasn't asked before
abbrev pub noted : Asked → Question → List Question → List Question
noted asked.New question questions = questions ++ question ∷ []
noted asked.Already question questions = questions
noted asked.Many question questions = questions

abbrev pub asks_one : Client × List Question → Question → Client × List Question
asks_one e question = let said = subscribe e.0 question in (said.1, noted said.0 question e.1)

abbrev pub asks_all : List Question → Client × List Question → Client × List Question
asks_all needed e = fold asks_one e needed

abbrev pub is_needed : List Question → Question → Bool
is_needed needed question = list_any (λ other. same_question other question) needed

-- a question that isn't needed is dropped, another one noted
abbrev pub drops_one : List Question → Client × List Question → Question → Client × List Question
drops_one needed e question = if is_needed needed question then (e.0, e.1 ++ question ∷ []) else ((unsubscribe e.0 question).1, e.1)

abbrev pub drops_all : List Question → List Question → Client × List Question → Client × List Question
drops_all needed questions e = fold (drops_one needed) e questions

abbrev pub awaits : Held → Bool
awaits asked_only = true
awaits _ = false

abbrev pub holds : Held → Bool
holds (set_held id rows) = true
holds _ = false

abbrev pub is_awaited : Known → Question → Bool
is_awaited known question = awaits (known question)

abbrev pub is_held : Known → Question → Bool
is_held known question = holds (known question)

abbrev pub are_awaited : Known → List Question → Bool
are_awaited known needed = list_any (is_awaited known) needed

-- the root's set is held, and no need waits for its answer
abbrev pub is_answered : Known → Question → List Question → Bool
is_answered known root needed = is_held known root && not (are_awaited known needed)

-- ---- the machine

-- the client, what it browses for, what it asked and hasn't dropped, when octets last came, what is shown, and what the last turn left to be waited for
pub record Browsing : Type 0 where
  pub client : Client
  pub root : Question
  pub asked : List Question
  pub heard : ℕ
  pub showing : Showing
  pub stage : Stage

abbrev pub begins : Question → Browsing
begins root = record { client = (subscribe new_client root).1; root = root; asked = root ∷ []; heard = 0; showing = shows_nothing; stage = stages.Begun }

abbrev pub is_connected_at : ℕ → Browsing → Browsing
is_connected_at now b = record b { client = connected now b.client; heard = now; showing = begins_anew now b.showing; stage = stages.Begun }

abbrev pub is_cut : Browsing → Browsing
is_cut b = record b { client = cut b.client }

-- the octets of a read
abbrev pub listens : List ℕ → ℕ → Browsing → Browsing
listens octets now b = record b { client = hears octets b.client; heard = if length octets == 0 then b.heard else now }

-- the services that the records make that the client holds
abbrev pub list_of : Browsing → List Service
list_of b = services b.root (held b.client)

-- each need is asked, and then it is this moment
abbrev pub asks : List Question → ℕ → Browsing → Browsing
asks needed now b = let e = asks_all needed (b.client, b.asked) in record b { client = moment e.0 now; asked = e.1 }

-- what isn't needed is dropped
abbrev pub forgets : List Question → Browsing → Browsing
forgets needed b = let e = drops_all needed b.asked (b.client, []) in record b { client = e.0; asked = e.1 }

abbrev pub has_answers : List Question → Browsing → Bool
has_answers needed b = is_answered (held b.client) b.root needed

-- all that is needed is answered, and no octet has come for a while
abbrev pub is_settled : List Question → ℕ → Browsing → Bool
is_settled needed now b = has_answers needed b && nat_le (later b.heard times.QUIET) now

-- how far a list has come that asks for this
abbrev pub progress : List Question → ℕ → Browsing → Progress
progress needed now b = record { answered = has_answers needed b; settled = is_settled needed now b }

-- what is left to be waited for: a turn that dropped some questions made room for others, so one more is due
abbrev pub stage_after : Progress → ℕ → ℕ → Stage
stage_after far asked kept = if not far.answered then stages.Waiting else (if far.settled && nat_le asked kept then stages.Calm else stages.Answered)

-- where it is settled what isn't needed is dropped; and the list is shown, where it is ripe
abbrev pub concludes : List Service → List Question → ℕ → Browsing → List Change × Browsing
concludes list needed now b =
    let far = progress needed now b in
    let shown = shows list far now b.showing in
    let left = if far.settled then forgets needed b else b in
    (shown.0, record left { showing = shown.1; stage = stage_after far (length b.asked) (length left.asked) })

-- the list that is made of what is heard; what it needs is asked
abbrev pub turns : List ℕ → ℕ → Browsing → List Change × Browsing
turns octets now b =
    let heard = listens octets now b in
    let list = list_of heard in
    let needed = needs b.root list in
    concludes list needed now (asks needed now heard)

-- of these stages one that isn't over by time waits for octets; one that is over where nothing has come for a while is due then
abbrev pub is_stage_over : Stage → Bool → Bool
is_stage_over stages.Begun quiet = true
is_stage_over stages.Waiting quiet = false
is_stage_over stages.Answered quiet = quiet
is_stage_over stages.Calm quiet = false

-- by this moment a turn is due, though no octet has come: its stage is over, or a list has waited as long as it waits at most
abbrev pub is_due : Stage → ℕ → Showing → ℕ → Bool
is_due stage heard showing now = is_stage_over stage (nat_le (later heard times.QUIET) now) || is_overdue now showing

abbrev pub idles : List ℕ → Stage → ℕ → Showing → ℕ → Bool
idles octets stage heard showing now = length octets == 0 && not (is_due stage heard showing now)

abbrev pub is_idle : List ℕ → ℕ → Browsing → Bool
is_idle octets now b = idles octets b.stage b.heard b.showing now

-- only the moment passes
abbrev pub waits : ℕ → Browsing → Browsing
waits now b = record b { client = moment b.client now }

-- An idle turn tells nothing, and asks nothing: what is known is what it was, and the list was made of that.
abbrev pub turned : List ℕ → ℕ → Browsing → List Change × Browsing
turned octets now b = if is_idle octets now b then ([], waits now b) else turns octets now b

abbrev pub refused_in : Held → Option ℕ
refused_in (refused_with rcode) = Some rcode
refused_in _ = None

abbrev pub refusal : Browsing → Option ℕ
refusal b = refused_in (held b.client b.root)

-- the client that is kept stands for the plain one, and all else is the same
pub record StandsAs (browser : Browser) (b : Browsing) : Type 0 where
  pub client : StandsFor browser.client b.client
  pub root : browser.root ≡ b.root
  pub asked : browser.asked ≡ b.asked
  pub heard : browser.heard ≡ b.heard
  pub showing : browser.showing ≡ b.showing
  pub stage : browser.stage ≡ b.stage
