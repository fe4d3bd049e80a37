-- What a server asks its links, beside its history and its sessions (RFC 8766, 5.6).
--     Askings, new_askings      of each link; where nothing was asked
--     plain_questions, kept_questions      the questions of a session
--     questions_in questions hub, questions_at state link questions      those of all sessions; those whose home is a link
--     confirmed_by call hub      the row of a link that a call reconfirms
--     behind questions confirmed later askings      behind a call that leaves this hub
--     asking_after questions call hub askings      behind a call of this hub
--     ask, asks_all      what is sent, and what is asked then; all that is due
use Rattle.std.specs.Prelude.{ℕ, ◌+◌, Bool, true, false, ◌&&◌, List, [], ◌∷◌, map, filter, flat_map, Option, Some, None, slice_get, ◌==◌, if◌then◌else◌}
use Rattle.push_base.specs.Cases.{changed_at, is_empty}
use Rattle.rrset.specs.declared.record.Key.{Key}
use Rattle.rrset.specs.declared.record.Question.{Question}
use Rattle.history.specs.States.{State, home_of, reconfirm_key, accepts}
use Rattle.history.specs.declared.entry.Entry.TheVariants as entries
use Rattle.history.specs.declared.entry.Home.{Home}
use Rattle.history.specs.declared.entry.Home.TheVariants as homes
use Rattle.linkcache.specs.Links.{LinkState}
use Rattle.linkask.specs.Asking.{next, all_due, all_asked}
use Rattle.linkask.specs.Reasons.{LinkAsking, asking_behind}
use Rattle.pushsession.specs.Kept.{KeptQuestions}
use Rattle.pushsession.specs.Requests.{request_of}
use Rattle.pushsession.specs.Sessions.{SessionOf}
use Rattle.pushsession.specs.declared.request.Request.{Request}
use Rattle.pushsession.specs.declared.request.Request.TheVariants as requests
use Rattle.pushsession.specs.declared.session_status.SessionStatus.{SessionStatus}
use Rattle.pushsession.specs.declared.session_status.SessionStatus.TheVariants.{Live}
use Rattle.pushserver.specs.Calls.{HubCall, updates, hears, goes, moves, connects, takes, gives, stops, ends, called}
use Rattle.pushserver.specs.Hubs.{SessionKind, HubOf, can_enter, session_of, state_now}
use Rattle.pushserver.specs.PlainHubs.{Subscription}

abbrev pub Askings : Type 0
Askings = List LinkAsking

abbrev pub new_askings : State → Askings
new_askings start = map (λ l. record { wanted = []; reconfirmed = [] }) start.links

-- ---- questions of sessions; one that has ended or stopped has none

abbrev pub plain_questions : List Subscription → List Question
plain_questions subscriptions = map (λ s. s.question) subscriptions

abbrev pub kept_questions : KeptQuestions → List Question
kept_questions kept = map (λ e. e.1) kept.asked

abbrev pub is_link : ℕ → Option Home → Bool
is_link link (Some (homes.Link i)) = i == link
is_link link _ = false

-- those of all sessions
abbrev pub questions_in : {A Q M S : Type 0} {kind : SessionKind A Q M S} → (A → List Question) → HubOf kind → List Question
questions_in questions hub = flat_map (λ e. questions e.1.subscriptions) hub.sessions

-- those whose home is a link
abbrev pub questions_at : State → ℕ → List Question → List Question
questions_at state link questions = filter (λ q. is_link link (home_of state q.name)) questions

-- ---- rows that are reconfirmed (RFC 8765, 6.5)

-- where that is entered
abbrev pub confirms_key : {A Q M S : Type 0} {kind : SessionKind A Q M S} → HubOf kind → Option (ℕ × Key) → Option (ℕ × Key)
confirms_key hub None = None
confirms_key hub (Some found) = if accepts (state_now hub) (entries.Reconfirm found.0 found.1) && can_enter hub then Some found else None

abbrev pub confirms : {A Q M S : Type 0} {kind : SessionKind A Q M S} → HubOf kind → Option Request → Option (ℕ × Key)
confirms hub (Some (requests.Reconfirm (Some rr))) = confirms_key hub (reconfirm_key (state_now hub) rr)
confirms hub _ = None

abbrev pub is_live : SessionStatus → Bool
is_live Live = true
is_live _ = false

-- by a session's first message, which is reacted to where the session goes on and has no output
abbrev pub confirms_by_turn : {A Q M S : Type 0} {kind : SessionKind A Q M S} → HubOf kind → Option (SessionOf A Q M) → Option (ℕ × Key)
confirms_by_turn hub None = None
confirms_by_turn hub (Some session) = if is_live session.standing && is_empty session.output then confirms hub (request_of session) else None

abbrev pub confirmed_by : {A Q M S : Type 0} {kind : SessionKind A Q M S} → HubCall → HubOf kind → Option (ℕ × Key)
confirmed_by (gives number room) hub = confirms_by_turn hub (session_of hub number)
confirmed_by _ hub = None

abbrev pub confirmed_on : ℕ → Option (ℕ × Key) → Option Key
confirmed_on link None = None
confirmed_on link (Some found) = if found.0 == link then Some found.1 else None

-- ---- calls

abbrev pub links_behind : State → List Question → Option (ℕ × Key) → ℕ → List LinkState → Askings → Askings
links_behind state questions confirmed link (l ∷ ls) (a ∷ askings) =
    asking_behind l.rules.domain l.rows (questions_at state link questions) (confirmed_on link confirmed) a ∷ links_behind state questions confirmed (link + 1) ls askings
links_behind state questions confirmed link _ _ = []

-- by the state and the questions of sessions then
abbrev pub behind : {A Q M S : Type 0} {kind : SessionKind A Q M S} → (A → List Question) → Option (ℕ × Key) → HubOf kind → Askings → Askings
behind questions confirmed later askings = links_behind (state_now later) (questions_in questions later) confirmed 0 (state_now later).links askings

-- a call that neither makes an entry nor changes what a session asks leaves all as it is
abbrev pub asking_after : {A Q M S : Type 0} {kind : SessionKind A Q M S} → (A → List Question) → HubCall → HubOf kind → Askings → Askings
asking_after questions connects hub askings = askings
asking_after questions (takes number piece) hub askings = askings
asking_after questions (stops number rcode delay) hub askings = askings
asking_after questions call hub askings = behind questions (confirmed_by call hub) (called call hub) askings

-- ---- asking

abbrev pub on_link : {X : Type 0} → X → (LinkState → LinkAsking → X) → State → Askings → ℕ → X
on_link none act state askings link = elim (slice_get state.links link) [
  | None ↦ none
  | Some l ↦ elim (slice_get askings link) [ None ↦ none | Some a ↦ act l a ]
]

-- the first question that is due is asked; nothing where none is, or there is no such link
abbrev pub ask : State → Askings → ℕ → Option (List ℕ) × Askings
ask state askings link = on_link (None, askings) (λ l a. (let r = next l.rows state.now a.wanted in (r.0, changed_at link (λ b. record b { wanted = r.1 }) askings))) state askings link

-- again and again, until none is due
abbrev pub asks_all : State → Askings → ℕ → List (List ℕ) × Askings
asks_all state askings link = on_link ([], askings) (λ l a. (all_due l.rows state.now a.wanted, changed_at link (λ b. record b { wanted = all_asked l.rows state.now a.wanted }) askings)) state askings link
