-- What is kept of the reasons to ask, beside a hub.
--     reasons_of state asked, session_reasons state sessions      the reasons of one session's questions; of each session's
--     rests hub number, rests_in entry      the session of a number asks nothing; that in a place
--     MatchesLink rows reasons, AreKept hub reasons      what always holds of a link; of all
--     Follows state before later, CanFollow later reasons      where sessions ask as before or nothing any more; what may follow a call
--     Lowers link now read old new      bounds of a link are lowered for what it may hear
--     followed_from link sessions links askings      what is asked then
use Rattle.std.specs.Prelude.{◌≡◌, ◌⊎◌, ◌≤◌, ℕ, ◌+◌, ◌==◌, Bool, true, false, List, [], ◌∷◌, map, flat_map, Option, Some, None, Result, Ok, Err, slice_get}
use Rattle.std.specs.List.{AllZip}
use Rattle.push_base.specs.Cases.{is_empty}
use Rattle.push_base.specs.Limits.{max_moment}
use Rattle.rrset.specs.declared.record.Hearing.{Hearing}
use Rattle.rrset.specs.declared.record.Question.{Question}
use Rattle.subscr.specs.Asked.{Asked}
use Rattle.linkcache.specs.Links.{LinkState}
use Rattle.linkcache.specs.Rows.{LinkRows, heard}
use Rattle.linkcache.specs.declared.rules.LinkRules.{LinkRules}
use Rattle.linkask.specs.Bounds.{AreBounds}
use Rattle.linkask.specs.Reasons.{LinkAsking, question_on, still_reconfirmed}
use Rattle.linkreasons.specs.AllReasons.{AllReasons, ReasonsOfLink, AreBoundsAt, KeepsBounds, askings_of, reasons_on, with_any_of}
use Rattle.linkreasons.specs.declared.reason.Reason.{Reason}
use Rattle.history.specs.States.{State, home_of}
use Rattle.history.specs.declared.entry.Home.{Home}
use Rattle.history.specs.declared.entry.Home.TheVariants as homes
use Rattle.pushsession.specs.Kept.{KeptSession}
use Rattle.livesessions.specs.NumberedSessions.{Numbered}
use Rattle.pushserver.specs.Hubs.{now, session_of, state_now}
use Rattle.pushserver.specs.KeptHubs.{KeptHub, StandsFor}
use Rattle.pushserver.specs.PlainHubs.{Hub}
use Rattle.pushserver.specs.declared.given.Why.{Why}

-- ---- reasons of sessions

abbrev pub reasons_at : ℕ → Question → List LinkState → Option Home → List Reason
reasons_at id question links (Some (homes.Link i)) = elim (slice_get links i) [ None ↦ [] | Some l ↦ map (λ q. record { id = id; link = i; question = q }) (question_on l.rules.domain question) ]
reasons_at id question links _ = []

abbrev pub reasons_for : State → ℕ × Question → List Reason
reasons_for state e = reasons_at e.0 e.1 state.links (home_of state e.1.name)

abbrev pub reasons_of : State → Asked → List Reason
reasons_of state asked = flat_map (reasons_for state) asked

abbrev pub session_reasons : State → Numbered KeptSession → List (ℕ × List Reason)
session_reasons state sessions = map (λ e. (e.0, reasons_of state e.1.subscriptions.asked)) sessions

-- the session in a place
abbrev pub rests_in : Option (ℕ × KeptSession) → Bool
rests_in None = true
rests_in (Some e) = is_empty e.1.subscriptions.asked

-- where there is no such session, too
abbrev pub rests : KeptHub → ℕ → Bool
rests hub number = elim (session_of hub number) [ None ↦ true | Some session ↦ is_empty session.subscriptions.asked ]

-- ---- what always holds

-- its rows that are reconfirmed weren't heard since, and no bound is too late
pub record MatchesLink (link : LinkState) (reasons : ReasonsOfLink) : Type 0 where
  pub still : still_reconfirmed link.rows reasons.reconfirmed ≡ reasons.reconfirmed
  pub bounds : AreBounds link.rows reasons.kept

-- each session has the reasons of its questions, and each link what belongs to it
pub record AreKept (hub : KeptHub) (reasons : AllReasons) : Type 0 where
  pub plain : Hub
  pub stands : StandsFor hub plain
  pub timely : now hub ≤ max_moment
  pub sessions : reasons.sessions ≡ session_reasons (state_now hub) hub.sessions
  pub links : AllZip MatchesLink (state_now hub).links reasons.links

-- ---- behind a call

-- a session that still asks has the reasons of its questions
abbrev pub StillAsks : KeptHub → ℕ × List Reason → ℕ × KeptSession → Type 0
StillAsks later before e = (before.0 ≡ e.0) × ((e.1.subscriptions.asked ≡ []) ⊎ (before.1 ≡ reasons_of (state_now later) e.1.subscriptions.asked))

-- bounds of each link's questions, for its rows then
abbrev pub HasBounds : LinkState → ReasonsOfLink → Type 0
HasBounds link reasons = AreBounds link.rows reasons.kept

pub record CanFollow (later : KeptHub) (reasons : AllReasons) : Type 0 where
  pub plain : Hub
  pub stands : StandsFor later plain
  pub timely : now later ≤ max_moment
  pub sessions : AllZip (StillAsks later) reasons.sessions later.sessions
  pub links : AllZip HasBounds (state_now later).links reasons.links

-- rows that were heard since aren't reconfirmed any more, and what has no reason goes
abbrev pub followed_from : ℕ → List (ℕ × List Reason) → List LinkState → List LinkAsking → List LinkAsking
followed_from link sessions (l ∷ ls) (a ∷ askings) =
    (let left = still_reconfirmed l.rows a.reconfirmed in record { wanted = with_any_of (reasons_on link sessions left) a.wanted; reconfirmed = left }) ∷ followed_from (link + 1) sessions ls askings
followed_from link sessions _ _ = []

abbrev pub followed : KeptHub → List LinkAsking → List LinkAsking
followed later askings = followed_from 0 (session_reasons (state_now later) later.sessions) (state_now later).links askings

-- bounds of a link are lowered for what it may hear
pub record LowersFor (link now : ℕ) (hearing : Hearing) (old new : AllReasons) : Type 0 where
  pub sessions : new.sessions ≡ old.sessions
  pub askings : askings_of new ≡ askings_of old
  pub bounds : (rules : LinkRules) (rows : LinkRows) → AreBoundsAt rows link old → AreBoundsAt (heard rules rows now hearing.rrs) link new
  pub keeps : KeepsBounds old new
  pub others : (other : ℕ) → (other == link) ≡ false → slice_get new.links other ≡ slice_get old.links other

-- where it is a hearing
abbrev pub Lowers : ℕ → ℕ → Result Hearing Why → AllReasons → AllReasons → Type 0
Lowers link now (Ok hearing) old new = LowersFor link now hearing old new
Lowers link now (Err why) old new = new ≡ old
