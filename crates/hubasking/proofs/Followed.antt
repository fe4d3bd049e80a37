-- What is asked where links follow the reasons for it is what is to be asked behind a call.
--     lead-followed      it is the same from wherever it was led on
--     followed-behind      behind a call that reconfirms no row
use Rattle.std.proofs.Common.{◌≡◌, ℕ, zero, suc, ◌+◌, Bool, true, false, List, [], ◌∷◌, ◌++◌, length, map, Option, Some, None, refl, sym, ap, subst, ◌∙◌, ◌||◌, arith}
use Rattle.std.specs.Prelude.{slice_get, flat_map, IfSome}
use Rattle.std.specs.List.{AllZip, list_any}
use Rattle.rrset.specs.declared.record.Key.{Key}
use Rattle.rrset.specs.declared.record.Question.{Question}
use Rattle.linkcache.specs.Links.{LinkState}
use Rattle.linkask.specs.Asking.{Wanted, same_asked}
use Rattle.linkask.specs.Reasons.{LinkAsking, Reconfirmed, question_for, reasons, still_reconfirmed, with_reasons}
use Rattle.linkreasons.specs.AllReasons.{AllReasons, ReasonsOfLink, AreFollowed, WantsReasons, asking_of, askings_of, reasons_on, with_any_of}
use Rattle.linkreasons.specs.Laws.{FollowsReasons}
use Rattle.history.specs.States.{State}
use Rattle.pushsession.specs.Kept.{KeptSession}
use Rattle.livesessions.specs.NumberedSessions.{Numbered}
use Rattle.pushserver.specs.Hubs.{state_now}
use Rattle.pushserver.specs.KeptHubs.{KeptHub}
use Rattle.hubasking.specs.KeptReasons.{CanFollow, HasBounds, followed, followed_from, session_reasons}
use Rattle.hubasking.specs.Following.{LeadFrom, LeadsAt}
use Rattle.hubasking.specs.LinkAskings.{behind, kept_questions, links_behind, questions_at, questions_in}
use Rattle.hubasking.proofs.Leading.{AskFewer, Sessions, WantFrom, among-both, asked_with, want-all}
use Rattle.hubasking.proofs.Clearing.{ask-fewer, bounds-length}
use Rattle.hubasking.proofs.Questions.{asked-of-link}

-- ---- it is the same from wherever it was led on

same-at : (link : ℕ) (sessions : Sessions) (l : LinkState) (a b : LinkAsking) → LeadsAt link sessions l a b
    → asked_with (with_any_of (reasons_on link sessions (still_reconfirmed l.rows b.reconfirmed)) b.wanted) (still_reconfirmed l.rows b.reconfirmed) ≡ asked_with (with_any_of (reasons_on link sessions (still_reconfirmed l.rows a.reconfirmed)) a.wanted) (still_reconfirmed l.rows a.reconfirmed)
same-at link sessions l a b f = λ i. record { wanted = (ap (λ (r : Reconfirmed). with_any_of (reasons_on link sessions r) b.wanted) f.still ∙ f.wanted) i; reconfirmed = f.still i }

pub lead-followed : (link : ℕ) (sessions : Sessions) (ls : List LinkState) (asks bs : List LinkAsking) → LeadFrom link sessions ls asks bs → followed_from link sessions ls bs ≡ followed_from link sessions ls asks
lead-followed link sessions [] [] [] f = refl
lead-followed link sessions [] [] (b ∷ bs) f = absurd f
lead-followed link sessions [] (a ∷ asks) bs f = absurd f
lead-followed link sessions (l ∷ ls) [] bs f = absurd f
lead-followed link sessions (l ∷ ls) (a ∷ asks) [] f = absurd f
lead-followed link sessions (l ∷ ls) (a ∷ asks) (b ∷ bs) f = λ i. same-at link sessions l a b f.0 i ∷ lead-followed (link + 1) sessions ls asks bs f.1 i

-- ---- behind a call that reconfirms no row

-- these links stand from a place on
abbrev pub StandFrom : ℕ → List LinkState → List LinkState → Type 0
StandFrom link ls all = (i : ℕ) → slice_get all (link + i) ≡ slice_get ls i

pub stand-here : (link : ℕ) (l : LinkState) (ls all : List LinkState) → StandFrom link (l ∷ ls) all → slice_get all link ≡ Some l
stand-here link l ls all stand = let same : link + 0 ≡ link = omega arith in ap (slice_get all) (sym same) ∙ stand 0

pub stand-next : (link : ℕ) (l : LinkState) (ls all : List LinkState) → StandFrom link (l ∷ ls) all → StandFrom (link + 1) ls all
stand-next link l ls all stand i = let same : link + 1 + i ≡ link + suc i = omega arith in ap (slice_get all) same ∙ stand (suc i)

pub stand-all : (all : List LinkState) → StandFrom 0 all all
stand-all all i = let same : 0 + i ≡ i = omega arith in ap (slice_get all) same

-- what there is reason to ask a link
pub reasons-same : (state : State) (sessions : Numbered KeptSession) (link : ℕ) (l : LinkState) (left : Reconfirmed) → slice_get state.links link ≡ Some l
    → reasons_on link (session_reasons state sessions) left ≡ reasons l.rules.domain (questions_at state link (flat_map (λ (e : ℕ × KeptSession). kept_questions e.1.subscriptions) sessions)) left
reasons-same state sessions link l left at = ap (λ (qs : List Question). qs ++ map (λ (r : Key × ℕ). question_for r.0) left) (asked-of-link state link l at sessions)

or-first : (a b : Bool) → a ≡ true → (a || b) ≡ true
or-first true b is = refl
or-first false b is = absurd cc

module _ (follows : FollowsReasons) (later : KeptHub) (before : Sessions) (fewer : AskFewer (session_reasons (state_now later) later.sessions) before) where
  pub asked-at : (link : ℕ) (l : LinkState) (a : LinkAsking) → slice_get (state_now later).links link ≡ Some l → WantsReasons (reasons_on link before a.reconfirmed) a.wanted
      → with_any_of (reasons_on link (session_reasons (state_now later) later.sessions) (still_reconfirmed l.rows a.reconfirmed)) a.wanted
      ≡ with_reasons (reasons l.rules.domain (questions_at (state_now later) link (questions_in kept_questions later)) (still_reconfirmed l.rows a.reconfirmed)) a.wanted
  asked-at link l a at wants =
      let some : List Question = reasons_on link (session_reasons (state_now later) later.sessions) (still_reconfirmed l.rows a.reconfirmed) in
      follows (reasons_on link before a.reconfirmed) [] some a.wanted wants
      (λ question among. or-first (list_any (same_asked question) (reasons_on link before a.reconfirmed)) (list_any (same_asked question) []) (among-both link (session_reasons (state_now later) later.sessions) before l.rows a.reconfirmed fewer question among)) tt
      ∙ ap (λ (qs : List Question). with_reasons qs a.wanted) (reasons-same (state_now later) later.sessions link l (still_reconfirmed l.rows a.reconfirmed) at)

  pub behind-from : (link : ℕ) (ls : List LinkState) (asks : List LinkAsking) → StandFrom link ls (state_now later).links → WantFrom link before asks
      → followed_from link (session_reasons (state_now later) later.sessions) ls asks ≡ links_behind (state_now later) (questions_in kept_questions later) None link ls asks
  behind-from link [] asks stand want = refl
  behind-from link (l ∷ ls) [] stand want = refl
  behind-from link (l ∷ ls) (a ∷ asks) stand want =
      λ i. record { wanted = asked-at link l a (stand-here link l ls (state_now later).links stand) want.0 i; reconfirmed = still_reconfirmed l.rows a.reconfirmed } ∷ behind-from (link + 1) ls asks (stand-next link l ls (state_now later).links stand) want.1 i

pub followed-behind : FollowsReasons → (later : KeptHub) (r : AllReasons) → AskFewer (session_reasons (state_now later) later.sessions) r.sessions → AreFollowed r → followed later (askings_of r) ≡ behind kept_questions None later (askings_of r)
followed-behind follows later r fewer told =
    behind-from follows later r.sessions fewer 0 (state_now later).links (askings_of r) (stand-all (state_now later).links) (want-all r.sessions r.links told)
