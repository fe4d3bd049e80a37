-- A session goes, and its reasons with it.
--     EndsWith      its reasons go
--     end-follow, end-asked      links can follow; what is asked then
use Rattle.std.proofs.Common.{◌≡◌, ℕ, ◌≤◌, Bool, true, false, cond, not, ◌||◌, List, [], ◌∷◌, ◌++◌, length, None, refl, sym, ap, subst, ◌∙◌}
use Rattle.std.specs.Prelude.{◌==◌}
use Rattle.std.specs.List.{AllZip, list_any}
use Rattle.push_base.specs.Limits.{max_moment}
use Rattle.rrset.specs.declared.record.Question.{Question}
use Rattle.linkask.specs.Asking.{same_asked}
use Rattle.linkask.specs.Reasons.{LinkAsking}
use Rattle.linkreasons.specs.AllReasons.{AllReasons, AreFollowed, KeepsBounds, askings_of, only_from, only_reasons, questions_for, session_questions, without_session}
use Rattle.linkreasons.specs.Laws.{AreAmong, FewerThenFewer, FollowsReasons}
use Rattle.linkreasons.specs.declared.reason.Reason.{Reason}
use Rattle.pushsession.specs.Kept.{KeptSession}
use Rattle.livesessions.specs.NumberedSessions.{Numbered}
use Rattle.pushserver.specs.Hubs.{disconnect, now, state_now}
use Rattle.livesessions.specs.NumberedSessions as numbered
use Rattle.pushserver.specs.KeptHubs.{KeptHub, StandsFor}
use Rattle.pushserver.specs.PlainHubs.{Hub}
use Rattle.pushserver.proofs.hub_steps.Pairs.{zip-filter}
use Rattle.hubasking.specs.KeptReasons.{AreKept, CanFollow, HasBounds, StillAsks, followed, session_reasons}
use Rattle.hubasking.specs.LinkAskings.{behind, kept_questions}
use Rattle.hubasking.proofs.Calls.{matched}
use Rattle.hubasking.proofs.Clearing.{ask-fewer, bounds-kept, bounds-length, only-length}
use Rattle.hubasking.proofs.Followed.{followed-behind, lead-followed}
use Rattle.hubasking.proofs.Leading.{AskFewer, Sessions, among-append, lead-goes}
use Rattle.hubasking.proofs.Resting.{asks-itself, homes-itself, still-ask}

pub record EndsWith (number : ℕ) (old new : AllReasons) : Type 0 where
  pub sessions : new.sessions ≡ without_session number old.sessions
  pub askings : askings_of new ≡ only_reasons new.sessions (askings_of old)
  pub bounds : KeepsBounds old new

among-behind : (front xs ys : List Question) → AreAmong xs ys → AreAmong xs (front ++ ys)
among-behind [] xs ys among question h = among question h
among-behind (one ∷ front) xs ys among question h = by (same_asked question one) (among-behind front xs ys among question h)
  where
    by : (b : Bool) → list_any (same_asked question) (front ++ ys) ≡ true → (b || list_any (same_asked question) (front ++ ys)) ≡ true
    by true is = refl
    by false is = is

-- others ask no more than all
others-fewer : (number : ℕ) (s : Sessions) → AskFewer (without_session number s) s
others-fewer number [] link question h = h
others-fewer number (e ∷ es) link question h = by (e.0 == number) (others-fewer number es link) question h
  where
    by : (b : Bool) → AreAmong (session_questions link (without_session number es)) (session_questions link es) → AreAmong (session_questions link (cond (not b) (e ∷ without_session number es) (without_session number es))) (questions_for link e.1 ++ session_questions link es)
    by true rest = among-behind (questions_for link e.1) (session_questions link (without_session number es)) (session_questions link es) rest
    by false rest = among-append (questions_for link e.1) (session_questions link (without_session number es)) (questions_for link e.1) (session_questions link es) (λ question h. h) rest

module _ (k later : KeptHub) (number : ℕ) (r new : AllReasons) (kept : AreKept k r) (is : later ≡ disconnect k number) (ends : EndsWith number r new) where
  -- those of the others
  left-ask : AllZip (StillAsks (disconnect k number)) (without_session number r.sessions) (numbered.without_session number k.sessions)
  left-ask = subst (λ (s : Sessions). AllZip (StillAsks (disconnect k number)) (without_session number s) (numbered.without_session number k.sessions)) (sym kept.sessions)
      (zip-filter (StillAsks (disconnect k number)) (λ (e : ℕ × List Reason). not (e.0 == number)) (λ (e : ℕ × KeptSession). not (e.0 == number)) (λ x y both. ap (λ (n : ℕ). not (n == number)) both.0) (session_reasons (state_now k) k.sessions) k.sessions
      (still-ask (disconnect k number) (state_now k) (homes-itself (state_now k)) k.sessions k.sessions (asks-itself k.sessions)))

  asks : AllZip (StillAsks later) new.sessions later.sessions
  asks = subst (λ (h : KeptHub). AllZip (StillAsks h) new.sessions h.sessions) (sym is) (subst (λ (s : Sessions). AllZip (StillAsks (disconnect k number)) s (numbered.without_session number k.sessions)) (sym ends.sessions) left-ask)

  bound : AllZip HasBounds (state_now later).links r.links
  bound = subst (λ (h : KeptHub). AllZip HasBounds (state_now h).links r.links) (sym is) (matched (state_now k).links r.links kept.links)

  pub end-follow : (plain : Hub) → StandsFor later plain → CanFollow later new
  end-follow plain stands = record {
    plain = plain;
    stands = stands;
    timely = subst (λ (h : KeptHub). now h ≤ max_moment) (sym is) kept.timely;
    sessions = asks;
    links = bounds-kept (state_now later).links r new (only-length 0 new.sessions (askings_of r) ∙ ap (λ (a : List LinkAsking). length a) (sym ends.askings)) ends.bounds bound;
  }

  pub end-asked : FewerThenFewer → FollowsReasons → AreFollowed r → followed later (askings_of new) ≡ behind kept_questions None later (askings_of r)
  end-asked fewer follows told =
      let among : AskFewer (session_reasons (state_now later) later.sessions) new.sessions = ask-fewer later new.sessions asks in
      ap (followed later) ends.askings
      ∙ lead-followed 0 (session_reasons (state_now later) later.sessions) (state_now later).links (askings_of r) (only_from 0 new.sessions (askings_of r)) (lead-goes fewer (session_reasons (state_now later) later.sessions) new.sessions among 0 (state_now later).links (askings_of r) (bounds-length (state_now later).links r.links bound))
      ∙ followed-behind follows later r (λ link question h. others-fewer number r.sessions link question (subst (λ (s : Sessions). AskFewer (session_reasons (state_now later) later.sessions) s) ends.sessions among link question h)) told
