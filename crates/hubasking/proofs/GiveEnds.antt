-- Behind a call of `give` links can follow, and what is asked then is what is to be asked.
--     stays-ends      no reason came, and none went
--     less-ends      a question went
--     gone-ends      a reason that was made ready didn't come
use Rattle.std.proofs.Common.{◌≡◌, ℕ, ◌+◌, ◌≤◌, ◌<◌, Bool, true, false, cond, ◌||◌, List, [], ◌∷◌, ◌++◌, length, map, filter, Option, Some, None, refl, sym, ap, subst, ◌∙◌}
use Rattle.std.specs.Prelude.{◌==◌}
use Rattle.std.specs.List.{AllZip, AllByRecursion, list_any}
use Rattle.std.proofs.lemmas.List.{length-map}
use Rattle.rrset.specs.declared.record.Question.{Question}
use Rattle.subscr.specs.Asked.{Asked, has}
use Rattle.linkcache.specs.Links.{LinkState}
use Rattle.linkask.specs.Asking.{same_asked}
use Rattle.linkask.specs.Laws.{ReconfirmingKeepsBounds}
use Rattle.linkask.specs.Reasons.{LinkAsking}
use Rattle.linkreasons.specs.AllReasons.{AllReasons, AreFollowed, KeepsBounds, asking_of, askings_of, in_session, only_from, questions_for, session_questions, with_those}
use Rattle.linkreasons.specs.Laws.{AreAmong, FewerThenFewer, FollowsReasons}
use Rattle.linkreasons.specs.declared.reason.Reason.{Reason}
use Rattle.pushsession.specs.Kept.{KeptSession}
use Rattle.pushserver.specs.Giving.{give}
use Rattle.livesessions.specs.NumberedSessions.{Numbered, session_in}
use Rattle.pushserver.specs.Hubs.{session_of, state_now}
use Rattle.pushserver.specs.KeptHubs.{KeptHub, Forgets, StandsFor}
use Rattle.pushserver.specs.PlainHubs.{Hub}
use Rattle.livesessions.proofs.SessionLists.{same-number}
use Rattle.hubasking.specs.Following.{LeadFrom}
use Rattle.hubasking.specs.KeptReasons.{AreKept, CanFollow, HasBounds, StillAsks, followed, session_reasons}
use Rattle.hubasking.specs.LinkAskings.{behind, kept_questions}
use Rattle.hubasking.specs.Turns.{Drops, coming_with, count_of, first_id, turn_request}
use Rattle.hubasking.proofs.Calls.{matched}
use Rattle.hubasking.proofs.Clearing.{AreFound, all-found, ask-fewer, bounds-kept, bounds-length, only-length}
use Rattle.hubasking.proofs.Followed.{followed-behind, lead-followed}
use Rattle.hubasking.proofs.Gives.{bounds-turn, counts, homes-turn, timely-turn, turn-first}
use Rattle.hubasking.proofs.Leading.{AskFewer, Sessions, among-append, lead-goes}
use Rattle.hubasking.proofs.Resting.{SameHomes}
use Rattle.hubasking.proofs.Settled.{Counts, less-follow, still-follow}
use Rattle.hubasking.proofs.Turning.{Turn}

-- ---- those that stay are among all

among-cons : (one : Question) (xs ys : List Question) → AreAmong xs ys → AreAmong (one ∷ xs) (one ∷ ys)
among-cons one xs ys among question h = by (same_asked question one) h
  where
    by : (b : Bool) → (b || list_any (same_asked question) xs) ≡ true → (b || list_any (same_asked question) ys) ≡ true
    by true e = refl
    by false e = among question e

among-skip : (one : Question) (xs ys : List Question) → AreAmong xs ys → AreAmong xs (one ∷ ys)
among-skip one xs ys among question h = by (same_asked question one)
  where
    by : (b : Bool) → (b || list_any (same_asked question) ys) ≡ true
    by true = refl
    by false = among question h

those-among : (link : ℕ) (left : Asked) (reasons : List Reason) → AreAmong (questions_for link (with_those left reasons)) (questions_for link reasons)
those-among link left [] question h = h
those-among link left (r ∷ rs) question h = by (has r.id left) (those-among link left rs) question h
  where
    both : (b : Bool) → AreAmong (questions_for link (with_those left rs)) (questions_for link rs) → AreAmong (map (λ (r : Reason). r.question) (cond b (r ∷ filter (λ (r : Reason). r.link == link) (with_those left rs)) (filter (λ (r : Reason). r.link == link) (with_those left rs))))
        (map (λ (r : Reason). r.question) (cond b (r ∷ filter (λ (r : Reason). r.link == link) rs) (filter (λ (r : Reason). r.link == link) rs)))
    both true rest = among-cons r.question (questions_for link (with_those left rs)) (questions_for link rs) rest
    both false rest = rest

    one : (b : Bool) → AreAmong (questions_for link (with_those left rs)) (questions_for link rs) → AreAmong (questions_for link (with_those left rs)) (map (λ (r : Reason). r.question) (cond b (r ∷ filter (λ (r : Reason). r.link == link) rs) (filter (λ (r : Reason). r.link == link) rs)))
    one true rest = among-skip r.question (questions_for link (with_those left rs)) (questions_for link rs) rest
    one false rest = rest

    by : (a : Bool) → AreAmong (questions_for link (with_those left rs)) (questions_for link rs) → AreAmong (questions_for link (cond a (r ∷ with_those left rs) (with_those left rs))) (questions_for link (r ∷ rs))
    by true rest = both (r.link == link) rest
    by false rest = one (r.link == link) rest

left-fewer : (number : ℕ) (left : Asked) (sessions : Sessions) → AskFewer (in_session number (with_those left) sessions) sessions
left-fewer number left [] link question h = h
left-fewer number left (e ∷ es) link question h =
    among-append (questions_for link (cond (e.0 == number) (with_those left e.1) e.1)) (session_questions link (in_session number (with_those left) es)) (questions_for link e.1) (session_questions link es) (by (e.0 == number)) (left-fewer number left es link) question h
  where
    by : (b : Bool) → AreAmong (questions_for link (cond b (with_those left e.1) e.1)) (questions_for link e.1)
    by true = those-among link left e.1
    by false = λ question h. h

-- ---- the session's questions now

left-now : (all : Numbered KeptSession) (number : ℕ) (session : KeptSession) → session_in number all ≡ Some session → (ys : Numbered KeptSession) → AreFound all ys → AllByRecursion (λ (d : ℕ × KeptSession). (d.0 == number) ≡ true → d.1.subscriptions.asked ≡ session.subscriptions.asked) ys
left-now all number session there [] found = tt
left-now all number session there (y ∷ ys) found = (
  (λ mine. (let same : Some y.1 ≡ Some session = sym found.0 ∙ ap (λ (n : ℕ). session_in n all) (same-number y.0 number mine) ∙ there in
      let one : y.1 ≡ session = cc in ap (λ (s : KeptSession). s.subscriptions.asked) one)),
  left-now all number session there ys found.1,
)

module _ (fewer : FewerThenFewer) (follows : FollowsReasons) (keeps : ReconfirmingKeepsBounds) (k later : KeptHub) (number room : ℕ) (plain : Hub) (before : AllReasons)
    (kept : AreKept k before) (told : AreFollowed before) (forgets : Forgets (give k number room).hub later) (stands : StandsFor later plain) where
  pub turn : Turn k number (turn_request (session_of k number)) (first_id (session_of k number)) later
  turn = turn-first k number room later forgets

  pub homes : SameHomes (state_now k) (state_now later)
  homes = homes-turn k later (turn_request (session_of k number)) turn.state

  pub can : (new : AllReasons) → AllZip (StillAsks later) new.sessions later.sessions → length (askings_of before) ≡ length (askings_of new) → KeepsBounds before new → CanFollow later new
  can new zip same bounds = record {
    plain = plain;
    stands = stands;
    timely = timely-turn k later (turn_request (session_of k number)) turn.state kept.timely;
    sessions = zip;
    links = bounds-kept (state_now later).links before new same bounds (bounds-turn k later keeps (turn_request (session_of k number)) turn.state before.links (matched (state_now k).links before.links kept.links));
  }

  pub counted : (R : ℕ → ℕ → Type 0) → R (count_of (session_of k number)) (count_of (session_of later number)) → Counts R number k.sessions later.sessions
  counted R r = counts R k.sessions later.sessions number (turn_request (session_of k number)) (first_id (session_of k number)) r k.sessions later.sessions (all-found k kept.plain kept.stands) (all-found later plain stands) turn.sessions

  -- ---- no reason came, and none went

  module _ (comes : coming_with (state_now k) (first_id (session_of k number)) (turn_request (session_of k number)) ≡ []) where
    stays-zip : count_of (session_of k number) ≤ count_of (session_of later number) → AllZip (StillAsks later) before.sessions later.sessions
    stays-zip many = subst (λ (s : Sessions). AllZip (StillAsks later) s later.sessions) (sym kept.sessions)
        (still-follow k later homes number (turn_request (session_of k number)) (first_id (session_of k number)) comes k.sessions later.sessions (counted (λ n m. n ≤ m) many) turn.sessions)

    pub stays-ends : count_of (session_of k number) ≤ count_of (session_of later number) → CanFollow later before × (followed later (askings_of before) ≡ behind kept_questions None later (askings_of before))
    stays-ends many = (can before (stays-zip many) refl (λ rows link b. b), followed-behind follows later before (ask-fewer later before.sessions (stays-zip many)) told)

    -- ---- a question went

    pub less-ends : (new : AllReasons) (session : KeptSession) → session_of later number ≡ Some session → count_of (session_of later number) < count_of (session_of k number) → Drops number (with_those session.subscriptions.asked) before new
        → CanFollow later new × (followed later (askings_of new) ≡ behind kept_questions None later (askings_of before))
    less-ends new session there few drops =
        let left : Asked = session.subscriptions.asked in
        let zip : AllZip (StillAsks later) (in_session number (with_those left) before.sessions) later.sessions = subst (λ (s : Sessions). AllZip (StillAsks later) (in_session number (with_those left) s) later.sessions) (sym kept.sessions)
        (less-follow k later homes number (turn_request (session_of k number)) (first_id (session_of k number)) left k.sessions later.sessions (left-now later.sessions number session there later.sessions (all-found later plain stands)) (counted (λ n m. m < n) few) turn.sessions) in
        let among : AskFewer (session_reasons (state_now later) later.sessions) (in_session number (with_those left) before.sessions) = ask-fewer later (in_session number (with_those left) before.sessions) zip in
        let same : askings_of new ≡ only_from 0 (in_session number (with_those left) before.sessions) (askings_of before) = drops.askings ∙ ap (λ (s : Sessions). only_from 0 s (askings_of before)) drops.sessions in
        let links : length (state_now later).links ≡ length (askings_of before) = bounds-length (state_now later).links before.links (bounds-turn k later keeps (turn_request (session_of k number)) turn.state before.links (matched (state_now k).links before.links kept.links)) in (
          can new (subst (λ (s : Sessions). AllZip (StillAsks later) s later.sessions) (sym drops.sessions) zip) (only-length 0 (in_session number (with_those left) before.sessions) (askings_of before) ∙ ap (λ (a : List LinkAsking). length a) (sym same)) drops.bounds,
          ap (followed later) same
              ∙ lead-followed 0 (session_reasons (state_now later) later.sessions) (state_now later).links (askings_of before) (only_from 0 (in_session number (with_those left) before.sessions) (askings_of before))
              (lead-goes fewer (session_reasons (state_now later) later.sessions) (in_session number (with_those left) before.sessions) among 0 (state_now later).links (askings_of before) links)
              ∙ followed-behind follows later before (λ link question h. left-fewer number left before.sessions link question (among link question h)) told,
        )
