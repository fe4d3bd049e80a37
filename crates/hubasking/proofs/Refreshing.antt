-- Rows of links that were heard since, or went, aren't reconfirmed any more.
--     RefreshedTo, refresh-begins, refresh-turn, refresh-ends      after the first links; before any; after one more; after all
--     refreshed-next      after one alone
--     follow-ends      where sessions and links followed
use Rattle.std.proofs.Common.{◌≡◌, ℕ, zero, suc, ◌+◌, ◌≤◌, List, [], ◌∷◌, length, map, Option, Some, None, refl, sym, ap, subst, ◌∙◌}
use Rattle.std.specs.Prelude.{slice_get}
use Rattle.std.specs.List.{AllZip}
use Rattle.std.proofs.lemmas.List.{length-map}
use Rattle.push_base.specs.Cases.{changed_at}
use Rattle.linkcache.specs.Links.{LinkState}
use Rattle.linkask.specs.Reasons.{LinkAsking, still_reconfirmed}
use Rattle.linkreasons.specs.AllReasons.{AllReasons, ReasonsOfLink, AreFollowed, asking_of, askings_of, only_from, still_doubted}
use Rattle.linkreasons.specs.Laws.{FewerThenFewer, NoneGoes}
use Rattle.pushserver.specs.Hubs.{state_now}
use Rattle.pushserver.specs.KeptHubs.{KeptHub}
use Rattle.hubasking.specs.KeptReasons.{HasBounds, MatchesLink, followed_from, followed, session_reasons}
use Rattle.hubasking.specs.Following.{LeadFrom, StillTo, Refreshes, RefreshesFound}
use Rattle.hubasking.proofs.Leading.{AskFewer, Sessions, lead-itself, lead-on, lead-only, lead-still, lead-end, still-next, still-none, still-all, want-all}
use Rattle.hubasking.proofs.Clearing.{bounds-kept, bounds-length, only-length}

pub record RefreshedTo (links : List LinkState) (old now : AllReasons) (link : ℕ) : Type 0 where
  pub sessions : now.sessions ≡ old.sessions
  pub leads : LeadFrom 0 old.sessions links (askings_of old) (askings_of now)
  pub bounds : AllZip HasBounds links now.links
  pub still : StillTo link links (askings_of now)
  pub many : length now.links ≡ length old.links

pub refresh-begins : (links : List LinkState) (old : AllReasons) → AllZip HasBounds links old.links → RefreshedTo links old old 0
refresh-begins links old bounds = record { sessions = refl; leads = lead-itself 0 old.sessions links (askings_of old) (bounds-length links old.links bounds); bounds = bounds; still = tt; many = refl }

pub changed-length : {X : Type 0} (i : ℕ) (f : X → X) (xs : List X) → length xs ≡ length (changed_at i f xs)
changed-length i f [] = refl
changed-length zero f (x ∷ xs) = refl
changed-length (suc i) f (x ∷ xs) = ap (λ (n : ℕ). suc n) (changed-length i f xs)

refreshed : FewerThenFewer → (links : List LinkState) (old now next : AllReasons) (link : ℕ) (l : LinkState) → slice_get links link ≡ Some l → RefreshedTo links old now link → Refreshes link l now next → RefreshedTo links old next (link + 1)
refreshed fewer links old now next link l at so_far step =
    let asked : askings_of next ≡ only_from 0 now.sessions (changed_at link (still_doubted l.rows) (askings_of now)) = step.askings ∙ ap (λ (s : Sessions). only_from 0 s (changed_at link (still_doubted l.rows) (askings_of now))) step.sessions in
    let before : List LinkAsking = changed_at link (still_doubted l.rows) (askings_of now) in
    let many : length (askings_of now) ≡ length (askings_of next) = changed-length link (still_doubted l.rows) (askings_of now) ∙ only-length 0 now.sessions before ∙ ap (λ (a : List LinkAsking). length a) (sym asked) in
    record {
      sessions = step.sessions ∙ so_far.sessions;
      leads = subst (LeadFrom 0 old.sessions links (askings_of old)) (sym asked)
          (lead-only fewer old.sessions now.sessions (subst (λ (s : Sessions). AskFewer old.sessions s) (sym so_far.sessions) (λ j question h. h)) links (askings_of old) before
          (lead-still 0 old.sessions link l links (askings_of old) (askings_of now) at so_far.leads));
      bounds = bounds-kept links now next many step.bounds so_far.bounds;
      still = subst (StillTo (link + 1) links) (sym asked) (still-next link now.sessions l links (askings_of now) at so_far.still);
      many = sym (length-map next.links asking_of) ∙ sym many ∙ length-map now.links asking_of ∙ so_far.many;
    }

-- where one link alone is looked at
pub refreshed-next : FewerThenFewer → (links : List LinkState) (old next : AllReasons) (link : ℕ) (l : LinkState) → slice_get links link ≡ Some l → AllZip HasBounds links old.links → StillTo link links (askings_of old) → Refreshes link l old next → RefreshedTo links old next (link + 1)
refreshed-next fewer links old next link l at bounds still step =
    refreshed fewer links old old next link l at (record { sessions = refl; leads = lead-itself 0 old.sessions links (askings_of old) (bounds-length links old.links bounds); bounds = bounds; still = still; many = refl }) step

pub refresh-turn : FewerThenFewer → (links : List LinkState) (old now next : AllReasons) (link : ℕ) → RefreshedTo links old now link → RefreshesFound link (slice_get links link) now next → RefreshedTo links old next (link + 1)
refresh-turn fewer links old now next link so_far turn = by (slice_get links link) refl turn
  where
    by : (o : Option LinkState) → slice_get links link ≡ o → RefreshesFound link o now next → RefreshedTo links old next (link + 1)
    by None at same = subst (λ (r : AllReasons). RefreshedTo links old r (link + 1)) (sym same)
        (record { sessions = so_far.sessions; leads = so_far.leads; bounds = so_far.bounds; still = still-none link links (askings_of now) at so_far.still; many = so_far.many })
    by (Some l) at step = refreshed fewer links old now next link l at so_far step

pub matches : (ls : List LinkState) (rs : List ReasonsOfLink) → AllZip HasBounds ls rs → AllZip (λ l a. still_reconfirmed l.rows a.reconfirmed ≡ a.reconfirmed) ls (map asking_of rs) → AllZip MatchesLink ls rs
matches [] [] bounds still = tt
matches [] (r ∷ rs) bounds still = absurd bounds
matches (l ∷ ls) [] bounds still = absurd bounds
matches (l ∷ ls) (r ∷ rs) bounds still = (record { still = still.0; bounds = bounds.0 }, matches ls rs bounds.1 still.1)

pub refresh-ends : (links : List LinkState) (old now : AllReasons) (link : ℕ) → length old.links ≤ link → RefreshedTo links old now link → AllZip MatchesLink links now.links
refresh-ends links old now link long so_far =
    let same = bounds-length links now.links so_far.bounds in
    let few : length links ≡ length old.links = same ∙ length-map now.links asking_of ∙ so_far.many in
    matches links now.links so_far.bounds (still-all link links (askings_of now) same (subst (λ (n : ℕ). n ≤ link) (sym few) long) so_far.still)

pub matched-still : (ls : List LinkState) (rs : List ReasonsOfLink) → AllZip MatchesLink ls rs → AllZip (λ l a. still_reconfirmed l.rows a.reconfirmed ≡ a.reconfirmed) ls (map asking_of rs)
matched-still [] [] all = tt
matched-still [] (r ∷ rs) all = absurd all
matched-still (l ∷ ls) [] all = absurd all
matched-still (l ∷ ls) (r ∷ rs) all = (all.0.still, matched-still ls rs all.1)

-- where sessions and links followed, links are asked what there is reason to
pub follow-ends : NoneGoes → (later : KeptHub) (old cleared new : AllReasons) → cleared.sessions ≡ session_reasons (state_now later) later.sessions
    → LeadFrom 0 (session_reasons (state_now later) later.sessions) (state_now later).links (askings_of old) (askings_of cleared)
    → new.sessions ≡ cleared.sessions → LeadFrom 0 cleared.sessions (state_now later).links (askings_of cleared) (askings_of new) → AllZip MatchesLink (state_now later).links new.links → AreFollowed new
    → askings_of new ≡ followed later (askings_of old)
follow-ends none_goes later old cleared new cleared_is first same second all follows =
    let sessions : Sessions = session_reasons (state_now later) later.sessions in
    lead-end none_goes sessions 0 (state_now later).links (askings_of old) (askings_of new)
    (lead-on 0 sessions (state_now later).links (askings_of old) (askings_of cleared) (askings_of new) first (subst (λ (s : Sessions). LeadFrom 0 s (state_now later).links (askings_of cleared) (askings_of new)) cleared_is second))
    (matched-still (state_now later).links new.links all)
    (want-all sessions new.links (subst (λ (s : Sessions). AreFollowed (record { links = new.links; sessions = s })) (same ∙ cleared_is) follows))
