-- A session that comes.
--     seat-free, seat-none      where a seat is free; where none is
--     same-length      as many sessions
--     again-matched      links are asked the same, with bounds
--     placed-kept      what is kept with the session
--     left-sessions, left-askings, left-kept      the place goes again
use Rattle.std.proofs.Common.{◌≡◌, ◌⊎◌, inl, inr, ℕ, ◌+◌, ◌<◌, ◌≤◌, Bool, true, false, cond, not, ◌&&◌, List, [], ◌∷◌, ◌++◌, length, map, Option, Some, None, refl, sym, ap, subst, ◌∙◌, arith}
use Rattle.std.specs.Prelude.{nat_lt, slice_get, IfSome, ◌==◌}
use Rattle.std.specs.List.{AllZip, AllByRecursion}
use Rattle.std.proofs.lemmas.List.{length-map}
use Rattle.push_base.specs.Limits.{max_number}
use Rattle.subscr.specs.Asked.{Asked}
use Rattle.linkcache.specs.Links.{LinkState}
use Rattle.linkask.specs.Bounds.{AreBounds}
use Rattle.linkask.specs.Reasons.{LinkAsking, still_reconfirmed}
use Rattle.linkreasons.specs.AllReasons.{AllReasons, AreFollowed, KeepsBounds, ReasonsOfLink, asking_of, askings_of, only_from, only_reasons, without_session}
use Rattle.linkreasons.specs.Laws.{FewerThenFewer, FollowsReasons, NoneGoes}
use Rattle.linkreasons.specs.declared.reason.Reason.{Reason}
use Rattle.pushsession.specs.Sessions.{new_session}
use Rattle.pushsession.specs.Kept.{KeptSession, keeping}
use Rattle.livesessions.specs.NumberedSessions.{Numbered}
use Rattle.pushserver.specs.Hubs.{connect, max_sessions, state_now}
use Rattle.pushserver.specs.KeptHubs.{KeptHub, SessionStandsFor, StandsFor}
use Rattle.pushserver.specs.PlainHubs.{Hub, Session}
use Rattle.pushserver.specs.SoundHubs.{IsSoundSession}
use Rattle.livesessions.proofs.SessionLists.{number-itself, other-number}
use Rattle.hubasking.specs.KeptReasons.{AreKept, HasBounds, MatchesLink, reasons_of, session_reasons}
use Rattle.hubasking.specs.Seats.{HasPlace, IsPlaced}
use Rattle.hubasking.proofs.Calls.{matched}
use Rattle.hubasking.proofs.Clearing.{bounds-kept}
use Rattle.hubasking.proofs.Leading.{Sessions, want-all}
use Rattle.hubasking.proofs.Refreshing.{matched-still, matches}
use Rattle.hubasking.proofs.TakenBack.{only-none}

abbrev pub has_seat : KeptHub → Bool
has_seat k = nat_lt (length k.sessions) max_sessions && nat_lt k.numbers_given max_number

abbrev seat_as : KeptHub → Bool → Option ℕ × KeptHub
seat_as k b = cond b (Some k.numbers_given, record k { sessions = k.sessions ++ (k.numbers_given, new_session keeping (state_now k).now) ∷ []; numbers_given = k.numbers_given + 1 }) (None, k)

pub seat-free : (k : KeptHub) → has_seat k ≡ true → (connect k).0 ≡ Some k.numbers_given
seat-free k is = ap (λ (b : Bool). (seat_as k b).0) is

pub seat-none : (k : KeptHub) → has_seat k ≡ false → (connect k).0 ≡ None
seat-none k is = ap (λ (b : Bool). (seat_as k b).0) is

pub same-length : (k : KeptHub) (r : AllReasons) → AreKept k r → length r.sessions ≡ length k.sessions
same-length k r kept = ap (λ (s : Sessions). length s) kept.sessions ∙ length-map k.sessions (λ (e : ℕ × KeptSession). (e.0, reasons_of (state_now k) e.1.subscriptions.asked))

-- links are asked the same
pub again-matched : (ls : List LinkState) (old new : AllReasons) → AllZip MatchesLink ls old.links → askings_of new ≡ askings_of old → KeepsBounds old new → AllZip MatchesLink ls new.links
again-matched ls old new all same bounds =
    matches ls new.links (bounds-kept ls old new (ap (λ (a : List LinkAsking). length a) (sym same)) bounds (matched ls old.links all))
    (subst (λ (a : List LinkAsking). AllZip (λ (l : LinkState) (b : LinkAsking). still_reconfirmed l.rows b.reconfirmed ≡ b.reconfirmed) ls a) (sym same) (matched-still ls old.links all))

one-more : (k : KeptHub) (xs : Numbered KeptSession) (e : ℕ × KeptSession) → e.1.subscriptions.asked ≡ [] → session_reasons (state_now k) (xs ++ e ∷ []) ≡ session_reasons (state_now k) xs ++ (e.0, []) ∷ []
one-more k [] e none = ap (λ (a : Asked). (e.0, reasons_of (state_now k) a) ∷ []) none
one-more k (x ∷ xs) e none = ap (λ (s : Sessions). (x.0, reasons_of (state_now k) x.1.subscriptions.asked) ∷ s) (one-more k xs e none)

-- what is kept with the session
pub placed-kept : (k later : KeptHub) (old new : AllReasons) (number : ℕ) (plain : Hub) → AreKept k old → HasPlace k old new → (connect k).0 ≡ Some number → later ≡ (connect k).1 → StandsFor later plain → AreKept later new × (askings_of new ≡ askings_of old)
placed-kept k later old new number plain kept (inr none) made is stands = let wrong : None ≡ Some number = sym none.0 ∙ made in absurd cc
placed-kept k later old new number plain kept (inl placed) made is stands = (subst (λ (h : KeptHub). StandsFor h plain → AreKept h new) (sym is) (with_seat (has_seat k) refl) stands, ap (λ (ls : List ReasonsOfLink). map asking_of ls) placed.links)
  where
    with_seat : (b : Bool) → has_seat k ≡ b → StandsFor (connect k).1 plain → AreKept (connect k).1 new
    with_seat false none stood = let wrong : None ≡ Some number = sym (seat-none k none) ∙ made in absurd cc
    with_seat true seat stood = subst (λ (h : KeptHub). StandsFor h plain → AreKept h new) (sym (ap (λ (b : Bool). (seat_as k b).1) seat))
        (λ stood. record {
          plain = plain;
          stands = stood;
          timely = kept.timely;
          sessions = placed.sessions ∙ ap (λ (s : Sessions). s ++ (k.numbers_given, []) ∷ []) kept.sessions ∙ sym (one-more k k.sessions (k.numbers_given, new_session keeping (state_now k).now) refl);
          links = subst (λ (ls : List ReasonsOfLink). AllZip MatchesLink (state_now k).links ls) (sym placed.links) kept.links;
        }) stood

-- ---- the place goes again

below : (hub : Hub) (given : ℕ) → hub.numbers_given ≡ given → (ks : Numbered KeptSession) (ps : Numbered Session) → AllZip (SessionStandsFor hub) ks ps → AllByRecursion (IsSoundSession hub) ps → AllByRecursion (λ (e : ℕ × KeptSession). (e.0 == given) ≡ false) ks
below hub given same [] ps zip sound = tt
below hub given same (k ∷ ks) [] zip sound = absurd zip
below hub given same (k ∷ ks) (p ∷ ps) zip sound = (other-number k.0 given (λ is. (let wrong : ⊥ = omega (arith, is, zip.0.number, sound.0.below, same) in wrong)), below hub given same ks ps zip.1 sound.1)

without-none : (number : ℕ) (s : Sessions) → AllByRecursion (λ (e : ℕ × List Reason). (e.0 == number) ≡ false) s → without_session number s ≡ s
without-none number [] none = refl
without-none number (e ∷ es) none = ap (λ (b : Bool). cond (not b) (e ∷ without_session number es) (without_session number es)) none.0 ∙ ap (λ (s : Sessions). e ∷ s) (without-none number es none.1)

without-last : (number : ℕ) (s : Sessions) → without_session number (s ++ (number, []) ∷ []) ≡ without_session number s
without-last number [] = ap (λ (b : Bool). cond (not b) ((number, []) ∷ []) []) (number-itself number)
without-last number (e ∷ es) = by (e.0 == number) (without-last number es)
  where
    by : (b : Bool) → without_session number (es ++ (number, []) ∷ []) ≡ without_session number es → cond (not b) (e ∷ without_session number (es ++ (number, []) ∷ [])) (without_session number (es ++ (number, []) ∷ [])) ≡ cond (not b) (e ∷ without_session number es) (without_session number es)
    by true rest = rest
    by false rest = ap (λ (s : Sessions). e ∷ s) rest

of-reasons : (k : KeptHub) (given : ℕ) (xs : Numbered KeptSession) → AllByRecursion (λ (e : ℕ × KeptSession). (e.0 == given) ≡ false) xs → AllByRecursion (λ (e : ℕ × List Reason). (e.0 == given) ≡ false) (session_reasons (state_now k) xs)
of-reasons k given [] all = tt
of-reasons k given (x ∷ xs) all = (all.0, of-reasons k given xs all.1)

-- the sessions that there were
pub left-sessions : (k : KeptHub) (old made : AllReasons) → AreKept k old → HasPlace k old made → without_session k.numbers_given made.sessions ≡ old.sessions
left-sessions k old made kept place = by place
  where
    none : without_session k.numbers_given old.sessions ≡ old.sessions
    none = without-none k.numbers_given old.sessions (subst (λ (s : Sessions). AllByRecursion (λ (e : ℕ × List Reason). (e.0 == k.numbers_given) ≡ false) s) (sym kept.sessions)
        (of-reasons k k.numbers_given k.sessions (below kept.plain k.numbers_given (sym kept.stands.numbers_given) k.sessions kept.plain.sessions kept.stands.sessions kept.stands.sound.sessions)))

    by : HasPlace k old made → without_session k.numbers_given made.sessions ≡ old.sessions
    by (inl placed) = ap (λ (s : Sessions). without_session k.numbers_given s) placed.sessions ∙ without-last k.numbers_given old.sessions ∙ none
    by (inr stays) = ap (λ (r : AllReasons). without_session k.numbers_given r.sessions) stays.1 ∙ none

place-askings : (k : KeptHub) (old made : AllReasons) → HasPlace k old made → made.links ≡ old.links
place-askings k old made (inl placed) = placed.links
place-askings k old made (inr stays) = ap (λ (r : AllReasons). r.links) stays.1

pub left-askings : FewerThenFewer → NoneGoes → FollowsReasons → (k : KeptHub) (old made new : AllReasons) → AreKept k old → HasPlace k old made → new.sessions ≡ without_session k.numbers_given made.sessions → askings_of new ≡ only_reasons new.sessions (askings_of made) → AreFollowed old → askings_of new ≡ askings_of old
left-askings fewer none_goes follows k old made new kept place sessions asked before =
    asked ∙ (λ i. only_from 0 ((sessions ∙ left-sessions k old made kept place) i) (map asking_of (place-askings k old made place i))) ∙ only-none fewer follows none_goes old.sessions 0 (askings_of old) (want-all old.sessions old.links before)

pub left-kept : FewerThenFewer → NoneGoes → FollowsReasons → (k : KeptHub) (old made new : AllReasons) → AreKept k old → HasPlace k old made → new.sessions ≡ without_session k.numbers_given made.sessions → askings_of new ≡ only_reasons new.sessions (askings_of made) → AreFollowed old → KeepsBounds made new → AreKept k new
left-kept fewer none_goes follows k old made new kept place sessions asked before bounds = record {
  plain = kept.plain;
  stands = kept.stands;
  timely = kept.timely;
  sessions = sessions ∙ left-sessions k old made kept place ∙ kept.sessions;
  links = again-matched (state_now k).links old new kept.links (left-askings fewer none_goes follows k old made new kept place sessions asked before)
      (λ rows link b. bounds rows link (subst (λ (ls : List ReasonsOfLink). IfSome (slice_get ls link) (λ l. AreBounds rows l.kept)) (sym (place-askings k old made place)) b));
}
