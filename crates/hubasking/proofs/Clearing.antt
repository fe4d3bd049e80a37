-- Sessions that ask nothing have no reasons any more.
--     ClearedTo, clear-begins, clear-turn, clear-ends      after the first of them; before any; after one more; after all
--     clear-nobody      where no session has a reason
--     clear-none, clear-few, clear-asks, clear-rests      what is done at a place
use Rattle.std.proofs.Common.{◌≡◌, ◌⊎◌, inl, inr, ℕ, zero, suc, ◌+◌, ◌≤◌, ◌<◌, Bool, true, false, cond, List, [], ◌∷◌, ◌++◌, length, map, Option, Some, None, refl, sym, ap, subst, ◌∙◌, arith, not, ◌||◌}
use Rattle.std.specs.Prelude.{slice_get, option_map, IfSome, find, ◌==◌}
use Rattle.std.specs.List.{AllZip, AllByRecursion, IsDistinct, list_any}
use Rattle.std.proofs.lemmas.List.{length-map}
use Rattle.push_base.specs.Cases.{is_empty}
use Rattle.rrset.specs.declared.record.Question.{Question}
use Rattle.subscr.specs.Asked.{Asked}
use Rattle.linkcache.specs.Links.{LinkState}
use Rattle.linkask.specs.Reasons.{LinkAsking}
use Rattle.linkask.specs.Bounds.{AreBounds}
use Rattle.linkreasons.specs.AllReasons.{AllReasons, ReasonsOfLink, AreBoundsAt, KeepsBounds, asking_of, askings_of, in_session, only_from, questions_for, session_questions}
use Rattle.linkreasons.specs.Changing.{have_reasons}
use Rattle.linkreasons.specs.Laws.{AreAmong, FewerThenFewer}
use Rattle.linkreasons.specs.declared.reason.Reason.{Reason}
use Rattle.pushsession.specs.Kept.{KeptSession}
use Rattle.livesessions.specs.NumberedSessions.{Numbered, session_in, AreApart}
use Rattle.pushserver.specs.Hubs.{session_of, state_now}
use Rattle.pushserver.specs.PlainHubs.{Hub, Session}
use Rattle.pushserver.specs.KeptHubs.{KeptHub, SessionStandsFor, StandsFor}
use Rattle.livesessions.proofs.SessionLists.{same-number, number-itself}
use Rattle.hubasking.specs.KeptReasons.{CanFollow, HasBounds, StillAsks, reasons_of, rests, session_reasons}
use Rattle.hubasking.specs.Following.{Clears, ClearsFound, LeadFrom, Rested, doubts_in}
use Rattle.hubasking.proofs.Leading.{Sessions, AskFewer, among-append, lead-itself, lead-only}
use Rattle.hubasking.proofs.StillRows.{doubts-only}

-- ---- numbers of sessions

-- no number twice, as in the plain hub
differ : (hub : Hub) (n m : ℕ) (ks : Numbered KeptSession) (ps : Numbered Session) → n ≡ m → AllZip (SessionStandsFor hub) ks ps → AllByRecursion (λ y. (m == y.0) ≡ false) ps → AllByRecursion (λ y. (n == y.0) ≡ false) ks
differ hub n m [] ps same zip all = tt
differ hub n m (k ∷ ks) [] same zip all = absurd zip
differ hub n m (k ∷ ks) (p ∷ ps) same zip all = ((λ i. same i == zip.0.number i) ∙ all.0, differ hub n m ks ps same zip.1 all.1)

are_apart : (hub : Hub) (ks : Numbered KeptSession) (ps : Numbered Session) → AllZip (SessionStandsFor hub) ks ps → AreApart ps → AreApart ks
unfolding IsDistinct
are_apart hub [] ps zip once = tt
are_apart hub (k ∷ ks) [] zip once = absurd zip
are_apart hub (k ∷ ks) (p ∷ ps) zip once = (differ hub k.0 p.0 ks ps zip.0.number zip.1 once.0, are_apart hub ks ps zip.1 once.1)

-- so each is the one that is found of its number
abbrev pub AreFound : Numbered KeptSession → Numbered KeptSession → Type 0
AreFound all sessions = AllByRecursion (λ e. session_in e.0 all ≡ Some e.1) sessions

found-behind : (x : ℕ × KeptSession) (all xs : Numbered KeptSession) → AllByRecursion (λ y. (x.0 == y.0) ≡ false) xs → AreFound all xs → AreFound (x ∷ all) xs
found-behind x all [] apart found = tt
found-behind x all (y ∷ ys) apart found = (ap (λ (b : Bool). option_map (λ (e : ℕ × KeptSession). e.1) (cond b (Some x) (find (λ (e : ℕ × KeptSession). e.0 == y.0) all))) apart.0 ∙ found.0, found-behind x all ys apart.1 found.1)

each-found : (xs : Numbered KeptSession) → AreApart xs → AreFound xs xs
unfolding IsDistinct
each-found [] once = tt
each-found (x ∷ xs) once = (ap (λ (b : Bool). option_map (λ (e : ℕ × KeptSession). e.1) (cond b (Some x) (find (λ (e : ℕ × KeptSession). e.0 == x.0) xs))) (number-itself x.0), found-behind x xs xs once.0 (each-found xs once.1))

pub all-found : (k : KeptHub) (hub : Hub) → StandsFor k hub → AreFound k.sessions k.sessions
all-found k hub stands = each-found k.sessions (are_apart hub k.sessions hub.sessions stands.sessions stands.sound.numbers)

-- ---- bounds of all links

pub zip-get : {A B : Type 0} (R : A → B → Type 0) (xs : List A) (ys : List B) → AllZip R xs ys → (i : ℕ) (x : A) → slice_get xs i ≡ Some x → IfSome (slice_get ys i) (R x)
zip-get R [] [] zip i x at = tt
zip-get R [] (y ∷ ys) zip i x at = absurd zip
zip-get R (z ∷ xs) [] zip i x at = absurd zip
zip-get R (z ∷ xs) (y ∷ ys) zip zero x at = let same : z ≡ x = cc in subst (λ v. R v y) same zip.0
zip-get R (z ∷ xs) (y ∷ ys) zip (suc i) x at = zip-get R xs ys zip.1 i x at

pub get-zip : {A B : Type 0} (R : A → B → Type 0) (xs : List A) (ys : List B) → length xs ≡ length ys → ((i : ℕ) (x : A) → slice_get xs i ≡ Some x → IfSome (slice_get ys i) (R x)) → AllZip R xs ys
get-zip R [] [] same all = tt
get-zip R [] (y ∷ ys) same all = absurd cc
get-zip R (x ∷ xs) [] same all = absurd cc
get-zip R (x ∷ xs) (y ∷ ys) same all = (all 0 x refl, get-zip R xs ys (omega (arith, same)) (λ i z at. all (suc i) z at))

pub zip-length : {A B : Type 0} (R : A → B → Type 0) (xs : List A) (ys : List B) → AllZip R xs ys → length xs ≡ length ys
zip-length R [] [] zip = refl
zip-length R [] (y ∷ ys) zip = absurd zip
zip-length R (x ∷ xs) [] zip = absurd zip
zip-length R (x ∷ xs) (y ∷ ys) zip = ap (λ (n : ℕ). suc n) (zip-length R xs ys zip.1)

pub bounds-length : (ls : List LinkState) (rs : List ReasonsOfLink) → AllZip HasBounds ls rs → length ls ≡ length (map asking_of rs)
bounds-length ls rs zip = zip-length HasBounds ls rs zip ∙ sym (length-map rs asking_of)

-- they stay bounds
pub bounds-kept : (ls : List LinkState) (old new : AllReasons) → length (askings_of old) ≡ length (askings_of new) → KeepsBounds old new → AllZip HasBounds ls old.links → AllZip HasBounds ls new.links
bounds-kept ls old new same keeps zip =
    get-zip HasBounds ls new.links (zip-length HasBounds ls old.links zip ∙ sym (length-map old.links asking_of) ∙ same ∙ length-map new.links asking_of)
    (λ i l at. keeps l.rows i (zip-get HasBounds ls old.links zip i l at))

pub only-length : (link : ℕ) (sessions : Sessions) (asks : List LinkAsking) → length asks ≡ length (only_from link sessions asks)
only-length link sessions [] = refl
only-length link sessions (a ∷ asks) = ap (λ (n : ℕ). suc n) (only-length (link + 1) sessions asks)

-- ---- sessions that ask as before, or nothing any more

empty-is : {X : Type 0} (xs : List X) → is_empty xs ≡ true → xs ≡ []
empty-is [] e = refl
empty-is (x ∷ xs) e = absurd cc

-- one that asks nothing, and is found
rests-found : (later : KeptHub) (number : ℕ) (o : Option KeptSession) (s : KeptSession) → session_of later number ≡ o → o ≡ Some s → rests later number ≡ is_empty s.subscriptions.asked
rests-found later number None s at is = absurd cc
rests-found later number (Some t) s at is = ap (λ (o : Option KeptSession). elim o as (λ _. Bool) [ None ↦ true | Some session ↦ is_empty session.subscriptions.asked ]) at ∙ (let same : t ≡ s = cc in ap (λ (u : KeptSession). is_empty u.subscriptions.asked) same)

pub rests-as : (later : KeptHub) (e : ℕ × KeptSession) → session_in e.0 later.sessions ≡ Some e.1 → rests later e.0 ≡ is_empty e.1.subscriptions.asked
rests-as later e at = rests-found later e.0 (session_of later e.0) e.1 refl at

clear-zip : (later : KeptHub) (number : ℕ) → rests later number ≡ true → (es : Sessions) (ys : Numbered KeptSession) → AreFound later.sessions ys → AllZip (StillAsks later) es ys → AllZip (StillAsks later) (in_session number (λ _. []) es) ys
clear-zip later number rest [] [] found zip = tt
clear-zip later number rest [] (y ∷ ys) found zip = absurd zip
clear-zip later number rest (e ∷ es) [] found zip = absurd zip
clear-zip later number rest (e ∷ es) (y ∷ ys) found zip = (by (e.0 == number) refl, clear-zip later number rest es ys found.1 zip.1)
  where
    by : (b : Bool) → (e.0 == number) ≡ b → StillAsks later (e.0, cond b [] e.1) y
    by true is = (zip.0.0, inl (empty-is y.1.subscriptions.asked (sym (rests-as later y found.0) ∙ ap (rests later) (sym zip.0.0 ∙ same-number e.0 number is) ∙ rest)))
    by false is = zip.0

among-none : (questions : List Question) → AreAmong [] questions
among-none questions question h = absurd cc

asks-fewer : (later : KeptHub) (link : ℕ) (es : Sessions) (ys : Numbered KeptSession) → AllZip (StillAsks later) es ys → AreAmong (session_questions link (session_reasons (state_now later) ys)) (session_questions link es)
asks-fewer later link [] [] zip = among-none []
asks-fewer later link [] (y ∷ ys) zip = absurd zip
asks-fewer later link (e ∷ es) [] zip = absurd zip
asks-fewer later link (e ∷ es) (y ∷ ys) zip =
    among-append (questions_for link (reasons_of (state_now later) y.1.subscriptions.asked)) (session_questions link (session_reasons (state_now later) ys)) (questions_for link e.1) (session_questions link es) (by zip.0.1) (asks-fewer later link es ys zip.1)
  where
    by : (y.1.subscriptions.asked ≡ []) ⊎ (e.1 ≡ reasons_of (state_now later) y.1.subscriptions.asked) → AreAmong (questions_for link (reasons_of (state_now later) y.1.subscriptions.asked)) (questions_for link e.1)
    by (inl none) = subst (λ (a : Asked). AreAmong (questions_for link (reasons_of (state_now later) a)) (questions_for link e.1)) (sym none) (among-none (questions_for link e.1))
    by (inr same) = subst (λ (r : List Reason). AreAmong (questions_for link (reasons_of (state_now later) y.1.subscriptions.asked)) (questions_for link r)) (sym same) (λ question h. h)

pub ask-fewer : (later : KeptHub) (es : Sessions) → AllZip (StillAsks later) es later.sessions → AskFewer (session_reasons (state_now later) later.sessions) es
ask-fewer later es zip link = asks-fewer later link es later.sessions zip

-- ---- the first sessions

rested-in : (later : KeptHub) (place number : ℕ) (es : Sessions) → Rested later place es → Rested later place (in_session number (λ _. []) es)
rested-in later zero number es f = tt
rested-in later (suc place) number [] f = tt
rested-in later (suc place) number (e ∷ es) f = (by (e.0 == number) f.0, rested-in later place number es f.1)
  where
    by : (b : Bool) → (rests later e.0 ≡ true → e.1 ≡ []) → rests later e.0 ≡ true → cond b [] e.1 ≡ []
    by true g r = refl
    by false g r = g r

rested-past : (later : KeptHub) (place : ℕ) (es : Sessions) → slice_get es place ≡ None → Rested later place es → Rested later (suc place) es
rested-past later place [] at f = tt
rested-past later zero (e ∷ es) at f = absurd cc
rested-past later (suc place) (e ∷ es) at f = (f.0, rested-past later place es at f.1)

rested-here : (later : KeptHub) (place : ℕ) (e : ℕ × List Reason) (es : Sessions) → slice_get es place ≡ Some e → (rests later e.0 ≡ true → e.1 ≡ []) → Rested later place es → Rested later (suc place) es
rested-here later place e [] at rest f = tt
rested-here later zero e (d ∷ es) at rest f = let same : d ≡ e = cc in (subst (λ (x : ℕ × List Reason). rests later x.0 ≡ true → x.1 ≡ []) (sym same) rest, tt)
rested-here later (suc place) e (d ∷ es) at rest f = (f.0, rested-here later place e es at rest f.1)

cleared-at : (number place : ℕ) (e : ℕ × List Reason) (es : Sessions) → slice_get es place ≡ Some e → e.0 ≡ number → slice_get (in_session number (λ _. []) es) place ≡ Some (e.0, [])
cleared-at number place e [] at same = absurd cc
cleared-at number zero e (d ∷ es) at same = let is : d ≡ e = cc in ap (λ (x : ℕ × List Reason). Some (x.0, cond (x.0 == number) [] x.1)) is ∙ ap (λ (b : Bool). Some (e.0, cond b [] e.1)) (ap (λ (n : ℕ). n == number) same ∙ number-itself number)
cleared-at number (suc place) e (d ∷ es) at same = cleared-at number place e es at same

rested-all : (later : KeptHub) (place : ℕ) (es : Sessions) → length es ≤ place → Rested later place es → AllByRecursion (λ e. rests later e.0 ≡ true → e.1 ≡ []) es
rested-all later place [] long f = tt
rested-all later zero (e ∷ es) long f = absurd (omega (arith, long))
rested-all later (suc place) (e ∷ es) long f = (f.0, rested-all later place es (omega (arith, long)) f.1)

-- ---- the turns

abbrev pub later_reasons : KeptHub → Sessions
later_reasons later = session_reasons (state_now later) later.sessions

pub record ClearedTo (later : KeptHub) (old now : AllReasons) (place : ℕ) : Type 0 where
  pub sessions : AllZip (StillAsks later) now.sessions later.sessions
  pub leads : LeadFrom 0 (later_reasons later) (state_now later).links (askings_of old) (askings_of now)
  pub bounds : AllZip HasBounds (state_now later).links now.links
  pub rested : Rested later place now.sessions
  pub many : length now.sessions ≡ length old.sessions
  pub doubts : doubts_in (askings_of now) ≡ doubts_in (askings_of old)

pub clear-begins : (later : KeptHub) (old : AllReasons) → CanFollow later old → ClearedTo later old old 0
clear-begins later old can = record {
  sessions = can.sessions;
  leads = lead-itself 0 (later_reasons later) (state_now later).links (askings_of old) (bounds-length (state_now later).links old.links can.links);
  bounds = can.links;
  rested = tt;
  many = refl;
  doubts = refl;
}

one-more : (place : ℕ) → suc place ≡ place + 1
one-more place = omega arith

goes-on : (later : KeptHub) (old now : AllReasons) (place : ℕ) → ClearedTo later old now place → Rested later (suc place) now.sessions → ClearedTo later old now (place + 1)
goes-on later old now place so_far rested = record { sessions = so_far.sessions; leads = so_far.leads; bounds = so_far.bounds; rested = subst (λ (n : ℕ). Rested later n now.sessions) (one-more place) rested; many = so_far.many; doubts = so_far.doubts }

asked : {number : ℕ} {old new : AllReasons} → Clears number old new → askings_of new ≡ only_from 0 (in_session number (λ _. []) old.sessions) (askings_of old)
asked {number} {old} {new} clears = clears.askings ∙ ap (λ (s : Sessions). only_from 0 s (askings_of old)) clears.sessions

cleared : FewerThenFewer → (later : KeptHub) → AreFound later.sessions later.sessions → (old now next : AllReasons) (place : ℕ) (e : ℕ × List Reason) → slice_get now.sessions place ≡ Some e → ClearedTo later old now place
    → rests later e.0 ≡ true → Clears e.0 now next → ClearedTo later old next (place + 1)
cleared fewer later found old now next place e at so_far rest clears =
    let zip : AllZip (StillAsks later) (in_session e.0 (λ _. []) now.sessions) later.sessions = clear-zip later e.0 rest now.sessions later.sessions found so_far.sessions in
    record {
      sessions = subst (λ (s : Sessions). AllZip (StillAsks later) s later.sessions) (sym clears.sessions) zip;
      leads = subst (LeadFrom 0 (later_reasons later) (state_now later).links (askings_of old)) (sym (asked clears))
          (lead-only fewer (later_reasons later) (in_session e.0 (λ _. []) now.sessions) (ask-fewer later (in_session e.0 (λ _. []) now.sessions) zip) (state_now later).links (askings_of old) (askings_of now) so_far.leads);
      bounds = bounds-kept (state_now later).links now next (only-length 0 (in_session e.0 (λ _. []) now.sessions) (askings_of now) ∙ ap (λ (l : List LinkAsking). length l) (sym (asked clears))) clears.bounds so_far.bounds;
      rested = subst (Rested later (place + 1)) (sym clears.sessions)
          (subst (λ (n : ℕ). Rested later n (in_session e.0 (λ _. []) now.sessions)) (one-more place)
          (rested-here later place (e.0, []) (in_session e.0 (λ _. []) now.sessions) (cleared-at e.0 place e now.sessions at refl) (λ r. refl) (rested-in later place e.0 now.sessions so_far.rested)));
      many = ap (λ (s : Sessions). length s) clears.sessions ∙ length-map now.sessions (λ (d : ℕ × List Reason). (d.0, cond (d.0 == e.0) [] d.1)) ∙ so_far.many;
      doubts = ap doubts_in (asked clears) ∙ doubts-only 0 (in_session e.0 (λ _. []) now.sessions) (askings_of now) ∙ so_far.doubts;
    }

pub clear-turn : FewerThenFewer → (later : KeptHub) → AreFound later.sessions later.sessions → (old now next : AllReasons) (place : ℕ) → ClearedTo later old now place → ClearsFound later (slice_get now.sessions place) now next → ClearedTo later old next (place + 1)
clear-turn fewer later found old now next place so_far turn = by (slice_get now.sessions place) refl turn
  where
    by : (o : Option (ℕ × List Reason)) → slice_get now.sessions place ≡ o → ClearsFound later o now next → ClearedTo later old next (place + 1)
    by None at same = subst (λ (r : AllReasons). ClearedTo later old r (place + 1)) (sym same) (goes-on later old now place so_far (rested-past later place now.sessions at so_far.rested))
    by (Some e) at (inl stays) = subst (λ (r : AllReasons). ClearedTo later old r (place + 1)) (sym stays.1) (goes-on later old now place so_far (rested-here later place e now.sessions at stays.0 so_far.rested))
    by (Some e) at (inr goes) = cleared fewer later found old now next place e at so_far goes.0 goes.1

-- ---- all sessions

all-reasons : (later : KeptHub) (es : Sessions) (ys : Numbered KeptSession) → AreFound later.sessions ys → AllZip (StillAsks later) es ys → AllByRecursion (λ e. rests later e.0 ≡ true → e.1 ≡ []) es → es ≡ session_reasons (state_now later) ys
all-reasons later [] [] found zip rested = refl
all-reasons later [] (y ∷ ys) found zip rested = absurd zip
all-reasons later (e ∷ es) [] found zip rested = absurd zip
all-reasons later (e ∷ es) (y ∷ ys) found zip rested = λ i. (zip.0.0 i, by zip.0.1 i) ∷ all-reasons later es ys found.1 zip.1 rested.1 i
  where
    by : (y.1.subscriptions.asked ≡ []) ⊎ (e.1 ≡ reasons_of (state_now later) y.1.subscriptions.asked) → e.1 ≡ reasons_of (state_now later) y.1.subscriptions.asked
    by (inl none) = rested.0 (ap (rests later) zip.0.0 ∙ rests-as later y found.0 ∙ ap (λ (a : Asked). is_empty a) none) ∙ ap (reasons_of (state_now later)) (sym none)
    by (inr same) = same

pub clear-ends : (later : KeptHub) → AreFound later.sessions later.sessions → (old now : AllReasons) (place : ℕ) → length old.sessions ≤ place → ClearedTo later old now place → now.sessions ≡ later_reasons later
clear-ends later found old now place long so_far = all-reasons later now.sessions later.sessions found so_far.sessions (rested-all later place now.sessions (subst (λ (n : ℕ). n ≤ place) (sym so_far.many) long) so_far.rested)

-- ---- where no session has a reason

none-there : (es : Sessions) → have_reasons es ≡ false → AllByRecursion (λ (e : ℕ × List Reason). e.1 ≡ []) es
none-there [] none = tt
none-there (e ∷ es) none = by (is_empty e.1) refl (none-there es) none
  where
    by : (b : Bool) → is_empty e.1 ≡ b → (have_reasons es ≡ false → AllByRecursion (λ (e : ℕ × List Reason). e.1 ≡ []) es) → (not b || have_reasons es) ≡ false → (e.1 ≡ []) × AllByRecursion (λ (e : ℕ × List Reason). e.1 ≡ []) es
    by true is rest none = (empty-is e.1 is, rest none)
    by false is rest none = absurd cc

rested-so : (later : KeptHub) (es : Sessions) → AllByRecursion (λ (e : ℕ × List Reason). e.1 ≡ []) es → AllByRecursion (λ (e : ℕ × List Reason). rests later e.0 ≡ true → e.1 ≡ []) es
rested-so later [] none = tt
rested-so later (e ∷ es) none = ((λ rest. none.0), rested-so later es none.1)

pub clear-nobody : (later : KeptHub) → AreFound later.sessions later.sessions → (old : AllReasons) → CanFollow later old → have_reasons old.sessions ≡ false → old.sessions ≡ later_reasons later
clear-nobody later found old can none = all-reasons later old.sessions later.sessions found can.sessions (rested-so later old.sessions (none-there old.sessions none))

-- ---- what is done at a place

pub clear-none : (later : KeptHub) (o : Option (ℕ × List Reason)) (reasons : AllReasons) → option_map {U = ℕ × ℕ} (λ (e : ℕ × List Reason). (e.0, length e.1)) o ≡ None → ClearsFound later o reasons reasons
clear-none later None reasons none = refl
clear-none later (Some e) reasons none = absurd cc

none-left : {X : Type 0} (xs : List X) (count : ℕ) → length xs ≡ count → count ≤ 0 → xs ≡ []
none-left [] count same few = refl
none-left (x ∷ xs) count same few = absurd (omega (arith, same, few))

pub clear-few : (later : KeptHub) (o : Option (ℕ × List Reason)) (reasons : AllReasons) (number count : ℕ) → option_map {U = ℕ × ℕ} (λ (e : ℕ × List Reason). (e.0, length e.1)) o ≡ Some (number, count) → count ≤ 0 → ClearsFound later o reasons reasons
clear-few later None reasons number count is few = absurd cc
clear-few later (Some e) reasons number count is few = let both : (e.0, length e.1) ≡ (number, count) = cc in inl ((λ rest. none-left e.1 count (ap (λ (x : ℕ × ℕ). x.1) both) few), refl)

pub clear-asks : (later : KeptHub) (o : Option (ℕ × List Reason)) (reasons : AllReasons) (number count : ℕ) → option_map {U = ℕ × ℕ} (λ (e : ℕ × List Reason). (e.0, length e.1)) o ≡ Some (number, count) → rests later number ≡ false → ClearsFound later o reasons reasons
clear-asks later None reasons number count is asks = absurd cc
clear-asks later (Some e) reasons number count is asks =
    let both : (e.0, length e.1) ≡ (number, count) = cc in
    inl ((λ rest. (let wrong : true ≡ false = sym rest ∙ ap (rests later) (ap (λ (x : ℕ × ℕ). x.0) both) ∙ asks in absurd cc)), refl)

pub clear-rests : (later : KeptHub) (o : Option (ℕ × List Reason)) (old new : AllReasons) (number count : ℕ) → option_map {U = ℕ × ℕ} (λ (e : ℕ × List Reason). (e.0, length e.1)) o ≡ Some (number, count) → rests later number ≡ true → Clears number old new → ClearsFound later o old new
clear-rests later None old new number count is rest clears = absurd cc
clear-rests later (Some e) old new number count is rest clears =
    let same : number ≡ e.0 = (let both : (e.0, length e.1) ≡ (number, count) = cc in sym (ap (λ (x : ℕ × ℕ). x.0) both)) in
    inr (ap (rests later) (sym same) ∙ rest, subst (λ (n : ℕ). Clears n old new) same clears)
