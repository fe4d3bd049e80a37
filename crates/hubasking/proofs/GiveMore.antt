-- Behind a call of `give` for which a reason or a doubt was made ready.
--     gone-ends, more-ends      the reason didn't come; it came
--     undoubted-ends, settled-ends      the row wasn't reconfirmed; it was
use Rattle.std.proofs.Common.{◌≡◌, ◌⊎◌, inl, inr, ℕ, zero, suc, ◌+◌, ◌≤◌, ◌<◌, Bool, true, false, cond, ◌||◌, List, [], ◌∷◌, ◌++◌, length, map, filter, Option, Some, None, refl, sym, ap, subst, ◌∙◌, arith}
use Rattle.std.specs.Prelude.{slice_get, option_map, unwrap_or, ◌==◌}
use Rattle.std.specs.List.{AllByRecursion, AllZip, list_any}
use Rattle.std.proofs.lemmas.List.Folds.{list_any-append}
use Rattle.push_base.specs.Cases.{changed_at}
use Rattle.rrset.specs.KeyedRows.{row_at}
use Rattle.rrset.specs.Records.{same_key}
use Rattle.rrset.specs.declared.record.Key.{Key}
use Rattle.rrset.specs.declared.record.Question.{Question}
use Rattle.rrset.specs.declared.record.Rr.{Rr}
use Rattle.subscr.specs.Asked.{Asked}
use Rattle.linkcache.specs.Links.{LinkState}
use Rattle.linkcache.specs.Rows.{LinkRows, ending_by, reconfirmation, reconfirmed}
use Rattle.linkcache.specs.declared.row.HeardRow.{HeardRow}
use Rattle.linkask.specs.Asking.{same_asked, wanted}
use Rattle.linkask.specs.Laws.{ReconfirmingKeepsBounds}
use Rattle.linkask.specs.Reasons.{LinkAsking, question_on}
use Rattle.linkreasons.specs.AllReasons.{AllReasons, AreFollowed, KeepsBounds, askings_of, but_last, doubted_less, doubted_more, in_session, only_from, questions_for, session_questions, with_reason, with_wanted}
use Rattle.linkreasons.specs.Changing.{settled_last}
use Rattle.linkreasons.specs.Laws.{AnewCommutes, AreAmong, FewerThenFewer, FollowsReasons, IsPlain}
use Rattle.linkreasons.proofs.PlainQuestions.{on-plain}
use Rattle.linkreasons.specs.declared.reason.Reason.{Reason}
use Rattle.history.specs.States.{State, after, home_of, link_after}
use Rattle.history.specs.declared.entry.Home.{Home}
use Rattle.history.specs.declared.entry.Home.TheVariants as homes
use Rattle.history.specs.declared.entry.Entry.TheVariants as entries
use Rattle.pushsession.specs.Kept.{KeptSession}
use Rattle.pushsession.specs.declared.request.Request.{Request}
use Rattle.pushsession.specs.declared.request.Request.TheVariants as requests
use Rattle.pushserver.specs.Giving.{give}
use Rattle.livesessions.specs.NumberedSessions.{Numbered}
use Rattle.pushserver.specs.Hubs.{newest, session_of, state_now}
use Rattle.pushserver.specs.KeptHubs.{KeptHub, Forgets, StandsFor}
use Rattle.pushserver.specs.PlainHubs.{Hub}
use Rattle.livesessions.proofs.SessionLists.{number-itself, other-number, same-number}
use Rattle.hubasking.specs.Following.{LeadFrom}
use Rattle.hubasking.specs.KeptReasons.{AreKept, CanFollow, HasBounds, StillAsks, followed, reasons_at, reasons_of, session_reasons}
use Rattle.hubasking.specs.LinkAskings.{behind, confirms, confirms_key, kept_questions}
use Rattle.hubasking.specs.Turns.{Drops, HasReason, IsDoubted, SettlesDoubt, TakesBack, coming_with, count_of, first_id, heard_moment, turn_request}
use Rattle.hubasking.proofs.Calls.{matched}
use Rattle.hubasking.proofs.Clearing.{all-found, ask-fewer, bounds-length, only-length}
use Rattle.hubasking.proofs.Coming.{AskMore, more-from}
use Rattle.hubasking.proofs.Doubting.{IsThere, doubted-from}
use Rattle.hubasking.proofs.Followed.{followed-behind, lead-followed, stand-all}
use Rattle.hubasking.proofs.Gives.{bounds-turn, turn-first}
use Rattle.hubasking.proofs.GiveEnds.{can, counted, homes as kept_homes, turn}
use Rattle.hubasking.proofs.Leading.{AskFewer, Sessions, want-all}
use Rattle.hubasking.proofs.Refreshing.{changed-length}
use Rattle.hubasking.proofs.Resting.{SameHomes, all-reasons-same}
use Rattle.hubasking.proofs.Settled.{gone-follow, more-follow}
use Rattle.hubasking.proofs.TakenBack.{back-again, lead-back, lead-undoubted}
use Rattle.hubasking.proofs.Turning.{OwnTo, Turn, TurnsTo}

-- ---- a session that has a reason more asks more

or-four : (a b c d e : Bool) → (a ≡ true → (c || e) ≡ true) → (b ≡ true → (d || e) ≡ true) → (a || b) ≡ true → ((c || d) || e) ≡ true
or-four a b true d e f g h = refl
or-four true b false true e f g h = refl
or-four true b false false e f g h = f refl
or-four false b false d e f g h = g h

-- what a reason asks of a link
abbrev asks_of_link : ℕ → Reason → List Question
asks_of_link link reason = cond (link == reason.link) (reason.question ∷ []) []

one-asks : (link : ℕ) (reason : Reason) (reasons : List Reason) → AreAmong (questions_for link (reasons ++ reason ∷ [])) (questions_for link reasons ++ asks_of_link link reason)
one-asks link reason [] question = by (reason.link == link) refl
  where
    swapped : (b : Bool) → (reason.link == link) ≡ b → (link == reason.link) ≡ b
    swapped true is = ap (λ (n : ℕ). link == n) (same-number reason.link link is) ∙ number-itself link
    swapped false is = other-number link reason.link (λ same. (let wrong : true ≡ false = sym (number-itself link) ∙ ap (λ (n : ℕ). n == link) same ∙ is in absurd cc))

    by : (b : Bool) → (reason.link == link) ≡ b → list_any (same_asked question) (map (λ (r : Reason). r.question) (cond b (reason ∷ []) [])) ≡ true → list_any (same_asked question) (asks_of_link link reason) ≡ true
    by true is h = ap (λ (b : Bool). list_any (same_asked question) (cond b (reason.question ∷ []) [])) (swapped true is) ∙ h
    by false is h = absurd cc
one-asks link reason (r ∷ rs) question = by (r.link == link) (one-asks link reason rs question)
  where
    more : (b : Bool) → (list_any (same_asked question) (questions_for link (rs ++ reason ∷ [])) ≡ true → list_any (same_asked question) (questions_for link rs ++ asks_of_link link reason) ≡ true) → (b || list_any (same_asked question) (questions_for link (rs ++ reason ∷ []))) ≡ true → (b || list_any (same_asked question) (questions_for link rs ++ asks_of_link link reason)) ≡ true
    more true rest h = refl
    more false rest h = rest h

    by : (b : Bool) → (list_any (same_asked question) (questions_for link (rs ++ reason ∷ [])) ≡ true → list_any (same_asked question) (questions_for link rs ++ asks_of_link link reason) ≡ true) → list_any (same_asked question) (map (λ (r : Reason). r.question) (cond b (r ∷ filter (λ (r : Reason). r.link == link) (rs ++ reason ∷ [])) (filter (λ (r : Reason). r.link == link) (rs ++ reason ∷ [])))) ≡ true
        → list_any (same_asked question) (map (λ (r : Reason). r.question) (cond b (r ∷ filter (λ (r : Reason). r.link == link) rs) (filter (λ (r : Reason). r.link == link) rs)) ++ asks_of_link link reason) ≡ true
    by true rest h = more (same_asked question r.question) rest h
    by false rest h = rest h

all-asks : (number link : ℕ) (reason : Reason) (sessions : Sessions) → AreAmong (session_questions link (in_session number (with_reason reason) sessions)) (session_questions link sessions ++ asks_of_link link reason)
all-asks number link reason [] question h = absurd cc
all-asks number link reason (e ∷ es) question h =
    list_any-append (same_asked question) (questions_for link e.1 ++ session_questions link es) (asks_of_link link reason)
    ∙ ap (λ (b : Bool). b || list_any (same_asked question) (asks_of_link link reason)) (list_any-append (same_asked question) (questions_for link e.1) (session_questions link es))
    ∙ or-four (list_any (same_asked question) (questions_for link (cond (e.0 == number) (with_reason reason e.1) e.1))) (list_any (same_asked question) (session_questions link (in_session number (with_reason reason) es))) (list_any (same_asked question) (questions_for link e.1)) (list_any (same_asked question) (session_questions link es)) (list_any (same_asked question) (asks_of_link link reason))
    (by (e.0 == number))
    (λ g. sym (list_any-append (same_asked question) (session_questions link es) (asks_of_link link reason)) ∙ all-asks number link reason es question g)
    (sym (list_any-append (same_asked question) (questions_for link (cond (e.0 == number) (with_reason reason e.1) e.1)) (session_questions link (in_session number (with_reason reason) es))) ∙ h)
  where
    or-first : (a b : Bool) → a ≡ true → (a || b) ≡ true
    or-first true b is = refl
    or-first false b is = absurd cc

    by : (b : Bool) → list_any (same_asked question) (questions_for link (cond b (with_reason reason e.1) e.1)) ≡ true → (list_any (same_asked question) (questions_for link e.1) || list_any (same_asked question) (asks_of_link link reason)) ≡ true
    by true g = sym (list_any-append (same_asked question) (questions_for link e.1) (asks_of_link link reason)) ∙ one-asks link reason e.1 question g
    by false g = or-first (list_any (same_asked question) (questions_for link e.1)) (list_any (same_asked question) (asks_of_link link reason)) g

-- ---- a row that is reconfirmed was heard when it was before

heard-same : (key : Key) (t : ℕ) (rows : LinkRows) → heard_moment (reconfirmed rows key t) key ≡ heard_moment rows key
heard-same key t [] = refl
heard-same key t (e ∷ es) = by (same_key key e.0) refl (heard-same key t es)
  where
    by : (b : Bool) → same_key key e.0 ≡ b → heard_moment (reconfirmed es key t) key ≡ heard_moment es key → heard_moment (cond b (ending_by (t + reconfirmation) e) e ∷ reconfirmed es key t) key ≡ heard_moment (e ∷ es) key
    by true is rest = ap (λ (b : Bool). option_map (λ (row : HeardRow). row.heard) (cond b (Some (ending_by (t + reconfirmation) e).1) (row_at key (reconfirmed es key t)))) is ∙ sym (ap (λ (b : Bool). option_map (λ (row : HeardRow). row.heard) (cond b (Some e.1) (row_at key es))) is)
    by false is rest = ap (λ (b : Bool). option_map (λ (row : HeardRow). row.heard) (cond b (Some e.1) (row_at key (reconfirmed es key t)))) is ∙ rest ∙ sym (ap (λ (b : Bool). option_map (λ (row : HeardRow). row.heard) (cond b (Some e.1) (row_at key es))) is)

row-of : (o : Option HeardRow) (heard : ℕ) → option_map (λ (row : HeardRow). row.heard) o ≡ Some heard → (row : HeardRow) × (o ≡ Some row) × (row.heard ≡ heard)
row-of None heard is = absurd cc
row-of (Some row) heard is = (row, refl, ap (λ (o : Option ℕ). unwrap_or o 0) is)

changed-there : (place : ℕ) (f : LinkState → LinkState) (ls : List LinkState) (found : LinkState) → slice_get ls place ≡ Some found → (l : LinkState) → slice_get (changed_at place f ls) place ≡ Some l → l ≡ f found
changed-there place f [] found at l is = absurd cc
changed-there zero f (k ∷ ls) found at l is = (let one : k ≡ found = cc in let two : f k ≡ l = cc in sym two ∙ ap f one)
changed-there (suc place) f (k ∷ ls) found at l is = changed-there place f ls found at l is

-- ---- what links are asked is plain

map-plain : (id i : ℕ) (qs : List Question) → AllByRecursion IsPlain qs → AllByRecursion (λ (r : Reason). IsPlain r.question) (map (λ (q : Question). record { id = id; link = i; question = q }) qs)
map-plain id i [] all = tt
map-plain id i (q ∷ qs) all = (all.0, map-plain id i qs all.1)

plain-at : (id : ℕ) (question : Question) (ls : List LinkState) (h : Option Home) → AllByRecursion (λ (r : Reason). IsPlain r.question) (reasons_at id question ls h)
plain-at id question ls None = tt
plain-at id question ls (Some (homes.Zone i)) = tt
plain-at id question ls (Some (homes.Link i)) = by (slice_get ls i)
  where
    by : (o : Option LinkState) → AllByRecursion (λ (r : Reason). IsPlain r.question) (elim o as (λ _. List Reason) [ None ↦ [] | Some l ↦ map (λ (q : Question). record { id = id; link = i; question = q }) (question_on l.rules.domain question) ])
    by None = tt
    by (Some l) = map-plain id i (question_on l.rules.domain question) (on-plain l.rules.domain question)

coming-plain : (state : State) (i : Option ℕ) (q : Option Request) → AllByRecursion (λ (r : Reason). IsPlain r.question) (coming_with state i q)
coming-plain state None q = tt
coming-plain state (Some i) None = tt
coming-plain state (Some i) (Some requests.Itself) = tt
coming-plain state (Some i) (Some requests.Update) = tt
coming-plain state (Some i) (Some requests.Query) = tt
coming-plain state (Some i) (Some (requests.Reconfirm rr)) = tt
coming-plain state (Some i) (Some (requests.Subscribe None)) = tt
coming-plain state (Some i) (Some (requests.Subscribe (Some question))) = plain-at i question state.links (home_of state question.name)

-- ---- what follows

-- a session that subscribes to nothing
plain-follow : (k later : KeptHub) → SameHomes (state_now k) (state_now later) → (number : ℕ) (request : Option Request) (id : Option ℕ) → ((asked left : Asked) → OwnTo request id asked left → ⊥) → (xs ys : Numbered KeptSession) → AllZip (TurnsTo number request id) xs ys → AllZip (StillAsks later) (session_reasons (state_now k) xs) ys
plain-follow k later same_homes number request id none [] [] zip = tt
plain-follow k later same_homes number request id none [] (y ∷ ys) zip = absurd zip
plain-follow k later same_homes number request id none (x ∷ xs) [] zip = absurd zip
plain-follow k later same_homes number request id none (x ∷ xs) (y ∷ ys) zip = ((zip.0.0, by zip.0.1), plain-follow k later same_homes number request id none xs ys zip.1)
  where
    by : (y.1.subscriptions.asked ≡ []) ⊎ (y.1.subscriptions.asked ≡ x.1.subscriptions.asked) ⊎ (((x.0 == number) ≡ true) × OwnTo request id x.1.subscriptions.asked y.1.subscriptions.asked)
        → (y.1.subscriptions.asked ≡ []) ⊎ (reasons_of (state_now k) x.1.subscriptions.asked ≡ reasons_of (state_now later) y.1.subscriptions.asked)
    by (inl empty) = inl empty
    by (inr (inl same)) = inr (all-reasons-same (state_now k) (state_now later) same_homes x.1.subscriptions.asked ∙ ap (reasons_of (state_now later)) (sym same))
    by (inr (inr own)) = absurd (none x.1.subscriptions.asked y.1.subscriptions.asked own.1)

module _ (fewer : FewerThenFewer) (follows : FollowsReasons) (keeps : ReconfirmingKeepsBounds) (k later : KeptHub) (number room : ℕ) (plain : Hub) (before : AllReasons)
    (kept : AreKept k before) (told : AreFollowed before) (forgets : Forgets (give k number room).hub later) (stands : StandsFor later plain) where
  abbrev request : Option Request
  request = turn_request (session_of k number)

  abbrev id : Option ℕ
  id = first_id (session_of k number)

  abbrev its_turn : Turn k number request id later
  its_turn = turn fewer follows keeps k later number room plain before kept told forgets stands

  abbrev its_homes : SameHomes (state_now k) (state_now later)
  its_homes = kept_homes fewer follows keeps k later number room plain before kept told forgets stands

  abbrev its_links : length (state_now later).links ≡ length (askings_of before)
  its_links = bounds-length (state_now later).links before.links (bounds-turn k later keeps request its_turn.state before.links (matched (state_now k).links before.links kept.links))

  abbrev Ends : AllReasons → Option (ℕ × Key) → Type 0
  Ends new confirmed = CanFollow later new × (followed later (askings_of new) ≡ behind kept_questions confirmed later (askings_of before))

  -- the reason didn't come
  pub gone-ends : (ready new : AllReasons) → HasReason k number before ready → count_of (session_of later number) ≤ count_of (session_of k number) → Drops number but_last ready new → Ends new None
  gone-ends ready new has few drops =
      let zip : AllZip (StillAsks later) before.sessions later.sessions = subst (λ (s : Sessions). AllZip (StillAsks later) s later.sessions) (sym kept.sessions)
      (gone-follow k later its_homes number request id has.reason has.coming k.sessions later.sessions (counted fewer follows keeps k later number room plain before kept told forgets stands (λ n m. m ≤ n) few) its_turn.sessions) in
      let again : new.sessions ≡ before.sessions = drops.sessions ∙ ap (λ (s : Sessions). in_session number but_last s) has.sessions ∙ back-again number has.reason before.sessions in
      let same : askings_of new ≡ only_from 0 before.sessions (with_wanted has.reason.link has.reason.question (askings_of before)) = drops.askings ∙ (λ i. only_from 0 (again i) (has.askings i)) in
      let among : AskFewer (session_reasons (state_now later) later.sessions) before.sessions = ask-fewer later before.sessions zip in (
        can fewer follows keeps k later number room plain before kept told forgets stands new (subst (λ (s : Sessions). AllZip (StillAsks later) s later.sessions) (sym again) zip)
            (changed-length has.reason.link (λ (a : LinkAsking). record a { wanted = wanted has.reason.question a.wanted }) (askings_of before) ∙ only-length 0 before.sessions (with_wanted has.reason.link has.reason.question (askings_of before)) ∙ ap (λ (a : List LinkAsking). length a) (sym same))
            (λ rows link b. drops.bounds rows link (has.bounds rows link b)),
        ap (followed later) same
            ∙ lead-followed 0 (session_reasons (state_now later) later.sessions) (state_now later).links (askings_of before) (only_from 0 before.sessions (with_wanted has.reason.link has.reason.question (askings_of before)))
            (lead-back fewer follows (session_reasons (state_now later) later.sessions) before.sessions among 0 has.reason.link has.reason.question (state_now later).links (askings_of before) its_links (want-all before.sessions before.links told))
            ∙ followed-behind follows later before among told,
      )

  -- the reason came
  pub more-ends : (new : AllReasons) → HasReason k number before new → count_of (session_of k number) < count_of (session_of later number) → Ends new None
  more-ends new has more =
      let zip : AllZip (StillAsks later) (in_session number (with_reason has.reason) before.sessions) later.sessions = subst (λ (s : Sessions). AllZip (StillAsks later) (in_session number (with_reason has.reason) s) later.sessions) (sym kept.sessions)
      (more-follow k later its_homes number request id has.reason has.coming k.sessions later.sessions (counted fewer follows keeps k later number room plain before kept told forgets stands (λ n m. n < m) more) its_turn.sessions) in
      let among : AskMore has.reason.link has.reason.question (session_reasons (state_now later) later.sessions) before.sessions =
      (λ link question h. all-asks number link has.reason before.sessions question (ask-fewer later (in_session number (with_reason has.reason) before.sessions) zip link question h)) in (
        can fewer follows keeps k later number room plain before kept told forgets stands new (subst (λ (s : Sessions). AllZip (StillAsks later) s later.sessions) (sym has.sessions) zip)
            (changed-length has.reason.link (λ (a : LinkAsking). record a { wanted = wanted has.reason.question a.wanted }) (askings_of before) ∙ ap (λ (a : List LinkAsking). length a) (sym has.askings)) has.bounds,
        ap (followed later) has.askings
            ∙ more-from follows later before.sessions has.reason.link has.reason.question (subst (λ (rs : List Reason). AllByRecursion (λ (r : Reason). IsPlain r.question) rs) has.coming (coming-plain (state_now k) id request)).0 among 0 has.reason.link (omega arith) (state_now later).links (askings_of before) (stand-all (state_now later).links) (want-all before.sessions before.links told),
      )

  none-own : (rr : Rr) → request ≡ Some (requests.Reconfirm (Some rr)) → (asked left : Asked) → OwnTo request id asked left → ⊥
  none-own rr is asked left own = none id (subst (λ (q : Option Request). OwnTo q id asked left) is own)
    where
      none : (i : Option ℕ) → OwnTo (Some (requests.Reconfirm (Some rr))) i asked left → ⊥
      none i own = own

  doubt-zip : (link : ℕ) (ready : AllReasons) → IsDoubted k number link before ready → AllZip (StillAsks later) before.sessions later.sessions
  doubt-zip link ready doubts = subst (λ (s : Sessions). AllZip (StillAsks later) s later.sessions) (sym kept.sessions)
      (plain-follow k later its_homes number request id (none-own doubts.rr doubts.request) k.sessions later.sessions its_turn.sessions)

  -- the row wasn't reconfirmed
  pub undoubted-ends : (link : ℕ) (ready new : AllReasons) → IsDoubted k number link before ready → TakesBack link ready new → Ends new None
  undoubted-ends link ready new doubts takes =
      let zip : AllZip (StillAsks later) before.sessions later.sessions = doubt-zip link ready doubts in
      let again : new.sessions ≡ before.sessions = takes.sessions ∙ doubts.sessions in
      let there : List LinkAsking = changed_at link doubted_less (changed_at link (doubted_more doubts.key doubts.heard) (askings_of before)) in
      let same : askings_of new ≡ only_from 0 before.sessions there = takes.askings ∙ (λ i. only_from 0 (again i) (changed_at link doubted_less (doubts.askings i))) in
      let among : AskFewer (session_reasons (state_now later) later.sessions) before.sessions = ask-fewer later before.sessions zip in (
        can fewer follows keeps k later number room plain before kept told forgets stands new (subst (λ (s : Sessions). AllZip (StillAsks later) s later.sessions) (sym again) zip)
            (changed-length link (doubted_more doubts.key doubts.heard) (askings_of before) ∙ changed-length link doubted_less (changed_at link (doubted_more doubts.key doubts.heard) (askings_of before)) ∙ only-length 0 before.sessions there ∙ ap (λ (a : List LinkAsking). length a) (sym same))
            (λ rows at b. takes.bounds rows at (doubts.bounds rows at b)),
        ap (followed later) same
            ∙ lead-followed 0 (session_reasons (state_now later) later.sessions) (state_now later).links (askings_of before) (only_from 0 before.sessions there)
            (lead-undoubted fewer follows (session_reasons (state_now later) later.sessions) before.sessions among 0 link doubts.key doubts.heard (state_now later).links (askings_of before) its_links (want-all before.sessions before.links told))
            ∙ followed-behind follows later before among told,
      )

  -- the row was reconfirmed
  pub settled-ends : AnewCommutes → (link : ℕ) (ready new : AllReasons) (doubts : IsDoubted k number link before ready) → SettlesDoubt link ready new → state_now later ≡ after (state_now k) (entries.Reconfirm link doubts.key) → Ends new (Some (link, doubts.key))
  settled-ends commutes link ready new doubts settles entered =
      let zip : AllZip (StillAsks later) before.sessions later.sessions = doubt-zip link ready doubts in
      let again : new.sessions ≡ before.sessions = settles.sessions ∙ doubts.sessions in
      let same : askings_of new ≡ changed_at link settled_last (changed_at link (doubted_more doubts.key doubts.heard) (askings_of before)) = settles.askings ∙ ap (λ (a : List LinkAsking). changed_at link settled_last a) doubts.askings in
      let among : AskFewer (session_reasons (state_now later) later.sessions) before.sessions = ask-fewer later before.sessions zip in
      let row : IsThere link doubts.key doubts.heard (state_now later).links = subst (λ (s : State). IsThere link doubts.key doubts.heard s.links) (sym entered)
      (λ l at. row-of (row_at doubts.key l.rows) doubts.heard
      (ap (λ (m : LinkState). heard_moment m.rows doubts.key) (changed-there link (link_after (entries.Reconfirm link doubts.key) (state_now k).now) (state_now k).links doubts.found doubts.at l at)
      ∙ heard-same doubts.key (state_now k).now doubts.found.rows ∙ doubts.there)) in (
        can fewer follows keeps k later number room plain before kept told forgets stands new (subst (λ (s : Sessions). AllZip (StillAsks later) s later.sessions) (sym again) zip)
            (changed-length link (doubted_more doubts.key doubts.heard) (askings_of before) ∙ changed-length link settled_last (changed_at link (doubted_more doubts.key doubts.heard) (askings_of before)) ∙ ap (λ (a : List LinkAsking). length a) (sym same))
            (λ rows at b. settles.bounds rows at (doubts.bounds rows at b)),
        ap (followed later) same
            ∙ doubted-from follows commutes later before.sessions among link doubts.key doubts.heard 0 link (omega arith) (state_now later).links (askings_of before) row (stand-all (state_now later).links) (want-all before.sessions before.links told),
      )
