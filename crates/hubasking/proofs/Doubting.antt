-- What is asked behind a turn by which a row was reconfirmed.
--     doubted-from      of each link
use Rattle.std.proofs.Common.{◌≡◌, ℕ, zero, suc, ◌+◌, Bool, true, false, cond, not, ◌||◌, List, [], ◌∷◌, ◌++◌, map, filter, Option, Some, None, refl, sym, ap, subst, ◌∙◌, arith}
use Rattle.std.specs.Prelude.{◌==◌, slice_get, if◌then◌else◌}
use Rattle.std.specs.List.{AllByRecursion, list_any}
use Rattle.std.proofs.lemmas.List.Folds.{list_any-append}
use Rattle.push_base.specs.Cases.{changed_at}
use Rattle.rrset.specs.Records.{same_key}
use Rattle.rrset.specs.KeyedRows.{row_at}
use Rattle.rrset.specs.declared.record.Key.{Key}
use Rattle.rrset.specs.declared.record.Question.{Question}
use Rattle.linkcache.specs.Links.{LinkState}
use Rattle.linkcache.specs.declared.row.HeardRow.{HeardRow}
use Rattle.linkask.specs.Asking.{Wanted, anew, same_asked, wanted}
use Rattle.linkask.specs.Reasons.{LinkAsking, Reconfirmed, asking_behind, is_doubted, question_for, reasons, still_reconfirmed, was_heard_at, with_reasons, with_reconfirmed}
use Rattle.linkreasons.specs.AllReasons.{WantsReasons, but_last, doubted_last, doubted_more, reasons_on, session_questions, with_any_of}
use Rattle.linkreasons.specs.Changing.{last_of, settled_last, settled_last_by}
use Rattle.linkreasons.specs.Laws.{AnewCommutes, AreAmong, AreSpelledAs, FollowsReasons}
use Rattle.linkreasons.proofs.PlainQuestions.{all_append}
use Rattle.linkreasons.proofs.Spelling.{all-among, spelled-doubted}
use Rattle.pushserver.specs.Hubs.{state_now}
use Rattle.pushserver.specs.KeptHubs.{KeptHub}
use Rattle.livesessions.proofs.SessionLists.{number-itself, other-number}
use Rattle.hubasking.specs.KeptReasons.{followed_from, session_reasons}
use Rattle.hubasking.specs.LinkAskings.{confirmed_on, kept_questions, links_behind, questions_at, questions_in}
use Rattle.hubasking.proofs.Leading.{AskFewer, Sessions, WantFrom, among-filter, asked_with}
use Rattle.hubasking.proofs.Followed.{StandFrom, asked-at, reasons-same, stand-here, stand-next}
use Rattle.hubasking.proofs.TakenBack.{but-last-more}

last-more : {X : Type 0} (xs : List X) (x : X) → last_of (xs ++ x ∷ []) ≡ x ∷ []
last-more [] x = refl
last-more (y ∷ []) x = refl
last-more (y ∷ z ∷ zs) x = last-more (z ∷ zs) x

-- the last row stands for all of its key
settled-so : (key : Key) (heard : ℕ) (a : LinkAsking) → settled_last (doubted_more key heard a)
    ≡ record { wanted = cond (is_doubted key heard a.reconfirmed) (wanted (question_for key) a.wanted) (anew (question_for key) (wanted (question_for key) a.wanted)); reconfirmed = filter (λ r. not (same_key key r.0)) a.reconfirmed ++ (key, heard) ∷ [] }
settled-so key heard a =
    ap (λ (l : Reconfirmed). settled_last_by l (doubted_more key heard a)) (last-more a.reconfirmed (key, heard))
    ∙ (λ i. record {
      wanted = cond (is_doubted key heard (but-last-more a.reconfirmed (key, heard) i)) (wanted (question_for key) a.wanted) (anew (question_for key) (wanted (question_for key) a.wanted));
      reconfirmed = filter (λ r. not (same_key key r.0)) (but-last-more a.reconfirmed (key, heard) i) ++ (key, heard) ∷ [];
    })

or-first : (a b : Bool) → a ≡ true → (a || b) ≡ true
or-first true b is = refl
or-first false b is = absurd cc

or-second : (a b : Bool) → b ≡ true → (a || b) ≡ true
or-second true b is = refl
or-second false b is = is

-- what holds of each holds of those that pass a test
pub all-filter : {X : Type 0} (P : X → Type 0) (test : X → Bool) (xs : List X) → AllByRecursion P xs → AllByRecursion P (filter test xs)
all-filter P test [] all = tt
all-filter {X} P test (x ∷ xs) all = by (test x) (all-filter P test xs all.1)
  where
    by : (b : Bool) → AllByRecursion P (filter test xs) → AllByRecursion P (cond b (x ∷ filter test xs) (filter test xs))
    by true rest = (all.0, rest)
    by false rest = rest

-- the row is there, and was heard at this moment
abbrev pub IsThere : ℕ → Key → ℕ → List LinkState → Type 0
IsThere part key heard ls = (l : LinkState) → slice_get ls part ≡ Some l → (row : HeardRow) × (row_at key l.rows ≡ Some row) × (row.heard ≡ heard)

module _ (follows : FollowsReasons) (commutes : AnewCommutes) (later : KeptHub) (before : Sessions) (fewer : AskFewer (session_reasons (state_now later) later.sessions) before) where
  abbrev there : Sessions
  there = session_reasons (state_now later) later.sessions

  abbrev asked_there : List Question
  asked_there = questions_in kept_questions later

  -- the questions of the rows, and one more
  module _ (link : ℕ) (l : LinkState) (a : LinkAsking) (key : Key) (heard : ℕ) where
    abbrev settled : Reconfirmed
    settled = filter (λ r. not (same_key key r.0)) a.reconfirmed ++ (key, heard) ∷ []

    by_parts : (s0 s1 r0 r1 k : Bool) → (s1 ≡ true → s0 ≡ true) → (r1 ≡ true → (r0 || (k || false)) ≡ true) → (s1 || r1) ≡ true → ((s0 || r0) || (k || false)) ≡ true
    by_parts true s1 r0 r1 k f g h = refl
    by_parts false true r0 r1 k f g h = absurd (let wrong : false ≡ true = f refl in cc)
    by_parts false false r0 r1 k f g h = g h

    rows-among : (q : Question) → list_any (same_asked q) (map (λ (r : Key × ℕ). question_for r.0) (still_reconfirmed l.rows settled)) ≡ true
        → (list_any (same_asked q) (map (λ (r : Key × ℕ). question_for r.0) a.reconfirmed) || (same_asked q (question_for key) || false)) ≡ true
    rows-among q is = parts (list_any (same_asked q) (map (λ (r : Key × ℕ). question_for r.0) (filter (λ r. not (same_key key r.0)) a.reconfirmed))) (list_any (same_asked q) (map (λ (r : Key × ℕ). question_for r.0) a.reconfirmed)) (same_asked q (question_for key))
        (among-filter (λ r. not (same_key key r.0)) a.reconfirmed q)
        (sym (split (filter (λ r. not (same_key key r.0)) a.reconfirmed)) ∙ among-filter (λ r. was_heard_at r.1 (row_at r.0 l.rows)) settled q is)
      where
        split : (rs : Reconfirmed) → list_any (same_asked q) (map (λ (r : Key × ℕ). question_for r.0) (rs ++ (key, heard) ∷ [])) ≡ (list_any (same_asked q) (map (λ (r : Key × ℕ). question_for r.0) rs) || (same_asked q (question_for key) || false))
        split [] = refl
        split (r ∷ rs) = or-moved (same_asked q (question_for r.0)) (split rs)
          where
            or-moved : (b : Bool) → list_any (same_asked q) (map (λ (r : Key × ℕ). question_for r.0) (rs ++ (key, heard) ∷ [])) ≡ (list_any (same_asked q) (map (λ (r : Key × ℕ). question_for r.0) rs) || (same_asked q (question_for key) || false))
                → (b || list_any (same_asked q) (map (λ (r : Key × ℕ). question_for r.0) (rs ++ (key, heard) ∷ []))) ≡ ((b || list_any (same_asked q) (map (λ (r : Key × ℕ). question_for r.0) rs)) || (same_asked q (question_for key) || false))
            or-moved true e = refl
            or-moved false e = e

        parts : (x y k : Bool) → (x ≡ true → y ≡ true) → (x || (k || false)) ≡ true → (y || (k || false)) ≡ true
        parts true y k f h = ap (λ (b : Bool). b || (k || false)) (f refl)
        parts false true k f h = refl
        parts false false k f h = h

    among : (q : Question) → list_any (same_asked q) (reasons_on link there (still_reconfirmed l.rows settled)) ≡ true → (list_any (same_asked q) (reasons_on link before a.reconfirmed) || list_any (same_asked q) (question_for key ∷ [])) ≡ true
    among q is =
        ap (λ (b : Bool). b || (same_asked q (question_for key) || false)) (list_any-append (same_asked q) (session_questions link before) (map (λ (r : Key × ℕ). question_for r.0) a.reconfirmed))
        ∙ by_parts (list_any (same_asked q) (session_questions link before)) (list_any (same_asked q) (session_questions link there)) (list_any (same_asked q) (map (λ (r : Key × ℕ). question_for r.0) a.reconfirmed)) (list_any (same_asked q) (map (λ (r : Key × ℕ). question_for r.0) (still_reconfirmed l.rows settled))) (same_asked q (question_for key))
        (fewer link q) (rows-among q)
        (sym (list_any-append (same_asked q) (session_questions link there) (map (λ (r : Key × ℕ). question_for r.0) (still_reconfirmed l.rows settled))) ∙ is)

    -- the others were asked before
    abbrev asked_before : List Question
    asked_before = reasons_on link before a.reconfirmed

    others : (rs : Reconfirmed) → AllByRecursion (λ q. list_any (same_asked q) asked_before ≡ true) (map (λ (r : Key × ℕ). question_for r.0) rs) → AllByRecursion (λ r. list_any (same_asked (question_for r.0)) asked_before ≡ false → question_for key ≡ question_for r.0) rs
    others [] all = tt
    others (r ∷ rs) all = ((λ absent. (let no : true ≡ false = sym all.0 ∙ absent in absurd cc)), others rs all.1)

    rows-before : AreAmong (map (λ (r : Key × ℕ). question_for r.0) a.reconfirmed) asked_before
    rows-before q h = list_any-append (same_asked q) (session_questions link before) (map (λ (r : Key × ℕ). question_for r.0) a.reconfirmed) ∙ or-second (list_any (same_asked q) (session_questions link before)) (list_any (same_asked q) (map (λ (r : Key × ℕ). question_for r.0) a.reconfirmed)) h

    sessions-before : AreAmong (session_questions link there) asked_before
    sessions-before q h = list_any-append (same_asked q) (session_questions link before) (map (λ (r : Key × ℕ). question_for r.0) a.reconfirmed) ∙ or-first (list_any (same_asked q) (session_questions link before)) (list_any (same_asked q) (map (λ (r : Key × ℕ). question_for r.0) a.reconfirmed)) (fewer link q h)

    spelled : AreSpelledAs asked_before (question_for key ∷ []) (reasons_on link there (still_reconfirmed l.rows settled))
    spelled = spelled-doubted asked_before (session_questions link there) (still_reconfirmed l.rows settled) key sessions-before
        (all-filter (λ r. list_any (same_asked (question_for r.0)) asked_before ≡ false → question_for key ≡ question_for r.0) (λ r. was_heard_at r.1 (row_at r.0 l.rows)) settled
        (all_append (λ r. list_any (same_asked (question_for r.0)) asked_before ≡ false → question_for key ≡ question_for r.0) (filter (λ r. not (same_key key r.0)) a.reconfirmed) ((key, heard) ∷ [])
        (all-filter (λ r. list_any (same_asked (question_for r.0)) asked_before ≡ false → question_for key ≡ question_for r.0) (λ r. not (same_key key r.0)) a.reconfirmed (others a.reconfirmed (all-among asked_before (map (λ (r : Key × ℕ). question_for r.0) a.reconfirmed) rows-before)))
        ((λ absent. refl), tt)))

    wanted-so : slice_get (state_now later).links link ≡ Some l → WantsReasons (reasons_on link before a.reconfirmed) a.wanted → (b : Bool)
        → with_any_of (reasons_on link there (still_reconfirmed l.rows settled)) (cond b (wanted (question_for key) a.wanted) (anew (question_for key) (wanted (question_for key) a.wanted)))
        ≡ cond b (with_reasons (reasons l.rules.domain (questions_at (state_now later) link asked_there) (still_reconfirmed l.rows settled)) a.wanted) (anew (question_for key) (with_reasons (reasons l.rules.domain (questions_at (state_now later) link asked_there) (still_reconfirmed l.rows settled)) a.wanted))
    wanted-so at wants b = by b
      where
        one : with_any_of (reasons_on link there (still_reconfirmed l.rows settled)) (wanted (question_for key) a.wanted) ≡ with_reasons (reasons l.rules.domain (questions_at (state_now later) link asked_there) (still_reconfirmed l.rows settled)) a.wanted
        one = follows (reasons_on link before a.reconfirmed) (question_for key ∷ []) (reasons_on link there (still_reconfirmed l.rows settled)) a.wanted wants among spelled
            ∙ ap (λ (qs : List Question). with_reasons qs a.wanted) (reasons-same (state_now later) later.sessions link l (still_reconfirmed l.rows settled) at)

        by : (b : Bool) → with_any_of (reasons_on link there (still_reconfirmed l.rows settled)) (cond b (wanted (question_for key) a.wanted) (anew (question_for key) (wanted (question_for key) a.wanted)))
            ≡ cond b (with_reasons (reasons l.rules.domain (questions_at (state_now later) link asked_there) (still_reconfirmed l.rows settled)) a.wanted) (anew (question_for key) (with_reasons (reasons l.rules.domain (questions_at (state_now later) link asked_there) (still_reconfirmed l.rows settled)) a.wanted))
        by true = one
        by false = commutes (question_for key) (reasons_on link there (still_reconfirmed l.rows settled)) (wanted (question_for key) a.wanted) ∙ ap (anew (question_for key)) one

    -- of the link whose row was reconfirmed
    doubted-here : (row : HeardRow) → row_at key l.rows ≡ Some row → row.heard ≡ heard → slice_get (state_now later).links link ≡ Some l → WantsReasons (reasons_on link before a.reconfirmed) a.wanted
        → (let b : LinkAsking = settled_last (doubted_more key heard a) in asked_with (with_any_of (reasons_on link there (still_reconfirmed l.rows b.reconfirmed)) b.wanted) (still_reconfirmed l.rows b.reconfirmed))
        ≡ asking_behind l.rules.domain l.rows (questions_at (state_now later) link asked_there) (Some key) a
    doubted-here row there_is same at wants =
        ap (λ (b : LinkAsking). asked_with (with_any_of (reasons_on link there (still_reconfirmed l.rows b.reconfirmed)) b.wanted) (still_reconfirmed l.rows b.reconfirmed)) (settled-so key heard a)
        ∙ (λ i. record { wanted = wanted-so at wants (is_doubted key heard a.reconfirmed) i; reconfirmed = still_reconfirmed l.rows settled })
        ∙ sym (by-row there_is same)
      where
        behind_row : Option HeardRow → LinkAsking
        behind_row o = (let left = still_reconfirmed l.rows (elim o as (λ _. Reconfirmed) [ None ↦ a.reconfirmed | Some r ↦ filter (λ r. not (same_key key r.0)) a.reconfirmed ++ (key, r.heard) ∷ [] ]) in
            let all : Wanted = with_reasons (reasons l.rules.domain (questions_at (state_now later) link asked_there) left) a.wanted in
            record { wanted = elim o as (λ _. Wanted) [ None ↦ all | Some r ↦ cond (is_doubted key r.heard a.reconfirmed) all (anew (question_for key) all) ]; reconfirmed = left })

        by-row : row_at key l.rows ≡ Some row → row.heard ≡ heard → asking_behind l.rules.domain l.rows (questions_at (state_now later) link asked_there) (Some key) a ≡ record {
          wanted = cond (is_doubted key heard a.reconfirmed) (with_reasons (reasons l.rules.domain (questions_at (state_now later) link asked_there) (still_reconfirmed l.rows settled)) a.wanted) (anew (question_for key) (with_reasons (reasons l.rules.domain (questions_at (state_now later) link asked_there) (still_reconfirmed l.rows settled)) a.wanted));
          reconfirmed = still_reconfirmed l.rows settled;
        }
        by-row e f = ap behind_row e ∙ ap (λ (h : ℕ). behind_row (Some (record row { heard = h }))) f

  -- links beside it
  none-on : (link place : ℕ) (key : Key) → (link ≡ place → ⊥) → confirmed_on link (Some (place, key)) ≡ None
  none-on link place key apart = ap (λ (b : Bool). cond b (Some key) None) (other-number place link (λ same. apart (sym same)))

  beside-at : (link place : ℕ) (key : Key) (l : LinkState) (a : LinkAsking) → (link ≡ place → ⊥) → slice_get (state_now later).links link ≡ Some l → WantsReasons (reasons_on link before a.reconfirmed) a.wanted
      → asked_with (with_any_of (reasons_on link there (still_reconfirmed l.rows a.reconfirmed)) a.wanted) (still_reconfirmed l.rows a.reconfirmed)
      ≡ asking_behind l.rules.domain l.rows (questions_at (state_now later) link asked_there) (confirmed_on link (Some (place, key))) a
  beside-at link place key l a apart at wants =
      (λ i. record { wanted = asked-at follows later before fewer link l a at wants i; reconfirmed = still_reconfirmed l.rows a.reconfirmed })
      ∙ ap (λ (o : Option Key). asking_behind l.rules.domain l.rows (questions_at (state_now later) link asked_there) o a) (sym (none-on link place key apart))

  beside-from : (place : ℕ) (key : Key) (link : ℕ) (ls : List LinkState) (asks : List LinkAsking) → ((i : ℕ) → link + i ≡ place → ⊥) → StandFrom link ls (state_now later).links → WantFrom link before asks
      → followed_from link there ls asks ≡ links_behind (state_now later) asked_there (Some (place, key)) link ls asks
  beside-from place key link [] asks past stand want = refl
  beside-from place key link (l ∷ ls) [] past stand want = refl
  beside-from place key link (l ∷ ls) (a ∷ asks) past stand want =
      λ i. beside-at link place key l a (λ same. past 0 ((let z : link + 0 ≡ link = omega arith in z) ∙ same)) (stand-here link l ls (state_now later).links stand) want.0 i
      ∷ beside-from place key (link + 1) ls asks (λ j same. past (suc j) ((let z : link + suc j ≡ link + 1 + j = omega arith in z) ∙ same)) (stand-next link l ls (state_now later).links stand) want.1 i

  pub doubted-from : (place : ℕ) (key : Key) (heard : ℕ) (link part : ℕ) → link + part ≡ place → (ls : List LinkState) (asks : List LinkAsking) → IsThere part key heard ls → StandFrom link ls (state_now later).links → WantFrom link before asks
      → followed_from link there ls (changed_at part settled_last (changed_at part (doubted_more key heard) asks)) ≡ links_behind (state_now later) asked_there (Some (place, key)) link ls asks
  doubted-from place key heard link part is [] asks row stand want = refl
  doubted-from place key heard link part is (l ∷ ls) [] row stand want = refl
  doubted-from place key heard link zero is (l ∷ ls) (a ∷ asks) row stand want =
      let here : link ≡ place = omega (arith, is) in
      let found = row l refl in
      λ i. (doubted-here link l a key heard found.0 found.1 found.2 (stand-here link l ls (state_now later).links stand) want.0
      ∙ ap (λ (o : Option Key). asking_behind l.rules.domain l.rows (questions_at (state_now later) link asked_there) o a) (sym (ap (λ (b : Bool). cond b (Some key) None) (ap (λ (n : ℕ). n == link) (sym here) ∙ number-itself link)))) i
      ∷ beside-from place key (link + 1) ls asks (λ j same. (let wrong : ⊥ = omega (arith, same, is) in wrong)) (stand-next link l ls (state_now later).links stand) want.1 i
  doubted-from place key heard link (suc part) is (l ∷ ls) (a ∷ asks) row stand want =
      λ i. beside-at link place key l a (λ same. (let wrong : ⊥ = omega (arith, same, is) in wrong)) (stand-here link l ls (state_now later).links stand) want.0 i
      ∷ doubted-from place key heard (link + 1) part (omega (arith, is)) ls asks (λ m at. row m at) (stand-next link l ls (state_now later).links stand) want.1 i
