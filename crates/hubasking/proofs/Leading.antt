-- How what links are asked follows the reasons for it.
--     among-left, among-both      fewer rows that are reconfirmed; fewer questions, too
--     lead-itself, lead-on, lead-only, lead-still      it leads on from the start; by two steps; where what has no reason goes; where rows of a link were heard since
--     lead-end      where nothing is left to do
--     still-none, still-only, still-next, still-all      the rows of the first links
use Rattle.std.proofs.Common.{◌≡◌, ℕ, zero, suc, ◌+◌, ◌≤◌, Bool, true, false, cond, ◌||◌, List, [], ◌∷◌, ◌++◌, length, map, filter, Option, Some, None, refl, sym, ap, subst, ◌∙◌, arith}
use Rattle.std.specs.Prelude.{slice_get, IfSome}
use Rattle.std.specs.List.{AllZip, AllByRecursion, list_any}
use Rattle.std.proofs.lemmas.List.Folds.{list_any-append}
use Rattle.push_base.specs.Cases.{changed_at}
use Rattle.rrset.specs.declared.record.Key.{Key}
use Rattle.rrset.specs.declared.record.Question.{Question}
use Rattle.rrset.specs.KeyedRows.{row_at}
use Rattle.linkcache.specs.Links.{LinkState}
use Rattle.linkcache.specs.Rows.{LinkRows}
use Rattle.linkask.specs.Asking.{Wanted, same_asked}
use Rattle.linkask.specs.Reasons.{LinkAsking, Reconfirmed, question_for, still_reconfirmed, was_heard_at}
use Rattle.linkreasons.specs.AllReasons.{ReasonsOfLink, WantsReasons, asking_of, only_from, reasons_on, session_questions, still_doubted, with_any_of}
use Rattle.linkreasons.specs.Laws.{AreAmong, FewerThenFewer, NoneGoes}
use Rattle.linkreasons.specs.declared.reason.Reason.{Reason}
use Rattle.hubasking.specs.KeptReasons.{followed_from}
use Rattle.hubasking.specs.Following.{LeadsAt, LeadFrom, StillTo}

abbrev pub Sessions : Type 0
Sessions = List (ℕ × List Reason)

-- what a link is asked
abbrev pub asked_with : Wanted → Reconfirmed → LinkAsking
asked_with all rows = record { wanted = all; reconfirmed = rows }

-- what sessions ask of each link, others ask, too
abbrev pub AskFewer : Sessions → Sessions → Type 0
AskFewer fewer more = (link : ℕ) → AreAmong (session_questions link fewer) (session_questions link more)

-- ---- questions among others

-- of a test, what passes among fewer passes among more
or-true : (a b c d : Bool) → (a ≡ true → c ≡ true) → (b ≡ true → d ≡ true) → (a || b) ≡ true → (c || d) ≡ true
or-true true b c d f g h = ap (λ (x : Bool). x || d) (f refl)
or-true false b true d f g h = refl
or-true false b false d f g h = g h

pub among-append : (asks bs cs ds : List Question) → AreAmong asks cs → AreAmong bs ds → AreAmong (asks ++ bs) (cs ++ ds)
among-append asks bs cs ds f g question h =
    list_any-append (same_asked question) cs ds
    ∙ or-true (list_any (same_asked question) asks) (list_any (same_asked question) bs) (list_any (same_asked question) cs) (list_any (same_asked question) ds) (f question) (g question)
    (sym (list_any-append (same_asked question) asks bs) ∙ h)

-- of rows that are reconfirmed, those that pass a test
pub among-filter : (test : Key × ℕ → Bool) (all : Reconfirmed) → AreAmong (map (λ (r : Key × ℕ). question_for r.0) (filter test all)) (map (λ (r : Key × ℕ). question_for r.0) all)
among-filter test [] question h = h
among-filter test (r ∷ rs) question h = by (test r) (among-filter test rs question) h
  where
    right : (b : Bool) → list_any (same_asked question) (map (λ (r : Key × ℕ). question_for r.0) rs) ≡ true → (b || list_any (same_asked question) (map (λ (r : Key × ℕ). question_for r.0) rs)) ≡ true
    right true e = refl
    right false e = e

    by : (b : Bool) → (list_any (same_asked question) (map (λ (r : Key × ℕ). question_for r.0) (filter test rs)) ≡ true → list_any (same_asked question) (map (λ (r : Key × ℕ). question_for r.0) rs) ≡ true)
        → list_any (same_asked question) (map (λ (r : Key × ℕ). question_for r.0) (cond b (r ∷ filter test rs) (filter test rs))) ≡ true
        → (same_asked question (question_for r.0) || list_any (same_asked question) (map (λ (r : Key × ℕ). question_for r.0) rs)) ≡ true
    by true rest e = or-true (same_asked question (question_for r.0)) (list_any (same_asked question) (map (λ (r : Key × ℕ). question_for r.0) (filter test rs))) (same_asked question (question_for r.0)) (list_any (same_asked question) (map (λ (r : Key × ℕ). question_for r.0) rs)) (λ x. x) rest e
    by false rest e = right (same_asked question (question_for r.0)) (rest e)

-- where fewer sessions ask, and of the rows those are left that weren't heard since
pub among-both : (link : ℕ) (fewer more : Sessions) (rows : LinkRows) (all : Reconfirmed) → AskFewer fewer more → AreAmong (reasons_on link fewer (still_reconfirmed rows all)) (reasons_on link more all)
among-both link fewer more rows all f = among-append (session_questions link fewer) (map (λ (r : Key × ℕ). question_for r.0) (still_reconfirmed rows all)) (session_questions link more) (map (λ (r : Key × ℕ). question_for r.0) all) (f link) (among-filter (λ r. was_heard_at r.1 (row_at r.0 rows)) all)

-- what passes a test passes it twice
filter-twice : {X : Type 0} (test : X → Bool) (xs : List X) → filter test (filter test xs) ≡ filter test xs
filter-twice test [] = refl
filter-twice {X} test (x ∷ xs) = by (test x) refl (filter-twice test xs)
  where
    again : (b : Bool) → b ≡ true → cond b (x ∷ filter test (filter test xs)) (filter test (filter test xs)) ≡ x ∷ filter test (filter test xs)
    again true e = refl
    again false e = absurd cc

    by : (b : Bool) → test x ≡ b → filter test (filter test xs) ≡ filter test xs → filter test (cond b (x ∷ filter test xs) (filter test xs)) ≡ cond b (x ∷ filter test xs) (filter test xs)
    by true is rest = again (test x) is ∙ ap (λ (l : List X). x ∷ l) rest
    by false is rest = rest

pub still-twice : (rows : LinkRows) (all : Reconfirmed) → still_reconfirmed rows (still_reconfirmed rows all) ≡ still_reconfirmed rows all
still-twice rows all = filter-twice (λ r. was_heard_at r.1 (row_at r.0 rows)) all

-- ---- it leads on

pub lead-itself : (link : ℕ) (sessions : Sessions) (ls : List LinkState) (asks : List LinkAsking) → length ls ≡ length asks → LeadFrom link sessions ls asks asks
lead-itself link sessions [] [] same = tt
lead-itself link sessions [] (a ∷ asks) same = absurd cc
lead-itself link sessions (l ∷ ls) [] same = absurd cc
lead-itself link sessions (l ∷ ls) (a ∷ asks) same = (record { still = refl; wanted = refl }, lead-itself (link + 1) sessions ls asks (omega (arith, same)))

leads-on : (link : ℕ) (sessions : Sessions) (l : LinkState) (a b c : LinkAsking) → LeadsAt link sessions l a b → LeadsAt link sessions l b c → LeadsAt link sessions l a c
leads-on link sessions l a b c first second = record {
  still = second.still ∙ first.still;
  wanted = subst (λ (r : Reconfirmed). with_any_of (reasons_on link sessions r) c.wanted ≡ with_any_of (reasons_on link sessions r) b.wanted) first.still second.wanted ∙ first.wanted;
}

pub lead-on : (link : ℕ) (sessions : Sessions) (ls : List LinkState) (asks bs cs : List LinkAsking) → LeadFrom link sessions ls asks bs → LeadFrom link sessions ls bs cs → LeadFrom link sessions ls asks cs
lead-on link sessions [] [] [] [] f g = tt
lead-on link sessions [] [] [] (c ∷ cs) f g = absurd g
lead-on link sessions [] [] (b ∷ bs) cs f g = absurd f
lead-on link sessions [] (a ∷ asks) bs cs f g = absurd f
lead-on link sessions (l ∷ ls) [] bs cs f g = absurd f
lead-on link sessions (l ∷ ls) (a ∷ asks) [] cs f g = absurd f
lead-on link sessions (l ∷ ls) (a ∷ asks) (b ∷ bs) [] f g = absurd g
lead-on link sessions (l ∷ ls) (a ∷ asks) (b ∷ bs) (c ∷ cs) f g = (leads-on link sessions l a b c f.0 g.0, lead-on (link + 1) sessions ls asks bs cs f.1 g.1)

module _ (fewer_go : FewerThenFewer) (sessions more : Sessions) (among : AskFewer sessions more) where
  pub leads-only : (link : ℕ) (l : LinkState) (a : LinkAsking) → LeadsAt link sessions l a (record a { wanted = with_any_of (reasons_on link more a.reconfirmed) a.wanted })
  leads-only link l a = record {
    still = refl;
    wanted = fewer_go (reasons_on link more a.reconfirmed) (reasons_on link sessions (still_reconfirmed l.rows a.reconfirmed)) a.wanted (among-both link sessions more l.rows a.reconfirmed among);
  }

  pub lead-goes : (link : ℕ) (ls : List LinkState) (asks : List LinkAsking) → length ls ≡ length asks → LeadFrom link sessions ls asks (only_from link more asks)
  lead-goes link [] [] same = tt
  lead-goes link [] (a ∷ asks) same = absurd cc
  lead-goes link (l ∷ ls) [] same = absurd cc
  lead-goes link (l ∷ ls) (a ∷ asks) same = (leads-only link l a, lead-goes (link + 1) ls asks (omega (arith, same)))

lead-length : (link : ℕ) (sessions : Sessions) (ls : List LinkState) (asks bs : List LinkAsking) → LeadFrom link sessions ls asks bs → length ls ≡ length bs
lead-length link sessions [] [] [] f = refl
lead-length link sessions [] [] (b ∷ bs) f = absurd f
lead-length link sessions [] (a ∷ asks) bs f = absurd f
lead-length link sessions (l ∷ ls) [] bs f = absurd f
lead-length link sessions (l ∷ ls) (a ∷ asks) [] f = absurd f
lead-length link sessions (l ∷ ls) (a ∷ asks) (b ∷ bs) f = ap (λ (n : ℕ). suc n) (lead-length (link + 1) sessions ls asks bs f.1)

-- where what has no reason goes
pub lead-only : FewerThenFewer → (sessions more : Sessions) → AskFewer sessions more → (ls : List LinkState) (asks bs : List LinkAsking) → LeadFrom 0 sessions ls asks bs → LeadFrom 0 sessions ls asks (only_from 0 more bs)
lead-only fewer_go sessions more among ls asks bs f = lead-on 0 sessions ls asks bs (only_from 0 more bs) f (lead-goes fewer_go sessions more among 0 ls bs (lead-length 0 sessions ls asks bs f))

leads-still : (link : ℕ) (sessions : Sessions) (l : LinkState) (a b : LinkAsking) → LeadsAt link sessions l a b → LeadsAt link sessions l a (still_doubted l.rows b)
leads-still link sessions l a b f = record { still = still-twice l.rows b.reconfirmed ∙ f.still; wanted = f.wanted }

-- where rows of a link were heard since
pub lead-still : (link : ℕ) (sessions : Sessions) (place : ℕ) (l : LinkState) (ls : List LinkState) (asks bs : List LinkAsking) → slice_get ls place ≡ Some l → LeadFrom link sessions ls asks bs → LeadFrom link sessions ls asks (changed_at place (still_doubted l.rows) bs)
lead-still link sessions place l [] asks bs at f = absurd cc
lead-still link sessions place l (k ∷ ls) [] bs at f = absurd f
lead-still link sessions place l (k ∷ ls) (a ∷ asks) [] at f = absurd f
lead-still link sessions zero l (k ∷ ls) (a ∷ asks) (b ∷ bs) at f =
    let same : k ≡ l = cc in (subst (λ (m : LinkState). LeadsAt link sessions k a (still_doubted m.rows b)) same (leads-still link sessions k a b f.0), f.1)
lead-still link sessions (suc place) l (k ∷ ls) (a ∷ asks) (b ∷ bs) at f = (f.0, lead-still (link + 1) sessions place l ls asks bs at f.1)

-- ---- the rows of the first links

still-goes : (link place : ℕ) (more : Sessions) (ls : List LinkState) (asks : List LinkAsking) → StillTo place ls asks → StillTo place ls (only_from link more asks)
still-goes link zero more ls asks f = tt
still-goes link (suc place) more [] asks f = tt
still-goes link (suc place) more (l ∷ ls) [] f = tt
still-goes link (suc place) more (l ∷ ls) (a ∷ asks) f = (f.0, still-goes (link + 1) place more ls asks f.1)

still-here : (place : ℕ) (l : LinkState) (ls : List LinkState) (asks : List LinkAsking) → slice_get ls place ≡ Some l → StillTo place ls asks → StillTo (suc place) ls (changed_at place (still_doubted l.rows) asks)
still-here place l [] asks at f = tt
still-here place l (k ∷ ls) [] at f = tt
still-here zero l (k ∷ ls) (a ∷ asks) at f =
    let same : k ≡ l = cc in (subst (λ (m : LinkState). still_reconfirmed k.rows (still_reconfirmed m.rows a.reconfirmed) ≡ still_reconfirmed m.rows a.reconfirmed) same (still-twice k.rows a.reconfirmed), tt)
still-here (suc place) l (k ∷ ls) (a ∷ asks) at f = (f.0, still-here place l ls asks at f.1)

still-past : (place : ℕ) (ls : List LinkState) (asks : List LinkAsking) → slice_get ls place ≡ None → StillTo place ls asks → StillTo (suc place) ls asks
still-past place [] asks at f = tt
still-past place (k ∷ ls) [] at f = tt
still-past zero (k ∷ ls) (a ∷ asks) at f = absurd cc
still-past (suc place) (k ∷ ls) (a ∷ asks) at f = (f.0, still-past place ls asks at f.1)

one-more : (place : ℕ) → suc place ≡ place + 1
one-more place = omega arith

-- one link more
pub still-next : (place : ℕ) (more : Sessions) (l : LinkState) (ls : List LinkState) (asks : List LinkAsking) → slice_get ls place ≡ Some l → StillTo place ls asks → StillTo (place + 1) ls (only_from 0 more (changed_at place (still_doubted l.rows) asks))
still-next place more l ls asks at f = subst (λ (n : ℕ). StillTo n ls (only_from 0 more (changed_at place (still_doubted l.rows) asks))) (one-more place) (still-goes 0 (suc place) more ls (changed_at place (still_doubted l.rows) asks) (still-here place l ls asks at f))

-- where there is no further link
pub still-none : (place : ℕ) (ls : List LinkState) (asks : List LinkAsking) → slice_get ls place ≡ None → StillTo place ls asks → StillTo (place + 1) ls asks
still-none place ls asks at f = subst (λ (n : ℕ). StillTo n ls asks) (one-more place) (still-past place ls asks at f)

pub still-all : (place : ℕ) (ls : List LinkState) (asks : List LinkAsking) → length ls ≡ length asks → length ls ≤ place → StillTo place ls asks → AllZip (λ l a. still_reconfirmed l.rows a.reconfirmed ≡ a.reconfirmed) ls asks
still-all place [] [] same long f = tt
still-all place [] (a ∷ asks) same long f = absurd cc
still-all place (l ∷ ls) [] same long f = absurd cc
still-all zero (l ∷ ls) (a ∷ asks) same long f = absurd (omega (arith, long))
still-all (suc place) (l ∷ ls) (a ∷ asks) same long f = (f.0, still-all place ls asks (omega (arith, same)) (omega (arith, long)) f.1)

-- ---- where nothing is left to do

-- each link is asked what there is reason to
abbrev pub WantFrom : ℕ → Sessions → List LinkAsking → Type 0
WantFrom link sessions [] = Unit {0}
WantFrom link sessions (a ∷ asks) = WantsReasons (reasons_on link sessions a.reconfirmed) a.wanted × WantFrom (link + 1) sessions asks

want-each : (link : ℕ) (sessions : Sessions) (ls : List ReasonsOfLink) → ((i : ℕ) → IfSome (slice_get ls i) (λ l. WantsReasons (reasons_on (link + i) sessions (asking_of l).reconfirmed) (asking_of l).wanted)) → WantFrom link sessions (map asking_of ls)
want-each link sessions [] all = tt
want-each link sessions (l ∷ ls) all = (
  (let same : link + 0 ≡ link = omega arith in subst (λ (n : ℕ). WantsReasons (reasons_on n sessions (asking_of l).reconfirmed) (asking_of l).wanted) same (all 0)),
  want-each (link + 1) sessions ls (λ i. (let same : link + suc i ≡ link + 1 + i = omega arith in subst (λ (n : ℕ). IfSome (slice_get ls i) (λ l. WantsReasons (reasons_on n sessions (asking_of l).reconfirmed) (asking_of l).wanted)) same (all (suc i)))),
)

among-itself : (questions : List Question) → AreAmong questions questions
among-itself questions question h = h

module _ (none_goes : NoneGoes) (sessions : Sessions) where
  ends-at : (link : ℕ) (l : LinkState) (a b : LinkAsking) → LeadsAt link sessions l a b → still_reconfirmed l.rows b.reconfirmed ≡ b.reconfirmed → WantsReasons (reasons_on link sessions b.reconfirmed) b.wanted
      → b ≡ (let left = still_reconfirmed l.rows a.reconfirmed in record { wanted = with_any_of (reasons_on link sessions left) a.wanted; reconfirmed = left })
  ends-at link l a b f still wants =
      let left : b.reconfirmed ≡ still_reconfirmed l.rows a.reconfirmed = sym still ∙ f.still in
      let all : with_any_of (reasons_on link sessions (still_reconfirmed l.rows a.reconfirmed)) b.wanted ≡ b.wanted =
      subst (λ (r : Reconfirmed). with_any_of (reasons_on link sessions r) b.wanted ≡ b.wanted) left (none_goes (reasons_on link sessions b.reconfirmed) (reasons_on link sessions b.reconfirmed) b.wanted wants (among-itself (reasons_on link sessions b.reconfirmed))) in
      λ i. record { wanted = (sym all ∙ f.wanted) i; reconfirmed = left i }

  pub lead-end : (link : ℕ) (ls : List LinkState) (asks bs : List LinkAsking) → LeadFrom link sessions ls asks bs → AllZip (λ l a. still_reconfirmed l.rows a.reconfirmed ≡ a.reconfirmed) ls bs → WantFrom link sessions bs → bs ≡ followed_from link sessions ls asks
  lead-end link [] [] [] f still wants = refl
  lead-end link [] [] (b ∷ bs) f still wants = absurd f
  lead-end link [] (a ∷ asks) bs f still wants = absurd f
  lead-end link (l ∷ ls) [] bs f still wants = absurd f
  lead-end link (l ∷ ls) (a ∷ asks) [] f still wants = absurd f
  lead-end link (l ∷ ls) (a ∷ asks) (b ∷ bs) f still wants = λ i. ends-at link l a b f.0 still.0 wants.0 i ∷ lead-end (link + 1) ls asks bs f.1 still.1 wants.1 i

pub want-all : (sessions : Sessions) (ls : List ReasonsOfLink) → ((i : ℕ) → IfSome (slice_get ls i) (λ l. WantsReasons (reasons_on i sessions (asking_of l).reconfirmed) (asking_of l).wanted)) → WantFrom 0 sessions (map asking_of ls)
want-all sessions ls all = want-each 0 sessions ls (λ i. (let same : i ≡ 0 + i = omega arith in subst (λ (n : ℕ). IfSome (slice_get ls i) (λ l. WantsReasons (reasons_on n sessions (asking_of l).reconfirmed) (asking_of l).wanted)) same (all i)))
