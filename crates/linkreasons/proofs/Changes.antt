-- One link changes: what is kept of all, and what all are asked.
--     Turns, Turned, turns-all      a link changes that is counted still
--     wants-turns, doubts-turns, settles-turns, hears-turns      a reason comes; a row is doubted, or stands for all of its key; something is heard
--     counted-still      the sessions change, but not their questions
use Rattle.std.proofs.Common.{◌≡◌, ℕ, ◌+◌, ◌<◌, ◌≤◌, ◌-◌, ◌^◌, Bool, true, false, cond, List, [], ◌∷◌, ◌++◌, map, refl, ap, ◌∙◌, arith}
use Rattle.std.specs.Prelude.{◌==◌}
use Rattle.rrset.specs.declared.record.HeardRr.{HeardRr}
use Rattle.rrset.specs.declared.record.Key.{Key}
use Rattle.rrset.specs.declared.record.Question.{Question}
use Rattle.linkcache.specs.Rows.{LinkRows}
use Rattle.linkask.specs.Asking.{Wanted, asked_cmp, wanted}
use Rattle.linkask.specs.Bounds.{AreBounds, with_reason}
use Rattle.linkask.specs.Laws.{BeginningAnew, ReasonsKeepBounds, UnwantingDrops, WantingWants}
use Rattle.linkask.specs.Reasons.{LinkAsking, question_for}
use Rattle.linkask.proofs.Order.{asked_cmp_total}
use Rattle.linkreasons.specs.AllReasons.{ReasonsOfLink, asking_of, doubted_more, questions_for, reasons_on, session_questions}
use Rattle.linkreasons.specs.Changing.{doubted, heard_by, one_wanted, questions_of_rows, settled, settled_last}
use Rattle.linkreasons.specs.Counting.{AreCounted, IsCounted}
use Rattle.linkreasons.specs.Tallies.{times}
use Rattle.linkreasons.specs.declared.reason.Reason.{Reason}
use Rattle.linkreasons.proofs.ManyLinks.{Sessions, Steps, changed_from}
use Rattle.linkreasons.proofs.OneLink.{counted-more, counted-same, reasons-alone}
use Rattle.linkreasons.proofs.RowParts.{doubted-counts, heard-reasons, heard-wanted, settles}
use Rattle.linkreasons.proofs.Tally.{times-append}

pub record Turns (most at : ℕ) (later : Sessions) (before : LinkAsking) (new : ReasonsOfLink) : Type 0 where
  pub counted : IsCounted most (reasons_on at later new.reconfirmed) new.kept
  pub asking : asking_of new ≡ before

pub record Turned (most at : ℕ) (later : Sessions) (befores : List LinkAsking) (news : List ReasonsOfLink) : Type 0 where
  pub counted : AreCounted most at later news
  pub askings : map asking_of news ≡ befores

module _ (most more : ℕ) (sessions later : Sessions) (link : ℕ) (f : LinkAsking → LinkAsking) (g : ReasonsOfLink → ReasonsOfLink)
    (there : (at : ℕ) (l : ReasonsOfLink) → (link == at) ≡ true → IsCounted most (reasons_on at sessions l.reconfirmed) l.kept → Turns more at later (f (asking_of l)) (g l))
    (beside : (at : ℕ) (l : ReasonsOfLink) → (link == at) ≡ false → IsCounted most (reasons_on at sessions l.reconfirmed) l.kept → IsCounted more (reasons_on at later l.reconfirmed) l.kept) where
  turns-one : (at : ℕ) (l : ReasonsOfLink) → IsCounted most (reasons_on at sessions l.reconfirmed) l.kept → Turns more at later (cond (link == at) (f (asking_of l)) (asking_of l)) (cond (link == at) (g l) l)
  turns-one at l h = by (link == at) refl
    where
      by : (b : Bool) → (link == at) ≡ b → Turns more at later (cond b (f (asking_of l)) (asking_of l)) (cond b (g l) l)
      by true is = there at l is h
      by false is = record { counted = beside at l is h; asking = refl }

  pub turns-all : (at : ℕ) (links : List ReasonsOfLink) → AreCounted most at sessions links → Turned more at later (changed_from link f at (map asking_of links)) (changed_from link g at links)
  turns-all at [] h = record { counted = tt; askings = refl }
  turns-all at (l ∷ links) h =
      let here = turns-one at l h.0 in
      let rest = turns-all (at + 1) links h.1 in
      record { counted = (here.counted, rest.counted); askings = λ i. here.asking i ∷ rest.askings i }

-- bounds of the link that changes
pub steps-all : (sessions : Sessions) (most link : ℕ) (g : ReasonsOfLink → ReasonsOfLink) → ((at : ℕ) (l : ReasonsOfLink) → IsCounted most (reasons_on at sessions l.reconfirmed) l.kept → (rows : LinkRows) → AreBounds rows l.kept → AreBounds rows (g l).kept)
    → (at : ℕ) (links : List ReasonsOfLink) → AreCounted most at sessions links → Steps links (changed_from link g at links)
steps-all sessions most link g keeps at [] h = tt
steps-all sessions most link g keeps at (l ∷ links) h = (by (link == at), steps-all sessions most link g keeps (at + 1) links h.1)
  where
    by : (b : Bool) → (rows : LinkRows) → AreBounds rows l.kept → AreBounds rows (cond b (g l) l).kept
    by true = keeps at l h.0
    by false = λ rows bounds. bounds

pub steps-none : (links : List ReasonsOfLink) → Steps links links
steps-none [] = tt
steps-none (l ∷ links) = ((λ rows bounds. bounds), steps-none links)

-- ---- the sessions change

pub counted-still : (most more : ℕ) (sessions later : Sessions) → most ≤ more → ((at : ℕ) (q : Question) → times asked_cmp q (session_questions at sessions) ≡ times asked_cmp q (session_questions at later))
    → (at : ℕ) (links : List ReasonsOfLink) → AreCounted most at sessions links → AreCounted more at later links
counted-still most more sessions later few same at [] h = tt
counted-still most more sessions later few same at (l ∷ links) h =
    (counted-same most more (reasons_on at sessions l.reconfirmed) (reasons_on at later l.reconfirmed) l.kept few h.0 number, counted-still most more sessions later few same (at + 1) links h.1)
  where
    number : (q : Question) → times asked_cmp q (reasons_on at sessions l.reconfirmed) ≡ times asked_cmp q (reasons_on at later l.reconfirmed)
    number q =
        let a = times-append asked_cmp_total q (session_questions at sessions) (questions_of_rows l.reconfirmed) in
        let b = times-append asked_cmp_total q (session_questions at later) (questions_of_rows l.reconfirmed) in
        let c = same at q in
        omega (arith, a, b, c)

-- ---- a reason comes

abbrev pub Comes : Sessions → Sessions → Reason → Type 0
Comes sessions later r = (at : ℕ) (q : Question) → times asked_cmp q (session_questions at later) ≡ times asked_cmp q (questions_for at (r ∷ [])) + times asked_cmp q (session_questions at sessions)

comes-on : (sessions later : Sessions) (r : Reason) → Comes sessions later r → (at : ℕ) (rows : List Question) (b : Bool) → (r.link == at) ≡ b → (q : Question)
    → times asked_cmp q (cond b (r.question ∷ session_questions at sessions ++ rows) (session_questions at sessions ++ rows)) ≡ times asked_cmp q (session_questions at later ++ rows)
comes-on sessions later r comes at rows true is q =
    let a = times-append asked_cmp_total q (session_questions at sessions) rows in
    let b = times-append asked_cmp_total q (session_questions at later) rows in
    let c = comes at q ∙ ap (λ t. times asked_cmp q (map (λ (x : Reason). x.question) (cond t (r ∷ []) [])) + times asked_cmp q (session_questions at sessions)) is in
    omega (arith, a, b, c)
comes-on sessions later r comes at rows false is q =
    let a = times-append asked_cmp_total q (session_questions at sessions) rows in
    let b = times-append asked_cmp_total q (session_questions at later) rows in
    let c = comes at q ∙ ap (λ t. times asked_cmp q (map (λ (x : Reason). x.question) (cond t (r ∷ []) [])) + times asked_cmp q (session_questions at sessions)) is in
    omega (arith, a, b, c)

abbrev pub wants_on : Question → LinkAsking → LinkAsking
wants_on question a = record a { wanted = wanted question a.wanted }

module _ (wanting : WantingWants) where
  pub wants-turns : (most : ℕ) (sessions later : Sessions) (r : Reason) → most < 2 ^ 64 - 1 → Comes sessions later r → (links : List ReasonsOfLink) → AreCounted most 0 sessions links
      → Turned (most + 1) 0 later (changed_from r.link (wants_on r.question) 0 (map asking_of links)) (changed_from r.link (one_wanted r.question) 0 links)
  wants-turns most sessions later r small comes links h = turns-all most (most + 1) sessions later r.link (wants_on r.question) (one_wanted r.question) there beside 0 links h
    where
      there : (at : ℕ) (l : ReasonsOfLink) → (r.link == at) ≡ true → IsCounted most (reasons_on at sessions l.reconfirmed) l.kept → Turns (most + 1) at later (wants_on r.question (asking_of l)) (one_wanted r.question l)
      there at l is h = record {
        counted = counted-same (most + 1) (most + 1) (r.question ∷ reasons_on at sessions l.reconfirmed) (reasons_on at later l.reconfirmed) (with_reason r.question l.kept) (omega arith)
            (counted-more most r.question (reasons_on at sessions l.reconfirmed) l.kept small h) (comes-on sessions later r comes at (questions_of_rows l.reconfirmed) true is);
        asking = ap (λ (w : Wanted). record { wanted = w; reconfirmed = l.reconfirmed }) (wanting r.question l.kept h.order);
      }

      beside : (at : ℕ) (l : ReasonsOfLink) → (r.link == at) ≡ false → IsCounted most (reasons_on at sessions l.reconfirmed) l.kept → IsCounted (most + 1) (reasons_on at later l.reconfirmed) l.kept
      beside at l is h = counted-same most (most + 1) (reasons_on at sessions l.reconfirmed) (reasons_on at later l.reconfirmed) l.kept (omega arith) h (comes-on sessions later r comes at (questions_of_rows l.reconfirmed) false is)

  -- a row is reconfirmed
  pub doubts-turns : (most : ℕ) (sessions : Sessions) (link : ℕ) (row : Key × ℕ) → most < 2 ^ 64 - 1 → (links : List ReasonsOfLink) → AreCounted most 0 sessions links
      → Turned (most + 1) 0 sessions (changed_from link (doubted_more row.0 row.1) 0 (map asking_of links)) (changed_from link (doubted row) 0 links)
  doubts-turns most sessions link row small links h = turns-all most (most + 1) sessions sessions link (doubted_more row.0 row.1) (doubted row) there beside 0 links h
    where
      there : (at : ℕ) (l : ReasonsOfLink) → (link == at) ≡ true → IsCounted most (reasons_on at sessions l.reconfirmed) l.kept → Turns (most + 1) at sessions (doubted_more row.0 row.1 (asking_of l)) (doubted row l)
      there at l is h = record {
        counted = counted-same (most + 1) (most + 1) (question_for row.0 ∷ reasons_on at sessions l.reconfirmed) (reasons_on at sessions (l.reconfirmed ++ row ∷ [])) (with_reason (question_for row.0) l.kept) (omega arith)
            (counted-more most (question_for row.0) (reasons_on at sessions l.reconfirmed) l.kept small h) (doubted-counts at sessions l.reconfirmed row);
        asking = ap (λ (w : Wanted). record { wanted = w; reconfirmed = l.reconfirmed ++ row ∷ [] }) (wanting (question_for row.0) l.kept h.order);
      }

      beside : (at : ℕ) (l : ReasonsOfLink) → (link == at) ≡ false → IsCounted most (reasons_on at sessions l.reconfirmed) l.kept → IsCounted (most + 1) (reasons_on at sessions l.reconfirmed) l.kept
      beside at l is h = counted-same most (most + 1) (reasons_on at sessions l.reconfirmed) (reasons_on at sessions l.reconfirmed) l.kept (omega arith) h (λ q. refl)

-- the last row stands for all of its key
module _ (unwanting : UnwantingDrops) (beginning : BeginningAnew) (keeps : ReasonsKeepBounds) where
  pub settles-turns : (most : ℕ) (sessions : Sessions) (link : ℕ) (links : List ReasonsOfLink) → AreCounted most 0 sessions links
      → Turned most 0 sessions (changed_from link settled_last 0 (map asking_of links)) (changed_from link settled 0 links)
  settles-turns most sessions link links h =
      turns-all most most sessions sessions link settled_last settled
      (λ at l is h. (let s = settles unwanting beginning keeps most at sessions l h in record { counted = s.counted; asking = s.asking })) (λ at l is h. h) 0 links h

  pub settles-steps : (most : ℕ) (sessions : Sessions) (link : ℕ) (links : List ReasonsOfLink) → AreCounted most 0 sessions links → Steps links (changed_from link settled 0 links)
  settles-steps most sessions link links h = steps-all sessions most link settled (λ at l h. (settles unwanting beginning keeps most at sessions l h).bounds) 0 links h

-- something is heard
pub hears-turns : (most : ℕ) (sessions : Sessions) (link now : ℕ) (hearing : List HeardRr) (links : List ReasonsOfLink) → AreCounted most 0 sessions links
    → Turned most 0 sessions (changed_from link (λ a. a) 0 (map asking_of links)) (changed_from link (heard_by now hearing) 0 links)
hears-turns most sessions link now hearing links h =
    turns-all most most sessions sessions link (λ a. a) (heard_by now hearing)
    (λ at l is h. record {
      counted = reasons-alone most (reasons_on at sessions l.reconfirmed) l.kept _ (heard-reasons now hearing l.kept) h;
      asking = ap (λ (w : Wanted). record { wanted = w; reconfirmed = l.reconfirmed }) (heard-wanted now hearing l.kept);
    })
    (λ at l is h. h) 0 links h

pub nothing-changes : {X : Type 0} (link at : ℕ) (xs : List X) → changed_from link (λ x. x) at xs ≡ xs
nothing-changes link at [] = refl
nothing-changes link at (x ∷ xs) = λ i. by (link == at) i ∷ nothing-changes link (at + 1) xs i
  where
    by : (b : Bool) → cond b x x ≡ x
    by true = refl
    by false = refl
