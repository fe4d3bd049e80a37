-- Rows that are reconfirmed: what there is reason to ask of a link, before and behind.
--     undoubted-goes, refreshed-goes      the last is taken back; those go that were heard since
--     doubted-counts      one more
--     settled-on      the last stands for all of its key
--     begun-reasons, heard-reasons, heard-wanted      only the moments change
use Rattle.std.proofs.Common.{◌≡◌, ℕ, ◌+◌, ◌<◌, Bool, true, false, cond, not, List, [], ◌∷◌, ◌++◌, refl, sym, ap, subst, ◌∙◌, arith}
use Rattle.std.proofs.lemmas.List.{map-append}
use Rattle.std.specs.Prelude.{filter}
use Rattle.rrset.specs.Records.{same_key}
use Rattle.rrset.specs.KeyedRows.{row_at}
use Rattle.rrset.specs.declared.record.HeardRr.{HeardRr}
use Rattle.rrset.specs.declared.record.Key.{Key}
use Rattle.rrset.specs.declared.record.Question.{Question}
use Rattle.rrset.proofs.SameRows.{same_key-same}
use Rattle.linkcache.specs.Rows.{LinkRows}
use Rattle.linkask.specs.Asking.{Wanted, anew, asked_cmp, same_asked}
use Rattle.linkask.specs.Bounds.{AreBounds, Kept, all_heard, all_reasons, asks_in, begun_anew, heard_again, wanted_in}
use Rattle.linkask.specs.Laws.{BeginningAnew, ReasonsKeepBounds, UnwantingDrops}
use Rattle.linkask.specs.Reasons.{Reconfirmed, is_doubted, question_for, still_reconfirmed, was_heard_at}
use Rattle.linkask.specs.declared.asks.KeptAsks.{KeptAsks}
use Rattle.linkask.proofs.Order.{asked_cmp_total}
use Rattle.linkreasons.specs.AllReasons.{ReasonsOfLink, asking_of, but_last, doubted_less, reasons_on, session_questions, still_doubted}
use Rattle.linkreasons.specs.Changing.{begun_if_new, is_over, last_of, questions_of_rows, refreshed, settled, settled_by, settled_last, settled_last_by, undoubted, unwanted_all}
use Rattle.linkreasons.specs.Counting.{IsCounted}
use Rattle.linkreasons.specs.Tallies.{once, times}
use Rattle.linkreasons.proofs.ManyLinks.{GoesOn, Sessions}
use Rattle.linkreasons.proofs.OneLink.{Unwants, all-there, bounds-all, counted-all, order-all, reasons-alone, there}
use Rattle.linkreasons.proofs.SessionParts.{last-splits}
use Rattle.linkreasons.proofs.Tally.{times-append}

rows-append : (q : Question) (a b : Reconfirmed) → times asked_cmp q (questions_of_rows (a ++ b)) ≡ times asked_cmp q (questions_of_rows a) + times asked_cmp q (questions_of_rows b)
rows-append q a b = ap (times asked_cmp q) (map-append (λ (r : Key × ℕ). question_for r.0) a b) ∙ times-append asked_cmp_total q (questions_of_rows a) (questions_of_rows b)

-- beside what the sessions ask
beside : (q : Question) (asked rows gone left : List Question) → times asked_cmp q rows ≡ times asked_cmp q gone + times asked_cmp q left → times asked_cmp q (asked ++ rows) ≡ times asked_cmp q gone + times asked_cmp q (asked ++ left)
beside q asked rows gone left is =
    let first = times-append asked_cmp_total q asked rows in
    let second = times-append asked_cmp_total q asked left in
    omega (arith, first, second, is)

last-rows : (q : Question) (all : Reconfirmed) → times asked_cmp q (questions_of_rows all) ≡ times asked_cmp q (questions_of_rows (last_of all)) + times asked_cmp q (questions_of_rows (but_last all))
last-rows q all =
    let whole = ap (λ rs. times asked_cmp q (questions_of_rows rs)) (last-splits all) in
    let parts = rows-append q (but_last all) (last_of all) in
    omega (arith, whole, parts)

-- those that pass a test, and the others
module _ (q : Question) (test : Key × ℕ → Bool) where
  abbrev number : Reconfirmed → ℕ
  number rows = times asked_cmp q (questions_of_rows rows)

  pub tested-rows : (all : Reconfirmed) → number all ≡ number (filter (λ r. not (test r)) all) + number (filter test all)
  tested-rows [] = omega arith
  tested-rows (r ∷ rows) = by (test r) (tested-rows rows)
    where
      by : (b : Bool) → number rows ≡ number (filter (λ r. not (test r)) rows) + number (filter test rows)
          → number (r ∷ rows) ≡ number (cond (not b) (r ∷ filter (λ r. not (test r)) rows) (filter (λ r. not (test r)) rows)) + number (cond b (r ∷ filter test rows) (filter test rows))
      by true rest = omega (arith, rest)
      by false rest = omega (arith, rest)

pub undoubted-goes : (sessions : Sessions) (at : ℕ) (l : ReasonsOfLink) → GoesOn at sessions sessions (doubted_less (asking_of l)) l (undoubted l)
undoubted-goes sessions at l = record {
  gone = questions_of_rows (last_of l.reconfirmed);
  kept = refl;
  counts = λ q. beside q (session_questions at sessions) (questions_of_rows l.reconfirmed) (questions_of_rows (last_of l.reconfirmed)) (questions_of_rows (but_last l.reconfirmed)) (last-rows q l.reconfirmed);
  asking = refl;
}

pub refreshed-goes : (rows : LinkRows) (sessions : Sessions) (at : ℕ) (l : ReasonsOfLink) → GoesOn at sessions sessions (still_doubted rows (asking_of l)) l (refreshed rows l)
refreshed-goes rows sessions at l = record {
  gone = questions_of_rows (filter (is_over rows) l.reconfirmed);
  kept = refl;
  counts = λ q. beside q (session_questions at sessions) (questions_of_rows l.reconfirmed) (questions_of_rows (filter (is_over rows) l.reconfirmed)) (questions_of_rows (still_reconfirmed rows l.reconfirmed))
      (tested-rows q (λ r. was_heard_at r.1 (row_at r.0 rows)) l.reconfirmed);
  asking = refl;
}

-- one more row
pub doubted-counts : (at : ℕ) (sessions : Sessions) (rows : Reconfirmed) (row : Key × ℕ) (q : Question) → times asked_cmp q (question_for row.0 ∷ reasons_on at sessions rows) ≡ times asked_cmp q (reasons_on at sessions (rows ++ row ∷ []))
doubted-counts at sessions rows row q =
    let all = times-append asked_cmp_total q (session_questions at sessions) (questions_of_rows rows) in
    let more = times-append asked_cmp_total q (session_questions at sessions) (questions_of_rows (rows ++ row ∷ [])) in
    let parts = rows-append q rows (row ∷ []) in
    omega (arith, all, more, parts)

-- ---- only moments change

pub begun-reasons : (question : Question) (kept : Kept) → all_reasons (begun_anew question kept) ≡ all_reasons kept
begun-reasons question [] = refl
begun-reasons question (e ∷ kept) = λ i. by (same_asked question e.0) i ∷ begun-reasons question kept i
  where
    at : Question × KeptAsks → Question × ℕ
    at d = (d.0, d.1.reasons)

    by : (b : Bool) → at (cond b (e.0, record e.1 { count = 0; last = 0; due = 0 }) e) ≡ at e
    by true = refl
    by false = refl

again-reasons : (now : ℕ) (h : HeardRr) (kept : Kept) → all_reasons (heard_again now kept h) ≡ all_reasons kept
again-reasons now h [] = refl
again-reasons now h (e ∷ kept) = ap (λ (l : List (Question × ℕ)). (e.0, e.1.reasons) ∷ l) (again-reasons now h kept)

pub heard-reasons : (now : ℕ) (hearing : List HeardRr) (kept : Kept) → all_reasons (all_heard now hearing kept) ≡ all_reasons kept
heard-reasons now [] kept = refl
heard-reasons now (h ∷ hearing) kept = heard-reasons now hearing (heard_again now kept h) ∙ again-reasons now h kept

again-wanted : (now : ℕ) (h : HeardRr) (kept : Kept) → wanted_in (heard_again now kept h) ≡ wanted_in kept
again-wanted now h [] = refl
again-wanted now h (e ∷ kept) = ap (λ (l : Wanted). (e.0, asks_in e.1) ∷ l) (again-wanted now h kept)

pub heard-wanted : (now : ℕ) (hearing : List HeardRr) (kept : Kept) → wanted_in (all_heard now hearing kept) ≡ wanted_in kept
heard-wanted now [] kept = refl
heard-wanted now (h ∷ hearing) kept = heard-wanted now hearing (heard_again now kept h) ∙ again-wanted now h kept

-- ---- the last stands for all of its key

-- rows of one key ask one question
one-question : (q : Question) (key : Key) (rows : Reconfirmed) → same_asked q (question_for key) ≡ false → times asked_cmp q (questions_of_rows (filter (λ r. same_key key r.0) rows)) ≡ 0
one-question q key [] other = refl
one-question q key (r ∷ rows) other = by (same_key key r.0) refl (one-question q key rows other)
  where
    others : Reconfirmed
    others = filter (λ (x : Key × ℕ). same_key key x.0) rows

    by : (b : Bool) → same_key key r.0 ≡ b → times asked_cmp q (questions_of_rows others) ≡ 0 → times asked_cmp q (questions_of_rows (cond b (r ∷ others) others)) ≡ 0
    by true same rest =
        let is : same_asked q (question_for r.0) ≡ false = ap (λ k. same_asked q (question_for k)) (sym (same_key-same key r.0 same)) ∙ other in
        (λ i. once (is i) + rest i)
    by false same rest = rest

module _ (unwanting : UnwantingDrops) (beginning : BeginningAnew) (keeps : ReasonsKeepBounds) where
  module _ (most at : ℕ) (sessions : Sessions) (row : Key × ℕ) (others : Reconfirmed) (kept : Kept) (h : IsCounted most (reasons_on at sessions (others ++ row ∷ [])) kept) where
    abbrev test : Key × ℕ → Bool
    test r = same_key row.0 r.0

    abbrev same_rows : Reconfirmed
    same_rows = filter test others

    abbrev left : Reconfirmed
    left = filter (λ r. not (test r)) others ++ row ∷ []

    abbrev dropped : Kept
    dropped = unwanted_all (questions_of_rows same_rows) kept

    counts : (q : Question) → times asked_cmp q (reasons_on at sessions (others ++ row ∷ [])) ≡ times asked_cmp q (questions_of_rows same_rows) + times asked_cmp q (reasons_on at sessions left)
    counts q =
        let whole = rows-append q others (row ∷ []) in
        let parts = rows-append q (filter (λ r. not (test r)) others) (row ∷ []) in
        let split = tested-rows q test others in
        let rows : times asked_cmp q (questions_of_rows (others ++ row ∷ [])) ≡ times asked_cmp q (questions_of_rows same_rows) + times asked_cmp q (questions_of_rows left) = omega (arith, whole, parts, split) in
        beside q (session_questions at sessions) (questions_of_rows (others ++ row ∷ [])) (questions_of_rows same_rows) (questions_of_rows left) rows

    pub dropped-unwants : Unwants most (reasons_on at sessions left) kept dropped
    dropped-unwants = counted-all unwanting most (questions_of_rows same_rows) (reasons_on at sessions (others ++ row ∷ [])) (reasons_on at sessions left) kept h counts

    still : (q : Question) → 0 < times asked_cmp q (reasons_on at sessions (others ++ row ∷ [])) → 0 < times asked_cmp q (reasons_on at sessions left)
    still q some = by (same_asked q (question_for row.0)) refl
      where
        all : times asked_cmp q (reasons_on at sessions left) ≡ times asked_cmp q (session_questions at sessions) + times asked_cmp q (questions_of_rows left)
        all = times-append asked_cmp_total q (session_questions at sessions) (questions_of_rows left)

        parts : times asked_cmp q (questions_of_rows left) ≡ times asked_cmp q (questions_of_rows (filter (λ r. not (test r)) others)) + (once (same_asked q (question_for row.0)) + 0)
        parts = rows-append q (filter (λ r. not (test r)) others) (row ∷ [])

        by : (b : Bool) → same_asked q (question_for row.0) ≡ b → 0 < times asked_cmp q (reasons_on at sessions left)
        by true is =
            let one : once (same_asked q (question_for row.0)) ≡ 1 = ap once is in
            let e = all in
            let p = parts in
            omega (arith, e, p, one)
        by false is =
            let none = one-question q row.0 others is in
            let c = counts q in
            omega (arith, none, c, some)

    pub same-wanted : wanted_in dropped ≡ wanted_in kept
    same-wanted = dropped-unwants.wanted ∙ sym (all-there (reasons_on at sessions left) kept (λ q is. still q (there (reasons_on at sessions (others ++ row ∷ [])) kept h.tally q is)))

    by-new : (b : Bool) → IsCounted most (reasons_on at sessions left) (cond b dropped (begun_anew (question_for row.0) dropped))
    by-new true = dropped-unwants.counted
    by-new false = reasons-alone most (reasons_on at sessions left) dropped (begun_anew (question_for row.0) dropped) (begun-reasons (question_for row.0) dropped) dropped-unwants.counted

    asks-new : (b : Bool) → wanted_in (cond b dropped (begun_anew (question_for row.0) dropped)) ≡ cond b (wanted_in kept) (anew (question_for row.0) (wanted_in kept))
    asks-new true = same-wanted
    asks-new false = beginning (question_for row.0) dropped ∙ ap (anew (question_for row.0)) same-wanted

    bounds-new : (rows : LinkRows) → AreBounds rows kept → (b : Bool) → AreBounds rows (cond b dropped (begun_anew (question_for row.0) dropped))
    bounds-new rows bounds true = bounds-all keeps rows (questions_of_rows same_rows) kept h.order bounds
    bounds-new rows bounds false = (keeps rows (question_for row.0) dropped (order-all (questions_of_rows same_rows) kept h.order) (bounds-all keeps rows (questions_of_rows same_rows) kept h.order bounds)).2

    pub settled-counted : IsCounted most (reasons_on at sessions left) (begun_if_new row others dropped)
    settled-counted = by-new (is_doubted row.0 row.1 others)

    pub settled-wanted : wanted_in (begun_if_new row others dropped) ≡ cond (is_doubted row.0 row.1 others) (wanted_in kept) (anew (question_for row.0) (wanted_in kept))
    settled-wanted = asks-new (is_doubted row.0 row.1 others)

    pub settled-bounds : (rows : LinkRows) → AreBounds rows kept → AreBounds rows (begun_if_new row others dropped)
    settled-bounds rows bounds = bounds-new rows bounds (is_doubted row.0 row.1 others)

  -- ---- of the link

  pub record Settles (most at : ℕ) (sessions : Sessions) (l : ReasonsOfLink) : Type 0 where
    pub counted : IsCounted most (reasons_on at sessions (settled l).reconfirmed) (settled l).kept
    pub asking : asking_of (settled l) ≡ settled_last (asking_of l)
    pub bounds : (rows : LinkRows) → AreBounds rows l.kept → AreBounds rows (settled l).kept

  one-last : {X : Type 0} (xs : List X) (x : X) (more : List X) → last_of xs ≡ x ∷ more → xs ≡ but_last xs ++ x ∷ []
  one-last [] x more e = absurd cc
  one-last (y ∷ []) x more e = let same : y ≡ x = cc in ap (λ z. z ∷ []) same
  one-last (y ∷ z ∷ zs) x more e = ap (λ l. y ∷ l) (one-last (z ∷ zs) x more e)

  pub settles : (most at : ℕ) (sessions : Sessions) (l : ReasonsOfLink) → IsCounted most (reasons_on at sessions l.reconfirmed) l.kept → Settles most at sessions l
  settles most at sessions l h = by (last_of l.reconfirmed) refl
    where
      from : (rows : Reconfirmed) → Type 0
      from rows = IsCounted most (reasons_on at sessions (settled_by rows l).reconfirmed) (settled_by rows l).kept
          × (asking_of (settled_by rows l) ≡ settled_last_by rows (asking_of l))
          × ((known : LinkRows) → AreBounds known l.kept → AreBounds known (settled_by rows l).kept)

      each : (rows : Reconfirmed) → last_of l.reconfirmed ≡ rows → from rows
      each [] is = (h, refl, λ known bounds. bounds)
      each (row ∷ rows) is =
          let counted : IsCounted most (reasons_on at sessions (but_last l.reconfirmed ++ row ∷ [])) l.kept = subst (λ (rs : Reconfirmed). IsCounted most (reasons_on at sessions rs) l.kept) (one-last l.reconfirmed row rows is) h in
          let asks = settled-wanted most at sessions row (but_last l.reconfirmed) l.kept counted in (
            settled-counted most at sessions row (but_last l.reconfirmed) l.kept counted,
            (λ i. record { wanted = asks i; reconfirmed = filter (λ r. not (same_key row.0 r.0)) (but_last l.reconfirmed) ++ row ∷ [] }),
            settled-bounds most at sessions row (but_last l.reconfirmed) l.kept counted,
          )

      by : (rows : Reconfirmed) → last_of l.reconfirmed ≡ rows → Settles most at sessions l
      by rows is = let parts = each (last_of l.reconfirmed) refl in record { counted = parts.0; asking = parts.1; bounds = parts.2 }
