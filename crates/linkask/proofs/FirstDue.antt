-- The first question that is due, where bounds are made exact on the way.
--     named-rows      the rows of a question are those of its name that it matches
--     exact-at, same-set, bounds-set, idle-at, due-at      a question whose bound is made exact
--     FirstSoFar, first-turn, first-found, first-none      the search for the first
--     least-fold      the least of bounds
--     asked-set      a question is asked
use Rattle.std.proofs.Common.{◌≡◌, ℕ, zero, suc, ◌+◌, ◌<◌, ◌≤◌, Bool, true, false, cond, ◌&&◌, ◌||◌, List, [], ◌∷◌, length, drop, get_or, set, map, Some, None, refl, sym, ◌∙◌, ap, subst, arith}
use Rattle.std.specs.Prelude.{min, filter, fold, nat_le, ◌==◌}
use Rattle.std.proofs.lemmas.List.{length-drop, drop_more}
use Rattle.push_base.specs.Causes.{next_count}
use Rattle.push_base.specs.Limits.{max_moment}
use Rattle.dnsname.specs.Names.{same_name}
use Rattle.rrset.specs.Kinds.{any_kind, any_class}
use Rattle.rrset.specs.KeyedRows.{rows_of}
use Rattle.rrset.specs.Records.{matches}
use Rattle.rrset.specs.Tables.{counted}
use Rattle.rrset.specs.declared.record.Key.{Key}
use Rattle.rrset.specs.declared.record.Question.{Question}
use Rattle.linkcache.specs.Rows.{LinkRows}
use Rattle.linkcache.specs.declared.row.HeardRow.{HeardRow}
use Rattle.linkask.specs.Asking.{Asks, Wanted, first_due, is_due, rows_for}
use Rattle.linkask.specs.Bounds.{Kept, AreBounds, IsBound, IsDueAt, IsFirstDue, IsLeast, asked_at, asks_in, due_moment, due_of, unbounded, wanted_in}
use Rattle.linkask.specs.declared.asks.KeptAsks.{KeptAsks}
use Rattle.linkask.proofs.Due.{due_by_moment}

-- ---- rows of a question

abbrev pub asked_rows : Question → LinkRows → LinkRows
asked_rows question rows = filter (λ (row : Key × HeardRow). matches question row.0) rows

named-front : (question : Question) (r : Key × HeardRow) (rs : LinkRows) → asked_rows question (rows_of question.name rs) ≡ rows_for question rs
    → (b : Bool) → same_name question.name r.0.owner ≡ b
    → asked_rows question (cond b (r ∷ rows_of question.name rs) (rows_of question.name rs)) ≡ rows_for question (r ∷ rs)
named-front question r rs behind true is = ap (λ (l : LinkRows). cond (matches question r.0) (r ∷ l) l) behind
named-front question r rs behind false is =
    behind ∙ ap (λ b. cond (b && (question.kind == r.0.kind || question.kind == any_kind) && (question.class == r.0.class || question.class == any_class)) (r ∷ rows_for question rs) (rows_for question rs)) (sym is)

pub named-rows : (question : Question) (rows : LinkRows) → asked_rows question (rows_of question.name rows) ≡ rows_for question rows
named-rows question [] = refl
named-rows question (r ∷ rs) = named-front question r rs (named-rows question rs) (same_name question.name r.0.owner) refl

-- a moment computed from the rows of the name
exact-of : (rows at : LinkRows) (question : Question) (asks : Asks) (due : ℕ) → at ≡ rows_of question.name rows
    → due ≡ counted (due_of (asked_rows question at) asks) → due ≡ counted (due_moment rows (question, asks))
exact-of rows at question asks due at-is due-is =
    due-is ∙ ap (λ (l : LinkRows). counted (due_of l asks)) (ap (asked_rows question) at-is ∙ named-rows question rows)

pub exact : (rows at : LinkRows) (question : Question) (asks : KeptAsks) (due : ℕ) → at ≡ rows_of question.name rows
    → due ≡ counted (due_of (asked_rows question at) (asks_in asks)) → due ≡ counted (due_moment rows (question, asks_in asks))
exact rows at question asks due at-is due-is = exact-of rows at question (asks_in asks) due at-is due-is

-- ---- a bound

no-more : (m : ℕ) → counted m ≤ m
no-more m = omega arith

ahead : (now due m : ℕ) → now < due → due ≤ m → nat_le m now ≡ false
ahead now due m h bound = grind (arith, h, bound)

has-come : (now m : ℕ) → now ≤ max_moment → nat_le m now ≡ nat_le (counted m) now
has-come now m small = grind (arith, small)

module _ (rows : LinkRows) where
  abbrev pub with_due : Kept → ℕ → Question × KeptAsks → Question × KeptAsks → ℕ → Kept
  with_due kept place x y due =
      let asks = (get_or kept place y).1 in
      set kept place ((get_or kept place x).0, record { count = asks.count; last = asks.last; reasons = asks.reasons; due = due })

  pub same-set : (kept : Kept) (place : ℕ) (x y : Question × KeptAsks) (due : ℕ) → place < length kept → unbounded (with_due kept place x y due) ≡ unbounded kept
  same-set [] place x y due within = absurd (omega arith)
  same-set (e ∷ es) zero x y due within = refl
  same-set (e ∷ es) (suc place) x y due within = ap (λ l. (e.0, record e.1 { due = 0 }) ∷ l) (same-set es place x y due (omega arith))

  pub bounds-set : (kept : Kept) (place : ℕ) (e : Question × KeptAsks) → AreBounds rows kept → IsBound rows e → AreBounds rows (set kept place e)
  bounds-set [] place e bounds bound = tt
  bounds-set (d ∷ ds) zero e bounds bound = (bound, bounds.1)
  bounds-set (d ∷ ds) (suc place) e bounds bound = (bounds.0, bounds-set ds place e bounds.1 bound)

  -- the question at a place, however it is read
  pub exact-at : (kept : Kept) (place : ℕ) (x y z w : Question × KeptAsks) (at : LinkRows) (due : ℕ) → place < length kept
      → at ≡ rows_of (get_or kept place z).0.name rows → due ≡ counted (due_of (asked_rows (get_or kept place z).0 at) (asks_in (get_or kept place w).1))
      → due ≡ counted (due_moment rows ((get_or kept place x).0, asks_in (get_or kept place y).1))
  exact-at [] place x y z w at due within at-is due-is = absurd (omega arith)
  exact-at (e ∷ es) zero x y z w at due within at-is due-is = exact rows at e.0 e.1 due at-is due-is
  exact-at (e ∷ es) (suc place) x y z w at due within at-is due-is = exact-at es place x y z w at due (omega arith) at-is due-is

  -- the question at a place with other asks
  pub exact-asked : (kept : Kept) (place : ℕ) (x z : Question × KeptAsks) (asks : Asks) (at : LinkRows) (due : ℕ) → place < length kept
      → at ≡ rows_of (get_or kept place z).0.name rows → due ≡ counted (due_of (asked_rows (get_or kept place z).0 at) asks)
      → due ≡ counted (due_moment rows ((get_or kept place x).0, asks))
  exact-asked [] place x z asks at due within at-is due-is = absurd (omega arith)
  exact-asked (e ∷ es) zero x z asks at due within at-is due-is = exact-of rows at e.0 asks due at-is due-is
  exact-asked (e ∷ es) (suc place) x z asks at due within at-is due-is = exact-asked es place x z asks at due (omega arith) at-is due-is

  pub bound-is : (e : Question × Asks) (due : ℕ) → due ≡ counted (due_moment rows e) → due ≤ due_moment rows e
  bound-is e due is = subst (λ n. n ≤ due_moment rows e) (sym is) (no-more (due_moment rows e))

  module _ (now : ℕ) where
    pub idle-at : (kept : Kept) (place : ℕ) (y : Question × KeptAsks) (d : Question × Asks) → place < length kept → AreBounds rows kept → now < (get_or kept place y).1.due
        → is_due rows now (get_or (wanted_in kept) place d) ≡ false
    idle-at [] place y d within bounds h = absurd (omega arith)
    idle-at (e ∷ es) zero y d within bounds h = due_by_moment rows now (e.0, asks_in e.1) ∙ ahead now e.1.due (due_moment rows (e.0, asks_in e.1)) h bounds.0
    idle-at (e ∷ es) (suc place) y d within bounds h = idle-at es place y d (omega arith) bounds.1 h

    pub due-at : (kept : Kept) (place : ℕ) (x y : Question × KeptAsks) (d : Question × Asks) (due : ℕ) → place < length kept → now ≤ max_moment
        → due ≡ counted (due_moment rows ((get_or kept place x).0, asks_in (get_or kept place y).1))
        → is_due rows now (get_or (wanted_in kept) place d) ≡ nat_le due now
    due-at [] place x y d due within small is = absurd (omega arith)
    due-at (e ∷ es) zero x y d due within small is =
        due_by_moment rows now (e.0, asks_in e.1) ∙ has-come now (due_moment rows (e.0, asks_in e.1)) small ∙ ap (λ n. nat_le n now) (sym is)
    due-at (e ∷ es) (suc place) x y d due within small is = due-at es place x y d due (omega arith) small is

    -- before all bounds none is due
    pub none-early : (least : ℕ) (kept : Kept) → now < least → IsLeast least kept → AreBounds rows kept → first_due rows now (wanted_in kept) ≡ None
    none-early least [] h few bounds = refl
    none-early least (e ∷ es) h few bounds =
        ap (λ b. cond b (Some (e.0, asks_in e.1)) (first_due rows now (wanted_in es))) (due_by_moment rows now (e.0, asks_in e.1) ∙ ahead now e.1.due (due_moment rows (e.0, asks_in e.1)) (omega (arith, h, few.0)) bounds.0)
        ∙ none-early least es h few.1 bounds.1

    -- ---- the search

    wanted-unbounded : (kept : Kept) → wanted_in (unbounded kept) ≡ wanted_in kept
    wanted-unbounded [] = refl
    wanted-unbounded (e ∷ es) = ap (λ l. (e.0, asks_in e.1) ∷ l) (wanted-unbounded es)

    pub same-wanted : (kept later : Kept) → unbounded later ≡ unbounded kept → wanted_in later ≡ wanted_in kept
    same-wanted kept later same = sym (wanted-unbounded later) ∙ ap wanted_in same ∙ wanted-unbounded kept

    pub record FirstSoFar (start entries : Kept) (place : ℕ) : Type 0 where
      pub same : unbounded entries ≡ unbounded start
      pub bounds : AreBounds rows entries
      pub none : first_due rows now (drop place (wanted_in start)) ≡ first_due rows now (wanted_in start)

    pub first-begins : (start : Kept) → AreBounds rows start → FirstSoFar start start 0
    first-begins start bounds = record { same = refl; bounds = bounds; none = refl }

    pub length-wanted : (kept : Kept) → length (wanted_in kept) ≡ length kept
    length-wanted [] = refl
    length-wanted (e ∷ es) = ap suc (length-wanted es)

    same-length : (start entries : Kept) → unbounded entries ≡ unbounded start → length (wanted_in start) ≡ length entries
    same-length start entries same = ap length (sym (same-wanted start entries same)) ∙ length-wanted entries

    at-front : (all : Wanted) (place : ℕ) (d : Question × Asks) (b : Bool) → place < length all → is_due rows now (get_or all place d) ≡ b
        → first_due rows now (drop place all) ≡ cond b (Some (get_or all place d)) (first_due rows now (drop (place + 1) all))
    at-front all place d b within is =
        ap (first_due rows now) (drop_more all place d within) ∙ ap (λ c. cond c (Some (get_or all place d)) (first_due rows now (drop (place + 1) all))) is

    some : (all : Wanted) (place : ℕ) → place < length all → Question × Asks
    some [] place within = absurd (omega arith)
    some (e ∷ es) place within = e

    pub first-turn : (start entries later : Kept) (place : ℕ) → place < length entries → FirstSoFar start entries place
        → unbounded later ≡ unbounded entries → AreBounds rows later → IsDueAt rows now (wanted_in entries) place false → FirstSoFar start later (place + 1)
    first-turn start entries later place within s same bounds idle =
        let inside : place < length (wanted_in start) = subst (λ n. place < n) (sym (same-length start entries s.same)) within in
        let d = some (wanted_in start) place inside in
        let is : is_due rows now (get_or (wanted_in start) place d) ≡ false = subst (λ (l : Wanted). is_due rows now (get_or l place d) ≡ false) (same-wanted start entries s.same) (idle d) in
        record { same = same ∙ s.same; bounds = bounds; none = sym (at-front (wanted_in start) place d false inside is) ∙ s.none }

    pub first-found : (start entries : Kept) (place : ℕ) → place < length entries → FirstSoFar start entries place
        → IsDueAt rows now (wanted_in entries) place true → IsFirstDue rows now (wanted_in start) (Some place)
    first-found start entries place within s due =
        let inside : place < length (wanted_in start) = subst (λ n. place < n) (sym (same-length start entries s.same)) within in
        (inside, λ d. sym s.none ∙ at-front (wanted_in start) place d true inside (subst (λ (l : Wanted). is_due rows now (get_or l place d) ≡ true) (same-wanted start entries s.same) (due d)))

    nothing : (all : Wanted) → length all ≡ 0 → all ≡ []
    nothing [] e = refl
    nothing (x ∷ xs) e = absurd (omega (arith, e))

    pub first-none : (start entries : Kept) (place : ℕ) → length entries ≤ place → FirstSoFar start entries place → first_due rows now (wanted_in start) ≡ None
    first-none start entries place ended s =
        sym s.none
        ∙ ap (first_due rows now) (nothing (drop place (wanted_in start)) (omega (arith, length-drop place (wanted_in start), same-length start entries s.same, ended)))

-- ---- the least bound

abbrev pub dues : Kept → List ℕ
dues kept = map (λ e. e.1.due) kept

pub fold-below : (a : ℕ) (xs : List ℕ) → fold min a xs ≤ a
fold-below a [] = omega arith
fold-below a (x ∷ xs) = let less = fold-below (min a x) xs in omega (arith, less)

pub least-of : (a : ℕ) (kept : Kept) → IsLeast (fold min a (dues kept)) kept
least-of a [] = tt
least-of a (e ∷ es) = (let less = fold-below (min a e.1.due) (dues es) in omega (arith, less), least-of (min a e.1.due) es)

past : (kept : Kept) (index : ℕ) → length kept ≤ index → drop index kept ≡ []
past [] zero ended = refl
past [] (suc index) ended = refl
past (e ∷ es) zero ended = absurd (omega (arith, ended))
past (e ∷ es) (suc index) ended = past es index (omega (arith, ended))

pub least-ends : (kept : Kept) (least index : ℕ) → length kept ≤ index → fold min least (dues (drop index kept)) ≡ fold min 18446744073709551615 (dues kept) → IsLeast least kept
least-ends kept least index ended so_far =
    let is : least ≡ fold min 18446744073709551615 (dues kept) = ap (λ (l : Kept). fold min least (dues l)) (sym (past kept index ended)) ∙ so_far in
    subst (λ n. IsLeast n kept) (sym is) (least-of 18446744073709551615 kept)

-- ---- a question is asked

pub asked-set : (now : ℕ) (kept : Kept) (place : ℕ) (x y z : Question × KeptAsks) (count due : ℕ) → place < length kept → count ≡ next_count (get_or kept place z).1.count
    → unbounded (set kept place ((get_or kept place x).0, record { count = count; last = now; reasons = (get_or kept place y).1.reasons; due = due })) ≡ unbounded (asked_at place now kept)
asked-set now [] place x y z count due within is = absurd (omega arith)
asked-set now (e ∷ es) zero x y z count due within is = ap (λ n. (e.0, record { count = n; last = now; reasons = e.1.reasons; due = 0 }) ∷ unbounded es) is
asked-set now (e ∷ es) (suc place) x y z count due within is = ap (λ l. (e.0, record e.1 { due = 0 }) ∷ l) (asked-set now es place x y z count due (omega arith) is)
