-- What is kept of one link where a reason comes or some go.
--     counted-more      a reason comes
--     Unwants, counted-all, bounds-all      some go: what is wanted is that for which there is a reason still
--     counted-alike      none goes
--     reasons-alone      only the numbers of reasons matter
use Rattle.std.proofs.Common.{◌≡◌, ℕ, zero, suc, ◌+◌, ◌-◌, ◌<◌, ◌≤◌, ◌^◌, Bool, true, false, cond, not, T, List, [], ◌∷◌, ◌++◌, Option, Some, None, is_some, refl, sym, ap, subst, ◌∙◌, arith}
use Rattle.std.proofs.lemmas.Bool.Decides.{nat_tests}
use Rattle.std.specs.Prelude.{IsTrue, filter, nat_lt, option_map}
use Rattle.std.specs.List.{list_any}
use Rattle.std.specs.Ordering.{is_eq}
use Rattle.std.specs.declared.cmp.Ordering.{Ordering}
use Rattle.std.specs.declared.cmp.Ordering.TheVariants.{Less, Equal, Greater}
use Rattle.std.specs.FinMap.Entries.{find, is_sorted, is_sorted-put, is_sorted-where_key, put}
use Rattle.push_base.specs.Causes.{next_count}
use Rattle.rrset.specs.declared.record.Question.{Question}
use Rattle.linkcache.specs.Rows.{LinkRows}
use Rattle.linkask.specs.Asking.{asked_cmp, same_asked, unwanted}
use Rattle.linkask.specs.Bounds.{AreBounds, Kept, all_reasons, are_kept, asks_in, reasons_for, reasons_of, wanted_in, with_reason, without_reason}
use Rattle.linkask.specs.Laws.{ReasonsKeepBounds, UnwantingDrops}
use Rattle.linkask.specs.declared.asks.KeptAsks.{KeptAsks}
use Rattle.linkask.proofs.KeptOrder.{as_T, less-is, more-is, one_less, one_more}
use Rattle.linkask.proofs.Order.{asked_cmp_total}
use Rattle.linkreasons.specs.AllReasons.{with_any_of}
use Rattle.linkreasons.specs.Changing.{unwanted_all}
use Rattle.linkreasons.specs.Counting.{IsCounted}
use Rattle.linkreasons.specs.Tallies.{IsTally, once, positive, times}
use Rattle.linkreasons.proofs.Tally.{any-times, filter-alike, filter-all, find-mapped, positive-some, put-mapped, same-back, same-itself, sorted-mapped, tally-alike, tally-less, tally-more, tally-without, times-append, times-same, where-mapped}

from_T : (b : Bool) → T b → IsTrue b
from_T true h = refl
from_T false h = absurd h

abbrev pub number : KeptAsks → ℕ
number asks = asks.reasons

-- ---- the order

pub order-more : (question : Question) (kept : Kept) → IsTrue (are_kept kept) → IsTrue (are_kept (with_reason question kept))
order-more question kept sorted =
    subst (λ (l : Kept). IsTrue (are_kept l)) (sym (more-is question kept))
    (from_T _ (is_sorted-put asked_cmp asked_cmp_total question (one_more (find asked_cmp question kept)) kept (as_T sorted)))

pub order-less : (question : Question) (kept : Kept) → IsTrue (are_kept kept) → IsTrue (are_kept (without_reason question kept))
order-less question kept sorted = subst (λ (l : Kept). IsTrue (are_kept l)) (sym (less-is question kept)) (by (find asked_cmp question kept))
  where
    each : (asks : KeptAsks) (b : Bool) → IsTrue (are_kept (cond b (put asked_cmp question (record asks { reasons = asks.reasons - 1 }) kept) (filter (λ e. not (same_asked question e.0)) kept)))
    each asks true = from_T _ (is_sorted-put asked_cmp asked_cmp_total question _ kept (as_T sorted))
    each asks false = from_T _ (is_sorted-where_key asked_cmp (λ q. not (same_asked question q)) kept (as_T sorted))

    by : (o : Option KeptAsks) → IsTrue (are_kept (one_less question kept o))
    by None = sorted
    by (Some asks) = each asks (nat_lt 1 asks.reasons)

-- only the questions and the numbers of reasons matter
pub reasons-alone : (most : ℕ) (questions : List Question) (kept later : Kept) → all_reasons later ≡ all_reasons kept → IsCounted most questions kept → IsCounted most questions later
reasons-alone most questions kept later same h = record {
  order = sym (sorted-mapped asked_cmp number later) ∙ ap (is_sorted asked_cmp) same ∙ sorted-mapped asked_cmp number kept ∙ h.order;
  tally = λ q. ap (find asked_cmp q) same ∙ h.tally q;
  room = h.room;
}

-- as often in any order, at most more
pub counted-same : (most more : ℕ) (questions others : List Question) (kept : Kept) → most ≤ more → IsCounted most questions kept → ((q : Question) → times asked_cmp q questions ≡ times asked_cmp q others) → IsCounted more others kept
counted-same most more questions others kept few h same = record {
  order = h.order;
  tally = tally-alike asked_cmp_total questions others (all_reasons kept) h.tally same;
  room = λ q. let e = same q in let r = h.room q in omega (arith, e, r, few);
}

-- ---- a reason comes

number-more : (o : Option KeptAsks) (n : ℕ) → option_map number o ≡ positive n → n < 2 ^ 64 - 1 → (one_more o).reasons ≡ 1 + n
number-more None zero e small = refl
number-more None (suc n) e small = let some = positive-some (suc n) (omega arith) in absurd cc
number-more (Some asks) zero e small = absurd cc
number-more (Some asks) (suc n) e small =
    let some = positive-some (suc n) (omega arith) in
    let is : asks.reasons ≡ suc n = cc in
    ap next_count is ∙ omega (arith, small)

pub counted-more : (most : ℕ) (question : Question) (questions : List Question) (kept : Kept) → most < 2 ^ 64 - 1 → IsCounted most questions kept → IsCounted (most + 1) (question ∷ questions) (with_reason question kept)
counted-more most question questions kept small h =
    let asks : KeptAsks = one_more (find asked_cmp question kept) in
    let few = h.room question in
    let n : asks.reasons ≡ 1 + times asked_cmp question questions =
    number-more (find asked_cmp question kept) (times asked_cmp question questions) (sym (find-mapped asked_cmp number question kept) ∙ h.tally question) (omega (arith, few, small)) in
    record {
      order = order-more question kept h.order;
      tally = subst (λ (k : Kept). IsTally asked_cmp (question ∷ questions) (all_reasons k)) (sym (more-is question kept))
          (subst (IsTally asked_cmp (question ∷ questions)) (sym (put-mapped asked_cmp number question asks kept))
          (tally-more asked_cmp_total question asks.reasons questions (all_reasons kept) h.tally n));
      room = λ q. room q (same_asked q question);
    }
  where
    room : (q : Question) (b : Bool) → once b + times asked_cmp q questions ≤ most + 1
    room q true = let r = h.room q in omega (arith, r)
    room q false = let r = h.room q in omega (arith, r)

-- ---- reasons go

pub record Unwants (most : ℕ) (questions : List Question) (kept later : Kept) : Type 0 where
  pub counted : IsCounted most questions later
  pub wanted : wanted_in later ≡ with_any_of questions (wanted_in kept)

mapped-some : (o : Option KeptAsks) (n : ℕ) → option_map number o ≡ positive n → is_some (option_map asks_in o) ≡ true → 0 < n
mapped-some None n e some = absurd cc
mapped-some (Some asks) zero e some = absurd cc
mapped-some (Some asks) (suc n) e some = omega arith

-- for what is wanted there is a reason
pub there : (questions : List Question) (kept : Kept) → IsTally asked_cmp questions (all_reasons kept) → (q : Question) → is_some (find asked_cmp q (wanted_in kept)) ≡ true → 0 < times asked_cmp q questions
there questions kept tally q some =
    mapped-some (find asked_cmp q kept) (times asked_cmp q questions) (sym (find-mapped asked_cmp number q kept) ∙ tally q) (sym (ap is_some (find-mapped asked_cmp asks_in q kept)) ∙ some)

is-there : (questions : List Question) (q : Question) → 0 < times asked_cmp q questions → list_any (same_asked q) questions ≡ true
is-there questions q some = any-times asked_cmp_total q questions ∙ grind (arith, nat_tests)

not-there : (questions : List Question) (q : Question) → times asked_cmp q questions ≡ 0 → list_any (same_asked q) questions ≡ false
not-there questions q none = any-times asked_cmp_total q questions ∙ ap (nat_lt 0) none

pub all-there : (questions : List Question) (kept : Kept) → ((q : Question) → is_some (find asked_cmp q (wanted_in kept)) ≡ true → 0 < times asked_cmp q questions) → wanted_in kept ≡ with_any_of questions (wanted_in kept)
all-there questions kept some = sym (filter-all asked_cmp_total (λ q. list_any (same_asked q) questions) (wanted_in kept) (λ q is. is-there questions q (some q is)))

-- none goes
pub counted-alike : (most : ℕ) (questions others : List Question) (kept : Kept) → IsCounted most questions kept → ((q : Question) → times asked_cmp q questions ≡ times asked_cmp q others) → Unwants most others kept kept
counted-alike most questions others kept h same =
    let later = counted-same most most questions others kept (omega arith) h same in
    record { counted = later; wanted = all-there others kept (there others kept later.tally) }

equal : (r : Ordering) → is_eq r ≡ true → r ≡ Equal
equal Less e = absurd cc
equal Equal e = refl
equal Greater e = absurd cc

module _ (unwanting : UnwantingDrops) where
  -- one goes
  module _ (most : ℕ) (question : Question) (questions : List Question) (kept : Kept) (h : IsCounted most (question ∷ questions) kept) where
    abbrev others : ℕ
    others = times asked_cmp question questions

    pub one-room : (q : Question) → times asked_cmp q questions ≤ most
    one-room q = let r = h.room q in by (same_asked q question) r
      where
        by : (b : Bool) → once b + times asked_cmp q questions ≤ most → times asked_cmp q questions ≤ most
        by true r = omega (arith, r)
        by false r = omega (arith, r)

    found-number : (o : Option KeptAsks) → option_map number o ≡ positive (1 + others) → reasons_of o ≡ 1 + others
    found-number None e = let some = positive-some (1 + others) (omega arith) in absurd cc
    found-number (Some asks) e = let some = positive-some (1 + others) (omega arith) in cc

    there-number : find asked_cmp question (all_reasons kept) ≡ positive (1 + others)
    there-number = h.tally question ∙ ap (λ b. positive (once b + others)) (same-itself asked_cmp_total question)

    is-number : reasons_for question kept ≡ 1 + others
    is-number = found-number (find asked_cmp question kept) (sym (find-mapped asked_cmp number question kept) ∙ there-number)

    -- several reasons: one less
    tally-several : (asks : KeptAsks) → asks.reasons ≡ 1 + others → nat_lt 1 asks.reasons ≡ true → IsTally asked_cmp questions (all_reasons (put asked_cmp question (record asks { reasons = asks.reasons - 1 }) kept))
    tally-several asks is several =
        let some : 0 < asks.reasons - 1 = grind (arith, nat_tests) in
        subst (IsTally asked_cmp questions) (sym (put-mapped asked_cmp number question (record asks { reasons = asks.reasons - 1 }) kept))
        (tally-less asked_cmp_total question (asks.reasons - 1) questions (all_reasons kept) h.tally (omega (arith, is)) some)

    tally-last : others ≡ 0 → IsTally asked_cmp questions (all_reasons (filter (λ e. not (same_asked question e.0)) kept))
    tally-last none =
        subst (IsTally asked_cmp questions) (sym (where-mapped asked_cmp number (λ q. not (same_asked question q)) kept))
        (tally-without asked_cmp_total question questions (all_reasons kept) h.tally none)

    tally-one : (o : Option KeptAsks) → reasons_of o ≡ 1 + others → IsTally asked_cmp questions (all_reasons (one_less question kept o))
    tally-one None is = absurd (omega (arith, is))
    tally-one (Some asks) is = by (nat_lt 1 asks.reasons) refl
      where
        by : (b : Bool) → nat_lt 1 asks.reasons ≡ b → IsTally asked_cmp questions (all_reasons (cond b (put asked_cmp question (record asks { reasons = asks.reasons - 1 }) kept) (filter (λ e. not (same_asked question e.0)) kept)))
        by true several = tally-several asks is several
        by false last = let none : others ≡ 0 = grind (arith, nat_tests) in tally-last none

    -- others than the question have reasons still
    left : (q : Question) → 0 < times asked_cmp q (question ∷ questions) → same_asked q question ≡ false → 0 < times asked_cmp q questions
    left q some other = let is : times asked_cmp q (question ∷ questions) ≡ 0 + times asked_cmp q questions = ap (λ b. once b + times asked_cmp q questions) other in omega (arith, some, is)

    left-several : 0 < others → (q : Question) → 0 < times asked_cmp q (question ∷ questions) → 0 < times asked_cmp q questions
    left-several several q some = by (same_asked q question) refl
      where
        by : (b : Bool) → same_asked q question ≡ b → 0 < times asked_cmp q questions
        by true same = let e = times-same asked_cmp_total q question (equal (asked_cmp q question) same) questions in omega (arith, several, e)
        by false other = left q some other

    wanted-last : others ≡ 0 → unwanted question (wanted_in kept) ≡ with_any_of questions (wanted_in kept)
    wanted-last none = filter-alike asked_cmp_total (λ q. not (same_asked question q)) (λ q. list_any (same_asked q) questions) (wanted_in kept) (λ q is. by q (there (question ∷ questions) kept h.tally q is) (same_asked question q) (same_asked q question) refl refl)
      where
        by : (q : Question) → 0 < times asked_cmp q (question ∷ questions) → (b c : Bool) → same_asked question q ≡ b → same_asked q question ≡ c → not b ≡ list_any (same_asked q) questions
        by q some true c same back = sym (not-there questions q (sym (times-same asked_cmp_total question q (equal (asked_cmp question q) same) questions) ∙ none))
        by q some false true other back = let same = same-back asked_cmp_total q question back in absurd cc
        by q some false false other back = sym (is-there questions q (left q some back))

    wanted-one : wanted_in (without_reason question kept) ≡ with_any_of questions (wanted_in kept)
    wanted-one = unwanting question kept h.order ∙ by (nat_lt 1 (reasons_for question kept)) refl
      where
        by : (b : Bool) → nat_lt 1 (reasons_for question kept) ≡ b → cond b (wanted_in kept) (unwanted question (wanted_in kept)) ≡ with_any_of questions (wanted_in kept)
        by true several =
            let is = is-number in
            let some : 0 < others = grind (arith, nat_tests) in
            all-there questions kept (λ q found. left-several some q (there (question ∷ questions) kept h.tally q found))
        by false last =
            let is = is-number in
            let none : others ≡ 0 = grind (arith, nat_tests) in
            wanted-last none

    pub counted-one : Unwants most questions kept (without_reason question kept)
    counted-one = record {
      counted = record {
        order = order-less question kept h.order;
        tally = subst (λ (k : Kept). IsTally asked_cmp questions (all_reasons k)) (sym (less-is question kept)) (tally-one (find asked_cmp question kept) is-number);
        room = one-room;
      };
      wanted = wanted-one;
    }

  filter-fewer : {A : Type 0} (p t : A → Bool) → ((x : A) → p x ≡ true → t x ≡ true) → (xs : List A) → filter p (filter t xs) ≡ filter p xs
  filter-fewer p t fewer [] = refl
  filter-fewer {A = A} p t fewer (x ∷ xs) = by (t x) (p x) refl refl (filter-fewer p t fewer xs)
    where
      by : (b c : Bool) → t x ≡ b → p x ≡ c → filter p (filter t xs) ≡ filter p xs → filter p (cond b (x ∷ filter t xs) (filter t xs)) ≡ cond c (x ∷ filter p xs) (filter p xs)
      by true c is-b is-c rest = λ i. cond (is-c i) (x ∷ rest i) (rest i)
      by false true is-b is-c rest = let e = fewer x is-c in absurd cc
      by false false is-b is-c rest = rest

  -- some go
  pub counted-all : (most : ℕ) (gone questions left : List Question) (kept : Kept) → IsCounted most questions kept → ((q : Question) → times asked_cmp q questions ≡ times asked_cmp q gone + times asked_cmp q left)
      → Unwants most left kept (unwanted_all gone kept)
  counted-all most [] questions left kept h counts = counted-alike most questions left kept h (λ q. let c = counts q in omega (arith, c))
  counted-all most (g ∷ gone) questions left kept h counts =
      let middle : List Question = gone ++ left in
      let begun = counted-same most most questions (g ∷ middle) kept (omega arith) h (λ q. begins q (counts q) (times-append asked_cmp_total q gone left)) in
      let first = counted-one most g middle kept begun in
      let rest = counted-all most gone middle left (without_reason g kept) first.counted (λ q. times-append asked_cmp_total q gone left) in
      record {
        counted = rest.counted;
        wanted = rest.wanted ∙ ap (with_any_of left) first.wanted ∙ filter-fewer (λ e. list_any (same_asked e.0) left) (λ e. list_any (same_asked e.0) middle) (λ e is. among e.0 is) (wanted_in kept);
      }
    where
      begins : (q : Question) → times asked_cmp q questions ≡ times asked_cmp q (g ∷ gone) + times asked_cmp q left → times asked_cmp q (gone ++ left) ≡ times asked_cmp q gone + times asked_cmp q left
          → times asked_cmp q questions ≡ once (same_asked q g) + times asked_cmp q (gone ++ left)
      begins q counts parts = omega (arith, counts, parts)

      some-left : (q : Question) → nat_lt 0 (times asked_cmp q left) ≡ true → 0 < times asked_cmp q (gone ++ left)
      some-left q is =
          let parts = times-append asked_cmp_total q gone left in
          let some : 0 < times asked_cmp q left = grind (arith, nat_tests) in
          omega (arith, parts, some)

      among : (q : Question) → list_any (same_asked q) left ≡ true → list_any (same_asked q) (gone ++ left) ≡ true
      among q is = is-there (gone ++ left) q (some-left q (sym (any-times asked_cmp_total q left) ∙ is))

pub order-all : (gone : List Question) (kept : Kept) → IsTrue (are_kept kept) → IsTrue (are_kept (unwanted_all gone kept))
order-all [] kept sorted = sorted
order-all (g ∷ gone) kept sorted = order-all gone (without_reason g kept) (order-less g kept sorted)

pub bounds-all : ReasonsKeepBounds → (rows : LinkRows) (gone : List Question) (kept : Kept) → IsTrue (are_kept kept) → AreBounds rows kept → AreBounds rows (unwanted_all gone kept)
bounds-all keeps rows [] kept sorted bounds = bounds
bounds-all keeps rows (g ∷ gone) kept sorted bounds = bounds-all keeps rows gone (without_reason g kept) (order-less g kept sorted) (keeps rows g kept sorted bounds).1
