-- The further times of those that watch a name more than once: one more and one less.
use Rattle.std.proofs.Common.{◌≡◌, ℕ, zero, suc, ◌+◌, ◌-◌, ◌*◌, ◌<◌, Bool, true, false, cond, ◌||◌, List, [], ◌∷◌, ◌++◌, length, get_or, set, Some, None, refl, sym, ap, subst, ◌∙◌, arith}
use Rattle.std.specs.Prelude.{◌==◌, nat_lt, replicate, Result, Ok, Err, OnOk, OnErr}
use Rattle.std.specs.List.{list_any, position, remove, sum_by}
use Rattle.std.proofs.lemmas.Bool.{eq-eqb, eqb-true, lt-ltb}
use Rattle.std.proofs.lemmas.List.Folds.{sum_by-replicate}
use Rattle.std.proofs.lemmas.List.Quantifiers.{position-Some}
use Rattle.std.proofs.lemmas.List.Sums.{sum_by-cons, sum_by-remove, sum_by-set, sum_by_push}
use Rattle.rrset.proofs.Distinct.{no_place}
use Rattle.subscr.specs.Numbers.{AreKept, again_of}
use Rattle.subscr.specs.Watching.{is_in, times}
use Rattle.subscr.specs.declared.sessions.Again.{Again}
use Rattle.subscr.proofs.Counts.{IsLess, IsMore, is_in-times, none_less, one, times-append}

-- how often one of them has a number
abbrev has : ℕ → Again → ℕ
has q a = one (a.session == q) + a.besides * one (a.session == q)

pub times-again : (q : ℕ) (again : List Again) → times q (again_of again) ≡ sum_by (has q) again
times-again q [] = refl
times-again q (a ∷ others) =
    sum_by-cons (λ (n : ℕ). one (n == q)) a.session (replicate a.besides a.session ++ again_of others)
    ∙ ap (λ (n : ℕ). one (a.session == q) + n)
    (times-append q (replicate a.besides a.session) (again_of others)
    ∙ ap (λ (n : ℕ). n + times q (again_of others)) (sum_by-replicate (λ (n : ℕ). one (n == q)) a.besides a.session)
    ∙ ap (λ (n : ℕ). a.besides * one (a.session == q) + n) (times-again q others))
    ∙ sums (one (a.session == q)) (a.besides * one (a.session == q)) (sum_by (has q) others)
    ∙ sym (sum_by-cons (has q) a others)
  where
    sums : (a b c : ℕ) → a + (b + c) ≡ (a + b) + c
    sums a b c = omega arith

-- one more of a number that is there
pub again-more : (again : List Again) (place besides : ℕ) (a : Again) → place < length again → besides ≡ (get_or again place a).besides + 1
    → IsMore (get_or again place a).session (again_of again) (again_of (set again place (record { session = (get_or again place a).session; besides = besides })))
again-more again place besides a within is q =
    let there = get_or again place a in
    let more : Again = record { session = there.session; besides = besides } in
    let sum = sum_by-set (has q) again place more a within in
    times-again q (set again place more)
    ∙ by (there.session == q) besides there.besides (sum_by (has q) again) (sum_by (has q) (set again place more)) is sum
    ∙ ap (λ (n : ℕ). cond (there.session == q) (n + 1) n) (sym (times-again q again))
  where
    by : (b : Bool) (m k old new : ℕ) → m ≡ k + 1 → new + (one b + k * one b) ≡ old + (one b + m * one b) → new ≡ cond b (old + 1) old
    by true m k old new is sum = omega (arith, is, sum)
    by false m k old new is sum = omega (arith, is, sum)

pub again-first : (session : ℕ) (again : List Again) → IsMore session (again_of again) (again_of (again ++ (record { session = session; besides = 0 }) ∷ []))
again-first session again q =
    times-again q (again ++ (record { session = session; besides = 0 }) ∷ [])
    ∙ sum_by_push (has q) again (record { session = session; besides = 0 })
    ∙ by (session == q) (sum_by (has q) again)
    ∙ ap (λ (n : ℕ). cond (session == q) (n + 1) n) (sym (times-again q again))
  where
    by : (b : Bool) (n : ℕ) → n + (one b + 0 * one b) ≡ cond b (n + 1) n
    by true n = omega arith
    by false n = omega arith

-- one less
pub again-less : (again : List Again) (place besides : ℕ) (a : Again) → place < length again → besides + 1 ≡ (get_or again place a).besides
    → IsLess (get_or again place a).session (again_of again) (again_of (set again place (record { session = (get_or again place a).session; besides = besides })))
again-less again place besides a within is q =
    let there = get_or again place a in
    let fewer : Again = record { session = there.session; besides = besides } in
    let sum = sum_by-set (has q) again place fewer a within in
    times-again q (set again place fewer)
    ∙ by (there.session == q) besides there.besides (sum_by (has q) again) (sum_by (has q) (set again place fewer)) is sum
    ∙ ap (λ (n : ℕ). cond (there.session == q) (n - 1) n) (sym (times-again q again))
  where
    by : (b : Bool) (m k old new : ℕ) → m + 1 ≡ k → new + (one b + k * one b) ≡ old + (one b + m * one b) → new ≡ cond b (old - 1) old
    by true m k old new is sum = omega (arith, is, sum)
    by false m k old new is sum = omega (arith, is, sum)

pub again-last : (again : List Again) (place : ℕ) (a : Again) → place < length again → (get_or again place a).besides ≡ 0 → IsLess (get_or again place a).session (again_of again) (again_of (remove again place))
again-last again place a within is q =
    let there = get_or again place a in
    let sum = sum_by-remove (has q) again place a within in
    times-again q (remove again place)
    ∙ by (there.session == q) there.besides (sum_by (has q) again) (sum_by (has q) (remove again place)) is sum
    ∙ ap (λ (n : ℕ). cond (there.session == q) (n - 1) n) (sym (times-again q again))
  where
    by : (b : Bool) (k old new : ℕ) → k ≡ 0 → new + (one b + k * one b) ≡ old → new ≡ cond b (old - 1) old
    by true k old new is sum = omega (arith, is, sum)
    by false k old new is sum = omega (arith, is, sum)

-- ---- a search

pub again-none : (session : ℕ) (again : List Again) → list_any (λ a. a.session == session) again ≡ false → is_in session (again_of again) ≡ false
again-none session again none = is_in-times session (again_of again) ∙ ap (nat_lt 0) (times-again session again ∙ no_more again none) ∙ refl
  where
    no_more : (others : List Again) → list_any (λ a. a.session == session) others ≡ false → sum_by (has session) others ≡ 0
    no_more [] none = refl
    no_more (a ∷ others) none = sum_by-cons (has session) a others ∙ by (a.session == session) none (no_more others)
      where
        by : (b : Bool) → (b || list_any (λ o. o.session == session) others) ≡ false → (list_any (λ o. o.session == session) others ≡ false → sum_by (has session) others ≡ 0)
            → (one b + a.besides * one b) + sum_by (has session) others ≡ 0
        by true none rest = absurd cc
        by false none rest = omega (arith, rest none)

pub again-some : (session : ℕ) (again : List Again) (place : ℕ) (a : Again) → place < length again → (get_or again place a).session ≡ session → is_in session (again_of again) ≡ true
again-some session again place a within is =
    let there = get_or again place a in
    let sum = sum_by-remove (has session) again place a within in
    let here : (there.session == session) ≡ true = ap (λ (n : ℕ). there.session == n) (sym is) ∙ same there.session in
    is_in-times session (again_of again)
    ∙ ap (nat_lt 0) (times-again session again)
    ∙ lt-ltb 0 (sum_by (has session) again) (by (there.session == session) there.besides (sum_by (has session) again) (sum_by (has session) (remove again place)) here sum)
  where
    same : (n : ℕ) → (n == n) ≡ true
    same n = eq-eqb n n refl

    by : (b : Bool) (k old new : ℕ) → b ≡ true → new + (one b + k * one b) ≡ old → 0 < old
    by true k old new is sum = omega (arith, sum)
    by false k old new is sum = absurd cc

-- ---- as code reads and writes one

get_or-any : (again : List Again) (place : ℕ) (a b : Again) → place < length again → get_or again place a ≡ get_or again place b
get_or-any [] place a b within = absurd (omega (arith, within))
get_or-any (x ∷ others) zero a b within = refl
get_or-any (x ∷ others) (suc place) a b within = get_or-any others place a b (omega (arith, within))

pub counted-more : (again : List Again) (place : ℕ) (was now a : Again) → place < length again → was ≡ get_or again place was → now ≡ get_or again place now
    → IsMore (get_or again place a).session (again_of again) (again_of (set again place (record { session = now.session; besides = was.besides + 1 })))
counted-more again place was now a within first second =
    let there : now ≡ get_or again place a = second ∙ get_or-any again place now a within in
    let same : was ≡ get_or again place a = first ∙ get_or-any again place was a within in
    subst (λ (n : ℕ). IsMore (get_or again place a).session (again_of again) (again_of (set again place (record { session = n; besides = was.besides + 1 }))))
    (sym (ap (λ (o : Again). o.session) there))
    (again-more again place (was.besides + 1) a within (ap (λ (o : Again). o.besides + 1) same))

pub counted-less : (again : List Again) (place : ℕ) (was now a : Again) → place < length again → was ≡ get_or again place was → now ≡ get_or again place now → 0 < was.besides
    → IsLess (get_or again place a).session (again_of again) (again_of (set again place (record { session = now.session; besides = was.besides - 1 })))
counted-less again place was now a within first second some =
    let there : now ≡ get_or again place a = second ∙ get_or-any again place now a within in
    let same : was.besides ≡ (get_or again place a).besides = ap (λ (o : Again). o.besides) (first ∙ get_or-any again place was a within) in
    subst (λ (n : ℕ). IsLess (get_or again place a).session (again_of again) (again_of (set again place (record { session = n; besides = was.besides - 1 }))))
    (sym (ap (λ (o : Again). o.session) there))
    (again-less again place (was.besides - 1) a within (omega (arith, same, some)))

pub counted-last : (again : List Again) (place : ℕ) (was a : Again) → place < length again → was ≡ get_or again place was → was.besides ≡ 0
    → IsLess (get_or again place a).session (again_of again) (again_of (remove again place))
counted-last again place was a within first none =
    again-last again place a within (sym (ap (λ (o : Again). o.besides) (first ∙ get_or-any again place was a within)) ∙ none)

-- what a search says of the session at its place
pub record IsPlace (session : ℕ) (again : List Again) (place : ℕ) (a : Again) : Type 0 where
  pub within : place < length again
  pub session-is : (get_or again place a).session ≡ session

pub at-place : (session : ℕ) (again : List Again) (place : ℕ) (a : Again) → Some place ≡ position (λ o. o.session == session) again → IsPlace session again place a
at-place session again place a is =
    let at = position-Some (λ (o : Again). o.session == session) again place a (sym is) in
    record { within = at.0; session-is = eqb-true (get_or again place a).session session at.1 }

pub no-place : (session : ℕ) (again : List Again) → None ≡ position (λ o. o.session == session) again → is_in session (again_of again) ≡ false
no-place session again is = again-none session again (no_place (λ o. o.session == session) again (sym is))

pub less-none : (session : ℕ) (again : List Again) → is_in session (again_of again) ≡ false → IsLess session (again_of again) (again_of again)
less-none session again none q = none_less q session (again_of again) none

-- one more of a number that stands there leaves those that are kept
pub kept-further : (session : ℕ) (numbers again more : List ℕ) → AreKept numbers again → is_in session numbers ≡ true → IsMore session again more → AreKept numbers more
kept-further session numbers again more are there is = record { rising = are.rising; known = λ q some. by q (session == q) refl (is q) some }
  where
    by : (q : ℕ) (b : Bool) → (session == q) ≡ b → times q more ≡ cond (session == q) (times q again + 1) (times q again) → is_in q more ≡ true → is_in q numbers ≡ true
    by q true same e some = ap (λ (n : ℕ). is_in n numbers) (sym (eqb-true session q same)) ∙ there
    by q false other e some =
        let as_often : times q more ≡ times q again = e ∙ ap (λ (b : Bool). cond b (times q again + 1) (times q again)) other in
        are.known q (is_in-times q again ∙ ap (nat_lt 0) (sym as_often) ∙ sym (is_in-times q more) ∙ some)

plus_further : (b : Bool) (k m n : ℕ) → n ≡ cond b (m + 1) m → k + n ≡ cond b (k + m + 1) (k + m)
plus_further true k m n e = omega (arith, e)
plus_further false k m n e = omega (arith, e)

pub more-further : (session : ℕ) (numbers again more : List ℕ) → IsMore session again more → IsMore session (numbers ++ again) (numbers ++ more)
more-further session numbers again more is q =
    times-append q numbers more
    ∙ plus_further (session == q) (times q numbers) (times q again) (times q more) (is q)
    ∙ ap (λ (n : ℕ). cond (session == q) (n + 1) n) (sym (times-append q numbers again))

-- where a number that stands there comes once more, or memory ran out
pub kept-whatever : {A E : Type 0} (r : Result A E) (session : ℕ) (numbers : List ℕ) (old new : List Again) → AreKept numbers (again_of old) → is_in session numbers ≡ true
    → OnOk r (IsMore session (again_of old) (again_of new)) → OnErr r (new ≡ old) → AreKept numbers (again_of new)
kept-whatever (Ok x) session numbers old new are there more same = kept-further session numbers (again_of old) (again_of new) are there more
kept-whatever (Err e) session numbers old new are there more same = subst (λ (l : List Again). AreKept numbers (again_of l)) (sym same) are
