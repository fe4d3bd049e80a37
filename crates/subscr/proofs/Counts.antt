-- Numbers of sessions: how often each stands in a list, and lists that rise.
use Rattle.std.proofs.Common.{◌≡◌, ℕ, zero, suc, ◌+◌, ◌-◌, ◌<◌, ◌≤◌, Bool, true, false, cond, not, ◌||◌, ◌&&◌, List, [], ◌∷◌, ◌++◌, length, get_or, Some, None, refl, sym, ap, ◌∙◌, arith}
use Rattle.std.specs.Prelude.{◌==◌, nat_lt}
use Rattle.std.specs.List.{insert, position, position_or_len, remove}
use Rattle.std.proofs.lemmas.Bool.{eqb-true, eqb-false, ltb-true, ltb-false, lt-ltb, le-ltb}
use Rattle.std.proofs.lemmas.List.Folds.{list_any-append, list_any_at}
use Rattle.std.proofs.lemmas.List.Quantifiers.{position-Some}
use Rattle.std.proofs.lemmas.List.Sums.{fails_before_first, passes_at_first, prefix_len-le-length, sum_by-append, sum_by-cons, sum_by-insert, sum_by-remove, sum_by_push}
use Rattle.subscr.specs.Numbers.{AreKept}
use Rattle.subscr.specs.Watching.{are_rising, is_in, times}

abbrev pub one : Bool → ℕ
one b = cond b 1 0

-- ---- how often a number stands in a list

pub there : (b : Bool) (n : ℕ) → (b || nat_lt 0 n) ≡ nat_lt 0 (one b + n)
there true n = sym (lt-ltb 0 (1 + n) (omega arith))
there false n = let e : n ≡ 0 + n = omega arith in ap (nat_lt 0) e

pub is_in-times : (q : ℕ) (xs : List ℕ) → is_in q xs ≡ nat_lt 0 (times q xs)
is_in-times q [] = refl
is_in-times q (x ∷ xs) =
    ap (λ (b : Bool). (x == q) || b) (is_in-times q xs)
    ∙ there (x == q) (times q xs)
    ∙ ap (nat_lt 0) (sym (sum_by-cons (λ (y : ℕ). one (y == q)) x xs))

pub times-append : (q : ℕ) (xs ys : List ℕ) → times q (xs ++ ys) ≡ times q xs + times q ys
times-append q xs ys = sum_by-append (λ (y : ℕ). one (y == q)) xs ys

pub more_by : (b : Bool) (n : ℕ) → n + one b ≡ cond b (n + 1) n
more_by true n = refl
more_by false n = omega arith

pub times-push : (q s : ℕ) (xs : List ℕ) → times q (xs ++ s ∷ []) ≡ cond (s == q) (times q xs + 1) (times q xs)
times-push q s xs = sum_by_push (λ (y : ℕ). one (y == q)) xs s ∙ more_by (s == q) (times q xs)

pub times-insert : (q s : ℕ) (xs : List ℕ) (i : ℕ) → times q (insert xs i s) ≡ cond (s == q) (times q xs + 1) (times q xs)
times-insert q s xs i = sum_by-insert (λ (y : ℕ). one (y == q)) xs i s ∙ more_by (s == q) (times q xs)

pub less_by : (b : Bool) (m n : ℕ) → m + one b ≡ n → m ≡ cond b (n - 1) n
less_by true m n e = omega (arith, e)
less_by false m n e = omega (arith, e)

pub times-remove : (q s : ℕ) (xs : List ℕ) (i : ℕ) → i < length xs → get_or xs i 0 ≡ s → times q (remove xs i) ≡ cond (s == q) (times q xs - 1) (times q xs)
times-remove q s xs i within is =
    less_by (s == q) (times q (remove xs i)) (times q xs)
    (ap (λ (d : ℕ). times q (remove xs i) + one (d == q)) (sym is) ∙ sum_by-remove (λ (y : ℕ). one (y == q)) xs i 0 within)

pub no_times : (q : ℕ) (xs : List ℕ) → is_in q xs ≡ false → times q xs ≡ 0
no_times q xs none = let small = ltb-false 0 (times q xs) (sym (is_in-times q xs) ∙ none) in omega (arith, small)

pub some_times : (q : ℕ) (xs : List ℕ) → is_in q xs ≡ true → 0 < times q xs
some_times q xs some = ltb-true 0 (times q xs) (sym (is_in-times q xs) ∙ some)

-- ---- lists that rise

abbrev above : ℕ → List ℕ → Bool
above n [] = true
above n (m ∷ ms) = nat_lt n m

both : (a b : Bool) → a ≡ true → b ≡ true → (a && b) ≡ true
both true b e f = f
both false b e f = absurd cc

split : (a b : Bool) → (a && b) ≡ true → (a ≡ true) × (b ≡ true)
split true b e = (refl, e)
split false b e = absurd cc

rising-cons : (n : ℕ) (xs : List ℕ) → above n xs ≡ true → are_rising xs ≡ true → are_rising (n ∷ xs) ≡ true
rising-cons n [] low rising = refl
rising-cons n (m ∷ ms) low rising = both (nat_lt n m) (are_rising (m ∷ ms)) low rising

rising-first : (n : ℕ) (xs : List ℕ) → are_rising (n ∷ xs) ≡ true → above n xs ≡ true
rising-first n [] rising = refl
rising-first n (m ∷ ms) rising = (split (nat_lt n m) (are_rising (m ∷ ms)) rising).0

rising-rest : (n : ℕ) (xs : List ℕ) → are_rising (n ∷ xs) ≡ true → are_rising xs ≡ true
rising-rest n [] rising = refl
rising-rest n (m ∷ ms) rising = (split (nat_lt n m) (are_rising (m ∷ ms)) rising).1

below-on : (n m k : ℕ) → nat_lt n m ≡ true → nat_lt m k ≡ true → nat_lt n k ≡ true
below-on n m k e f = lt-ltb n k (omega (arith, ltb-true n m e, ltb-true m k f))

above-on : (n m : ℕ) (ks : List ℕ) → nat_lt n m ≡ true → above m ks ≡ true → above n ks ≡ true
above-on n m [] e f = refl
above-on n m (k ∷ ks) e f = below-on n m k e f

above-remove : (n : ℕ) (xs : List ℕ) (i : ℕ) → above n xs ≡ true → are_rising xs ≡ true → i < length xs → above n (remove xs i) ≡ true
above-remove n [] i low rising within = absurd (omega arith)
above-remove n (m ∷ ms) zero low rising within = above-on n m ms low (rising-first m ms rising)
above-remove n (m ∷ ms) (suc i) low rising within = low

pub rising-remove : (xs : List ℕ) (i : ℕ) → i < length xs → are_rising xs ≡ true → are_rising (remove xs i) ≡ true
rising-remove [] i within rising = absurd (omega arith)
rising-remove (n ∷ ns) zero within rising = rising-rest n ns rising
rising-remove (n ∷ ns) (suc i) within rising =
    let rest = rising-rest n ns rising in
    rising-cons n (remove ns i) (above-remove n ns i (rising-first n ns rising) rest (omega arith)) (rising-remove ns i (omega arith) rest)

above-insert : (n s : ℕ) (xs : List ℕ) (i : ℕ) → nat_lt n s ≡ true → above n xs ≡ true → above n (insert xs i s) ≡ true
above-insert n s [] zero under low = under
above-insert n s [] (suc i) under low = under
above-insert n s (m ∷ ms) zero under low = under
above-insert n s (m ∷ ms) (suc i) under low = low

either_no : (a b : Bool) → (a || b) ≡ false → (a ≡ false) × (b ≡ false)
either_no true b e = absurd cc
either_no false b e = (refl, e)

under : (n s : ℕ) → nat_lt s n ≡ false → (n == s) ≡ false → nat_lt n s ≡ true
under n s at_least other = lt-ltb n s (by (ltb-false s n at_least) (eqb-false n s other))
  where
    by : n ≤ s → (n ≡ s → ⊥) → n < s
    by low apart = omega (arith, low, apart)

pub rising-insert : (s : ℕ) (xs : List ℕ) (i : ℕ) → are_rising xs ≡ true → is_in s xs ≡ false → ((k : ℕ) → k < i → nat_lt s (get_or xs k 0) ≡ false) → (i < length xs → nat_lt s (get_or xs i 0) ≡ true)
    → are_rising (insert xs i s) ≡ true
rising-insert s [] zero rising other before behind = refl
rising-insert s [] (suc i) rising other before behind = refl
rising-insert s (n ∷ ns) zero rising other before behind = both (nat_lt s n) (are_rising (n ∷ ns)) (behind (omega arith)) rising
rising-insert s (n ∷ ns) (suc i) rising other before behind =
    let none = either_no (n == s) (is_in s ns) other in
    rising-cons n (insert ns i s)
    (above-insert n s ns i (under n s (before 0 (omega arith)) none.0) (rising-first n ns rising))
    (rising-insert s ns i (rising-rest n ns rising) none.1 (λ k low. before (suc k) (omega arith)) (λ within. behind (omega arith)))

pub rising-placed : (s : ℕ) (xs : List ℕ) (i : ℕ) → i ≡ position_or_len (λ n. nat_lt s n) xs → are_rising xs ≡ true → is_in s xs ≡ false → are_rising (insert xs i s) ≡ true
rising-placed s xs i is rising other =
    ap (λ (j : ℕ). are_rising (insert xs j s)) is
    ∙ rising-insert s xs (position_or_len (λ n. nat_lt s n) xs) rising other (λ k low. fails_before_first (λ n. nat_lt s n) xs k 0 low) (λ within. passes_at_first (λ n. nat_lt s n) xs 0 within)

pub place-some : (s : ℕ) (xs : List ℕ) (i : ℕ) → Some i ≡ position (λ n. nat_lt s n) xs → i ≡ position_or_len (λ n. nat_lt s n) xs
place-some s xs i is = by (nat_lt (position_or_len (λ n. nat_lt s n) xs) (length xs)) is
  where
    by : (b : Bool) → Some i ≡ cond b (Some (position_or_len (λ n. nat_lt s n) xs)) None → i ≡ position_or_len (λ n. nat_lt s n) xs
    by true e = cc
    by false e = absurd cc

pub place-none : (s : ℕ) (xs : List ℕ) → None ≡ position (λ n. nat_lt s n) xs → length xs ≡ position_or_len (λ n. nat_lt s n) xs
place-none s xs is = by (nat_lt (position_or_len (λ n. nat_lt s n) xs) (length xs)) refl is
  where
    by : (b : Bool) → nat_lt (position_or_len (λ n. nat_lt s n) xs) (length xs) ≡ b → None ≡ cond b (Some (position_or_len (λ n. nat_lt s n) xs)) None → length xs ≡ position_or_len (λ n. nat_lt s n) xs
    by true at e = absurd cc
    by false at e = omega (arith, ltb-false (position_or_len (λ n. nat_lt s n) xs) (length xs) at, prefix_len-le-length (λ n. not (nat_lt s n)) xs)

pub place-le : (s : ℕ) (xs : List ℕ) (i : ℕ) → i ≡ position_or_len (λ n. nat_lt s n) xs → i ≤ length xs
place-le s xs i is = omega (arith, is, prefix_len-le-length (λ n. not (nat_lt s n)) xs)

-- ---- the sessions of a name

pub none_less : (q s : ℕ) (xs : List ℕ) → is_in s xs ≡ false → times q xs ≡ cond (s == q) (times q xs - 1) (times q xs)
none_less q s xs none = by (s == q) refl
  where
    by : (b : Bool) → (s == q) ≡ b → times q xs ≡ cond b (times q xs - 1) (times q xs)
    by true is = let e : times q xs ≡ 0 = no_times q xs (ap (λ (n : ℕ). is_in n xs) (sym (eqb-true s q is)) ∙ none) in omega (arith, e)
    by false is = refl

pub place-less : (s : ℕ) (xs : List ℕ) (i : ℕ) → Some i ≡ position (λ n. n == s) xs → (q : ℕ) → times q (remove xs i) ≡ cond (s == q) (times q xs - 1) (times q xs)
place-less s xs i is q = let at = position-Some (λ n. n == s) xs i 0 (sym is) in times-remove q s xs i at.0 (eqb-true (get_or xs i 0) s at.1)

pub place-rising : (s : ℕ) (xs : List ℕ) (i : ℕ) → Some i ≡ position (λ n. n == s) xs → are_rising xs ≡ true → are_rising (remove xs i) ≡ true
place-rising s xs i is = let at = position-Some (λ n. n == s) xs i 0 (sym is) in rising-remove xs i at.0

pub place-there : (s : ℕ) (xs : List ℕ) (i : ℕ) → Some i ≡ position (λ n. n == s) xs → true ≡ is_in s xs
place-there s xs i is = let at = position-Some (λ n. n == s) xs i 0 (sym is) in sym (list_any_at (λ n. n == s) xs i 0 at.0 at.1)

abbrev pub IsMore : ℕ → List ℕ → List ℕ → Type 0
IsMore s old new = (q : ℕ) → times q new ≡ cond (s == q) (times q old + 1) (times q old)

abbrev pub IsLess : ℕ → List ℕ → List ℕ → Type 0
IsLess s old new = (q : ℕ) → times q new ≡ cond (s == q) (times q old - 1) (times q old)

still_in : (q : ℕ) (xs ys : List ℕ) → is_in q xs ≡ true → times q xs ≤ times q ys → is_in q ys ≡ true
still_in q xs ys some more = is_in-times q ys ∙ lt-ltb 0 (times q ys) (omega (arith, some_times q xs some, more))

more_than : (b : Bool) (m n : ℕ) → n ≡ cond b (m + 1) m → m ≤ n
more_than true m n e = omega (arith, e)
more_than false m n e = omega (arith, e)

less_than : (b : Bool) (m n : ℕ) → n ≡ cond b (m - 1) m → n ≤ m
less_than true m n e = omega (arith, e)
less_than false m n e = omega (arith, e)

pub kept-more : (s : ℕ) (ns again ms : List ℕ) → AreKept ns again → IsMore s ns ms → are_rising ms ≡ true → AreKept ms again
kept-more s ns again ms are more rising = record {
  rising = rising;
  known = λ q some. still_in q ns ms (are.known q some) (more_than (s == q) (times q ns) (times q ms) (more q));
}

pub kept-again : (s : ℕ) (ns again : List ℕ) → AreKept ns again → is_in s ns ≡ true → AreKept ns (again ++ s ∷ [])
kept-again s ns again are there = record { rising = are.rising; known = λ q some. by q (is_in q again) refl (sym (list_any-append (λ n. n == q) again (s ∷ [])) ∙ some) }
  where
    by : (q : ℕ) (b : Bool) → is_in q again ≡ b → (is_in q again || ((s == q) || false)) ≡ true → is_in q ns ≡ true
    by q true is some = are.known q is
    by q false is some = last (s == q) refl (ap (λ (c : Bool). c || ((s == q) || false)) (sym is) ∙ some)
      where
        last : (c : Bool) → (s == q) ≡ c → (c || false) ≡ true → is_in q ns ≡ true
        last true same e = ap (λ (n : ℕ). is_in n ns) (sym (eqb-true s q same)) ∙ there
        last false same e = absurd cc

-- one of the further ones goes
pub kept-less_again : (s : ℕ) (ns again left : List ℕ) → AreKept ns again → IsLess s again left → AreKept ns left
kept-less_again s ns again left are less = record {
  rising = are.rising;
  known = λ q some. are.known q (still_in q left again some (less_than (s == q) (times q again) (times q left) (less q)));
}

-- the last one of a session goes
pub kept-less : (s : ℕ) (ns again left : List ℕ) → AreKept ns again → is_in s again ≡ false → IsLess s ns left → are_rising left ≡ true → AreKept left again
kept-less s ns again left are none less rising = record { rising = rising; known = λ q some. by q some (s == q) refl (less q) }
  where
    by : (q : ℕ) → is_in q again ≡ true → (b : Bool) → (s == q) ≡ b → times q left ≡ cond (s == q) (times q ns - 1) (times q ns) → is_in q left ≡ true
    by q some true same e = let other : true ≡ false = sym some ∙ ap (λ (n : ℕ). is_in n again) (sym (eqb-true s q same)) ∙ none in absurd cc
    by q some false same e =
        let left_is : times q left ≡ times q ns = e ∙ ap (λ (b : Bool). cond b (times q ns - 1) (times q ns)) same in
        still_in q ns left (are.known q some) (omega (arith, left_is))

plus_more : (b : Bool) (k m n : ℕ) → n ≡ cond b (m + 1) m → n + k ≡ cond b (m + k + 1) (m + k)
plus_more true k m n e = omega (arith, e)
plus_more false k m n e = omega (arith, e)

-- one more among the first
pub more-front : (s : ℕ) (ns again ms : List ℕ) → IsMore s ns ms → IsMore s (ns ++ again) (ms ++ again)
more-front s ns again ms more q =
    times-append q ms again
    ∙ plus_more (s == q) (times q again) (times q ns) (times q ms) (more q)
    ∙ ap (λ (n : ℕ). cond (s == q) (n + 1) n) (sym (times-append q ns again))

plus_less : (b : Bool) (k m n : ℕ) → (b ≡ true → 0 < k) → n ≡ cond b (k - 1) k → m + n ≡ cond b (m + k - 1) (m + k)
plus_less true k m n some e = omega (arith, e, some refl)
plus_less false k m n some e = omega (arith, e)

pub less-again : (s : ℕ) (ns again left : List ℕ) → is_in s again ≡ true → IsLess s again left → IsLess s (ns ++ again) (ns ++ left)
less-again s ns again left there less q =
    times-append q ns left
    ∙ plus_less (s == q) (times q again) (times q ns) (times q left) (λ same. some_times q again (ap (λ (n : ℕ). is_in n again) (sym (eqb-true s q same)) ∙ there)) (less q)
    ∙ ap (λ (n : ℕ). cond (s == q) (n - 1) n) (sym (times-append q ns again))

front_less : (b : Bool) (k m n : ℕ) → (b ≡ true → k ≡ 0) → n ≡ cond b (m - 1) m → n + k ≡ cond b (m + k - 1) (m + k)
front_less true k m n none e = omega (arith, e, none refl)
front_less false k m n none e = omega (arith, e)

pub less-front : (s : ℕ) (ns again left : List ℕ) → is_in s again ≡ false → IsLess s ns left → IsLess s (ns ++ again) (left ++ again)
less-front s ns again left none less q =
    times-append q left again
    ∙ front_less (s == q) (times q again) (times q ns) (times q left) (λ same. no_times q again (ap (λ (n : ℕ). is_in n again) (sym (eqb-true s q same)) ∙ none)) (less q)
    ∙ ap (λ (n : ℕ). cond (s == q) (n - 1) n) (sym (times-append q ns again))

-- of a session that is kept, the first ones tell whether it is there
pub told-first : (q : ℕ) (ns again : List ℕ) → AreKept ns again → is_in q ns ≡ nat_lt 0 (times q (ns ++ again))
told-first q ns again are =
    by (is_in q again) refl
    ∙ sym (list_any-append (λ n. n == q) ns again)
    ∙ is_in-times q (ns ++ again)
  where
    or_same : (b : Bool) → b ≡ (b || false)
    or_same true = refl
    or_same false = refl

    by : (b : Bool) → is_in q again ≡ b → is_in q ns ≡ (is_in q ns || is_in q again)
    by true is = are.known q is ∙ sym (ap (λ (b : Bool). b || is_in q again) (are.known q is))
    by false is = or_same (is_in q ns) ∙ ap (λ (b : Bool). is_in q ns || b) (sym is)

pub none_there : (ns again : List ℕ) → AreKept ns again → ns ≡ [] → (q : ℕ) → times q (ns ++ again) ≡ 0
none_there ns again are none q =
    let e = ltb-false 0 (times q (ns ++ again)) (sym (told-first q ns again are) ∙ ap (is_in q) none) in
    omega (arith, e)

pub no_items : {X : Type 0} (xs : List X) → (length xs == 0) ≡ true → xs ≡ []
no_items [] e = refl
no_items (x ∷ xs) e = let bad : suc (length xs) ≡ 0 = eqb-true (suc (length xs)) 0 e in absurd (omega (arith, bad))

not_in : (q : ℕ) (xs ys : List ℕ) → is_in q xs ≡ false → times q ys ≤ times q xs → is_in q ys ≡ false
not_in q xs ys none fewer = is_in-times q ys ∙ le-ltb 0 (times q ys) (omega (arith, no_times q xs none, fewer))

-- it isn't among the further ones, and the last one goes
pub kept-last : (s : ℕ) (ns again left over : List ℕ) → AreKept ns again → is_in s again ≡ false → IsLess s again over → IsLess s ns left → are_rising left ≡ true → AreKept left over
kept-last s ns again left over are none less last rising =
    kept-less s ns over left (kept-less_again s ns again over are less) (not_in s again over none (less_than (s == s) (times s again) (times s over) (less s))) last rising

pub less-last : (s : ℕ) (ns again left over : List ℕ) → is_in s again ≡ false → IsLess s again over → IsLess s ns left → IsLess s (ns ++ again) (left ++ over)
less-last s ns again left over none less last q =
    times-append q left over
    ∙ ap (λ (n : ℕ). times q left + n) (less q ∙ sym (none_less q s again none))
    ∙ sym (times-append q left again)
    ∙ less-front s ns again left none last q

pub nothing_less : (b : Bool) → 0 ≡ cond b (0 - 1) 0
nothing_less true = refl
nothing_less false = refl
