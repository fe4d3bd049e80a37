-- Sessions in their seats: one is changed where it stands, or one after the other.
--     front f i sessions      the first sessions are changed
use Rattle.std.proofs.Common.{◌≡◌, ℕ, zero, suc, ◌+◌, ◌<◌, ◌≤◌, Bool, true, false, cond, [], ◌∷◌, ◌++◌, not, ◌||◌, length, get_or, set, Option, Some, None, Result, Ok, Err, refl, sym, ap, subst, ◌∙◌, arith}
use Rattle.std.specs.Prelude.{find, position, option_map, ◌==◌, OnOk, OnErr}
use Rattle.std.specs.List.{list_any, AllByRecursion, IsDistinct}
use Rattle.rrset.proofs.Distinct.{distinct_push, distinct_filter}
use Rattle.history.proofs.Positions.{position-cons}
use Rattle.pushsession.specs.Kept.{KeptSession}
use Rattle.livesessions.specs.NumberedSessions as numbered
use Rattle.livesessions.specs.NumberedSessions.{session_in, in_sessions, all_sessions, without_session, AreApart, AreBelow}
use Rattle.livesessions.proofs.SessionLists.{distinct-map, same-number, number-itself, other-number}

abbrev Numbered : Type 0
Numbered = numbered.Numbered KeptSession

-- ---- one after the other

abbrev pub front : (KeptSession → KeptSession) → ℕ → Numbered → Numbered
front f zero xs = xs
front f (suc i) [] = []
front f (suc i) (x ∷ xs) = (x.0, f x.1) ∷ front f i xs

front-all : (f : KeptSession → KeptSession) (i : ℕ) (xs : Numbered) → length xs ≤ i → front f i xs ≡ all_sessions f xs
front-all f zero [] h = refl
front-all f zero (x ∷ xs) h = absurd (omega (arith, h))
front-all f (suc i) [] h = refl
front-all f (suc i) (x ∷ xs) h = ap (λ l. (x.0, f x.1) ∷ l) (front-all f i xs (omega (arith, h)))

front-length : (f : KeptSession → KeptSession) (i : ℕ) (xs : Numbered) → length (front f i xs) ≡ length xs
front-length f zero xs = refl
front-length f (suc i) [] = refl
front-length f (suc i) (x ∷ xs) = ap (λ n. suc n) (front-length f i xs)

front-next : (f : KeptSession → KeptSession) (i : ℕ) (xs : Numbered) (e : ℕ × KeptSession) → i < length (front f i xs) → e ≡ get_or (front f i xs) i e → set (front f i xs) i (e.0, f e.1) ≡ front f (suc i) xs
front-next f zero [] e h is = absurd (omega (arith, h))
front-next f zero (x ∷ xs) e h is = ap (λ (y : ℕ × KeptSession). (y.0, f y.1) ∷ xs) is
front-next f (suc i) [] e h is = absurd (omega (arith, h))
front-next f (suc i) (x ∷ xs) e h is = ap (λ l. (x.0, f x.1) ∷ l) (front-next f i xs e (omega (arith, h)) is)

turn-here : (f : KeptSession → KeptSession) (old now : Numbered) (i : ℕ) (e : ℕ × KeptSession) (new : KeptSession) → i < length now → e ≡ get_or now i e → new ≡ f e.1 → now ≡ front f i old → set now i (e.0, new) ≡ front f (i + 1) old
turn-here f old now i e new h is new_is so_far =
    let next : suc i ≡ i + 1 = omega arith in
    ap (λ n. set now i (e.0, n)) new_is ∙ ap (λ l. set l i (e.0, f e.1)) so_far
    ∙ front-next f i old e (subst (λ (l : Numbered). i < length l) so_far h) (subst (λ (l : Numbered). e ≡ get_or l i e) so_far is)
    ∙ ap (λ n. front f n old) next

-- one session more is changed
pub turn : (f : KeptSession → KeptSession) (old now : Numbered) (i : ℕ) (d : ℕ × KeptSession) (new : KeptSession) → i < length now → d ≡ get_or now i d → new ≡ f (get_or now i d).1 → now ≡ front f i old → set now i ((get_or now i d).0, new) ≡ front f (i + 1) old
turn f old now i d new h is new_is so_far = turn-here f old now i (get_or now i d) new h (ap (get_or now i) is) new_is so_far

-- the same, where the number and the session are one entry
pub turn-entry : (f : KeptSession → KeptSession) (old now : Numbered) (i : ℕ) (d e : ℕ × KeptSession) → i < length now → d ≡ get_or now i d → e ≡ ((get_or now i d).0, f (get_or now i d).1) → now ≡ front f i old → set now i e ≡ front f (i + 1) old
turn-entry f old now i d e h is e_is so_far = ap (set now i) e_is ∙ turn f old now i d (f (get_or now i d).1) h is refl so_far

pub ends : (f : KeptSession → KeptSession) (old now : Numbered) (i : ℕ) → length now ≤ i → now ≡ front f i old → now ≡ all_sessions f old
ends f old now i h so_far = so_far ∙ front-all f i old (omega (arith, h, ap length so_far, front-length f i old))

-- ---- the session of a number

abbrev has_number : ℕ → ℕ × KeptSession → Bool
has_number number e = e.0 == number

same_some : {X : Type 0} (x y : X) → Some x ≡ Some y → x ≡ y
same_some x y e = cc

-- a number that differs from another's
absent-here : (a n m : ℕ) → (a == n) ≡ true → (a == m) ≡ false → (m == n) ≡ false
absent-here a n m is other = by (m == n) refl
  where
    by : (b : Bool) → (m == n) ≡ b → b ≡ false
    by true e = let same : m ≡ a = same-number m n e ∙ sym (same-number a n is) in (let wrong : true ≡ false = sym (number-itself a) ∙ ap (λ x. a == x) (sym same) ∙ other in cc)
    by false e = refl

others : (number : ℕ) (x : ℕ × KeptSession) (xs : Numbered) → (x.0 == number) ≡ true → AllByRecursion (λ y. (x.0 == y.0) ≡ false) xs → AllByRecursion (λ y. (y.0 == number) ≡ false) xs
others number x [] is all = tt
others number x (y ∷ xs) is all = (absent-here x.0 number y.0 is all.0, others number x xs is all.1)

untouched : (number : ℕ) (f : KeptSession → KeptSession) (xs : Numbered) → AllByRecursion (λ y. (y.0 == number) ≡ false) xs → in_sessions number f xs ≡ xs
untouched number f [] all = refl
untouched number f (x ∷ xs) all = ap (λ b. (x.0, cond b (f x.1) x.1) ∷ in_sessions number f xs) all.0 ∙ ap (λ l. x ∷ l) (untouched number f xs all.1)

-- what stands there is found
pub found-here : (number : ℕ) (xs : Numbered) (i : ℕ) (e : ℕ × KeptSession) → position (has_number number) xs ≡ Some i → e ≡ get_or xs i e → session_in number xs ≡ Some e.1
found-here number [] i e at is = cc
found-here number (x ∷ xs) i e at is = by (x.0 == number) (position (has_number number) xs) refl (found-here number xs) (sym (position-cons (has_number number) x xs) ∙ at)
  where
    by : (b : Bool) (o : Option ℕ) → (x.0 == number) ≡ b → ((j : ℕ) (d : ℕ × KeptSession) → o ≡ Some j → d ≡ get_or xs j d → session_in number xs ≡ Some d.1)
        → cond b (Some 0) (option_map suc o) ≡ Some i → option_map (λ (d : ℕ × KeptSession). d.1) (cond b (Some x) (find (has_number number) xs)) ≡ Some e.1
    by true o test rest place =
        let first : e ≡ x = subst (λ (n : ℕ). e ≡ get_or (x ∷ xs) n e) (sym (same_some 0 i place)) is in
        ap (λ (d : ℕ × KeptSession). Some d.1) (sym first)
    by false None test rest place = cc
    by false (Some j) test rest place = rest j e refl (subst (λ (n : ℕ). e ≡ get_or (x ∷ xs) n e) (sym (same_some (suc j) i place)) is)

-- the session of this number alone is changed
pub changed-here : (number : ℕ) (f : KeptSession → KeptSession) (xs : Numbered) (i : ℕ) (e : ℕ × KeptSession) → AreApart xs → position (has_number number) xs ≡ Some i → e ≡ get_or xs i e → set xs i (e.0, f e.1) ≡ in_sessions number f xs
unfolding IsDistinct
changed-here number f [] i e apart at is = cc
changed-here number f (x ∷ xs) i e apart at is = by (x.0 == number) (position (has_number number) xs) refl (λ j d. changed-here number f xs j d apart.1) (sym (position-cons (has_number number) x xs) ∙ at)
  where
    by : (b : Bool) (o : Option ℕ) → (x.0 == number) ≡ b → ((j : ℕ) (d : ℕ × KeptSession) → o ≡ Some j → d ≡ get_or xs j d → set xs j (d.0, f d.1) ≡ in_sessions number f xs)
        → cond b (Some 0) (option_map suc o) ≡ Some i → set (x ∷ xs) i (e.0, f e.1) ≡ (x.0, cond b (f x.1) x.1) ∷ in_sessions number f xs
    by true o test rest place =
        let zero_is = same_some 0 i place in
        let first : e ≡ x = subst (λ (n : ℕ). e ≡ get_or (x ∷ xs) n e) (sym zero_is) is in
        ap (λ n. set (x ∷ xs) n (e.0, f e.1)) (sym zero_is) ∙ ap (λ (d : ℕ × KeptSession). (d.0, f d.1) ∷ xs) first ∙ ap (λ l. (x.0, f x.1) ∷ l) (sym (untouched number f xs (others number x xs test apart.0)))
    by false None test rest place = cc
    by false (Some j) test rest place =
        let next = same_some (suc j) i place in
        ap (λ n. set (x ∷ xs) n (e.0, f e.1)) (sym next) ∙ ap (λ l. x ∷ l) (rest j e refl (subst (λ (n : ℕ). e ≡ get_or (x ∷ xs) n e) (sym next) is))

-- where there is no such session, none is found
pub found-none : (number : ℕ) (xs : Numbered) → position (has_number number) xs ≡ None → session_in number xs ≡ None
found-none number [] at = refl
found-none number (x ∷ xs) at = by (x.0 == number) (position (has_number number) xs) (found-none number xs) (sym (position-cons (has_number number) x xs) ∙ at)
  where
    by : (b : Bool) (o : Option ℕ) → (o ≡ None → session_in number xs ≡ None) → cond b (Some 0) (option_map suc o) ≡ None → option_map (λ (d : ℕ × KeptSession). d.1) (cond b (Some x) (find (has_number number) xs)) ≡ None
    by true o rest e = cc
    by false None rest e = rest refl
    by false (Some j) rest e = cc

-- ---- two changes that agree on the session that is found are one

others-alike : (number : ℕ) (f g : KeptSession → KeptSession) (xs : Numbered) → AllByRecursion (λ y. (y.0 == number) ≡ false) xs → in_sessions number f xs ≡ in_sessions number g xs
others-alike number f g xs all = untouched number f xs all ∙ sym (untouched number g xs all)

pub alike : (number : ℕ) (f g : KeptSession → KeptSession) (xs : Numbered) (s : KeptSession) → AreApart xs → session_in number xs ≡ Some s → f s ≡ g s → in_sessions number f xs ≡ in_sessions number g xs
unfolding IsDistinct
alike number f g [] s apart at same = refl
alike number f g (x ∷ xs) s apart at same = by (x.0 == number) refl (alike number f g xs s apart.1) at
  where
    by : (b : Bool) → (x.0 == number) ≡ b → (session_in number xs ≡ Some s → f s ≡ g s → in_sessions number f xs ≡ in_sessions number g xs)
        → option_map (λ (d : ℕ × KeptSession). d.1) (cond b (Some x) (find (has_number number) xs)) ≡ Some s
        → (x.0, cond b (f x.1) x.1) ∷ in_sessions number f xs ≡ (x.0, cond b (g x.1) x.1) ∷ in_sessions number g xs
    by true test rest at =
        let first : x.1 ≡ s = same_some x.1 s at in
        let here : f x.1 ≡ g x.1 = ap f first ∙ same ∙ ap g (sym first) in
        ap (λ y. (x.0, y) ∷ in_sessions number f xs) here ∙ ap (λ l. (x.0, g x.1) ∷ l) (others-alike number f g xs (others number x xs test apart.0))
    by false test rest at = ap (λ l. x ∷ l) (rest at same)

pub itself : (number : ℕ) (xs : Numbered) → in_sessions number (λ s. s) xs ≡ xs
itself number [] = refl
itself number (x ∷ xs) = by (x.0 == number) ∙ ap (λ l. x ∷ l) (itself number xs)
  where
    by : (b : Bool) → (x.0, cond b x.1 x.1) ∷ in_sessions number (λ s. s) xs ≡ x ∷ in_sessions number (λ s. s) xs
    by true = refl
    by false = refl

-- ---- numbers stay apart

pub apart-in : (number : ℕ) (f : KeptSession → KeptSession) (xs : Numbered) → AreApart xs → AreApart (in_sessions number f xs)
apart-in number f xs apart = distinct-map (λ (e : ℕ × KeptSession). cond (e.0 == number) (f e.1) e.1) xs apart

pub apart-all : (f : KeptSession → KeptSession) (xs : Numbered) → AreApart xs → AreApart (all_sessions f xs)
apart-all f xs apart = distinct-map (λ (e : ℕ × KeptSession). f e.1) xs apart

-- ---- a session that is lent out of its place

here : (number : ℕ) (ys xs : Numbered) (i : ℕ) → ys ≡ xs → Some i ≡ position (has_number number) ys → position (has_number number) xs ≡ Some i
here number ys xs i same at = ap (position (has_number number)) (sym same) ∙ sym at

pub seat-lent : (number : ℕ) (ys xs : Numbered) (i : ℕ) (d : ℕ × KeptSession) (last : KeptSession) → AreApart xs → ys ≡ xs → Some i ≡ position (has_number number) ys → d ≡ get_or xs i d → set xs i (d.0, last) ≡ in_sessions number (λ _. last) xs
seat-lent number ys xs i d last apart same at is = changed-here number (λ _. last) xs i d apart (here number ys xs i same at) is

pub seat-found : (number : ℕ) (ys xs : Numbered) (i : ℕ) (d : ℕ × KeptSession) → ys ≡ xs → Some i ≡ position (has_number number) ys → d ≡ get_or xs i d → session_in number xs ≡ Some d.1
seat-found number ys xs i d same at is = found-here number xs i d (here number ys xs i same at) is

pub lent-apart : (number : ℕ) (ys xs : Numbered) (i : ℕ) (d : ℕ × KeptSession) (last : KeptSession) → AreApart xs → ys ≡ xs → Some i ≡ position (has_number number) ys → d ≡ get_or xs i d → AreApart (set xs i (d.0, last))
lent-apart number ys xs i d last apart same at is = subst AreApart (sym (seat-lent number ys xs i d last apart same at is)) (apart-in number (λ _. last) xs apart)

pub no_seat-found : (number : ℕ) (ys xs : Numbered) → ys ≡ xs → None ≡ position (has_number number) ys → session_in number xs ≡ None
no_seat-found number ys xs same at = found-none number xs (ap (position (has_number number)) (sym same) ∙ sym at)

-- ---- one comes, and one goes

pub apart-left : (number : ℕ) (xs : Numbered) → AreApart xs → AreApart (without_session number xs)
apart-left number xs apart = distinct_filter (λ (d e : ℕ × KeptSession). d.0 == e.0) (λ e. not (e.0 == number)) xs apart

pub apart-last : (xs : Numbered) (number : ℕ) (s : KeptSession) → AreApart xs → list_any (has_number number) xs ≡ false → AreApart (xs ++ (number, s) ∷ [])
apart-last xs number s apart new = distinct_push (λ (d e : ℕ × KeptSession). d.0 == e.0) xs (number, s) apart new

-- a number that comes next is new
pub below-new : (made : ℕ) (xs : Numbered) → AreBelow made xs → list_any (has_number made) xs ≡ false
below-new made [] below = refl
below-new made (x ∷ xs) below = ap (λ b. b || list_any (has_number made) xs) (other-number x.0 made (λ same. omega (arith, below.0, same))) ∙ below-new made xs below.1

-- all are changed, or none is
pub apart-either : {A E : Type 0} (f : KeptSession → KeptSession) (old new : Numbered) (r : Result A E) → OnOk r (new ≡ all_sessions f old) → OnErr r (new ≡ old) → AreApart old → AreApart new
apart-either f old new (Ok x) ok err apart = subst AreApart (sym ok) (apart-all f old apart)
apart-either f old new (Err e) ok err apart = subst AreApart (sym err) apart
