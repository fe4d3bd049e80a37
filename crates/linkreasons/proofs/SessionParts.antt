-- Reasons of sessions that go, and those that are left.
--     last-splits, popped      the last of a list and the others
--     filter-parts      those that pass a test and the others, by how often a key stands there
--     back-parts, those-parts, clear-parts, end-parts, more-parts      reasons of a session go, or one comes
--     distinct-in, distinct-without, distinct-last, none-there      no number twice
--     Seat, seat-at, seat-gone, no-seat      where a session stands
use Rattle.std.proofs.Common.{◌≡◌, ℕ, ◌+◌, ◌-◌, Bool, true, false, cond, not, ◌||◌, List, [], ◌∷◌, ◌++◌, map, take, Option, Some, None, refl, sym, ap, ◌∙◌, arith}
use Rattle.std.proofs.lemmas.Bool.Decides.{nat_tests}
use Rattle.std.specs.Prelude.{MatchOption, filter, option_to_list, ◌==◌}
use Rattle.rrset.specs.declared.record.Question.{Question}
use Rattle.subscr.specs.Asked.{Asked, has}
use Rattle.linkask.specs.Asking.{asked_cmp}
use Rattle.linkask.proofs.Order.{asked_cmp_total}
use Rattle.linkreasons.specs.AllReasons.{but_last, in_session, questions_for, session_questions, with_those, without_session}
use Rattle.linkreasons.specs.Changing.{gone_in, is_there, last_of}
use Rattle.linkreasons.specs.Counting.{AreDistinct}
use Rattle.linkreasons.specs.Tallies.{times}
use Rattle.linkreasons.specs.declared.reason.Reason.{Reason}
use Rattle.linkreasons.proofs.ManyLinks.{Parts, Sessions}
use Rattle.linkreasons.proofs.Tally.{times-append}

-- ---- lists

pub last-splits : {X : Type 0} (xs : List X) → xs ≡ but_last xs ++ last_of xs
last-splits [] = refl
last-splits (x ∷ []) = refl
last-splits (x ∷ y ∷ ys) = ap (λ l. x ∷ l) (last-splits (y ∷ ys))

pub last-push : {X : Type 0} (xs : List X) (x : X) → (but_last (xs ++ x ∷ []) ≡ xs) × (last_of (xs ++ x ∷ []) ≡ x ∷ [])
last-push [] x = (refl, refl)
last-push (y ∷ []) x = (refl, refl)
last-push (y ∷ z ∷ zs) x = let rest = last-push (z ∷ zs) x in (ap (λ l. y ∷ l) rest.0, rest.1)

-- what a pop leaves and gives
pub popped : {X : Type 0} (xs ys : List X) (o : Option X) (m n : ℕ) → xs ≡ ys ++ option_to_list o → ys ≡ take (m - 1) xs → MatchOption o ((m ≡ 0) × (n ≡ 0)) (λ _. n + 1 ≡ m) → (ys ≡ but_last xs) × (option_to_list o ≡ last_of xs)
popped xs ys None m n is rest cases =
    let e : ys ≡ [] = rest ∙ ap (λ k. take (k - 1) xs) cases.0 in
    let nothing : xs ≡ [] = is ∙ ap (λ l. l ++ []) e in
    (e ∙ sym (ap but_last nothing), sym (ap last_of nothing))
popped xs ys (Some x) m n is rest cases = let e = last-push ys x in (sym e.0 ∙ sym (ap but_last is), sym e.1 ∙ sym (ap last_of is))

-- ---- questions for a link

for-append : (at : ℕ) (a b : List Reason) → questions_for at (a ++ b) ≡ questions_for at a ++ questions_for at b
for-append at [] b = refl
for-append at (r ∷ a) b = by (r.link == at) (for-append at a b)
  where
    by : (t : Bool) → questions_for at (a ++ b) ≡ questions_for at a ++ questions_for at b
        → map (λ (x : Reason). x.question) (cond t (r ∷ filter (λ (x : Reason). x.link == at) (a ++ b)) (filter (λ (x : Reason). x.link == at) (a ++ b)))
        ≡ map (λ (x : Reason). x.question) (cond t (r ∷ filter (λ (x : Reason). x.link == at) a) (filter (λ (x : Reason). x.link == at) a)) ++ questions_for at b
    by true rest = ap (λ (l : List Question). r.question ∷ l) rest
    by false rest = rest

pub times-for : (q : Question) (at : ℕ) (a b : List Reason) → times asked_cmp q (questions_for at (a ++ b)) ≡ times asked_cmp q (questions_for at a) + times asked_cmp q (questions_for at b)
times-for q at a b = ap (times asked_cmp q) (for-append at a b) ∙ times-append asked_cmp_total q (questions_for at a) (questions_for at b)

-- of the reasons of a session
abbrev pub Splits : (List Reason → List Reason) → (List Reason → List Reason) → Type 0
Splits left gone = (reasons : List Reason) (at : ℕ) (q : Question) → times asked_cmp q (questions_for at reasons) ≡ times asked_cmp q (questions_for at (gone reasons)) + times asked_cmp q (questions_for at (left reasons))

splits-last : Splits but_last last_of
splits-last reasons at q =
    let whole = ap (λ rs. times asked_cmp q (questions_for at rs)) (last-splits reasons) in
    let parts = times-for q at (but_last reasons) (last_of reasons) in
    omega (arith, whole, parts)

splits-those : (asked : Asked) → Splits (with_those asked) (λ rs. filter (λ r. not (has r.id asked)) rs)
splits-those asked [] at q = omega arith
splits-those asked (r ∷ reasons) at q = by (has r.id asked) (splits-those asked reasons at q)
  where
    stay : List Reason
    stay = with_those asked reasons

    go : List Reason
    go = filter (λ (x : Reason). not (has x.id asked)) reasons

    number : List Reason → ℕ
    number rs = times asked_cmp q (questions_for at rs)

    by : (b : Bool) → number reasons ≡ number go + number stay → number (r ∷ reasons) ≡ number (cond (not b) (r ∷ go) go) + number (cond b (r ∷ stay) stay)
    by true rest =
        let all = times-for q at (r ∷ []) reasons in
        let some = times-for q at (r ∷ []) stay in
        omega (arith, rest, all, some)
    by false rest =
        let all = times-for q at (r ∷ []) reasons in
        let some = times-for q at (r ∷ []) go in
        omega (arith, rest, all, some)

splits-all : Splits (λ _. []) (λ rs. rs)
splits-all reasons at q = omega arith

-- ---- of sessions

in-parts : (number : ℕ) (left gone : List Reason → List Reason) → Splits left gone → (sessions : Sessions) → Parts sessions (in_session number left sessions) (gone_in number gone sessions)
in-parts number left gone splits [] at q = omega arith
in-parts number left gone splits (e ∷ sessions) at q = by (e.0 == number) (in-parts number left gone splits sessions at q)
  where
    more : List Reason
    more = gone_in number gone sessions

    there : List Question
    there = session_questions at sessions

    later : List Question
    later = session_questions at (in_session number left sessions)

    by : (b : Bool) → times asked_cmp q there ≡ times asked_cmp q (questions_for at more) + times asked_cmp q later
        → times asked_cmp q (questions_for at e.1 ++ there) ≡ times asked_cmp q (questions_for at (cond b (gone e.1) [] ++ more)) + times asked_cmp q (questions_for at (cond b (left e.1) e.1) ++ later)
    by true rest =
        let a = times-append asked_cmp_total q (questions_for at e.1) there in
        let b = times-for q at (gone e.1) more in
        let c = times-append asked_cmp_total q (questions_for at (left e.1)) later in
        let d = splits e.1 at q in
        omega (arith, rest, a, b, c, d)
    by false rest =
        let a = times-append asked_cmp_total q (questions_for at e.1) there in
        let c = times-append asked_cmp_total q (questions_for at e.1) later in
        omega (arith, rest, a, c)

pub back-parts : (number : ℕ) (sessions : Sessions) → Parts sessions (in_session number but_last sessions) (gone_in number last_of sessions)
back-parts number = in-parts number but_last last_of splits-last

pub those-parts : (number : ℕ) (asked : Asked) (sessions : Sessions) → Parts sessions (in_session number (with_those asked) sessions) (gone_in number (λ rs. filter (λ r. not (has r.id asked)) rs) sessions)
those-parts number asked = in-parts number (with_those asked) (λ rs. filter (λ r. not (has r.id asked)) rs) (splits-those asked)

pub clear-parts : (number : ℕ) (sessions : Sessions) → Parts sessions (in_session number (λ _. []) sessions) (gone_in number (λ rs. rs) sessions)
clear-parts number = in-parts number (λ _. []) (λ rs. rs) splits-all

pub end-parts : (number : ℕ) (sessions : Sessions) → Parts sessions (without_session number sessions) (gone_in number (λ rs. rs) sessions)
end-parts number [] at q = omega arith
end-parts number (e ∷ sessions) at q = by (e.0 == number) (end-parts number sessions at q)
  where
    more : List Reason
    more = gone_in number (λ rs. rs) sessions

    there : List Question
    there = session_questions at sessions

    left : Sessions
    left = without_session number sessions

    by : (b : Bool) → times asked_cmp q there ≡ times asked_cmp q (questions_for at more) + times asked_cmp q (session_questions at left)
        → times asked_cmp q (questions_for at e.1 ++ there) ≡ times asked_cmp q (questions_for at (cond b e.1 [] ++ more)) + times asked_cmp q (session_questions at (cond (not b) (e ∷ left) left))
    by true rest =
        let a = times-append asked_cmp_total q (questions_for at e.1) there in
        let b = times-for q at e.1 more in
        omega (arith, rest, a, b)
    by false rest =
        let a = times-append asked_cmp_total q (questions_for at e.1) there in
        let b = times-append asked_cmp_total q (questions_for at e.1) (session_questions at left) in
        omega (arith, rest, a, b)

-- ---- no number twice

any-in : (n number : ℕ) (f : List Reason → List Reason) (sessions : Sessions) → is_there n (in_session number f sessions) ≡ is_there n sessions
any-in n number f [] = refl
any-in n number f (e ∷ sessions) = ap (λ b. (e.0 == n) || b) (any-in n number f sessions)

pub distinct-in : (number : ℕ) (f : List Reason → List Reason) (sessions : Sessions) → AreDistinct sessions → AreDistinct (in_session number f sessions)
distinct-in number f [] h = tt
distinct-in number f (e ∷ sessions) h = (any-in e.0 number f sessions ∙ h.0, distinct-in number f sessions h.1)

or-second : (a b : Bool) → (a || b) ≡ false → b ≡ false
or-second true b h = absurd cc
or-second false b h = h

or-first : (a b : Bool) → (a || b) ≡ false → a ≡ false
or-first true b h = h
or-first false b h = refl

any-without : (n number : ℕ) (sessions : Sessions) → is_there n sessions ≡ false → is_there n (without_session number sessions) ≡ false
any-without n number [] h = refl
any-without n number (e ∷ sessions) h = by (e.0 == number) (any-without n number sessions (or-second (e.0 == n) (is_there n sessions) h))
  where
    by : (b : Bool) → is_there n (without_session number sessions) ≡ false → is_there n (cond (not b) (e ∷ without_session number sessions) (without_session number sessions)) ≡ false
    by true rest = rest
    by false rest = λ i. or-first (e.0 == n) (is_there n sessions) h i || rest i

pub distinct-without : (number : ℕ) (sessions : Sessions) → AreDistinct sessions → AreDistinct (without_session number sessions)
distinct-without number [] h = tt
distinct-without number (e ∷ sessions) h = by (e.0 == number) (distinct-without number sessions h.1)
  where
    by : (b : Bool) → AreDistinct (without_session number sessions) → AreDistinct (cond (not b) (e ∷ without_session number sessions) (without_session number sessions))
    by true rest = rest
    by false rest = (any-without e.0 number sessions h.0, rest)

any-last : (n number : ℕ) (sessions : Sessions) → is_there n sessions ≡ false → (number == n) ≡ false → is_there n (sessions ++ (number, []) ∷ []) ≡ false
any-last n number [] h other = λ i. other i || false
any-last n number (e ∷ sessions) h other = λ i. or-first (e.0 == n) (is_there n sessions) h i || any-last n number sessions (or-second (e.0 == n) (is_there n sessions) h) other i

pub distinct-last : (number : ℕ) (sessions : Sessions) → AreDistinct sessions → is_there number sessions ≡ false → AreDistinct (sessions ++ (number, []) ∷ [])
distinct-last number [] h new = (refl, tt)
distinct-last number (e ∷ sessions) h new =
    let is = or-first (e.0 == number) (is_there number sessions) new in
    let other : (number == e.0) ≡ false = grind (arith, nat_tests) in
    (any-last e.0 number sessions h.0 other, distinct-last number sessions h.1 (or-second (e.0 == number) (is_there number sessions) new))
