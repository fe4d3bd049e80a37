-- Sessions with their numbers: what is found of them after a change.
--     found-all, found-in, found-elsewhere      after a change of all, of the one that is sought, of another
--     found-one, each-changed      what holds of each holds of one that is found, and of each after a change
--     found-last, found-left      after one more at the end; after one is gone
--     in-fused      one change after another is one change
--     all-map, distinct-map      what holds of each that was changed; numbers differ still
use Rattle.std.proofs.Common.{◌≡◌, ℕ, Bool, true, false, cond, not, List, [], ◌∷◌, ◌++◌, map, Option, Some, None, T, sym, ◌∙◌, ap, subst, refl, eqb→eq}
use Rattle.std.proofs.Math.Dec.{eqb_refl}
use Rattle.std.specs.Prelude.{find, option_map, ◌==◌}
use Rattle.std.specs.List.{AllByRecursion, IsDistinct}
use Rattle.std.specs.Option.{option_or}
use Rattle.livesessions.specs.NumberedSessions.{Numbered, session_in, in_sessions, all_sessions, without_session, AreApart}

pub same-number : (a b : ℕ) → (a == b) ≡ true → a ≡ b
same-number a b is = eqb→eq a b (subst T (sym is) tt)

pub number-itself : (n : ℕ) → (n == n) ≡ true
number-itself n = by (n == n) (eqb_refl n)
  where
    by : (b : Bool) → T b → b ≡ true
    by true is = refl
    by false is = absurd is

-- two numbers that aren't the same
pub other-number : (a b : ℕ) → (a ≡ b → ⊥) → (a == b) ≡ false
other-number a b apart = by (a == b) refl
  where
    by : (c : Bool) → (a == b) ≡ c → c ≡ false
    by true is = absurd (apart (same-number a b is))
    by false is = refl

-- ---- a change

-- each session is changed by its number
pub found-changed : {S : Type 0} (g : ℕ → S → S) (n : ℕ) (xs : Numbered S) → session_in n (map (λ (e : ℕ × S). (e.0, g e.0 e.1)) xs) ≡ option_map (g n) (session_in n xs)
found-changed g n [] = refl
found-changed {S} g n (e ∷ es) = by (e.0 == n) refl (found-changed g n es)
  where
    by : (b : Bool) → (e.0 == n) ≡ b → session_in n (map (λ (e : ℕ × S). (e.0, g e.0 e.1)) es) ≡ option_map (g n) (session_in n es)
        → option_map (λ (e : ℕ × S). e.1) (cond b (Some (e.0, g e.0 e.1)) (find (λ (e : ℕ × S). e.0 == n) (map (λ (e : ℕ × S). (e.0, g e.0 e.1)) es)))
        ≡ option_map (g n) (option_map (λ (e : ℕ × S). e.1) (cond b (Some e) (find (λ (e : ℕ × S). e.0 == n) es)))
    by true is h = ap (λ m. Some (g m e.1)) (same-number e.0 n is)
    by false is h = h

pub found-all : {S : Type 0} (f : S → S) (n : ℕ) (xs : Numbered S) → session_in n (all_sessions f xs) ≡ option_map f (session_in n xs)
found-all f n xs = found-changed (λ m s. f s) n xs

-- what a change of one session does where it is looked for
changed-at : {S : Type 0} (number : ℕ) (f : S → S) (n : ℕ) (xs : Numbered S) (b : Bool) → (n == number) ≡ b → session_in n (in_sessions number f xs) ≡ option_map (λ s. cond b (f s) s) (session_in n xs)
changed-at number f n xs b is = found-changed (λ m s. cond (m == number) (f s) s) n xs ∙ ap (λ c. option_map (λ s. cond c (f s) s) (session_in n xs)) is

pub found-in : {S : Type 0} (number : ℕ) (f : S → S) (xs : Numbered S) → session_in number (in_sessions number f xs) ≡ option_map f (session_in number xs)
found-in number f xs = changed-at number f number xs true (number-itself number)

pub found-elsewhere : {S : Type 0} (number : ℕ) (f : S → S) (n : ℕ) → (n ≡ number → ⊥) → (xs : Numbered S) → session_in n (in_sessions number f xs) ≡ session_in n xs
found-elsewhere {S} number f n apart xs = changed-at number f n xs false (other-number n number apart) ∙ itself (session_in n xs)
  where
    itself : (o : Option S) → option_map (λ s. s) o ≡ o
    itself None = refl
    itself (Some s) = refl

pub in-fused : {S : Type 0} (number : ℕ) (f g : S → S) (xs : Numbered S) → in_sessions number f (in_sessions number g xs) ≡ in_sessions number (λ s. f (g s)) xs
in-fused number f g [] = refl
in-fused {S} number f g (x ∷ xs) = by (x.0 == number) (in-fused number f g xs)
  where
    by : (b : Bool) → in_sessions number f (in_sessions number g xs) ≡ in_sessions number (λ s. f (g s)) xs
        → (x.0, cond b (f (cond b (g x.1) x.1)) (cond b (g x.1) x.1)) ∷ in_sessions number f (in_sessions number g xs) ≡ (x.0, cond b (f (g x.1)) x.1) ∷ in_sessions number (λ s. f (g s)) xs
    by true h = ap (λ r. (x.0, f (g x.1)) ∷ r) h
    by false h = ap (λ r. (x.0, x.1) ∷ r) h

-- ---- what holds of each

pub found-one : {S : Type 0} (P : S → Type 0) (n : ℕ) (xs : Numbered S) (s : S) → session_in n xs ≡ Some s → AllByRecursion (λ (e : ℕ × S). P e.1) xs → P s
found-one P n [] s is all = absurd cc
found-one {S} P n (e ∷ es) s is all = by (e.0 == n) (λ later. found-one P n es s later all.1) is
  where
    by : (b : Bool) → (session_in n es ≡ Some s → P s) → option_map (λ (e : ℕ × S). e.1) (cond b (Some e) (find (λ (e : ℕ × S). e.0 == n) es)) ≡ Some s → P s
    by true others is = let same : e.1 ≡ s = cc in subst P same all.0
    by false others is = others is

pub each-changed : {S : Type 0} (P Q : S → Type 0) (g : ℕ → S → S) → ((n : ℕ) (s : S) → P s → Q (g n s)) → (xs : Numbered S) → AllByRecursion (λ (e : ℕ × S). P e.1) xs
    → AllByRecursion (λ (e : ℕ × S). Q e.1) (map (λ (e : ℕ × S). (e.0, g e.0 e.1)) xs)
each-changed P Q g step [] all = tt
each-changed P Q g step (e ∷ es) all = (step e.0 e.1 all.0, each-changed P Q g step es all.1)

-- ---- one comes, and one goes

pub found-last : {S : Type 0} (n : ℕ) (xs : Numbered S) (last : ℕ × S) → session_in n (xs ++ last ∷ []) ≡ option_or (session_in n xs) (cond (last.0 == n) (Some last.1) None)
found-last {S} n [] last = by (last.0 == n)
  where
    by : (b : Bool) → option_map (λ (e : ℕ × S). e.1) (cond b (Some last) None) ≡ option_or None (cond b (Some last.1) None)
    by true = refl
    by false = refl
found-last {S} n (e ∷ es) last = by (e.0 == n) (found-last n es last)
  where
    by : (b : Bool) → session_in n (es ++ last ∷ []) ≡ option_or (session_in n es) (cond (last.0 == n) (Some last.1) None)
        → option_map (λ (e : ℕ × S). e.1) (cond b (Some e) (find (λ (e : ℕ × S). e.0 == n) (es ++ last ∷ [])))
        ≡ option_or (option_map (λ (e : ℕ × S). e.1) (cond b (Some e) (find (λ (e : ℕ × S). e.0 == n) es))) (cond (last.0 == n) (Some last.1) None)
    by true h = refl
    by false h = h

pub found-left : {S : Type 0} (gone n : ℕ) (xs : Numbered S) → session_in n (without_session gone xs) ≡ cond (n == gone) None (session_in n xs)
found-left {S} gone n [] = by (n == gone)
  where
    by : (b : Bool) → ◌≡◌ {A = Option S} None (cond b None None)
    by true = refl
    by false = refl
found-left {S} gone n (e ∷ es) = by (e.0 == gone) refl (e.0 == n) refl (found-left gone n es)
  where
    others : Numbered S
    others = without_session gone es

    by : (a : Bool) → (e.0 == gone) ≡ a → (b : Bool) → (e.0 == n) ≡ b → session_in n others ≡ cond (n == gone) None (session_in n es)
        → session_in n (cond (not a) (e ∷ others) others) ≡ cond (n == gone) None (option_map (λ (e : ℕ × S). e.1) (cond b (Some e) (find (λ (e : ℕ × S). e.0 == n) es)))
    by true at_gone true at_n rest =
        let is : (n == gone) ≡ true = ap (λ m. m == gone) (sym (same-number e.0 n at_n)) ∙ at_gone in
        rest ∙ ap (λ c. cond c None (session_in n es)) is ∙ sym (ap (λ c. cond c None (Some e.1)) is)
    by true at_gone false at_n rest = rest
    by false at_gone true at_n rest =
        let is : (n == gone) ≡ false = ap (λ m. m == gone) (sym (same-number e.0 n at_n)) ∙ at_gone in
        ap (λ c. option_map (λ (e : ℕ × S). e.1) (cond c (Some e) (find (λ (e : ℕ × S). e.0 == n) others))) at_n ∙ sym (ap (λ c. cond c None (Some e.1)) is)
    by false at_gone false at_n rest = ap (λ c. option_map (λ (e : ℕ × S). e.1) (cond c (Some e) (find (λ (e : ℕ × S). e.0 == n) others))) at_n ∙ rest

pub all-map : {A B : Type 0} (f : A → B) (P : B → Type 0) (xs : List A) → AllByRecursion (λ x. P (f x)) xs → AllByRecursion P (map f xs)
all-map f P [] all = tt
all-map f P (x ∷ xs) all = (all.0, all-map f P xs all.1)

-- numbers differ still when what they number changes
pub distinct-map : {S : Type 0} (f : ℕ × S → S) (xs : Numbered S) → AreApart xs → AreApart (map (λ e. (e.0, f e)) xs)
unfolding IsDistinct
distinct-map f [] once = tt
distinct-map {S} f (x ∷ xs) once = (all-map (λ e. (e.0, f e)) (λ (g : ℕ × S). (x.0 == g.0) ≡ false) xs once.0, distinct-map f xs once.1)
