-- Where a session stands.
--     Seat, seat-at      the session of a number, where it stands
--     no-seat      none has the number
use Rattle.std.proofs.Common.{◌≡◌, ℕ, zero, suc, ◌<◌, Bool, true, false, cond, not, ◌||◌, List, [], ◌∷◌, ◌++◌, length, get_or, set, Some, None, refl, sym, ap, subst, ◌∙◌, arith}
use Rattle.std.proofs.lemmas.Bool.Decides.{nat_tests}
use Rattle.std.proofs.lemmas.List.{append-nil, set-get_or}
use Rattle.std.proofs.lemmas.List.Quantifiers.{position-Some}
use Rattle.std.specs.Prelude.{position, ◌==◌}
use Rattle.rrset.proofs.Distinct.{no_place}
use Rattle.linkreasons.specs.AllReasons.{in_session, without_session}
use Rattle.linkreasons.specs.Changing.{gone_in, is_there}
use Rattle.linkreasons.specs.Counting.{AreDistinct}
use Rattle.linkreasons.specs.declared.reason.Reason.{Reason}
use Rattle.linkreasons.proofs.ManyLinks.{Sessions}

pub record NoSeat (number : ℕ) (sessions : Sessions) : Type 0 where
  pub left : (f : List Reason → List Reason) → in_session number f sessions ≡ sessions
  pub gone : (g : List Reason → List Reason) → gone_in number g sessions ≡ []

pub absent : (number : ℕ) (sessions : Sessions) → is_there number sessions ≡ false → NoSeat number sessions
absent number [] none = record { left = λ f. refl; gone = λ g. refl }
absent number (e ∷ sessions) none = by (e.0 == number) none (absent number sessions)
  where
    by : (b : Bool) → (b || is_there number sessions) ≡ false → (is_there number sessions ≡ false → NoSeat number sessions) → NoSeat number (e ∷ sessions)
    by true h rest = absurd cc
    by false h rest =
        let other : (e.0 == number) ≡ false = first (e.0 == number) none in
        record {
          left = λ f i. (e.0, cond (other i) (f e.1) e.1) ∷ (rest h).left f i;
          gone = λ g i. cond (other i) (g e.1) [] ++ (rest h).gone g i;
        }
      where
        first : (b : Bool) → (b || is_there number sessions) ≡ false → b ≡ false
        first true h = absurd cc
        first false h = refl

pub record Seat (number : ℕ) (sessions : Sessions) (place : ℕ) (e : ℕ × List Reason) : Type 0 where
  pub left : (f : List Reason → List Reason) → in_session number f sessions ≡ set sessions place (e.0, f e.1)
  pub gone : (g : List Reason → List Reason) → gone_in number g sessions ≡ g e.1

any-at : (n : ℕ) (sessions : Sessions) (place : ℕ) (d : ℕ × List Reason) → place < length sessions → ((get_or sessions place d).0 == n) ≡ true → is_there n sessions ≡ true
any-at n [] place d within is = absurd (omega (arith, within))
any-at n (e ∷ sessions) zero d within is = ap (λ b. b || is_there n sessions) is
any-at n (e ∷ sessions) (suc place) d within is = by (e.0 == n) (any-at n sessions place d (omega (arith, within)) is)
  where
    by : (b : Bool) → is_there n sessions ≡ true → (b || is_there n sessions) ≡ true
    by true rest = refl
    by false rest = rest

seat : (number : ℕ) (sessions : Sessions) (place : ℕ) (d : ℕ × List Reason) → AreDistinct sessions → place < length sessions → ((get_or sessions place d).0 == number) ≡ true → Seat number sessions place (get_or sessions place d)
seat number [] place d apart within is = absurd (omega (arith, within))
seat number (e ∷ sessions) zero d apart within is =
    let same : e.0 ≡ number = grind (arith, nat_tests) in
    let none = absent number sessions (subst (λ n. is_there n sessions ≡ false) same apart.0) in
    record {
      left = λ f i. (e.0, cond (is i) (f e.1) e.1) ∷ none.left f i;
      gone = λ g. (λ i. cond (is i) (g e.1) [] ++ none.gone g i) ∙ append-nil (g e.1);
    }
seat number (e ∷ sessions) (suc place) d apart within is =
    let in_rest : place < length sessions = omega (arith, within) in
    by (e.0 == number) refl (any-at number sessions place d in_rest is) (seat number sessions place d apart.1 in_rest is)
  where
    by : (b : Bool) → (e.0 == number) ≡ b → is_there number sessions ≡ true → Seat number sessions place (get_or sessions place d) → Seat number (e ∷ sessions) (suc place) (get_or sessions place d)
    by true same there rest =
        let one : e.0 ≡ number = grind (arith, nat_tests) in
        let none : is_there number sessions ≡ false = subst (λ n. is_there n sessions ≡ false) one apart.0 in
        absurd cc
    by false other there rest = record {
      left = λ f i. (e.0, cond (other i) (f e.1) e.1) ∷ rest.left f i;
      gone = λ g i. cond (other i) (g e.1) [] ++ rest.gone g i;
    }

pub at-seat : (number : ℕ) (sessions : Sessions) (place : ℕ) (d : ℕ × List Reason) → AreDistinct sessions → Some place ≡ position (λ e. e.0 == number) sessions → Seat number sessions place (get_or sessions place d)
at-seat number sessions place d apart is =
    let at = position-Some (λ (e : ℕ × List Reason). e.0 == number) sessions place d (sym is) in
    seat number sessions place d apart at.0 at.1

pub within-seat : (number : ℕ) (sessions : Sessions) (place : ℕ) (d : ℕ × List Reason) → Some place ≡ position (λ e. e.0 == number) sessions → place < length sessions
within-seat number sessions place d is = (position-Some (λ (e : ℕ × List Reason). e.0 == number) sessions place d (sym is)).0

pub no-seat : (number : ℕ) (sessions : Sessions) → None ≡ position (λ e. e.0 == number) sessions → NoSeat number sessions
no-seat number sessions is = absent number sessions (no_place (λ e. e.0 == number) sessions (sym is))

pub not-there : (number : ℕ) (sessions : Sessions) → None ≡ position (λ e. e.0 == number) sessions → is_there number sessions ≡ false
not-there number sessions is = no_place (λ e. e.0 == number) sessions (sym is)

-- by what is read there
module _ (number : ℕ) (sessions : Sessions) (place : ℕ) (e : ℕ × List Reason) (apart : AreDistinct sessions) (is : Some place ≡ position (λ e. e.0 == number) sessions) (read : e ≡ get_or sessions place e) where
  pub set-seat : (f : List Reason → List Reason) (new : List Reason) → new ≡ f e.1 → set sessions place (e.0, new) ≡ in_session number f sessions
  set-seat f new new-is =
      let there = at-seat number sessions place e apart is in
      ap (λ (rs : List Reason). set sessions place (e.0, rs)) new-is
      ∙ ap (λ (d : ℕ × List Reason). set sessions place (d.0, f d.1)) read
      ∙ sym (there.left f)

  pub gone-seat : (g : List Reason → List Reason) → g e.1 ≡ gone_in number g sessions
  gone-seat g =
      let there = at-seat number sessions place e apart is in
      ap (λ (d : ℕ × List Reason). g d.1) read ∙ sym (there.gone g)

pub without-in : (number : ℕ) (f : List Reason → List Reason) (sessions : Sessions) → without_session number (in_session number f sessions) ≡ without_session number sessions
without-in number f [] = refl
without-in number f (e ∷ sessions) = by (e.0 == number) (without-in number f sessions)
  where
    by : (b : Bool) → without_session number (in_session number f sessions) ≡ without_session number sessions
        → cond (not b) ((e.0, cond b (f e.1) e.1) ∷ without_session number (in_session number f sessions)) (without_session number (in_session number f sessions)) ≡ cond (not b) (e ∷ without_session number sessions) (without_session number sessions)
    by true rest = rest
    by false rest = ap (λ (l : Sessions). e ∷ l) rest

pub set-itself : (sessions : Sessions) (place : ℕ) (e : ℕ × List Reason) (new : List Reason) → e ≡ get_or sessions place e → new ≡ e.1 → set sessions place (e.0, new) ≡ sessions
set-itself sessions place e new read same = ap (λ (rs : List Reason). set sessions place (e.0, rs)) same ∙ ap (set sessions place) read ∙ set-get_or sessions place e
