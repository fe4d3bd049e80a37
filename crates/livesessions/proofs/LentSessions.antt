-- A session that is lent out of a list, and given back.
--     on_some      what holds where there is one
--     as_before, lent-changed      the list, where it is as it was, and where it was changed
--     absent      where there is none of that number
use Rattle.std.proofs.Common.{◌≡◌, ℕ, Bool, true, false, cond, [], ◌∷◌, Option, Some, None, refl, ap, ◌∙◌}
use Rattle.std.specs.Option.{OnSome}
use Rattle.std.specs.Prelude.{◌==◌, find, option_map}
use Rattle.pushsession.specs.Kept.{KeptSession}
use Rattle.livesessions.specs.NumberedSessions.{Numbered, session_in, in_sessions, AreApart}
use Rattle.livesessions.proofs.NumberedSessions.{alike, itself}

pub on_some : {A : Type 0} {P : Type 0} (r : Option A) (x : A) → r ≡ Some x → OnSome r P → P
on_some None x is p = cc
on_some (Some y) x is p = p

-- a session that is as it was stands as before
pub as_before : (number : ℕ) (xs ys : Numbered KeptSession) (s t : KeptSession) → session_in number xs ≡ Some s → AreApart xs → t ≡ s → ys ≡ in_sessions number (λ _. t) xs → ys ≡ xs
as_before number xs ys s t there apart same lent = lent ∙ ap (λ (x : KeptSession). in_sessions number (λ _. x) xs) same ∙ alike number (λ _. s) (λ x. x) xs s apart there refl ∙ itself number xs

pub lent-changed : (number : ℕ) (xs ys : Numbered KeptSession) (f : KeptSession → KeptSession) (s t : KeptSession) → session_in number xs ≡ Some s → AreApart xs → t ≡ f s → ys ≡ in_sessions number (λ _. t) xs → ys ≡ in_sessions number f xs
lent-changed number xs ys f s t there apart step lent = lent ∙ alike number (λ _. t) f xs s apart there step

pub absent : (number : ℕ) (xs : Numbered KeptSession) (f : KeptSession → KeptSession) → session_in number xs ≡ None → xs ≡ in_sessions number f xs
absent number [] f none = refl
absent number (x ∷ xs) f none = by (x.0 == number) none (absent number xs f)
  where
    by : (b : Bool) → option_map (λ (e : ℕ × KeptSession). e.1) (cond b (Some x) (find (λ (e : ℕ × KeptSession). e.0 == number) xs)) ≡ None → (session_in number xs ≡ None → xs ≡ in_sessions number f xs)
        → x ∷ xs ≡ (x.0, cond b (f x.1) x.1) ∷ in_sessions number f xs
    by true e rest = cc
    by false e rest = ap (λ l. x ∷ l) (rest e)
