-- What holds of the session of a number, where there is one, after a change.
--     OfOne number Q xs      so it is of the session that is found
--     one-changed, one-in      each session is changed; that of a number is
--     one-last, one-left      after one more at the end; after one is gone
use Rattle.std.proofs.Common.{◌≡◌, ℕ, Bool, true, false, cond, [], ◌∷◌, ◌++◌, map, Option, Some, None, sym, ◌∙◌, subst, refl}
use Rattle.std.specs.Prelude.{option_map, ◌==◌}
use Rattle.std.specs.Option.{option_or}
use Rattle.livesessions.specs.NumberedSessions.{Numbered, session_in, in_sessions, without_session}
use Rattle.livesessions.proofs.SessionLists.{found-changed, found-in, found-last, found-left}

abbrev pub OfOne : {S : Type 0} → ℕ → (S → Type 0) → Numbered S → Type 0
OfOne {S} number Q xs = (s : S) → session_in number xs ≡ Some s → Q s

module _ {S : Type 0} (number : ℕ) (Q R : S → Type 0) where
  by_old : (f : S → S) → ((s : S) → Q s → R (f s)) → (o : Option S) → ((s : S) → o ≡ Some s → Q s) → (s : S) → option_map f o ≡ Some s → R s
  by_old f step None was s is = absurd cc
  by_old f step (Some t) was s is = let same : f t ≡ s = cc in subst R same (step t (was t cc))

  pub one-changed : (g : ℕ → S → S) → ((s : S) → Q s → R (g number s)) → (xs : Numbered S) → OfOne number Q xs → OfOne number R (map (λ (e : ℕ × S). (e.0, g e.0 e.1)) xs)
  one-changed g step xs was s there = by_old (g number) step (session_in number xs) was s (sym (found-changed g number xs) ∙ there)

  pub one-in : (f : S → S) → ((s : S) → Q s → R (f s)) → (xs : Numbered S) → OfOne number Q xs → OfOne number R (in_sessions number f xs)
  one-in f step xs was s there = by_old f step (session_in number xs) was s (sym (found-in number f xs) ∙ there)

module _ {S : Type 0} (number : ℕ) (Q : S → Type 0) where
  pub one-last : (xs : Numbered S) (last : ℕ × S) → ((last.0 == number) ≡ true → Q last.1) → OfOne number Q xs → OfOne number Q (xs ++ last ∷ [])
  one-last xs last new was s there = by (session_in number xs) was (last.0 == number) new (sym (found-last number xs last) ∙ there)
    where
      by : (o : Option S) → ((s : S) → o ≡ Some s → Q s) → (b : Bool) → (b ≡ true → Q last.1) → option_or o (cond b (Some last.1) None) ≡ Some s → Q s
      by (Some t) was b new is = was s is
      by None was true new is = let same : last.1 ≡ s = cc in subst Q same (new refl)
      by None was false new is = absurd cc

  pub one-left : (gone : ℕ) (xs : Numbered S) → OfOne number Q xs → OfOne number Q (without_session gone xs)
  one-left gone xs was s there = was s (by (number == gone) (session_in number xs) (sym (found-left gone number xs) ∙ there))
    where
      by : (b : Bool) (o : Option S) → cond b None o ≡ Some s → o ≡ Some s
      by true o is = absurd cc
      by false o is = is
