-- Tables of cases, through which something is carried.
--     Agree f cases others      the tests are the same, and f takes each value to the other
--     Holds P cases otherwise      P of each value whose test may be the first that is true
use Rattle.std.proofs.Common.{◌≡◌, Bool, true, false, cond, List, [], ◌∷◌, refl, ap, ◌∙◌}
use Rattle.push_base.specs.Cases.{chosen}

abbrev pub Agree : {X : Type 0} → (X → X) → List (Bool × X) → List (Bool × X) → Type 0
Agree f [] [] = Unit {0}
Agree f [] (d ∷ others) = ⊥
Agree f (c ∷ cases) [] = ⊥
Agree f (c ∷ cases) (d ∷ others) = ((c.0 ≡ d.0) × (f c.1 ≡ d.1)) × Agree f cases others

pub chosen-agree : {X : Type 0} (f : X → X) (cases others : List (Bool × X)) (x y : X) → Agree f cases others → f x ≡ y → f (chosen cases x) ≡ chosen others y
chosen-agree f [] [] x y all last = last
chosen-agree f [] (d ∷ others) x y all last = absurd all
chosen-agree f (c ∷ cases) [] x y all last = absurd all
chosen-agree {X} f (c ∷ cases) (d ∷ others) x y all last = by c.0 all.0.0 (chosen-agree f cases others x y all.1 last)
  where
    by : (b : Bool) → b ≡ d.0 → f (chosen cases x) ≡ chosen others y → f (cond b c.1 (chosen cases x)) ≡ cond d.0 d.1 (chosen others y)
    by true e rest = all.0.1 ∙ ap (λ t. cond t d.1 (chosen others y)) e
    by false e rest = rest ∙ ap (λ t. cond t d.1 (chosen others y)) e

abbrev pub Holds : {X : Type 0} → (X → Type 0) → List (Bool × X) → X → Type 0
Holds P [] x = P x
Holds P (c ∷ cases) x = (c.0 ≡ true → P c.1) × (c.0 ≡ false → Holds P cases x)

pub chosen-holds : {X : Type 0} (P : X → Type 0) (cases : List (Bool × X)) (x : X) → Holds P cases x → P (chosen cases x)
chosen-holds P [] x h = h
chosen-holds {X} P (c ∷ cases) x h = by c.0 refl (λ e. chosen-holds P cases x (h.1 e))
  where
    by : (b : Bool) → c.0 ≡ b → (c.0 ≡ false → P (chosen cases x)) → P (cond b c.1 (chosen cases x))
    by true e rest = h.0 e
    by false e rest = rest e
