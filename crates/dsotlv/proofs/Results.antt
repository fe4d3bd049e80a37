-- What a computation that gave a value has gone through.
use Rattle.std.proofs.Common.{◌≡◌, Bool, true, false, cond, Option, Some, Result, Ok, Err, refl, ap}
use Rattle.std.specs.Result.{result_ok}
use Rattle.push_base.specs.Cases.{◌>>=◌, fault_as}

abbrev pub done : {A E : Type 0} → A → Result A E
done x = Ok x

abbrev pub found : {A : Type 0} → A → Option A
found x = Some x

pub same_done : {A E : Type 0} (x y : A) → done {E = E} x ≡ done y → x ≡ y
same_done x y e = cc

pub not_done : {A E : Type 0} (f : E) (x : A) → Err f ≡ done x → ⊥
not_done f x e = cc

pub same_found : {A : Type 0} (x y : A) → found x ≡ found y → x ≡ y
same_found x y e = cc

pub bind_done : {A B E : Type 0} (r : Result A E) (next : A → Result B E) (y : B) → (r >>= next) ≡ done y → (x : A) × (r ≡ done x) × (next x ≡ done y)
bind_done (Ok x) next y e = (x, refl, e)
bind_done (Err f) next y e = absurd (not_done f y e)

pub fault_as_done : {A E F : Type 0} (g : E → F) (r : Result A E) (x : A) → fault_as g r ≡ done x → r ≡ done x
fault_as_done g (Ok y) x e = ap (λ z. done z) (same_done y x e)
fault_as_done g (Err f) x e = absurd (not_done (g f) x e)

pub result_ok_done : {A E : Type 0} (r : Result A E) (x : A) → result_ok r ≡ found x → r ≡ done x
result_ok_done (Ok y) x e = ap (λ z. done z) (same_found y x e)
result_ok_done (Err f) x e = absurd cc

-- a test that leads to a value
pub else_done : {A E : Type 0} (test : Bool) (f : E) (r : Result A E) (x : A) → cond test (Err f) r ≡ done x → (test ≡ false) × (r ≡ done x)
else_done true f r x e = absurd (not_done f x e)
else_done false f r x e = (refl, e)

pub then_done : {A E : Type 0} (test : Bool) (f : E) (r : Result A E) (x : A) → cond test r (Err f) ≡ done x → (test ≡ true) × (r ≡ done x)
then_done true f r x e = (refl, e)
then_done false f r x e = absurd (not_done f x e)
