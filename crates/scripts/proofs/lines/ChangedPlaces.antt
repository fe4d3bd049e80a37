-- A list of which one element is changed.
--     length-changed      it stays as long
--     changed-each      what holds of each, and the change keeps, holds of each afterwards
--     changed-with      the same, where the change keeps it of elements of which something else holds
use Rattle.std.proofs.Common.{◌≡◌, ℕ, zero, suc, List, [], ◌∷◌, length, refl, ap}
use Rattle.std.specs.List.{AllByRecursion}
use Rattle.push_base.specs.Cases.{changed_at}

pub length-changed : {X : Type 0} (i : ℕ) (f : X → X) (xs : List X) → length (changed_at i f xs) ≡ length xs
length-changed i f [] = refl
length-changed zero f (x ∷ xs) = refl
length-changed (suc i) f (x ∷ xs) = ap (λ n. suc n) (length-changed i f xs)

pub changed-with : {X : Type 0} (P Q : X → Type 0) (f : X → X) → ((x : X) → P x → Q x → P (f x)) → (i : ℕ) (xs : List X) → AllByRecursion P xs → AllByRecursion Q xs → AllByRecursion P (changed_at i f xs)
changed-with P Q f keeps i [] all too = tt
changed-with P Q f keeps zero (x ∷ xs) all too = (keeps x all.0 too.0, all.1)
changed-with P Q f keeps (suc i) (x ∷ xs) all too = (all.0, changed-with P Q f keeps i xs all.1 too.1)

pub changed-each : {X : Type 0} (P : X → Type 0) (f : X → X) → ((x : X) → P x → P (f x)) → (i : ℕ) (xs : List X) → AllByRecursion P xs → AllByRecursion P (changed_at i f xs)
changed-each P f keeps i xs all = changed-with P P f (λ x is too. keeps x is) i xs all all
