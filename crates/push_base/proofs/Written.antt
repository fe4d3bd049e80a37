-- What a sink took piece by piece.
use Rattle.std.proofs.Common.{◌≡◌, refl, ℕ, ◌+◌, ◌-◌, Option, Some, None, List, ◌++◌, length, take, drop, sym, ◌∙◌, ap, append_assoc}
use Rattle.std.specs.Io.KnownBytes.{append_known}
use Rattle.std.proofs.Math.Seq.{take-add}
use Rattle.std.proofs.lemmas.List.{take_rest}

pub append_twice : (a : Option (List ℕ)) (xs ys : List ℕ) → append_known (append_known a xs) ys ≡ append_known a (xs ++ ys)
append_twice None xs ys = refl
append_twice (Some x) xs ys = ap Some (append_assoc x xs ys)

-- a sink that took the front of a text took a longer front with the next piece
pub took_more : (a b c : Option (List ℕ)) (text : List ℕ) (done n : ℕ) → b ≡ append_known a (take done text)
    → c ≡ append_known b (take n (take (length text - done) (drop done text))) → c ≡ append_known a (take (done + n) text)
took_more a b c text done n before now =
    now
    ∙ ap (λ l. append_known b (take n l)) (take_rest text done)
    ∙ ap (λ o. append_known o (take n (drop done text))) before
    ∙ append_twice a (take done text) (take n (drop done text))
    ∙ ap (append_known a) (sym (take-add done n text))
