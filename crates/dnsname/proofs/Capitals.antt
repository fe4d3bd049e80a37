-- Whether one of the octets that are left is a capital.
--     any-more, any-none      behind one octet more, and behind the last
use Rattle.std.proofs.Common.{◌≡◌, ℕ, ◌+◌, ◌<◌, ◌≤◌, Bool, true, false, ◌||◌, List, length, drop, slice_index, refl, sym, ◌∙◌, ap}
use Rattle.std.specs.Char.{is_ascii_uppercase}
use Rattle.std.specs.List.{list_any}
use Rattle.std.proofs.lemmas.List.{drop_all, drop_more}

abbrev pub has_capital : List ℕ → Bool
has_capital os = list_any is_ascii_uppercase os

or_assoc : (a b c : Bool) → ((a || b) || c) ≡ (a || (b || c))
or_assoc true b c = refl
or_assoc false b c = refl

or_false : (b : Bool) → (b || false) ≡ b
or_false true = refl
or_false false = refl

pub any-more : (found : Bool) (os : List ℕ) (i : ℕ) → i < length os → (found || has_capital (drop i os)) ≡ has_capital os → ((found || is_ascii_uppercase (slice_index os i)) || has_capital (drop (i + 1) os)) ≡ has_capital os
any-more found os i small so =
    or_assoc found (is_ascii_uppercase (slice_index os i)) (has_capital (drop (i + 1) os))
    ∙ ap (λ (b : Bool). found || b) (sym (ap has_capital (drop_more os i 0 small)))
    ∙ so

pub any-none : (found : Bool) (os : List ℕ) (i : ℕ) → length os ≤ i → (found || has_capital (drop i os)) ≡ has_capital os → found ≡ has_capital os
any-none found os i end so = sym (or_false found) ∙ ap (λ (rest : List ℕ). found || has_capital rest) (sym (drop_all i os end)) ∙ so
