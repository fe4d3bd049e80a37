-- What is kept of a history, and forgotten of it.
--     past-from      what is kept from a point on
--     past-forgotten      the oldest entries are forgotten
use Rattle.std.proofs.Common.{◌≡◌, ℕ, zero, suc, ◌+◌, ◌≤◌, List, [], ◌∷◌, take, drop, length, fold, refl, ap, ◌∙◌, sym, arith}
use Rattle.std.proofs.lemmas.List.{drop-drop}
use Rattle.history.specs.States.{State, state_at, after}
use Rattle.history.specs.Kept.{Past, IsPastOf, forgotten}
use Rattle.history.specs.Totals.{totals}
use Rattle.history.specs.declared.entry.Entry.{Entry}

pub past-from : (start : State) (history : List Entry) (number : ℕ) → number ≤ length history
    → IsPastOf start history (record { start = state_at start history number; number = number; history = drop number history; counts = totals history })
past-from start history number within = record { begins = within; start_is = refl; entries = refl; counts_are = refl }

take-none : (count : ℕ) → take {A = Entry} count [] ≡ []
take-none zero = refl
take-none (suc count) = refl

drop-none : (count : ℕ) → drop {A = Entry} count [] ≡ []
drop-none zero = refl
drop-none (suc count) = refl

-- entries one behind another
fold-on : (start : State) (entries : List Entry) (n count : ℕ) → fold after (fold after start (take n entries)) (take count (drop n entries)) ≡ fold after start (take (n + count) entries)
fold-on start [] n count =
    (λ i. fold after (fold after start (take-none n i)) (take count (drop-none n i))) ∙ ap (fold after start) (take-none count) ∙ sym (ap (fold after start) (take-none (n + count)))
fold-on start (e ∷ es) zero count = let same : count ≡ 0 + count = omega arith in ap (λ m. fold after start (take m (e ∷ es))) same
fold-on start (e ∷ es) (suc n) count = let same : suc (n + count) ≡ suc n + count = omega arith in fold-on (after start e) es n count ∙ ap (λ m. fold after start (take m (e ∷ es))) same

pub past-forgotten : (start : State) (history : List Entry) (past : Past) (count : ℕ) → IsPastOf start history past → past.number + count ≤ length history → IsPastOf start history (forgotten count past)
past-forgotten start history past count is within = record {
  begins = within;
  start_is = (λ i. state_at (is.start_is i) (is.entries i) count) ∙ fold-on start history past.number count;
  entries = ap (drop count) is.entries ∙ drop-drop count past.number history;
  counts_are = is.counts_are;
}
