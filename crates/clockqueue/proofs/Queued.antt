-- A queue and what stands behind it as one list: what stands at a number, and what a change makes of the whole.
use Rattle.std.proofs.Common.{◌≡◌, ℕ, ◌+◌, ◌-◌, ◌<◌, ◌≤◌, ◌⊎◌, inl, inr, List, [], ◌∷◌, ◌++◌, length, get_or, refl, sym, ap, ◌∙◌, arith}
use Rattle.std.specs.List.{insert, remove}
use Rattle.std.proofs.Math.ListN.{length-append}
use Rattle.std.proofs.lemmas.List.{get_or_append_left, get_or-append-add, append_assoc}
use Rattle.std.proofs.lemmas.List.Edits.{insert-append_left, insert-append_right, insert_end, remove-append_left, remove-append_right, length-remove}

module _ {X : Type 0} where
  pub get-behind : (front back : List X) (n : ℕ) (d : X) → length front ≤ n → get_or (front ++ back) n d ≡ get_or back (n - length front) d
  get-behind front back n d low =
      let same : n ≡ length front + (n - length front) = omega (arith, low) in
      ap (λ k. get_or (front ++ back) k d) same ∙ get_or-append-add front back (n - length front) d

  -- the last of the queue has gone to the front of what stands behind it, and one more has come into the queue
  pub put-full : (front rest back : List X) (n : ℕ) (x last : X) → front ≡ rest ++ last ∷ [] → n ≤ length rest → insert rest n x ++ (last ∷ back) ≡ insert (front ++ back) n x
  put-full front rest back n x last is within =
      let one : insert front n x ≡ insert rest n x ++ last ∷ [] = ap (λ l. insert l n x) is ∙ insert-append_left rest (last ∷ []) n x within in
      let size : length front ≡ length rest + 1 = ap (λ (l : List X). length l) is ∙ length-append rest (last ∷ []) in
      sym (append_assoc (insert rest n x) (last ∷ []) back) ∙ ap (λ l. l ++ back) (sym one) ∙ sym (insert-append_left front back n x (omega (arith, within, size)))

  -- one has gone from the queue, and the first that stands behind it has come to its end
  pub taken-full : (front back later : List X) (n m : ℕ) (next : X) → n < length front → m + 1 ≡ length front → back ≡ next ∷ later → insert (remove front n) m next ++ later ≡ remove (front ++ back) n
  taken-full front back later n m next within last is =
      let size : m ≡ length (remove front n) = omega (arith, last, length-remove front n within) in
      let one : insert (remove front n) m next ≡ remove front n ++ next ∷ [] = ap (λ k. insert (remove front n) k next) size ∙ insert_end (remove front n) next in
      ap (λ l. l ++ later) one ∙ append_assoc (remove front n) (next ∷ []) later ∙ ap (λ l. remove front n ++ l) (sym is) ∙ sym (remove-append_left front back n within)

  -- the first of a list that has one
  pub first-of : (xs : List X) (d : X) → 0 < length xs → xs ≡ get_or xs 0 d ∷ remove xs 0
  first-of [] d some = absurd (omega (arith, some))
  first-of (x ∷ xs) d some = refl

  -- behind a queue that was full, or before nothing, stands nothing where it isn't full now
  pub still-queued : {len later places capacity kept : ℕ} {A B : Type 0} (old new : List X) → (len ≤ places) × (places ≤ capacity) × ((len ≡ places) ⊎ (old ≡ [])) → capacity ≤ kept
      → ((later ≡ len) × A × (0 < length old)) ⊎ ((later + 1 ≡ len) × B × (new ≡ [])) → (later ≤ places) × (places ≤ kept) × ((later ≡ places) ⊎ (new ≡ []))
  still-queued old new was more (inr fewer) = let low = was.0 in let room = was.1 in let less = fewer.0 in (omega (arith, low, less), omega (arith, room, more), inr fewer.2)
  still-queued {len = len} {places = places} old new was more (inl same) = let low = was.0 in let room = was.1 in let as_before = same.0 in (omega (arith, low, as_before), omega (arith, room, more), inl (as_before ∙ by was.2))
    where
      by : (len ≡ places) ⊎ (old ≡ []) → len ≡ places
      by (inl full) = full
      by (inr none) = let some = same.2 in let size : length old ≡ 0 = ap (λ (l : List X). length l) none in absurd (omega (arith, some, size))
