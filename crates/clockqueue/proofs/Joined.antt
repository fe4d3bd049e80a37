-- Blocks one behind the other: what stands at a number, and what a change in one block makes of the whole.
use Rattle.std.proofs.Common.{◌≡◌, ℕ, zero, suc, ◌+◌, ◌-◌, ◌*◌, ◌<◌, ◌≤◌, List, [], ◌∷◌, ◌++◌, length, get_or, set, refl, sym, ap, ◌∙◌, arith}
use Rattle.std.specs.List.{insert, remove}
use Rattle.std.proofs.lemmas.List.{get_or_append_left, get_or-append-add, append_assoc}
use Rattle.std.proofs.lemmas.List.Edits.{insert-append_left, insert-append_right, remove-append_left, remove-append_right}
use Rattle.clockqueue.specs.Tiers.{joined, size_at}

module _ {X : Type 0} where
  -- the blocks before this one are full
  abbrev pub FullBefore : ℕ → List (List X) → Type 0
  FullBefore p bs = (k : ℕ) → k < p → size_at bs k ≡ 1024

  pub joined-get : (bs : List (List X)) (p j n : ℕ) (d : X) → FullBefore p bs → n ≡ 1024 * p + j → j < size_at bs p → get_or (joined bs) n d ≡ get_or (get_or bs p []) j d
  joined-get [] p j n d full is within = absurd (none p within)
    where
      none : (p : ℕ) → j < length (get_or {A = List X} [] p []) → ⊥
      none zero w = omega (arith, w)
      none (suc p) w = omega (arith, w)
  joined-get (b ∷ bs) zero j n d full is within =
      let same : n ≡ j = omega (arith, is) in
      ap (λ k. get_or (b ++ joined bs) k d) same ∙ get_or_append_left b (joined bs) d j within
  joined-get (b ∷ bs) (suc p) j n d full is within =
      let first : length b ≡ 1024 = full zero (omega arith) in
      let rest : n ≡ length b + (n - 1024) = omega (arith, is, first) in
      ap (λ k. get_or (b ++ joined bs) k d) rest ∙ get_or-append-add b (joined bs) (n - 1024) d
      ∙ joined-get bs p j (n - 1024) d (λ k less. full (suc k) (omega (arith, less))) (omega (arith, is)) within

  pub joined-remove : (bs : List (List X)) (p j n : ℕ) → FullBefore p bs → n ≡ 1024 * p + j → p < length bs → j < size_at bs p → joined (set bs p (remove (get_or bs p []) j)) ≡ remove (joined bs) n
  joined-remove [] p j n full is there within = absurd (omega (arith, there))
  joined-remove (b ∷ bs) zero j n full is there within =
      let same : n ≡ j = omega (arith, is) in
      sym (ap (λ k. remove (b ++ joined bs) k) same ∙ remove-append_left b (joined bs) j within)
  joined-remove (b ∷ bs) (suc p) j n full is there within =
      let first : length b ≡ 1024 = full zero (omega arith) in
      ap (λ (l : List X). b ++ l) (joined-remove bs p j (n - 1024) (λ k less. full (suc k) (omega (arith, less))) (omega (arith, is)) (omega (arith, there)) within)
      ∙ sym (remove-append_right b (joined bs) 1024 n first (omega (arith, is)))

  pub joined-insert : (bs : List (List X)) (p j n : ℕ) (x : X) → FullBefore p bs → n ≡ 1024 * p + j → p < length bs → j ≤ size_at bs p → joined (set bs p (insert (get_or bs p []) j x)) ≡ insert (joined bs) n x
  joined-insert [] p j n x full is there within = absurd (omega (arith, there))
  joined-insert (b ∷ bs) zero j n x full is there within =
      let same : n ≡ j = omega (arith, is) in
      sym (ap (λ k. insert (b ++ joined bs) k x) same ∙ insert-append_left b (joined bs) j x within)
  joined-insert (b ∷ bs) (suc p) j n x full is there within =
      let first : length b ≡ 1024 = full zero (omega arith) in
      ap (λ (l : List X). b ++ l) (joined-insert bs p j (n - 1024) x (λ k less. full (suc k) (omega (arith, less))) (omega (arith, is)) (omega (arith, there)) within)
      ∙ sym (insert-append_right b (joined bs) 1024 n x first (omega (arith, is)))

  -- the first of a block has become the last of the one before it
  pub joined-pull : (bs : List (List X)) (h : ℕ) (x : X) (rest : List X) → suc h < length bs → get_or bs (suc h) [] ≡ x ∷ rest → joined (set (set bs (suc h) rest) h (get_or bs h [] ++ x ∷ [])) ≡ joined bs
  joined-pull [] h x rest there is = absurd (omega (arith, there))
  joined-pull (a ∷ []) h x rest there is = absurd (omega (arith, there))
  joined-pull (a ∷ b ∷ bs) zero x rest there is = append_assoc a (x ∷ []) (rest ++ joined bs) ∙ ap (λ (l : List X). a ++ (l ++ joined bs)) (sym is)
  joined-pull (a ∷ b ∷ bs) (suc h) x rest there is = ap (λ (l : List X). a ++ l) (joined-pull (b ∷ bs) h x rest (omega (arith, there)) is)

  -- the last of a block has become the first of the one behind it
  pub joined-push : (bs : List (List X)) (f : ℕ) (x : X) (front : List X) → suc f < length bs → get_or bs f [] ≡ front ++ x ∷ [] → joined (set (set bs f front) (suc f) (x ∷ get_or bs (suc f) [])) ≡ joined bs
  joined-push [] f x front there is = absurd (omega (arith, there))
  joined-push (a ∷ []) f x front there is = absurd (omega (arith, there))
  joined-push (a ∷ b ∷ bs) zero x front there is = sym (append_assoc front (x ∷ []) (b ++ joined bs)) ∙ ap (λ (l : List X). l ++ (b ++ joined bs)) (sym is)
  joined-push (a ∷ b ∷ bs) (suc f) x front there is = ap (λ (l : List X). a ++ l) (joined-push (b ∷ bs) f x front (omega (arith, there)) is)
