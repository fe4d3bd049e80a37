-- How many entries each block holds, as one comes, goes or moves.
use Rattle.std.proofs.Common.{◌≡◌, ◌≢◌, ℕ, zero, suc, ◌+◌, ◌-◌, ◌*◌, ◌/◌, ◌%◌, ◌<◌, ◌≤◌, min, Bool, true, false, List, [], ◌∷◌, ◌++◌, length, get_or, set, refl, sym, ap, subst, ◌∙◌, arith, eqb}
use Rattle.std.specs.List.{insert, remove}
use Rattle.std.proofs.lemmas.Bool.{eqb-true, eq-eqb}
use Rattle.std.proofs.lemmas.List.{get_or_default, get_or-set_same, get_or-set_other}
use Rattle.std.proofs.Math.ListN.{length-append, length-set}
use Rattle.clockqueue.specs.Tiers.{filled, joined, size_at, HasHole, IsTier, MovesOne}
use Rattle.clockqueue.proofs.Joined.{FullBefore, joined-get, joined-insert, joined-pull, joined-push, joined-remove}

-- a case for each number but one, and for that one
pub apart : (P : ℕ → Type 0) (h : ℕ) → P h → ((k : ℕ) → k ≢ h → P k) → (k : ℕ) → P k
apart P h here others k = by (eqb k h) refl
  where
    by : (b : Bool) → eqb k h ≡ b → P k
    by true e = subst P (sym (eqb-true k h e)) here
    by false e = others k (λ same. absurd (differ same))
      where
        differ : k ≡ h → ⊥
        differ same = let yes : eqb k h ≡ true = eq-eqb k h same in absurd cc

number-is : (number : ℕ) → number ≡ 1024 * (number / 1024) + number % 1024
number-is number = omega arith

module _ {X : Type 0} where
  -- blocks that hold n entries hold so many
  pub tier-length : (bs : List (List X)) (n : ℕ) → IsTier n bs → length (joined bs) ≡ n
  tier-length [] n is = let low = is.within in omega (arith, low)
  tier-length (b ∷ bs) n is =
      let first : length b ≡ min 1024 (n - 1024 * 0) = is.sizes zero in
      let within = is.within in
      let rest : length (joined bs) ≡ n - 1024 = tier-length bs (n - 1024) (record { within = omega (arith, within); sizes = λ k. is.sizes (suc k) ∙ omega arith }) in
      length-append b (joined bs) ∙ omega (arith, first, rest)

  -- ---- a number and its block

  pub tier-full : (bs : List (List X)) (n number : ℕ) → IsTier n bs → number < n → FullBefore (number / 1024) bs
  tier-full bs n number is below k less = is.sizes k ∙ omega (arith, below, less)

  pub tier-here : (bs : List (List X)) (n number : ℕ) → IsTier n bs → number < n → number % 1024 < size_at bs (number / 1024)
  tier-here bs n number is below = let size = is.sizes (number / 1024) in omega (arith, below, size)

  pub hole-full : (bs : List (List X)) (n number : ℕ) → HasHole n (number / 1024) bs → number < n → FullBefore (number / 1024) bs
  hole-full bs n number is below k less = is.others k (λ same. omega (arith, same, less)) ∙ omega (arith, below, less)

  pub hole-here : (bs : List (List X)) (n number : ℕ) → HasHole n (number / 1024) bs → number < n → number % 1024 ≤ size_at bs (number / 1024)
  hole-here bs n number is below = let size = is.here in omega (arith, below, size)

  -- ---- one block changes

  pub size-set : (bs : List (List X)) (p : ℕ) (b : List X) → p < length bs → size_at (set bs p b) p ≡ length b
  size-set bs p b there = ap (λ (l : List X). length l) (get_or-set_same bs p b [] there)

  pub size-other : (bs : List (List X)) (p k : ℕ) (b : List X) → k ≢ p → size_at (set bs p b) k ≡ size_at bs k
  size-other bs p k b differ = ap (λ (l : List X). length l) (get_or-set_other bs p k b [] differ)

  -- a block has lost one entry
  pub hole-made : (bs : List (List X)) (n p : ℕ) (b : List X) → IsTier n bs → p < length bs → length b + 1 ≡ size_at bs p → HasHole n p (set bs p b)
  hole-made bs n p b is there one = record {
    within = let low = is.within in omega (arith, low, length-set bs p b);
    here = ap (λ m. m + 1) (size-set bs p b there) ∙ one ∙ is.sizes p;
    others = λ k differ. size-other bs p k b differ ∙ is.sizes k;
  }

  -- the block that lacks one has got it
  pub hole-filled : (bs : List (List X)) (n p : ℕ) (b : List X) → HasHole n p bs → p < length bs → length b ≡ size_at bs p + 1 → IsTier n (set bs p b)
  hole-filled bs n p b is there one = record {
    within = let low = is.within in omega (arith, low, length-set bs p b);
    sizes = apart (λ k. size_at (set bs p b) k ≡ filled n k) p (size-set bs p b there ∙ one ∙ is.here) (λ k differ. size-other bs p k b differ ∙ is.others k differ);
  }

  -- the hole goes where an entry has come from
  pub hole-moved : (old new : List (List X)) (n from to : ℕ) → HasHole n to old → from ≢ to → MovesOne from to old new → HasHole n from new
  hole-moved old new n from to is differ moves = record {
    within = let low = is.within in let count = moves.count in omega (arith, low, count);
    here = moves.less ∙ is.others from differ;
    others = λ k other. apart (λ i. i ≢ from → size_at new i ≡ filled n i) to (λ _. moves.more ∙ is.here) (λ i not_to not_from. moves.others i not_from not_to ∙ is.others i not_to) k other;
  }

  -- a hole in the last block is none with one entry less
  pub hole-last : (bs : List (List X)) (n last : ℕ) → HasHole n last bs → last ≡ (n - 1) / 1024 → IsTier (n - 1) bs
  hole-last bs n last is at =
      let size = is.here in
      record {
        within = let low = is.within in omega (arith, low);
        sizes = apart (λ k. size_at bs k ≡ filled (n - 1) k) last (omega (arith, size, at)) (λ k differ. is.others k differ ∙ shorter k differ);
      }
    where
      shorter : (k : ℕ) → k ≢ last → filled n k ≡ filled (n - 1) k
      shorter k differ = omega (arith, at, differ)

  -- where one entry more is to be, the last block lacks one
  pub last-hole : (bs : List (List X)) (n last : ℕ) → IsTier (n - 1) bs → 0 < n → n ≤ 1024 * length bs → last ≡ (n - 1) / 1024 → HasHole n last bs
  last-hole bs n last is some within at =
      let size = is.sizes last in
      record {
        within = within;
        here = omega (arith, size, at, some);
        others = λ k differ. is.sizes k ∙ longer k differ;
      }
    where
      longer : (k : ℕ) → k ≢ last → filled (n - 1) k ≡ filled n k
      longer k differ = omega (arith, at, differ, some)

  -- ---- an entry moves

  pub pulled : (bs : List (List X)) (h : ℕ) (x : X) (rest : List X) → suc h < length bs → get_or bs (suc h) [] ≡ x ∷ rest → MovesOne (suc h) h bs (set (set bs (suc h) rest) h (get_or bs h [] ++ x ∷ []))
  pulled bs h x rest there is =
      let front = get_or bs h [] ++ x ∷ [] in
      let mid = set bs (suc h) rest in
      let mid-length : length mid ≡ length bs = length-set bs (suc h) rest in
      record {
        joined_same = joined-pull bs h x rest there is;
        count = length-set mid h front ∙ mid-length;
        less =
            let took : size_at bs (suc h) ≡ suc (length rest) = ap (λ (l : List X). length l) is in
            let now : size_at (set mid h front) (suc h) ≡ length rest = size-other mid h (suc h) front (λ same. omega (arith, same)) ∙ size-set bs (suc h) rest there in
            omega (arith, took, now);
        more = size-set mid h front (omega (arith, there, mid-length)) ∙ length-append (get_or bs h []) (x ∷ []);
        others = λ k from to. size-other mid h k front to ∙ size-other bs (suc h) k rest from;
      }

  pub pushed : (bs : List (List X)) (f : ℕ) (x : X) (front : List X) → suc f < length bs → get_or bs f [] ≡ front ++ x ∷ [] → MovesOne f (suc f) bs (set (set bs f front) (suc f) (x ∷ get_or bs (suc f) []))
  pushed bs f x front there is =
      let later = x ∷ get_or bs (suc f) [] in
      let mid = set bs f front in
      let mid-length : length mid ≡ length bs = length-set bs f front in
      record {
        joined_same = joined-push bs f x front there is;
        count = length-set mid (suc f) later ∙ mid-length;
        less =
            let took : size_at bs f ≡ length front + 1 = ap (λ (l : List X). length l) is ∙ length-append front (x ∷ []) in
            let now : size_at (set mid (suc f) later) f ≡ length front = size-other mid (suc f) f later (λ same. omega (arith, same)) ∙ size-set bs f front (omega (arith, there)) in
            omega (arith, took, now);
        more = let now = size-set mid (suc f) later (omega (arith, there, mid-length)) in omega (arith, now);
        others = λ k from to. size-other mid (suc f) k later to ∙ size-other bs f k front from;
      }

  -- the same, as code says it, which reads a block with another default
  pub pulled-at : (bs : List (List X)) (h n : ℕ) (x : X) (rest front d e : List X) → n ≡ suc h → n < length bs → get_or bs n d ≡ x ∷ rest → front ≡ get_or (set bs n rest) h e ++ x ∷ [] → MovesOne n h bs (set (set bs n rest) h front)
  pulled-at bs h n x rest front d e is there took put =
      let from : get_or bs (suc h) [] ≡ x ∷ rest = get_or_default bs (suc h) [] d (omega (arith, is, there)) ∙ ap (λ k. get_or bs k d) (sym is) ∙ took in
      let to : front ≡ get_or bs h [] ++ x ∷ [] =
      put ∙ ap (λ (l : List X). l ++ x ∷ []) (get_or-set_other bs n h rest e (λ same. omega (arith, same, is)) ∙ get_or_default bs h e [] (omega (arith, is, there))) in
      let base : MovesOne (suc h) h bs (set (set bs (suc h) rest) h front) = subst (λ l. MovesOne (suc h) h bs (set (set bs (suc h) rest) h l)) (sym to) (pulled bs h x rest (omega (arith, is, there)) from) in
      subst (λ k. MovesOne k h bs (set (set bs k rest) h front)) (sym is) base

  pub pushed-at : (bs : List (List X)) (f n : ℕ) (x : X) (front later d e : List X) → n ≡ suc f → n < length bs → get_or bs f d ≡ front ++ x ∷ [] → later ≡ x ∷ get_or (set bs f front) n e → MovesOne f n bs (set (set bs f front) n later)
  pushed-at bs f n x front later d e is there took put =
      let from : get_or bs f [] ≡ front ++ x ∷ [] = get_or_default bs f [] d (omega (arith, is, there)) ∙ took in
      let to : later ≡ x ∷ get_or bs (suc f) [] =
      put ∙ ap (λ (l : List X). x ∷ l) (get_or-set_other bs f n front e (λ same. omega (arith, same, is)) ∙ get_or_default bs n e [] there ∙ ap (λ k. get_or bs k []) is) in
      let base : MovesOne f (suc f) bs (set (set bs f front) (suc f) later) = subst (λ l. MovesOne f (suc f) bs (set (set bs f front) (suc f) l)) (sym to) (pushed bs f x front (omega (arith, is, there)) from) in
      subst (λ k. MovesOne f k bs (set (set bs f front) k later)) (sym is) base

  -- ---- one entry of the whole

  block-there : (bs : List (List X)) (n number : ℕ) → n ≤ 1024 * length bs → number < n → number / 1024 < length bs
  block-there bs n number within below = omega (arith, within, below)

  pub read-at : (bs : List (List X)) (n number : ℕ) (b : List X) (x : X) → IsTier n bs → number < n → b ≡ get_or bs (number / 1024) b → x ≡ get_or b (number % 1024) x → x ≡ get_or (joined bs) number x
  read-at bs n number b x is below b-is x-is =
      let there = block-there bs n number is.within below in
      let here : b ≡ get_or bs (number / 1024) [] = b-is ∙ get_or_default bs (number / 1024) b [] there in
      x-is ∙ ap (λ (l : List X). get_or l (number % 1024) x) here ∙ sym (joined-get bs (number / 1024) (number % 1024) number x (tier-full bs n number is below) (number-is number) (tier-here bs n number is below))

  pub taken-from : (bs : List (List X)) (n number : ℕ) (later d : List X) → IsTier n bs → number < n → later ≡ remove (get_or bs (number / 1024) d) (number % 1024) → joined (set bs (number / 1024) later) ≡ remove (joined bs) number
  taken-from bs n number later d is below later-is =
      let p = number / 1024 in
      let there = block-there bs n number is.within below in
      let now : later ≡ remove (get_or bs p []) (number % 1024) = later-is ∙ ap (λ (l : List X). remove l (number % 1024)) (get_or_default bs p d [] there) in
      ap (λ (l : List X). joined (set bs p l)) now ∙ joined-remove bs p (number % 1024) number (tier-full bs n number is below) (number-is number) there (tier-here bs n number is below)

  pub put-into : (bs : List (List X)) (n number : ℕ) (x : X) (later d : List X) → HasHole n (number / 1024) bs → number < n → later ≡ insert (get_or bs (number / 1024) d) (number % 1024) x → joined (set bs (number / 1024) later) ≡ insert (joined bs) number x
  put-into bs n number x later d is below later-is =
      let p = number / 1024 in
      let there = block-there bs n number is.within below in
      let now : later ≡ insert (get_or bs p []) (number % 1024) x = later-is ∙ ap (λ (l : List X). insert l (number % 1024) x) (get_or_default bs p d [] there) in
      ap (λ (l : List X). joined (set bs p l)) now ∙ joined-insert bs p (number % 1024) number x (hole-full bs n number is below) (number-is number) there (hole-here bs n number is below)

  pub joined-taken : (bs : List (List X)) (n number : ℕ) (d : List X) (x : X) → IsTier n bs → number < n → x ≡ get_or (get_or bs (number / 1024) d) (number % 1024) x → x ≡ get_or (joined bs) number x
  joined-taken bs n number d x is below x-is =
      read-at bs n number (get_or bs (number / 1024) d) x is below (get_or_default bs (number / 1024) d (get_or bs (number / 1024) d) (block-there bs n number is.within below)) x-is
