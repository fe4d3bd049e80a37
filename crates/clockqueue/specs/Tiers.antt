-- Tiers: a list in blocks of 1024 places, all full up to where the list ends, and empty behind it.
--     joined      what the blocks hold, one behind the other
--     size_at bs k      how many entries the block with the number k holds; none where there is no such block
--     filled n k      how many of n entries the block with the number k has
--     IsTier n bs      blocks that hold n entries, each as many as it should
--     HasHole n hole bs      the same, but that the block with the number hole lacks one
--     MovesOne from to old new      an entry has gone from one block to another, and the whole is as it was
--     TierState      entries, and how many further ones have room
use Rattle.std.specs.Prelude.{◌≡◌, ◌≢◌, ℕ, ◌+◌, ◌-◌, ◌*◌, ◌≤◌, List, [], length, get_or, flat_map, min}

-- a list, and how many further entries are sure to have room
pub record TierState (X : Type 0) : Type 0 where
  pub items : List X
  pub spare : ℕ

abbrev pub filled : ℕ → ℕ → ℕ
filled n k = min 1024 (n - 1024 * k)

module _ {X : Type 0} where
  abbrev pub joined : List (List X) → List X
  joined bs = flat_map (λ b. b) bs

  abbrev pub size_at : List (List X) → ℕ → ℕ
  size_at bs k = length (get_or bs k [])

  pub record IsTier (n : ℕ) (bs : List (List X)) : Type 0 where
    pub within : n ≤ 1024 * length bs
    pub sizes : (k : ℕ) → size_at bs k ≡ filled n k

  pub record HasHole (n hole : ℕ) (bs : List (List X)) : Type 0 where
    pub within : n ≤ 1024 * length bs
    pub here : size_at bs hole + 1 ≡ filled n hole
    pub others : (k : ℕ) → k ≢ hole → size_at bs k ≡ filled n k

  pub record MovesOne (from to : ℕ) (old new : List (List X)) : Type 0 where
    pub joined_same : joined new ≡ joined old
    pub count : length new ≡ length old
    pub less : size_at new from + 1 ≡ size_at old from
    pub more : size_at new to ≡ size_at old to + 1
    pub others : (k : ℕ) → k ≢ from → k ≢ to → size_at new k ≡ size_at old k
