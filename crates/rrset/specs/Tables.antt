-- Tables: finite maps from keys that are kept in key order, with room for further keys.
--     TableState X      the rows, and the number of new keys that are sure to have room
--     HasLowerOwner, HaveLowerOwners      the owner of a key is in lower case; that of each key
--     counted      a number of octets as it is told in 64 bits
--     IsAt, IsGapFor      where a key is, and where it would go
use Rattle.std.specs.Prelude.{◌≡◌, ℕ, ◌-◌, ◌^◌, ◌<◌, ◌≤◌, length, min}
use Rattle.std.specs.List.{AllByRecursion, HoldsAt}
use Rattle.std.specs.List.Sorted.{IsPartitionPoint}
use Rattle.std.specs.declared.cmp.Ordering.TheVariants.{Less, Equal, Greater}
use Rattle.dnsname.specs.Names.{lower}
use Rattle.rrset.specs.Records.{key_cmp}
use Rattle.rrset.specs.KeyedRows.{Rows}
use Rattle.rrset.specs.declared.record.Key.{Key}

-- the rows, and how many new keys are sure to have room
pub record TableState (X : Type 0) : Type 0 where
  pub rows : Rows X
  pub spare : ℕ

-- the owner is in lower case, as that of each record's key is
abbrev pub HasLowerOwner : Key → Type 0
HasLowerOwner key = lower key.owner ≡ key.owner

-- a number of octets, or the greatest of 64 bits where it is greater
abbrev pub counted : ℕ → ℕ
counted n = min n (2 ^ 64 - 1)

module _ {X : Type 0} where
  -- the owner of each key is in lower case
  abbrev pub HaveLowerOwners : Rows X → Type 0
  HaveLowerOwners rows = AllByRecursion (λ e. HasLowerOwner e.0) rows

  -- the key is that of the row with this index
  pub record IsAt (key : Key) (rows : Rows X) (index : ℕ) : Type 0 where
    pub within : index < length rows
    pub equal : HoldsAt (λ e. key_cmp e.0 key ≡ Equal) rows index

  -- the keys before the index are less than the key, and those from there on are greater
  pub record IsGapFor (key : Key) (rows : Rows X) (index : ℕ) : Type 0 where
    pub within : index ≤ length rows
    pub between : IsPartitionPoint (λ e. key_cmp e.0 key ≡ Less) (λ e. key_cmp e.0 key ≡ Greater) rows index
