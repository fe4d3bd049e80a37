-- Deadlines: a finite map from keys to moments, in milliseconds, listed as it falls due.
--     due_cmp cmp      the order of deadlines: by moment, and then by key in the order cmp
--     AreDeadlines      in this order, each key once
--     is_of key, is_set_to key moment      a deadline is that of the key; and it has exactly this moment
--     moment_of, without, with_deadline      the moment of a key; what is left without it; the deadlines with another one for it
--     due moment      the deadlines at or before a moment, in their order
--     first_moment      the least moment
--     DeadlinesState      the deadlines, and the room for further ones
use Rattle.std.specs.Prelude.{ℕ, Bool, not, List, [], ◌∷◌, filter, find, Option, Some, None, option_map, nat_le}
use Rattle.std.specs.Ordering.{nat_cmp, ordering_then, eq_by_cmp}
use Rattle.std.specs.declared.cmp.Ordering.{Ordering}
use Rattle.std.specs.List.{IsDistinct}
use Rattle.std.specs.List.Sorted.{IsStrictlySortedBy}
use Rattle.std.specs.BTreeSet.{insert_key}

-- a key's moment, and the key
abbrev pub Deadlines : Type 0 → Type 0
Deadlines K = List (ℕ × K)

-- deadlines, and how many new keys are sure to have room
pub record DeadlinesState (K : Type 0) : Type 0 where
  pub deadlines : Deadlines K
  pub spare : ℕ

module _ {K : Type 0} (cmp : K → K → Ordering) where
  abbrev pub due_cmp : ℕ × K → ℕ × K → Ordering
  due_cmp a b = ordering_then (nat_cmp a.0 b.0) (cmp a.1 b.1)

  abbrev pub is_of : K → ℕ × K → Bool
  is_of key deadline = eq_by_cmp cmp deadline.1 key

  abbrev pub is_set_to : K → ℕ → ℕ × K → Bool
  is_set_to key moment deadline = eq_by_cmp due_cmp deadline (moment, key)

  pub record AreDeadlines (ds : Deadlines K) : Type 0 where
    pub order : IsStrictlySortedBy due_cmp ds
    pub keys : IsDistinct (λ d e. is_of e.1 d) ds

  abbrev pub moment_of : K → Deadlines K → Option ℕ
  moment_of key ds = option_map (λ d. d.0) (find (is_of key) ds)

  abbrev pub without : K → Deadlines K → Deadlines K
  without key ds = filter (λ d. not (is_of key d)) ds

  -- the key has this moment alone
  abbrev pub with_deadline : K → ℕ → Deadlines K → Deadlines K
  with_deadline key moment ds = insert_key due_cmp (without key ds) (moment, key)

module _ {K : Type 0} where
  abbrev pub due : ℕ → Deadlines K → Deadlines K
  due moment ds = filter (λ d. nat_le d.0 moment) ds

  abbrev pub first_moment : Deadlines K → Option ℕ
  first_moment [] = None
  first_moment (d ∷ ds) = Some d.0
