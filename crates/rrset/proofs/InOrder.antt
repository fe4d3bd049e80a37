-- What keeps a record set in key order, and that two sets in order are one where they show the same of each key.
use Rattle.std.proofs.Common.{◌≡◌, Bool, not, List, [], ◌∷◌, Option, Some, None, T}
use Rattle.std.specs.FinMap.Entries.{same_entries, is_sorted-where_key, is_sorted-put}
use Rattle.rrset.specs.RecordSet.{RecordSet, is_in_order, put, only, without, union, shown_at, with_changed, with_changes}
use Rattle.rrset.specs.Records.{key_cmp, same_key}
use Rattle.rrset.specs.declared.record.Key.{Key}
use Rattle.rrset.specs.declared.record.Shown.{Shown}
use Rattle.rrset.specs.declared.record.Changed.{Changed}
use Rattle.rrset.proofs.KeyOrder.{key_cmp_total, key_cmp-IsAntisymmetric}

abbrev pub InOrder : RecordSet → Type 0
InOrder set = T (is_in_order set)

pub in_order-put : (key : Key) (shown : Shown) (set : RecordSet) → InOrder set → InOrder (put key shown set)
in_order-put key shown set h = is_sorted-put key_cmp key_cmp_total key shown set h

pub in_order-only : (p : Key → Bool) (set : RecordSet) → InOrder set → InOrder (only p set)
in_order-only p set h = is_sorted-where_key key_cmp p set h

pub in_order-without : (p : Key → Bool) (set : RecordSet) → InOrder set → InOrder (without p set)
in_order-without p set h = in_order-only (λ key. not (p key)) set h

-- the second of the two may be in any order
pub in_order-union : (first second : RecordSet) → InOrder first → InOrder (union first second)
in_order-union first [] h = h
in_order-union first (e ∷ es) h = in_order-union (put e.0 e.1 first) es (in_order-put e.0 e.1 first h)

pub in_order-with_changed : (set : RecordSet) (c : Changed) → InOrder set → InOrder (with_changed set c)
in_order-with_changed set c h = by c.after
  where
    by : (after : Option Shown) → InOrder (elim after [ None ↦ without (same_key c.key) set | Some shown ↦ put c.key shown set ])
    by None = in_order-without (same_key c.key) set h
    by (Some shown) = in_order-put c.key shown set h

pub in_order-with_changes : (cs : List Changed) (set : RecordSet) → InOrder set → InOrder (with_changes cs set)
in_order-with_changes [] set h = h
in_order-with_changes (c ∷ cs) set h = in_order-with_changes cs (with_changed set c) (in_order-with_changed set c h)

pub same_sets : (a b : RecordSet) → InOrder a → InOrder b → ((q : Key) → shown_at q a ≡ shown_at q b) → a ≡ b
same_sets a b h g same = same_entries key_cmp key_cmp_total key_cmp-IsAntisymmetric a b h g same
