-- The records of nodes put over those of a set, one node after the other.
use Rattle.std.proofs.Common.{◌≡◌, ℕ, ◌+◌, ◌<◌, ◌++◌, ◌∷◌, [], Bool, true, false, cond, T, Option, Some, None, length, get_or, drop, refl, sym, ap, ◌∙◌}
use Rattle.std.specs.Ordering.{is_lt, is_eq}
use Rattle.std.specs.FinMap.Entries.{below_all}
use Rattle.std.specs.declared.cmp.Ordering.{Ordering}
use Rattle.std.specs.declared.cmp.Ordering.TheVariants.{Less, Equal, Greater}
use Rattle.std.proofs.lemmas.List.{drop_more}
use Rattle.std.proofs.lemmas.List.Sums.{fold-append}
use Rattle.rrset.specs.Records.{key_cmp, same_key}
use Rattle.rrset.specs.RecordSet.{RecordSet, put, union, shown_at}
use Rattle.rrset.proofs.Places.{and_left, and_right}
use Rattle.rrset.proofs.Sets.{shown_at-put}
use Rattle.rrset.proofs.SameRows.{same_key-same}
use Rattle.rrset.proofs.InOrder.{InOrder, in_order-union, same_sets}
use Rattle.rrset.specs.declared.record.Key.{Key}
use Rattle.rrset.specs.declared.record.Shown.{Shown}
use Rattle.nametable.specs.Nodes.{Node, Nodes, all_rows}
use Rattle.nametable.specs.Blocks.{Blocks, nodes_in}
use Rattle.nametable.proofs.BlockParts.{all_rows-append}

pub union-next : (all now target : RecordSet) (ns : Nodes Shown) (index : ℕ) (g : Node Shown) → index < length ns → g ≡ get_or ns index g → now ≡ union all g.1.rows
    → union all (all_rows (drop index ns)) ≡ target → union now (all_rows (drop (index + 1) ns)) ≡ target
union-next all now target ns index g within is now-is so_far =
    ap (λ (l : RecordSet). union l (all_rows (drop (index + 1) ns))) now-is
    ∙ sym (fold-append (λ (set : RecordSet) (e : Key × Shown). put e.0 e.1 set) all g.1.rows (all_rows (drop (index + 1) ns)))
    ∙ ap (λ (h : Node Shown). union all (h.1.rows ++ all_rows (drop (index + 1) ns))) is
    ∙ ap (λ (l : Nodes Shown). union all (all_rows l)) (sym (drop_more ns index g within))
    ∙ so_far

-- ---- records put one by one

less : (r : Ordering) → T (is_lt r) → r ≡ Less
less Less h = refl
less Equal h = absurd h
less Greater h = absurd h

-- a key before all others isn't among them
shown_at-below : (q : Key) (set : RecordSet) → T (below_all key_cmp q set) → shown_at q set ≡ None
shown_at-below q [] h = refl
shown_at-below q (e ∷ es) h = ap (λ (r : Ordering). cond (is_eq r) (Some e.1) (shown_at q es)) (less _ (and_left _ _ h)) ∙ shown_at-below q es (and_right _ _ h)

abbrev or_else : Option Shown → Option Shown → Option Shown
or_else None other = other
or_else (Some shown) other = Some shown

shown_at-union : (q : Key) (first second : RecordSet) → InOrder second → shown_at q (union first second) ≡ or_else (shown_at q second) (shown_at q first)
shown_at-union q first [] h = refl
shown_at-union q first (e ∷ es) h =
    shown_at-union q (put e.0 e.1 first) es (and_right _ _ h)
    ∙ ap (or_else (shown_at q es)) (shown_at-put q e.0 e.1 first)
    ∙ by (same_key q e.0) refl
  where
    by : (b : Bool) → same_key q e.0 ≡ b → or_else (shown_at q es) (cond b (Some e.1) (shown_at q first)) ≡ or_else (cond b (Some e.1) (shown_at q es)) (shown_at q first)
    by true same = ap (λ (o : Option Shown). or_else o (Some e.1)) (ap (λ (k : Key). shown_at k es) (same_key-same q e.0 same) ∙ shown_at-below e.0 es (and_left _ _ h))
    by false other = refl

pub union-none : (set : RecordSet) → InOrder set → union [] set ≡ set
union-none set h = same_sets (union [] set) set (in_order-union [] set tt) h (λ q. shown_at-union q [] set h ∙ itself (shown_at q set))
  where
    itself : (o : Option Shown) → or_else o None ≡ o
    itself None = refl
    itself (Some shown) = refl

pub union-next-block : (all now target : RecordSet) (bs : Blocks Shown) (index : ℕ) (b : Nodes Shown) → index < length bs → b ≡ get_or bs index b → now ≡ union all (all_rows b)
    → union all (all_rows (nodes_in (drop index bs))) ≡ target → union now (all_rows (nodes_in (drop (index + 1) bs))) ≡ target
union-next-block all now target bs index b within is now-is so_far =
    let rest = nodes_in (drop (index + 1) bs) in
    ap (λ (l : RecordSet). union l (all_rows rest)) now-is
    ∙ sym (fold-append (λ (set : RecordSet) (e : Key × Shown). put e.0 e.1 set) all (all_rows b) (all_rows rest))
    ∙ ap (union all) (sym (all_rows-append b rest))
    ∙ ap (λ (c : Nodes Shown). union all (all_rows (c ++ rest))) is
    ∙ ap (λ (l : Blocks Shown). union all (all_rows (nodes_in l))) (sym (drop_more bs index b within))
    ∙ so_far
