-- What is told of a name that waits is told of the keys that changed.
use Rattle.std.proofs.Common.{◌≡◌, ℕ, ◌+◌, ◌-◌, ◌^◌, List, min, None, sym, ap, subst, ◌∙◌}
use Rattle.dnsname.specs.Names.{Labels}
use Rattle.rrset.specs.RecordSet.{RecordSet, with_values}
use Rattle.rrset.specs.Tables.{counted}
use Rattle.dsotlv.specs.declared.message.Notice.{Notice}
use Rattle.coalesce.specs.Net.{single_changes, size_of_notices}
use Rattle.coalesce.specs.Sides.{IsOneSide, is_asked}
use Rattle.coalesce.specs.Steps.{additions_to, removals_behind}
use Rattle.coalesce.specs.Touched.{AreSides, came, gone, new_rows, old_rows}
use Rattle.coalesce.specs.Waiting.{values_of}
use Rattle.coalesce.specs.declared.touched.Touched.{Touched}
use Rattle.coalesce.proofs.Forms.{single_counted}
use Rattle.coalesce.proofs.OneSide.{only_one_side}
use Rattle.coalesce.proofs.WhatDiffers.{gone_side, same_removals, same_additions}

pub old_one : (t : Touched) (old : RecordSet) → AreSides t → old ≡ old_rows t → IsOneSide old
old_one t old sides old-is = subst IsOneSide (sym old-is) (only_one_side (is_asked t.asking) (with_values (values_of t.values.now) t.rows.now) sides.1)

pub gone_one : (t : Touched) → AreSides t → IsOneSide (gone t)
gone_one t sides =
    gone_side (is_asked t.asking) t.values.now t.rows.now sides.0.0 sides.0.1 (only_one_side (is_asked t.asking) (with_values (values_of t.values.now) t.rows.now) sides.1)

pub removals_at : (t : Touched) (name : Labels) (old new : RecordSet) → AreSides t → old ≡ old_rows t → new ≡ new_rows t → removals_behind name new None (gone t) ≡ removals_behind name new None old
removals_at t name old new sides old-is new-is =
    ap (λ (l : RecordSet). removals_behind name l None (gone t)) new-is
    ∙ same_removals name (is_asked t.asking) t.values.now t.rows.now sides.0.0 sides.0.1 (only_one_side (is_asked t.asking) (with_values (values_of t.values.now) t.rows.now) sides.1)
    ∙ (λ i. removals_behind name (sym new-is i) None (sym old-is i))

pub additions_at : (t : Touched) (old new : RecordSet) → AreSides t → old ≡ old_rows t → new ≡ new_rows t → came t ≡ additions_to old new
additions_at t old new sides old-is new-is =
    same_additions (is_asked t.asking) t.values.now t.rows.now sides.0.0 sides.0.1
    ∙ (λ i. additions_to (sym old-is i) (sym new-is i))

pub single_at : (t : Touched) (name : Labels) (old new : RecordSet) (removed changed single : ℕ) → AreSides t → old ≡ old_rows t → new ≡ new_rows t
    → removed ≡ counted (size_of_notices (removals_behind name new None (gone t))) → changed ≡ counted (size_of_notices (came t)) → single ≡ min (removed + changed) (2 ^ 64 - 1)
    → single ≡ counted (size_of_notices (single_changes name old new))
single_at t name old new removed changed single sides old-is new-is removed-is changed-is single-is =
    single_counted name old new removed changed single (old_one t old sides old-is)
    (removed-is ∙ ap (λ (l : List Notice). counted (size_of_notices l)) (removals_at t name old new sides old-is new-is))
    (changed-is ∙ ap (λ (l : List Notice). counted (size_of_notices l)) (additions_at t old new sides old-is new-is))
    single-is
