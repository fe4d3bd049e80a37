use Rattle.std.proofs.Common.{◌∙◌, ◌++◌, [], ◌∷◌, Vec, not, ap}
use Rattle.rrset.specs.declared.record.Key.{Key}
use Rattle.linkcache.specs.declared.row.HeardRow.{HeardRow}
use Rattle.linkcache.proofs.LaidSizes.{new-more, new-skip, none-at, some-at}
use Rattle.linkcache.proofs.laying.append_new.Goals.{then-is_none+in_ok-entry_of+in_ok-push, else-is_none}
use Rattle.linkcache.proofs.laying.append_new.Goals as goal

pub entries-preserved : goal.entries-preserved
entries-preserved c =
    let rows = c.args.rows.now.rows in
    let es = c.args.entries.now in
    let i = c.entries.key-index in
    let e = c.entries-item.result in
    elim c.if-is_none.branch [
      | then-is_none+in_ok-entry_of+in_ok-push w ↦ new-more rows es i e c.entries-test.true c.entries-item.is c.entries.new.items c.if-is_none.new.items _
          (none-at (λ row. row.now) e.0 rows c.get.result c.get.ensures (c.is_none.ensures ∙ ap not w.if-is_none.true))
          (ap (λ (v : Vec (Key × HeardRow) _). v.items) w.new-is ∙ w.in_ok-push.ensures.items ∙ ap (λ (x : Key × HeardRow). c.entries.new.items ++ x ∷ []) w.in_ok-entry_of.ensures) c.entries.invariant
      | else-is_none w ↦ new-skip rows es i e c.entries-test.true c.entries-item.is c.entries.new.items c.if-is_none.new.items _
          (some-at (λ row. row.now) e.0 rows c.get.result c.get.ensures (c.is_none.ensures ∙ ap not w.if-is_none.false))
          (ap (λ (v : Vec (Key × HeardRow) _). v.items) w.new-is) c.entries.invariant
    ]
