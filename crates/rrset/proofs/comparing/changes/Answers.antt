use Rattle.std.proofs.Common.{◌≡◌, ◌++◌, List, Vec, ap, ◌∙◌}
use Rattle.rrset.specs.declared.record.Changed.{Changed}
use Rattle.rrset.proofs.Differences.{changed_in, changed_turn, changed_end, noted, noted-changed, noted-same}
use Rattle.rrset.proofs.comparing.changes.Goals.{then-not-shown_the_same+in_ok-copy+in_ok-push, else-not-shown_the_same+in-Some-1, else-not-shown_the_same+in-None-1}
use Rattle.rrset.proofs.comparing.changes.Goals as goal

pub entries-init : goal.entries-init
entries-init c =
    ap (λ (x : List Changed). x ++ changed_in c.args.old.now.rows c.args.new.now.rows c.entries-key-items.result.now) c.new-changed.ensures.items
    ∙ ap (changed_in c.args.old.now.rows c.args.new.now.rows) (c.entries-key-items.ensures.rows ∙ c.in_ok-all.ensures)

pub entries-preserved : goal.entries-preserved
entries-preserved c =
    let key = c.entries-item.result.0 in
    let before = c.in_ok-before.before in
    let after = c.in_ok-after.after in
    let out = c.entries.changed.items in
    let now = c.if-not-shown_the_same.changed.items in
    let step : now ≡ out ++ noted key before after = elim c.if-not-shown_the_same.branch [
      | then-not-shown_the_same+in_ok-copy+in_ok-push w ↦ noted-changed key w.in_ok-copy.field-0 before after c.shown_the_same.result out now c.shown_the_same.ensures w.if-not-shown_the_same.true w.in_ok-copy.ensures
          (ap (λ (v : Vec Changed _). v.items) w.changed-is ∙ w.in_ok-push.ensures.items)
      | else-not-shown_the_same+in-Some-1 w ↦ noted-same key before after c.shown_the_same.result out now c.shown_the_same.ensures w.if-not-shown_the_same.false (ap (λ (v : Vec Changed _). v.items) w.changed-is)
      | else-not-shown_the_same+in-None-1 w ↦ noted-same key before after c.shown_the_same.result out now c.shown_the_same.ensures w.if-not-shown_the_same.false (ap (λ (v : Vec Changed _). v.items) w.changed-is)
    ] in
    changed_turn c.args.old.now.rows c.args.new.now.rows c.entries-key-items.result.now c.entries.key-index c.entries-item.result before after
    out now _ c.entries-test.true c.entries-item.is c.in_ok-before.ensures c.in_ok-after.ensures c.entries.invariant step

pub returns : goal.returns
returns c = changed_end c.args.old.now.rows c.args.new.now.rows c.entries-key-items.result.now c.entries.key-index c.entries.changed.items _ c.entries-test.false c.entries.invariant
