-- One change after the other is kept.
use Rattle.std.proofs.Common.{◌≡◌, ◌+◌, ◌∙◌, List, ◌∷◌, drop, sym, ap}
use Rattle.std.specs.Prelude.{fold}
use Rattle.std.proofs.lemmas.List.{drop_more}
use Rattle.rrset.specs.declared.record.Changed.{Changed}
use Rattle.coalesce.specs.Waiting.{WaitingName, before_point, names_waiting, with_old, with_old_value}
use Rattle.coalesce.proofs.GoingBack.{change_goes}
use Rattle.coalesce.proofs.queue.keep_each.Goals as goal

pub changes-preserved : goal.changes-preserved
changes-preserved c =
    let point = c.args.point in
    let queue = names_waiting c.changes.names.entries in
    let change = c.change-item.result in
    let rest = drop (c.changes.change-index + 1) c.args.changed.now in
    let kept : names_waiting c.keep.new.names.entries ≡ with_old point queue change = c.in_ok-keep.ensures.ok ∙ ap (with_old_value queue) c.in_ok-old.ensures in
    let first : drop c.changes.change-index c.args.changed.now ≡ change ∷ rest = drop_more c.args.changed.now c.changes.change-index change c.changes-test.true ∙ ap (λ (d : Changed). d ∷ rest) (sym c.change-item.is) in (
      ap (λ (q : List WaitingName). fold (with_old point) q rest) kept ∙ ap (fold (with_old point) queue) (sym first) ∙ c.changes.invariant.0,
      ap (before_point point) kept ∙ change_goes point queue change ∙ c.changes.invariant.1,
    )
