use Rattle.std.proofs.Common.{◌≡◌, ◌≤◌, ◌∙◌, List, ◌∷◌, length, map, sym, ap, subst, arith}
use Rattle.std.specs.List.{AllByRecursion}
use Rattle.rrset.specs.Tables.{HasLowerOwner}
use Rattle.nametable.specs.Nodes.{HasRoomFor}
use Rattle.linkcache.specs.Plans.{keys_put, with_row_changes}
use Rattle.linkcache.specs.Rows.{LinkRows}
use Rattle.linkcache.specs.declared.plan.PlannedRow.{PlannedRow}
use Rattle.linkcache.proofs.PlanRoom.{room-front}
use Rattle.linkcache.proofs.apply_plan.make_changes.Goals as goal

pub make_change-requires-clause-row_room : goal.make_change-requires-clause-row_room
make_change-requires-clause-row_room c =
    let rest = c.next.new.self.rest.items in
    room-front c.in-Some.change.change (map (λ r. r.change) rest) c.changes.rows.nodes
    (subst (λ (l : List PlannedRow). HasRoomFor (keys_put (map (λ r. r.change) l)) c.changes.rows.nodes) c.in-Some.ensures.steps.0 c.changes.invariant.3)

pub changes-preserved : goal.changes-preserved
changes-preserved c =
    let rest = c.next.new.self.rest.items in
    let rows = c.changes.rows in
    let steps = c.in-Some.ensures.steps.0 in
    let count : length (c.in-Some.change ∷ rest) ≤ c.changes.ends.spare = subst (λ (l : List PlannedRow). length l ≤ c.changes.ends.spare) steps c.changes.invariant.4 in
    let less = c.make_change.ensures.end_room in (
      (subst (λ (l : List PlannedRow). AllByRecursion (λ r. HasLowerOwner r.change.key) l) steps c.changes.invariant.0).1,
      (subst (λ (l : List PlannedRow). AllByRecursion (λ r. r.again ≡ r.change.key) l) steps c.changes.invariant.1).1,
      c.make_change.ensures.ends,
      c.make_change.ensures.left (map (λ r. r.change) rest) (subst (λ (l : List PlannedRow). HasRoomFor (keys_put (map (λ r. r.change) l)) rows.nodes) steps c.changes.invariant.3),
      omega (arith, count, less),
      ap (λ (l : LinkRows). with_row_changes (map (λ r. r.change) rest) l) c.make_change.ensures.rows ∙ ap (λ (l : List PlannedRow). with_row_changes (map (λ r. r.change) l) rows.rows) (sym steps) ∙ c.changes.invariant.5,
    )
