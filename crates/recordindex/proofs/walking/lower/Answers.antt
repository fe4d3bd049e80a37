use Rattle.std.proofs.Common.{◌≡◌, ◌<◌, length, refl, sym, subst, ap, ◌∙◌, arith}
use Rattle.recordindex.specs.Endings.{Agrees, Kept, once_less, room_of, used_at}
use Rattle.recordindex.proofs.Changes.{room-changed}
use Rattle.recordindex.proofs.Using.{Lowering, lowering-end, lowering-more, lowering-stop, left-within}
use Rattle.recordindex.proofs.walking.lower.Goals as goal

pub ends-init : goal.ends-init
ends-init c = record {
  left = c.requires;
  counts = λ names exceeds. exceeds;
  room = refl;
}

pub split_at-requires : goal.split_at-requires
split_at-requires c =
    let some : 0 < length c.ends.rest.now = grind arith in
    left-within c.ends.rest.now c.ends.invariant.left (omega arith)

pub ends-preserved : goal.ends-preserved
ends-preserved c =
    let some : 0 < length c.ends.rest.now = grind arith in
    let more =
    lowering-more c.args.above.now c.args.endings.now.entries c.ends.endings.entries c.ends.rest.now c.ends.invariant (omega arith)
    (sym (c.lower_at.ensures.is ∙ ap (used_at c.ends.rest.now) c.lower_at.ensures.entries) ∙ c.if-lower_at.false) in
    subst (λ (kept : Kept). Lowering c.args.above.now c.args.endings.now.entries kept c.split_at.result.1.now) (sym c.lower_at.ensures.entries) (rw c.split_at.ensures.back more)

pub returns-then-lower_at-clause-counts : goal.returns-then-lower_at-clause-counts
returns-then-lower_at-clause-counts c = λ names exceeds.
    let some : 0 < length c.ends.rest.now = grind arith in
    subst (Agrees names) (sym c.lower_at.ensures.entries)
    (lowering-stop c.args.above.now c.args.endings.now.entries c.ends.endings.entries c.ends.rest.now c.ends.invariant (omega arith)
    (sym (c.lower_at.ensures.is ∙ ap (used_at c.ends.rest.now) c.lower_at.ensures.entries) ∙ c.if-lower_at.true) names exceeds)

pub returns-then-lower_at-clause-room : goal.returns-then-lower_at-clause-room
returns-then-lower_at-clause-room c = ap room_of c.lower_at.ensures.entries ∙ room-changed c.ends.rest.now once_less c.ends.endings.entries ∙ c.ends.invariant.room

pub returns-clause-counts : goal.returns-clause-counts
returns-clause-counts c =
    let none : length c.ends.rest.now ≡ 0 = grind arith in
    lowering-end c.args.above.now c.args.endings.now.entries c.ends.endings.entries c.ends.rest.now c.ends.invariant none

pub returns-clause-room : goal.returns-clause-room
returns-clause-room c = c.ends.invariant.room
