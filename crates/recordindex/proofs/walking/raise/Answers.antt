use Rattle.std.proofs.Common.{◌≡◌, ◌<◌, length, refl, sym, ◌∙◌, arith}
use Rattle.recordindex.proofs.Using.{raising-end, raising-more, raising-stop, left-within}
use Rattle.recordindex.proofs.walking.raise.Goals as goal

pub ends-init : goal.ends-init
ends-init c = record {
  left = c.requires.left;
  has = c.requires.room;
  few = c.requires.few;
  counts = λ names few lacks. lacks;
  room = refl;
}

pub split_at-requires : goal.split_at-requires
split_at-requires c =
    let some : 0 < length c.ends.rest.now = grind arith in
    left-within c.ends.rest.now c.ends.invariant.left (omega arith)

pub ends-preserved : goal.ends-preserved
ends-preserved c =
    let some : 0 < length c.ends.rest.now = grind arith in
    rw c.split_at.ensures.back (raising-more c.args.above.now c.args.endings.now.entries c.ends.endings.entries c.raise_at.new.endings.entries c.ends.rest.now c.ends.invariant (omega arith)
    (sym (c.raise_at.ensures.was) ∙ c.if-raise_at.false) c.raise_at.ensures.entries c.raise_at.ensures.room)

pub returns-then-raise_at-clause-counts : goal.returns-then-raise_at-clause-counts
returns-then-raise_at-clause-counts c =
    let some : 0 < length c.ends.rest.now = grind arith in
    raising-stop c.args.above.now c.args.endings.now.entries c.ends.endings.entries c.raise_at.new.endings.entries c.ends.rest.now c.ends.invariant (omega arith)
    (sym (c.raise_at.ensures.was) ∙ c.if-raise_at.true) c.raise_at.ensures.entries

pub returns-then-raise_at-clause-room : goal.returns-then-raise_at-clause-room
returns-then-raise_at-clause-room c = c.raise_at.ensures.room ∙ c.ends.invariant.room

pub returns-clause-counts : goal.returns-clause-counts
returns-clause-counts c =
    let none : length c.ends.rest.now ≡ 0 = grind arith in
    raising-end c.args.above.now c.args.endings.now.entries c.ends.endings.entries c.ends.rest.now c.ends.invariant none

pub returns-clause-room : goal.returns-clause-room
returns-clause-room c = c.ends.invariant.room
