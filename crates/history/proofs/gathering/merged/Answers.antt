-- What is left of both lists makes the whole.
use Rattle.history.proofs.MergedChanges.{begins, takes-first, takes-second, takes-both, first-ends, second-ends}
use Rattle.history.proofs.gathering.merged.Goals as goal

pub both-init : goal.both-init
both-init c = begins c.args.first.now c.args.second.now c.in_ok-all.all.items c.requires.first c.requires.second c.in_ok-all.ensures.items

pub returns-then-second-other : goal.returns-then-second-other
returns-then-second-other c = record {
  rows = second-ends c.args.first.now c.args.second.now c.both.all.items c.extend_from_slice.new.self.items c.both.taken c.both.other c.if-second-other.true c.in_ok-extend_from_slice.ensures.items c.both.invariant;
}

pub both-preserved-in-Less : goal.both-preserved-in-Less
both-preserved-in-Less c =
    takes-first c.args.first.now c.args.second.now c.both.all.items c.push.new.self.items c.both.taken c.both.other c.index-first-taken.result c.index-second-other.result c.compare_keys.result
    c.both-test.true c.if-second-other.false c.index-first-taken.is c.index-second-other.is c.compare_keys.ensures c.in-Less.is c.in_ok-push-in-Less.ensures.items c.both.invariant

pub both-preserved-in-Equal : goal.both-preserved-in-Equal
both-preserved-in-Equal c =
    takes-both c.args.first.now c.args.second.now c.both.all.items c.push-in-Equal.new.self.items c.both.taken c.both.other c.index-first-taken.result c.index-second-other.result c.compare_keys.result
    c.both-test.true c.if-second-other.false c.index-first-taken.is c.index-second-other.is c.compare_keys.ensures c.in-Equal.is c.in_ok-push-in-Equal.ensures.items c.both.invariant

pub both-preserved : goal.both-preserved
both-preserved c =
    takes-second c.args.first.now c.args.second.now c.both.all.items c.push-in-Greater.new.self.items c.both.taken c.both.other c.index-first-taken.result c.index-second-other.result c.compare_keys.result
    c.both-test.true c.if-second-other.false c.index-first-taken.is c.index-second-other.is c.compare_keys.ensures c.in-Greater.is c.in_ok-push-in-Greater.ensures.items c.both.invariant

pub returns : goal.returns
returns c = record {
  rows = first-ends c.args.first.now c.args.second.now c.both.all.items c.extend_from_slice-2.new.self.items c.both.taken c.both.other c.both-test.false c.in_ok-extend_from_slice-2.ensures.items c.both.invariant;
}
