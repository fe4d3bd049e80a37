use Rattle.std.proofs.Common.{List, length, ap, subst, sym, arith}
use Rattle.coalesce.specs.Waiting.{CanBePacked, names_waiting, nets_in, asked_net, waiting_of}
use Rattle.coalesce.proofs.Entries.{Entry}
use Rattle.coalesce.proofs.Pushing.{IsAhead, turn_more, turn_silent}
use Rattle.coalesce.proofs.push_front.front_of.Goals as goal

pub names-preserved-else-not-fits : goal.names-preserved-else-not-fits
names-preserved-else-not-fits g c = record {
  can = (subst (λ (q : List Entry). CanBePacked c.args.index.now.rows (names_waiting q)) c.in-Some.ensures.parts c.names.invariant.can).1;
  within = (let size = ap (λ (q : List Entry). length q) c.in-Some.ensures.parts in omega (arith, size, c.names.invariant.within));
  ahead = turn_more (nets_in c.args.questions.now c.args.index.now.rows (names_waiting c.args.names)) (nets_in c.args.questions.now c.args.index.now.rows (names_waiting c.in-Some.after)) c.names.size c.in-Some.name.now
      (asked_net c.args.questions.now c.args.index.now.rows (waiting_of (c.in-Some.name.now, c.in-Some.waiting.now))) c.size-more.result
      (subst (λ (q : List Entry). IsAhead (nets_in c.args.questions.now c.args.index.now.rows (names_waiting c.args.names)) (nets_in c.args.questions.now c.args.index.now.rows (names_waiting q)) c.names.size) c.in-Some.ensures.parts c.names.invariant.ahead)
      c.size-more.ensures.size c.if-more-gt0.true c.size-more.ensures.most (sym c.if-not-fits.ensures);
  counted = c.names.invariant.counted;
  later = omega (arith, c.size-more.ensures.steps, c.names.invariant.later);
  most = (let size = ap (λ (q : List Entry). length q) c.in-Some.ensures.parts in omega (arith, size, c.size-more.ensures.steps, c.names.invariant.most));
}

pub names-preserved : goal.names-preserved
names-preserved g c = record {
  can = (subst (λ (q : List Entry). CanBePacked c.args.index.now.rows (names_waiting q)) c.in-Some.ensures.parts c.names.invariant.can).1;
  within = (let size = ap (λ (q : List Entry). length q) c.in-Some.ensures.parts in omega (arith, size, c.names.invariant.within));
  ahead = turn_silent (nets_in c.args.questions.now c.args.index.now.rows (names_waiting c.args.names)) (nets_in c.args.questions.now c.args.index.now.rows (names_waiting c.in-Some.after)) c.names.size c.in-Some.name.now
      (asked_net c.args.questions.now c.args.index.now.rows (waiting_of (c.in-Some.name.now, c.in-Some.waiting.now))) c.size-more.result
      (subst (λ (q : List Entry). IsAhead (nets_in c.args.questions.now c.args.index.now.rows (names_waiting c.args.names)) (nets_in c.args.questions.now c.args.index.now.rows (names_waiting q)) c.names.size) c.in-Some.ensures.parts c.names.invariant.ahead)
      c.size-more.ensures.size c.if-more-gt0.false;
  counted = c.names.invariant.counted;
  later = omega (arith, c.size-more.ensures.steps, c.names.invariant.later);
  most = (let size = ap (λ (q : List Entry). length q) c.in-Some.ensures.parts in omega (arith, size, c.size-more.ensures.steps, c.names.invariant.most));
}
