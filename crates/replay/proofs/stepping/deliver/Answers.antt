use Rattle.std.proofs.Common.{sym, ◌∙◌, subst, arith}
use Rattle.replay.proofs.exchanges.Emitting.{stepped}
use Rattle.replay.proofs.steps.DeliveryTurns.{Delivering, delivering-begins, delivers-last, delivering-more, delivers-used_up}
use Rattle.replay.proofs.stepping.deliver.Goals as goal

pub rounds-init : goal.rounds-init
rounds-init c = record { so_far = delivering-begins c.args.client.now c.args.octets.now; shorter = omega arith }

pub returns-then-is_last : goal.returns-then-is_last
returns-then-is_last c = delivers-last c.args.client.now c.rounds.client c.take-count.new.self c.step_on.new.client c.args.octets.now c.rounds.rest.now c.behind-rest.result.now c.rounds.left c.take-count.result c.rounds.invariant.so_far
    (λ plain stands. (c.take-count.ensures.count plain stands, c.take-count.ensures.taken plain stands)) c.in_ok-step_on.ensures c.behind-rest.ensures.rest (sym c.is_last.ensures ∙ c.if-is_last.true)

pub returns-then-left-eq0 : goal.returns-then-left-eq0
returns-then-left-eq0 c = delivers-used_up c.args.client.now c.step_on.new.client c.args.octets.now c.behind-rest.result.now c.rounds.left c.if-left-eq0.true
    (delivering-more c.args.client.now c.rounds.client c.take-count.new.self c.step_on.new.client c.args.octets.now c.rounds.rest.now c.behind-rest.result.now c.rounds.left c.take-count.result c.rounds.invariant.so_far
    (λ plain stands. (c.take-count.ensures.count plain stands, c.take-count.ensures.taken plain stands)) c.in_ok-step_on.ensures c.behind-rest.ensures.rest (sym c.is_last.ensures ∙ c.if-is_last.false))

pub rounds-preserved : goal.rounds-preserved
rounds-preserved c = record {
  so_far = subst (λ n. Delivering c.args.client.now c.args.octets.now n c.step_on.new.client c.behind-rest.result.now) (stepped c.rounds.left c.if-left-eq0.false)
      (delivering-more c.args.client.now c.rounds.client c.take-count.new.self c.step_on.new.client c.args.octets.now c.rounds.rest.now c.behind-rest.result.now c.rounds.left c.take-count.result c.rounds.invariant.so_far
      (λ plain stands. (c.take-count.ensures.count plain stands, c.take-count.ensures.taken plain stands)) c.in_ok-step_on.ensures c.behind-rest.ensures.rest (sym c.is_last.ensures ∙ c.if-is_last.false));
  shorter = omega (arith, c.behind-rest.ensures.shorter, c.rounds.invariant.shorter);
}
