use Rattle.std.proofs.Common.{◌≡◌, ◌≤◌, ◌++◌, Some, IfSome, sym, subst, ◌∙◌, ap, take, drop, length, length-append, length-take, arith}
use Rattle.std.specs.Io.KnownBytes.{prepend_known}
use Rattle.scripts.specs.Sources.{front_read, left_behind}
use Rattle.scripts.proofs.ReadPieces.{read_all, read_most, rest_all, rest_most, lost_most, read_nothing, read_more, gave_more}
use Rattle.scripts.proofs.read.read_script.Goals as goal
use Rattle.scripts.proofs.read.read_script.Goals.{else-loop-buf-test, then-loop-buf-test+in_ok-count+then-count-eq0}

pub returns-clause-octets : goal.returns-clause-octets
unfolding front_read
returns-clause-octets g c = elim c.loop-buf-test.branch [
  | else-loop-buf-test w ↦
      let full : length c.loop-buf.script.items ≡ 16777217 = omega (arith, c.loop-buf.invariant.bound, w.loop-buf-test.false, c.len.ensures, c.loop-buf.script.ok.0) in
      read_most _ _ _ 16777217 c.loop-buf.invariant.read full
  | then-loop-buf-test+in_ok-count+then-count-eq0 w ↦
      let now = w.in_ok-count.ensures.left in
      read_all _ _ _ 16777217 (read_nothing _ _ _ _ _ _ c.loop-buf.invariant.read now.0 w.if-count-eq0.true) (now.1 w.if-count-eq0.true) c.loop-buf.invariant.bound
]

pub returns-clause-rest : goal.returns-clause-rest
unfolding left_behind
returns-clause-rest g c = elim c.loop-buf-test.branch [
  | else-loop-buf-test w ↦
      let full : length c.loop-buf.script.items ≡ 16777217 = omega (arith, c.loop-buf.invariant.bound, w.loop-buf-test.false, c.len.ensures, c.loop-buf.script.ok.0) in
      subst (λ s. IfSome (g.S.Source.left c.args.source.now) (λ left. g.S.Source.left s ≡ Some (drop 16777217 left))) (sym w.source-is)
      (rest_most _ _ _ 16777217 c.loop-buf.invariant.read full)
  | then-loop-buf-test+in_ok-count+then-count-eq0 w ↦
      let now = w.in_ok-count.ensures.left in
      subst (λ s. IfSome (g.S.Source.left c.args.source.now) (λ left. g.S.Source.left s ≡ Some (drop 16777217 left))) (sym w.source-is)
      (rest_all _ _ _ 16777217 (read_nothing _ _ _ _ _ _ c.loop-buf.invariant.read now.0 w.if-count-eq0.true) (now.1 w.if-count-eq0.true) c.loop-buf.invariant.bound)
]

pub returns-in_err-extend_from_slice-clause-gave :
    goal.returns-in_err-extend_from_slice-clause-gave
returns-in_err-extend_from_slice-clause-gave g c =
    let more = take c.in_ok-count.count c.read.new.buf in (
      c.loop-buf.script.items ++ more,
      read_more _ _ _ c.loop-buf.script.items more c.loop-buf.invariant.read c.in_ok-count.ensures.left.0,
      gave_more _ _ _ c.loop-buf.script.items more c.loop-buf.invariant.gave c.in_ok-count.ensures.given,
    )

pub returns-in_err-count-clause-most : goal.returns-in_err-count-clause-most
returns-in_err-count-clause-most g c =
    let octets = c.loop-buf.script.items in
    lost_most _ _ octets 16777217 (c.loop-buf.invariant.read ∙ ap (prepend_known octets) (sym c.in_err-count.ensures.left)) c.loop-buf.invariant.bound

pub returns-in_err-extend_from_slice-clause-most :
    goal.returns-in_err-extend_from_slice-clause-most
returns-in_err-extend_from_slice-clause-most g c =
    let more = take c.in_ok-count.count c.read.new.buf in
    let few : length (c.loop-buf.script.items ++ more) ≤ 16777217 = omega (
      arith,
      length-append c.loop-buf.script.items more,
      c.in_ok-count.ensures.bound.0,
      c.in_ok-count.ensures.bound.1,
      c.read.auto.buf,
      length-take c.min-most.result c.loop-buf.buf,
      c.min-most.ensures,
      c.len-in-loop-buf.ensures,
      c.loop-buf.script.ok.0,
      c.loop-buf.invariant.bound,
    ) in
    lost_most _ _ (c.loop-buf.script.items ++ more) 16777217 (read_more _ _ _ c.loop-buf.script.items more c.loop-buf.invariant.read c.in_ok-count.ensures.left.0) few
