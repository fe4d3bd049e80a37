use Rattle.std.proofs.Common.{arith}
use Rattle.std.proofs.lemmas.Result.{err_from_is_err_and}
use Rattle.rrset.proofs.Expanding.{read_turn, read_stop}
use Rattle.rrset.proofs.rdata_reader.read_parts.Goals as goal

pub returns-in_err-place : goal.returns-in_err-place
returns-in_err-place c =
    let p = err_from_is_err_and c.from_residual.result c.from_residual.ensures.1 in
    rw (p.1, p.2) (read_stop c.args.parts.now _ _ _ c.parts.part-index _ _ _ _ (omega arith) c.in_err-place.ensures.read c.parts.invariant.1)

pub parts-preserved : goal.parts-preserved
parts-preserved c = (
  c.in_ok-place.ensures.within,
  read_turn c.args.parts.now _ _ _ c.parts.part-index _ _ _ _ _ (omega arith) c.in_ok-place.ensures.read c.parts.invariant.1,
)
