use Rattle.std.proofs.Common.{arith}
use Rattle.std.proofs.lemmas.Result.{err_from_is_err_and}
use Rattle.dnswire.specs.Reading.{record_at}
use Rattle.dnswire.specs.Gives.{shape_test}
use Rattle.dnswire.proofs.Sections.{section_turn, section_stop}
use Rattle.dnswire.proofs.section.read_records.Goals as goal

pub returns-in_err-rr : goal.returns-in_err-rr
returns-in_err-rr c =
    let p = err_from_is_err_and c.from_residual-in_err-rr.result c.from_residual-in_err-rr.ensures.1 in
    rw (p.1, p.2) (section_stop (record_at (shape_test c.args.shaped)) c.args.message.now c.args.count c.records._done _ _ _ _ (omega arith) c.in_err-rr.ensures c.records.invariant)

pub records-preserved : goal.records-preserved
records-preserved c =
    rw c.in_ok-push.ensures.ok (section_turn (record_at (shape_test c.args.shaped)) c.args.message.now c.args.count c.records._done _ _ _ _ _ (omega arith) c.in_ok-rr.ensures c.records.invariant)
