use Rattle.std.proofs.Common.{Some, refl, ◌∙◌}
use Rattle.zoneupdate.specs.Updates.{change_refusal, with_counted_ttl}
use Rattle.zoneupdate.proofs.Refusals.{refused_turn, refused_stop}
use Rattle.zoneupdate.proofs.prescan.changes_refusal.Goals as goal

pub returns-in-Some : goal.returns-in-Some
returns-in-Some c = λ homes writable rows under.
    refused_stop (change_refusal homes (record { apex = c.args.apex.now; writable = writable; rows = rows })) with_counted_ttl
    c.as_slice-rr-items.result.now c.changes.rr-index c.rr-item.result c.changes-test.true c.rr-item.is (Some c.in-Some.code) (c.in-Some.ensures homes writable rows under) c.in-Some.code refl
    ∙ c.changes.invariant homes writable rows under

pub changes-preserved : goal.changes-preserved
changes-preserved c = λ homes writable rows under.
    refused_turn (change_refusal homes (record { apex = c.args.apex.now; writable = writable; rows = rows })) with_counted_ttl
    c.as_slice-rr-items.result.now c.changes.rr-index c.rr-item.result c.changes-test.true c.rr-item.is c.refusal.result (c.refusal.ensures homes writable rows under) c.in_default.is
    ∙ c.changes.invariant homes writable rows under
