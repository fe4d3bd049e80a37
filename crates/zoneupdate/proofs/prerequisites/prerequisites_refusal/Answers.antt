use Rattle.std.proofs.Common.{Some, refl, ◌∙◌}
use Rattle.zoneupdate.specs.Updates.{prerequisite_refusal, with_counted_ttl}
use Rattle.zoneupdate.proofs.Refusals.{refused_turn, refused_stop}
use Rattle.zoneupdate.proofs.prerequisites.prerequisites_refusal.Goals as goal

pub returns-in-Some : goal.returns-in-Some
returns-in-Some c = λ homes writable under.
    refused_stop (prerequisite_refusal homes (record { apex = c.args.apex.now; writable = writable; rows = c.args.rows.now.rows })) with_counted_ttl
    c.as_slice-rr-items.result.now c.prereqs.rr-index c.rr-item.result c.prereqs-test.true c.rr-item.is (Some c.in-Some.code) (c.in-Some.ensures homes writable under) c.in-Some.code refl
    ∙ c.prereqs.invariant homes writable under

pub prereqs-preserved : goal.prereqs-preserved
prereqs-preserved c = λ homes writable under.
    refused_turn (prerequisite_refusal homes (record { apex = c.args.apex.now; writable = writable; rows = c.args.rows.now.rows })) with_counted_ttl
    c.as_slice-rr-items.result.now c.prereqs.rr-index c.rr-item.result c.prereqs-test.true c.rr-item.is c.refusal.result (c.refusal.ensures homes writable under) c.in_default.is
    ∙ c.prereqs.invariant homes writable under
