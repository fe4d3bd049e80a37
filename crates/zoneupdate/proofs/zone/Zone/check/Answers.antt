use Rattle.std.proofs.Common.{◌≡◌, List, Option, map, subst, sym, ap, ◌∙◌}
use Rattle.rrset.specs.declared.record.Changed.{Changed}
use Rattle.zoneupdate.specs.declared.plan.Verdict.TheVariants.{Accept}
use Rattle.zoneupdate.specs.Zones.{ZoneState}
use Rattle.zoneupdate.specs.Updates.{judged, with_counted_ttl}
use Rattle.zoneupdate.specs.KeptZones.{ZoneKept, IsUnder, Judges}
use Rattle.zoneupdate.specs.Checking.{Plans}
use Rattle.zoneupdate.proofs.Plans.{plan_keys}
use Rattle.zoneupdate.proofs.Judging.{accepts}
use Rattle.zoneupdate.proofs.zone.Zone.check.Goals as goal

pub reserve_for-requires-clause-lower : goal.reserve_for-requires-clause-lower
reserve_for-requires-clause-lower c =
    let state : ZoneState = record { apex = c.self.inside.apex; writable = c.self.inside.writable; rows = c.self.inside.rows.rows } in
    (plan_keys state (map with_counted_ttl c.args.update.now.changes) c.in-Some-2.plan c.deref.result.now c.self.invariant
    (subst (λ (o : Option (List Changed)). Plans state (map with_counted_ttl c.args.update.now.changes) o) c.in-Some-2.is c.in_ok-plan.ensures) (c.deref.ensures.value ∙ c.plan.view_is)).lower

pub reserve_for-requires-clause-order : goal.reserve_for-requires-clause-order
reserve_for-requires-clause-order c =
    let state : ZoneState = record { apex = c.self.inside.apex; writable = c.self.inside.writable; rows = c.self.inside.rows.rows } in
    (plan_keys state (map with_counted_ttl c.args.update.now.changes) c.in-Some-2.plan c.deref.result.now c.self.invariant
    (subst (λ (o : Option (List Changed)). Plans state (map with_counted_ttl c.args.update.now.changes) o) c.in-Some-2.is c.in_ok-plan.ensures) (c.deref.ensures.value ∙ c.plan.view_is)).rising

pub returns-clause-verdict : goal.returns-clause-verdict
returns-clause-verdict c = λ homes under.
    let state : ZoneState = record { apex = c.self.inside.apex; writable = c.self.inside.writable; rows = c.self.inside.rows.rows } in
    let same : c.args.self.now.state ≡ state = sym (ap (λ (z : ZoneKept). z.state) c.self.view_is) in
    let apart : IsUnder homes c.self.inside.apex c.args.under.now = subst (λ (z : ZoneState). IsUnder homes z.apex c.args.under.now) same under in
    subst (λ (z : ZoneState). Judges z (Accept c.in-Some-2.plan) (judged homes z c.args.update.now)) (sym same)
    (accepts homes state c.args.update.now c.in-Some-2.plan (sym (c.in_ok-code.ensures homes apart) ∙ c.in_default.is)
    (subst (λ (o : Option (List Changed)). Plans state (map with_counted_ttl c.args.update.now.changes) o) c.in-Some-2.is c.in_ok-plan.ensures))
