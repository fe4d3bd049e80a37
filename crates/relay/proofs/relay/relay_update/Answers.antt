use Rattle.std.proofs.Common.{◌≡◌, ℕ, ◌≤◌, List, length, None, sym, ap, subst, ◌∙◌, arith}
use Rattle.rrset.specs.RecordSet.{RecordSet}
use Rattle.dnswire.specs.Writing.{update_octets}
use Rattle.relay.specs.Relay.{carrying, unfit_kind}
use Rattle.relay.proofs.Messages.{messages-short}
use Rattle.relay.proofs.Taken.{taken}
use Rattle.relay.proofs.relay.relay_update.Goals as goal

pub returns-clause-short : goal.returns-clause-short
returns-clause-short c le can =
    let is : c.in_ok-message.field-0 ≡ update_octets (carrying c.args.zone.now c.args.name.now c.args.set.now.rows c.args.id) =
    c.in_ok-message.ensures ∙ ap (λ (rows : RecordSet). update_octets (carrying c.args.zone.now c.args.name.now rows c.args.id)) c.entries-2.ensures.rows in
    subst (λ (os : List ℕ). length os ≤ 60481) (sym is) (messages-short c.args.zone.now c.args.name.now c.args.set.now.rows c.args.id le can)

pub returns-clause-taken : goal.returns-clause-taken
returns-clause-taken c =
    let is : c.in_ok-message.field-0 ≡ update_octets (carrying c.args.zone.now c.args.name.now c.args.set.now.rows c.args.id) =
    c.in_ok-message.ensures ∙ ap (λ (rows : RecordSet). update_octets (carrying c.args.zone.now c.args.name.now rows c.args.id)) c.entries-2.ensures.rows in
    let fit : unfit_kind c.args.set.now.rows ≡ None = ap unfit_kind (sym c.entries.ensures.rows) ∙ sym c.unfit_kind.ensures ∙ c.in_default.is in
    taken c.args.zone.now c.args.name.now c.args.set.now.rows c.args.id c.in_ok-message.field-0 (omega (arith, c.ranges.id.fits)) (sym c.same.ensures.exact ∙ c.if-same.false) fit is
