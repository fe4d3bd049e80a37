use Rattle.std.proofs.Common.{◌≡◌, ◌∙◌, ℕ, List, Some, None, sym, ap}
use Rattle.std.specs.Int.{w16, from_be_bytes}
use Rattle.dsotlv.specs.Messages.{primary_data}
use Rattle.dsosession.specs.declared.session.Reaction.{Reaction}
use Rattle.pushsession.specs.Reactions.{by_itself, unsubscribed}
use Rattle.pushsession.specs.Kept.{KeptSession, keeping}
use Rattle.pushsession.specs.Requests.{message_of, taken_up}
use Rattle.pushsession.proofs.Numbers.{number_of_taken, reacts_as}
use Rattle.pushsession.proofs.session.PushSession.react.Goals as goal

pub unreachable-requires : goal.unreachable-requires
unreachable-requires c =
    let number = number_of_taken c.message.result.now c.args.self.now c.take_up.result c.in-Some.field-0 c.message.ensures c.take_up.ensures.taken c.in-Some.is c.in-Unsubscribe.is in
    let there : None ≡ Some (from_be_bytes w16 (primary_data c.message.result.now)) = c.in-None-unsubscribed.ensures number.long number.two in
    absurd cc

pub returns-in-Some-unsubscribed-clause-session : goal.returns-in-Some-unsubscribed-clause-session
returns-in-Some-unsubscribed-clause-session c =
    let session = c.args.self.now in
    let taken = taken_up c.args.now session in
    let number = number_of_taken c.message.result.now c.args.self.now c.take_up.result c.in-Some.field-0 c.message.ensures c.take_up.ensures.taken c.in-Some.is c.in-Unsubscribe.is in
    let there : Some c.in-Some-unsubscribed.id ≡ Some (from_be_bytes w16 (primary_data c.message.result.now)) = c.in-Some-unsubscribed.ensures number.long number.two in
    let same : c.in-Some-unsubscribed.id ≡ from_be_bytes w16 (primary_data c.message.result.now) = cc in
    c.unsubscribe.ensures.session
    ∙ ap (λ (s : KeptSession). unsubscribed keeping c.in-Some-unsubscribed.id s) c.take_up.ensures.session
    ∙ ap (λ (n : ℕ). unsubscribed keeping n taken) (same ∙ ap (λ (m : List ℕ). from_be_bytes w16 (primary_data m)) c.message.ensures)
    ∙ sym (reacts_as c.args.timers c.args.now session c.in-Some.field-0 (sym c.in-Some.is ∙ c.take_up.ensures.taken)
    ∙ ap (λ (r : Reaction). by_itself keeping r c.args.timers c.args.now (message_of session) taken) c.in-Unsubscribe.is)
