-- Where nothing is to be told, the messages that a session made lead each of its questions to what it matches now.
--     nothing_means_all_is_shown
use Rattle.std.proofs.Common.{◌≡◌, ◌∙◌, ap}
use Rattle.std.specs.List.{AllByRecursion}
use Rattle.rrset.specs.RecordSet.{RecordSet, at_name, matching}
use Rattle.pushserver.specs.PlainHubs.{Hub, Session, Subscription, wanted, sent}
use Rattle.pushserver.specs.Hubs.{records_now}
use Rattle.pushserver.specs.ToldMessages.{set_after}
use Rattle.pushserver.specs.Laws.{NothingMeansAllIsShown}
use Rattle.pushserver.proofs.AskedFor.{IsAsked, all_asked, matching-sent}
use Rattle.pushserver.proofs.promises.AllTold.{nothing_where_all_is_told}
use Rattle.pushserver.proofs.session_steps.Lists.{each-both}

module _ (hub : Hub) (session : Session) where
  abbrev Leads : Subscription → Type 0
  Leads s = set_after session.made s ≡ matching s.question (sent hub session s.question.name)

  abbrev IsTold : Subscription → Type 0
  IsTold s = sent hub session s.question.name ≡ wanted session.subscriptions (at_name s.question.name (records_now hub))

  abbrev LeadsToAll : Subscription → Type 0
  LeadsToAll s = set_after session.made s ≡ matching s.question (wanted session.subscriptions (at_name s.question.name (records_now hub)))

  abbrev IsShown : Subscription → Type 0
  IsShown s = set_after session.made s ≡ matching s.question (records_now hub)

  each-shown : AllByRecursion Leads session.subscriptions → AllByRecursion IsTold session.subscriptions → AllByRecursion IsShown session.subscriptions
  each-shown leads told =
      each-both LeadsToAll (λ (s : Subscription). IsAsked session.subscriptions s.question) IsShown (λ s leads asked. leads ∙ matching-sent session.subscriptions s.question (records_now hub) asked) session.subscriptions
      (each-both Leads IsTold LeadsToAll (λ s leads told. leads ∙ ap (λ (r : RecordSet). matching s.question r) told) session.subscriptions leads told)
      (all_asked session.subscriptions)

pub nothing_means_all_is_shown : NothingMeansAllIsShown
nothing_means_all_is_shown hub number room session sound has tells is =
    let all_told = (nothing_where_all_is_told hub number room session sound has).1 is in
    each-shown hub session tells.all all_told.3
