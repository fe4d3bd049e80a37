use Rattle.std.proofs.Common.{◌≡◌, List, ◌∙◌, sym, ap, subst}
use Rattle.rrset.specs.declared.record.Question.{Question}
use Rattle.services.specs.Services.{needs, services}
use Rattle.services.specs.declared.service.Service.{Service}
use Rattle.pushclient.specs.Clients.{held}
use Rattle.browsing.specs.Browsing.{asks, list_of, listens}
use Rattle.browsing.proofs.Machine.{Concluded}
use Rattle.browsing.proofs.browser.Browser.turn_over.Goals as goal

pub returns : goal.returns
returns c = λ b s.
    let now = c.args.now in
    let heard = listens c.args.octets.now now b in
    let one = c.in_ok-listen.ensures b s in
    let list_is : c.in_ok-list.list ≡ list_of heard = c.in_ok-list.ensures heard.client one.client ∙ ap (λ (r : Question). services r (held heard.client)) one.root in
    let needed_is : c.in_ok-needed.needed ≡ needs b.root (list_of heard) =
    c.in_ok-needed.ensures ∙ ap (λ (r : Question). needs r c.in_ok-list.list) one.root ∙ ap (needs b.root) list_is in
    let asked_is = c.as_slice.ensures ∙ needed_is in
    let later_is = c.as_slice-2.ensures ∙ needed_is in
    let last = c.conclude.new.self in
    let said : Concluded c.in_ok-told.told last c.in_ok-list.list c.as_slice-2.result.now now (asks c.as_slice.result.now now heard) =
    c.in_ok-told.ensures (asks c.as_slice.result.now now heard) (c.in_ok-ask.ensures heard one) in
    subst (λ (l : List Service). Concluded c.in_ok-told.told last l (needs b.root (list_of heard)) now (asks (needs b.root (list_of heard)) now heard)) list_is
    (subst (λ (qs : List Question). Concluded c.in_ok-told.told last c.in_ok-list.list qs now (asks (needs b.root (list_of heard)) now heard)) later_is
    (subst (λ (qs : List Question). Concluded c.in_ok-told.told last c.in_ok-list.list c.as_slice-2.result.now now (asks qs now heard)) asked_is said))
