-- What follows the answer to a SUBSCRIBE, as it is made of old values and as the plain session makes it.
--     first-alike      the notices
use Rattle.std.proofs.Common.{◌≡◌, ℕ, Bool, not, Option, Some, None, refl, sym, ◌∙◌, ap}
use Rattle.std.specs.Prelude.{find, option_map}
use Rattle.dnsname.specs.Names.{Labels, same_name}
use Rattle.rrset.specs.RecordSet.{RecordSet, at_name, same_rows}
use Rattle.rrset.specs.declared.record.Question.{Question}
use Rattle.rrset.proofs.SameRows.{same_rows-self}
use Rattle.coalesce.specs.FirstAnswers.{first_notices, told_first}
use Rattle.coalesce.specs.Waiting.{WaitingName, is_named, differs, old_side, new_side}
use Rattle.history.proofs.Together.{same_name-turned}
use Rattle.history.specs.States.{records_at}
use Rattle.pushsession.specs.Kept.{KeptSession}
use Rattle.pushserver.specs.PlainHubs.{Hub, Session, point_in, wanted, sent, first_answer}
use Rattle.pushserver.specs.Hubs.{records_now}
use Rattle.pushserver.specs.KeptHubs.{KeepsSent}
use Rattle.pushserver.proofs.session_steps.Lists.{find-map, find-alike, found-each}
use Rattle.pushserver.proofs.session_steps.Names.{at_name-alike}
use Rattle.pushserver.proofs.session_steps.Nets.{wants-alike, wanted-alike, sent-at}
use Rattle.pushserver.proofs.session_steps.Parts.{SessionFits}

-- ---- which form

module _ (hub : Hub) (k : ℕ × KeptSession) (p : ℕ × Session) (s : SessionFits hub k p) (name : Labels) where
  abbrev rows : RecordSet
  rows = records_now hub

  abbrev there : RecordSet
  there = wanted p.1.subscriptions (at_name name rows)

  point-found : point_in p.1.queue name ≡ option_map (λ (w : WaitingName). w.point) (find (is_named name) k.1.queue)
  point-found =
      ap (λ q. point_in q name) (sym s.stands.queue)
      ∙ ap (λ (o : Option (Labels × ℕ)). option_map (λ (e : Labels × ℕ). e.1) o) (find-map (λ (w : WaitingName). (w.name, w.point)) (λ e. same_name name e.0) k.1.queue)
      ∙ ap (λ (o : Option WaitingName). option_map (λ (e : Labels × ℕ). e.1) (option_map (λ (w : WaitingName). (w.name, w.point)) o))
      (find-alike (λ w. same_name name w.name) (is_named name) (λ w. same_name-turned name w.name) k.1.queue)
      ∙ both (find (is_named name) k.1.queue)
    where
      both : (o : Option WaitingName) → option_map (λ (e : Labels × ℕ). e.1) (option_map (λ (w : WaitingName). (w.name, w.point)) o) ≡ option_map (λ (w : WaitingName). w.point) o
      both None = refl
      both (Some w) = refl

  abbrev is_up_to_date : Bool
  is_up_to_date = same_rows (sent hub p.1 name) there

  -- what counts as sent of a name that waits is what its old values tell, as the questions ask for it
  sent-waiting : (w : WaitingName) → find (is_named name) k.1.queue ≡ Some w → sent hub p.1 name ≡ old_side k.1.subscriptions.asked rows w
  sent-waiting w is =
      let found = found-each (KeepsSent hub.start hub.history k.1.subscriptions.asked) (is_named name) k.1.queue w s.stands.keeps is in
      sent-at hub k p s name (Some w.point) (point-found ∙ ap (λ (o : Option WaitingName). option_map (λ (v : WaitingName). v.point) o) is)
      ∙ ap (λ (r : RecordSet). wanted p.1.subscriptions r) (sym (at_name-alike w.name name found.1 (records_at hub.start hub.history w.point)))
      ∙ sym (found.0.sent ∙ wanted-alike hub k p s (at_name w.name (records_at hub.start hub.history w.point)))

  now-waiting : (w : WaitingName) → find (is_named name) k.1.queue ≡ Some w → there ≡ new_side k.1.subscriptions.asked rows w
  now-waiting w is =
      let found = found-each (KeepsSent hub.start hub.history k.1.subscriptions.asked) (is_named name) k.1.queue w s.stands.keeps is in
      ap (λ (r : RecordSet). wanted p.1.subscriptions r) (sym (at_name-alike w.name name found.1 rows)) ∙ sym (wanted-alike hub k p s (at_name w.name rows))

  differs-alike : (o : Option WaitingName) → find (is_named name) k.1.queue ≡ o → differs k.1.subscriptions.asked rows o ≡ not is_up_to_date
  differs-alike None is =
      sym (ap (λ (r : RecordSet). not (same_rows r there)) (sent-at hub k p s name None (point-found ∙ ap (λ (o : Option WaitingName). option_map (λ (v : WaitingName). v.point) o) is))
      ∙ ap not (same_rows-self there))
  differs-alike (Some w) is =
      ap (λ (r : RecordSet). not (same_rows r (new_side k.1.subscriptions.asked rows w))) (sym (sent-waiting w is)) ∙ ap (λ (r : RecordSet). not (same_rows (sent hub p.1 name) r)) (sym (now-waiting w is))

pub first-alike : (hub : Hub) (k : ℕ × KeptSession) (p : ℕ × Session) → SessionFits hub k p → (question : Question)
    → first_notices question k.1.subscriptions.asked (records_now hub) (find (is_named question.name) k.1.queue) ≡ first_answer hub p.1 question
first-alike hub k p s question = λ i.
    told_first (differs-alike hub k p s question.name (find (is_named question.name) k.1.queue) refl i) question (λ key. wants-alike hub k p s key i) (at_name question.name (records_now hub))
