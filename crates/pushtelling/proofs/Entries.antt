-- An entry leaves what is noted for each question.
use Rattle.std.proofs.Common.{◌≡◌, ◌≤◌, List, [], ◌∷◌, ◌++◌, length, sym, ◌∙◌, ap}
use Rattle.std.specs.Prelude.{fold, unwrap_or}
use Rattle.std.specs.List.{AllByRecursion}
use Rattle.rrset.specs.RecordSet.{matching, changes}
use Rattle.rrset.specs.declared.record.Changed.{Changed}
use Rattle.rrset.specs.declared.record.Question.{Question}
use Rattle.history.specs.States.{State, records_at}
use Rattle.history.specs.declared.entry.Entry.{Entry}
use Rattle.pushsession.specs.Sessions.{touched}
use Rattle.pushserver.specs.PlainHubs.{Queue, Session, point_in, enqueued, plain_keeps}
use Rattle.pushserver.proofs.AskedFor.{IsAsked, matching-sent}
use Rattle.pushserver.proofs.Queues.{sent-entered}
use Rattle.pushtelling.proofs.Messages.{noted_records}
use Rattle.pushtelling.proofs.Notes.{told-below}

module _ (start : State) (history : List Entry) (entry : Entry) (session : Session) where
  abbrev queued : Queue
  queued =
      fold (λ q (c : Changed). enqueued (length history) q c.key.owner) session.queue
      (touched (plain_keeps 0) session.subscriptions (changes (records_at start history (length history)) (records_at start (history ++ entry ∷ []) (length (history ++ entry ∷ [])))))

  pub noted-entered : (question : Question) → IsAsked session.subscriptions question → AllByRecursion (λ e. e.1 ≤ length history) session.queue
      → noted_records start (history ++ entry ∷ []) (record { queue = queued; newest = length (history ++ entry ∷ []) }) question
      ≡ noted_records start history (record { queue = session.queue; newest = length history }) question
  noted-entered question asked low =
      sym (matching-sent session.subscriptions question (records_at start (history ++ entry ∷ []) (unwrap_or (point_in queued question.name) (length (history ++ entry ∷ [])))) asked)
      ∙ ap (matching question) (sent-entered start history entry session question.name (told-below (length history) session.queue low question.name))
      ∙ matching-sent session.subscriptions question (records_at start history (unwrap_or (point_in session.queue question.name) (length history))) asked
