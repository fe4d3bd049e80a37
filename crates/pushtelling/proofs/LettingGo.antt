-- The last question of a name goes: the name waits no longer, and what the other questions were told stays.
--     tells-let_go, between-let_go
use Rattle.std.proofs.Common.{◌≡◌, ℕ, Bool, true, false, cond, not, List, [], ◌∷◌, length, Option, Some, None, refl, sym, ◌∙◌, ap}
use Rattle.std.specs.Prelude.{◌||◌, unwrap_or, option_map, filter, ◌==◌}
use Rattle.std.specs.List.{AllByRecursion}
use Rattle.dnsname.specs.Names.{Labels, octets, lower, same_name}
use Rattle.rrset.specs.RecordSet.{matching}
use Rattle.rrset.specs.declared.record.Question.{Question}
use Rattle.std.specs.Str.{bytes_eq}
use Rattle.rrset.proofs.Places.{all_filter}
use Rattle.history.proofs.Together.{same_name-turned}
use Rattle.history.specs.States.{State, records_at}
use Rattle.history.specs.declared.entry.Entry.{Entry}
use Rattle.pushsession.specs.Reactions.{let_go}
use Rattle.pushserver.specs.PlainHubs.{Session, Subscription, Queue, leaves_queue, subscription_of, plain_keeps, note_of, point_in}
use Rattle.pushserver.specs.SoundHubs.{is_watched}
use Rattle.pushserver.proofs.Queues.{same_name-octets}
use Rattle.pushserver.proofs.session_steps.Lists.{each-both}
use Rattle.pushtelling.proofs.Messages.{LeadsTo}
use Rattle.pushtelling.proofs.Notes.{AnswersAlike, point_in-left}
use Rattle.pushtelling.proofs.Tells.{Tells, almost-left, tells-fewer}

abbrev others : Labels → Labels → Bool
others name other = not (same_name name other)

others-alike : (name : Labels) → AnswersAlike (others name)
others-alike name a b same = ap (λ o. not (bytes_eq (octets (lower name)) o)) (same_name-octets a b same)

none_asks : (name : Labels) (subscriptions : List Subscription) → is_watched subscriptions name ≡ false → AllByRecursion (λ s. same_name s.question.name name ≡ false) subscriptions
none_asks name [] none = tt
none_asks name (s ∷ ss) none = let both = by (same_name s.question.name name) (is_watched ss name) none in (both.0, none_asks name ss both.1)
  where
    by : (a b : Bool) → (a || b) ≡ false → (a ≡ false) × (b ≡ false)
    by true b h = absurd cc
    by false b h = (refl, h)

tells-unwatched : (start : State) (history : List Entry) (session : Session) (name : Labels) → is_watched session.subscriptions name ≡ false → Tells start history session
    → Tells start history (record session { queue = leaves_queue name session.queue })
tells-unwatched start history session name none h = record {
  most = almost-left start history session (others name) (others-alike name) h.most;
  all = each-both (LeadsTo start history session.made (note_of (length history) session)) (λ (s : Subscription). same_name s.question.name name ≡ false)
      (LeadsTo start history session.made (record { queue = leaves_queue name session.queue; newest = length history }))
      (λ s leads differs. leads ∙ sym (ap (λ o. matching s.question (records_at start history (unwrap_or o (length history))))
      (point_in-left (others name) (others-alike name) session.queue s.question.name
      ∙ ap (λ b. cond (not b) (point_in session.queue s.question.name) None) (same_name-turned name s.question.name ∙ differs))))
      session.subscriptions h.all (none_asks name session.subscriptions none);
  whole = h.whole;
  octets = h.octets;
}

pub tells-let_go : (start : State) (history : List Entry) (session : Session) (id : ℕ) → Tells start history session
    → Tells start history (record session {
      subscriptions = filter (λ u. not (u.id == id)) session.subscriptions;
      queue = let_go (plain_keeps (length history)) ((plain_keeps (length history)).question_of id session.subscriptions) (filter (λ u. not (u.id == id)) session.subscriptions) session.queue;
    })
tells-let_go start history session id h = by (subscription_of session.subscriptions id)
  where
    left : List Subscription
    left = filter (λ u. not (u.id == id)) session.subscriptions

    fewer : Tells start history (record session { subscriptions = left })
    fewer = tells-fewer start history session (λ u. not (u.id == id)) h

    of : (question : Question) (b : Bool) → is_watched left question.name ≡ b → Tells start history (record session { subscriptions = left; queue = cond b session.queue (leaves_queue question.name session.queue) })
    of question true there = fewer
    of question false gone = tells-unwatched start history (record session { subscriptions = left }) question.name gone fewer

    by : (o : Option Subscription) → Tells start history (record session { subscriptions = left; queue = let_go (plain_keeps (length history)) (option_map (λ (s : Subscription). s.question) o) left session.queue })
    by None = fewer
    by (Some s) = of s.question (is_watched left s.question.name) refl

-- what holds of each name that waits still does
pub each-let_go : (P : Labels × ℕ → Type 0) (n : ℕ) (o : Option Question) (left : List Subscription) (queue : Queue) → AllByRecursion P queue → AllByRecursion P (let_go (plain_keeps n) o left queue)
each-let_go P n None left queue h = h
each-let_go P n (Some question) left queue h = by (is_watched left question.name)
  where
    by : (b : Bool) → AllByRecursion P (cond b queue (leaves_queue question.name queue))
    by true = h
    by false = all_filter P (λ (e : Labels × ℕ). others question.name e.0) queue h
