-- A kept session and the plain one: names that wait no longer.
--     leaves_alike      a name goes
--     let_go-waits      a question goes, and its name where it was the last of it
use Rattle.std.proofs.Common.{◌≡◌, ℕ, Bool, true, false, cond, not, List, Option, Some, None, refl, sym, ◌∙◌, ap, subst}
use Rattle.std.specs.Prelude.{filter, option_map}
use Rattle.std.specs.List.{list_any}
use Rattle.std.proofs.lemmas.List.Elements.{filter_agree}
use Rattle.dnsname.specs.Names.{Labels, same_name}
use Rattle.rrset.specs.declared.record.Question.{Question}
use Rattle.rrset.proofs.Distinct.{distinct_filter}
use Rattle.rrset.proofs.Places.{all_filter}
use Rattle.subscr.specs.Asked.{Asked, is_id, question_of, watches, without}
use Rattle.coalesce.specs.Waiting.{WaitingName, is_named, without_name}
use Rattle.coalesce.proofs.KindsOf.{any-map}
use Rattle.history.proofs.Together.{same_name-turned}
use Rattle.pushsession.specs.Kept.{KeptSession, KeptQuestions, keeping}
use Rattle.pushsession.specs.Reactions.{let_go}
use Rattle.pushserver.specs.PlainHubs.{Hub, Session, Subscription, Queue, asked_of, subscription_of, leaves_queue, plain_keeps}
use Rattle.pushserver.specs.KeptHubs.{KeepsSent, queue_of}
use Rattle.pushserver.proofs.hub_steps.Pairs.{all-weaken}
use Rattle.pushserver.proofs.session_steps.OldValues.{keeps-fewer}
use Rattle.pushserver.proofs.session_steps.Rising.{rises-filter}
use Rattle.pushserver.proofs.session_steps.Parts.{SessionFits, Waits}
use Rattle.rrset.specs.Records.{matches}
use Rattle.pushserver.proofs.session_steps.Lists.{any-filter, filter-map, find-map}

module _ (hub : Hub) (k : ℕ × KeptSession) (p : ℕ × Session) (s : SessionFits hub k p) where
  pub leaves_alike : (name : Labels) → queue_of (without_name name k.1.queue) ≡ leaves_queue name p.1.queue
  leaves_alike name =
      sym (filter-map (λ (w : WaitingName). (w.name, w.point)) (λ e. not (same_name e.0 name)) k.1.queue)
      ∙ ap (λ (q : Queue). filter (λ e. not (same_name e.0 name)) q) s.stands.queue
      ∙ filter_agree (λ e. not (same_name e.0 name)) (λ e. not (same_name name e.0)) (λ e. ap not (same_name-turned e.0 name)) p.1.queue

  question_alike : (id : ℕ) → question_of id k.1.subscriptions.asked ≡ option_map (λ (q : Subscription). q.question) (subscription_of p.1.subscriptions id)
  question_alike id =
      ap (λ (a : Asked). question_of id a) s.stands.asked
      ∙ ap (λ (o : Option (ℕ × Question)). option_map (λ (e : ℕ × Question). e.1) o) (find-map (λ (q : Subscription). (q.id, q.question)) (is_id id) p.1.subscriptions)
      ∙ both (subscription_of p.1.subscriptions id)
    where
      both : (o : Option Subscription) → option_map (λ (e : ℕ × Question). e.1) (option_map (λ (q : Subscription). (q.id, q.question)) o) ≡ option_map (λ (q : Subscription). q.question) o
      both None = refl
      both (Some q) = refl

  -- the questions without that of an ID
  module _ (id : ℕ) where
    abbrev left : Asked
    left = without id k.1.subscriptions.asked

    stay : Waits hub.start hub.history left k.1.queue p.1.queue
    stay = record {
      queue = s.stands.queue;
      keeps = all-weaken (KeepsSent hub.start hub.history k.1.subscriptions.asked) (KeepsSent hub.start hub.history left)
          (λ w keeps. keeps-fewer hub.start hub.history k.1.subscriptions.asked left w (λ q wanted at. any-filter (λ e. matches e.1 q) (λ e. not (is_id id e)) k.1.subscriptions.asked wanted) keeps)
          k.1.queue s.stands.keeps;
      points = s.sound.points;
      rises = s.sound.rises;
      names = s.sound.names;
    }

    goes : (name : Labels) → Waits hub.start hub.history left (without_name name k.1.queue) (leaves_queue name p.1.queue)
    goes name = record {
      queue = leaves_alike name;
      keeps = all_filter (KeepsSent hub.start hub.history left) (λ w. not (is_named name w)) k.1.queue stay.keeps;
      points = all_filter _ (λ e. not (same_name name e.0)) p.1.queue s.sound.points;
      rises = rises-filter (λ e. not (same_name name e.0)) p.1.queue s.sound.rises;
      names = distinct_filter _ (λ e. not (same_name name e.0)) p.1.queue s.sound.names;
    }

  -- where those that are left are kept as they are
  pub let_go-waits : (n id : ℕ) (plain : List Subscription) → left id ≡ asked_of plain
      → Waits hub.start hub.history (left id) (let_go keeping (keeping.question_of id k.1.subscriptions) (keeping.without_id id k.1.subscriptions) k.1.queue) (let_go (plain_keeps n) ((plain_keeps n).question_of id p.1.subscriptions) plain p.1.queue)
  let_go-waits n id plain alike =
      subst (λ (o : Option Question). Waits hub.start hub.history (left id) (let_go keeping o kept k.1.queue) (let_go (plain_keeps n) (option_map (λ (q : Subscription). q.question) (subscription_of p.1.subscriptions id)) plain p.1.queue)) (sym (question_alike id))
      (by (option_map (λ (q : Subscription). q.question) (subscription_of p.1.subscriptions id)))
    where
      kept : KeptQuestions
      kept = keeping.without_id id k.1.subscriptions

      watched : (name : Labels) → watches name (left id) ≡ list_any (λ (q : Subscription). same_name q.question.name name) plain
      watched name = ap (watches name) alike ∙ any-map (λ (e : ℕ × Question). same_name e.1.name name) (λ (q : Subscription). (q.id, q.question)) plain

      either : (name : Labels) (b : Bool) → Waits hub.start hub.history (left id) (cond b k.1.queue (without_name name k.1.queue)) (cond b p.1.queue (leaves_queue name p.1.queue))
      either name true = stay id
      either name false = goes id name

      by : (o : Option Question) → Waits hub.start hub.history (left id) (let_go keeping o kept k.1.queue) (let_go (plain_keeps n) o plain p.1.queue)
      by None = stay id
      by (Some q) =
          let test = list_any (λ (x : Subscription). same_name x.question.name q.name) plain in
          subst (λ (b : Bool). Waits hub.start hub.history (left id) (cond b k.1.queue (without_name q.name k.1.queue)) (cond test p.1.queue (leaves_queue q.name p.1.queue))) (sym (watched q.name)) (either q.name test)
