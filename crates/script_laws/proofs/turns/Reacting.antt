-- No name comes to wait where a session reacts to a message of its client.
--     queue-after
use Rattle.std.proofs.Common.{◌≡◌, ℕ, ◌≤◌, Bool, true, false, not, List, [], ◌∷◌, length, refl, sym, subst, arith}
use Rattle.std.specs.Prelude.{if◌then◌else◌}
use Rattle.rrset.specs.Rcodes.{noerror, notauth}
use Rattle.rrset.specs.declared.record.Question.{Question}
use Rattle.dsotlv.specs.Answers.{answer_to, refusal_to}
use Rattle.dsotlv.specs.declared.message.Notice.{Notice}
use Rattle.dnsname.specs.Names.{Labels, same_name}
use Rattle.pushsession.specs.Sessions.{answers}
use Rattle.pushsession.specs.Subscribing.{with_accepted, subscribed, says_first_answer, first_answer_size}
use Rattle.pushserver.specs.Hubs.{newest, now, state_now, keeps_now, tells_now}
use Rattle.pushserver.specs.Giving.{is_served_at}
use Rattle.pushserver.specs.PlainHubs.{Session, Queue, Hub}
use Rattle.inflight.specs.Messages.{ClientMessage, subscribes, unsubscribes, reconfirms, requests_keepalive}
use Rattle.flight_laws.specs.Meeting.{heard, after}
use Rattle.script_laws.proofs.turns.Shorter.{filter-short, let_go-short}

module _ (hub : Hub) where
  -- NOERROR, and what follows it
  first-queue : (point t : ℕ) (answer : List ℕ) (notices : List Notice) (before : Queue) (session : Session) → (says_first_answer (keeps_now hub) t answer notices before session).queue ≡ session.queue
  first-queue point t answer [] before session = refl
  first-queue point t answer (n ∷ ns) before session = refl

  accepts-queue : (id : ℕ) (question : Question) (session : Session) → length (with_accepted (keeps_now hub) (tells_now hub) (now hub) id question session).queue ≤ length session.queue
  accepts-queue id question session =
      let notices = (tells_now hub).first_notices question session.subscriptions session.queue in
      let answer = answer_to id noerror in
      let begun : Session = subscribed (keeps_now hub) id question ((keeps_now hub).end_behind (first_answer_size answer notices) session.made) session in
      subst (λ (q : Queue). length q ≤ length session.queue) (sym (first-queue 0 (now hub) answer notices session.queue begun))
      (filter-short (λ (e : Labels × ℕ). not (same_name question.name e.0)) session.queue)

  pub queue-after : (m : ClientMessage) (session : Session) → length (after hub m session).queue ≤ length session.queue
  queue-after (unsubscribes id) session =
      let_go-short (newest hub) ((keeps_now hub).question_of id session.subscriptions) ((keeps_now hub).without_id id session.subscriptions) session.queue
  queue-after (reconfirms rr) session = omega arith
  queue-after (requests_keepalive id) session = omega arith
  queue-after (subscribes id question) session = by (is_served_at (state_now hub) question)
    where
      listening : Session
      listening = heard (now hub) (subscribes id question) session

      by : (b : Bool) → length (if b then with_accepted (keeps_now hub) (tells_now hub) (now hub) id question listening else answers (keeps_now hub) false (now hub) (refusal_to id notauth) listening).queue ≤ length session.queue
      by true = accepts-queue id question listening
      by false = omega arith
