-- The line of a peer that sends its first octets, one whole frame with a SUBSCRIBE that none of the tests refuses: what comes back is NOERROR and the first answer's PUSH.
--     first_reply hub message question      what comes back
--     sent-line      the line that is printed
use Rattle.std.proofs.Common.{◌≡◌, ℕ, ◌≤◌, Bool, true, false, cond, ◌&&◌, List, [], ◌∷◌, ◌++◌, length, Option, Some, None, sym, ◌∙◌, ap, subst, refl}
use Rattle.std.specs.Prelude.{nat_lt, IsSome}
use Rattle.push_base.specs.Cases.{is_empty}
use Rattle.push_base.specs.Limits.{max_number}
use Rattle.rrset.specs.Header.{id_of}
use Rattle.rrset.specs.Rcodes.{noerror}
use Rattle.rrset.specs.declared.record.Question.{Question}
use Rattle.dsotlv.specs.Messages.{frame, first_message}
use Rattle.coalesce.specs.Net.{push_frame}
use Rattle.dsosession.specs.Timing.{new_clocks}
use Rattle.pushserver.specs.Hubs.{state_now, now, keeps_now, tells_now, in_session, connect, max_sessions}
use Rattle.pushsession.specs.Subscribing.{Verdict, with_accepted, decided, answered}
use Rattle.pushsession.specs.Reactions.{restarted_by}
use Rattle.dsotlv.specs.Answers.{answer_to}
use Rattle.pushserver.specs.PlainHubs.{Session, Hub, first_answer}
use Rattle.pushsession.specs.Sessions.{new_session}
use Rattle.pushserver.specs.Giving.{has_home, reacted}
use Rattle.pushserver.specs.Laws.{IsAcceptable}
use Rattle.pushserver.proofs.Subscribing.{reaction}
use Rattle.pushserver.proofs.Walks.{with_new}
use Rattle.scripts.specs.Lines.{Word}
use Rattle.replay.specs.World.{World, session_number}
use Rattle.replay.specs.PassedOctets.{exchanged, enough}
use Rattle.replay.specs.TextWords.{bytes_line}
use Rattle.replay.specs.Text.{end_lines, sends}
use Rattle.replay.proofs.serving.LastSession.{IsBehind, hub_at, session_of-last, in_session-last}
use Rattle.replay.proofs.serving.Answering.{notices_for, begun, clocks_at, first_answer-additions}
use Rattle.replay.proofs.serving.LastAnswering.{Says, IsAnswered, with_push, accepted, accepted-Says}
use Rattle.replay.proofs.serving.OnePeer.{Gives, gives}
use Rattle.replay.proofs.turns.ReplySizes.{accepted-size}
use Rattle.replay.proofs.turns.ZoneSizes.{IsBounded}
use Rattle.replay.proofs.worlds.LinesDoing.{by_connected, by_number}

-- a hub's new session
abbrev new_in : Hub → Session
new_in hub = new_session (keeps_now hub) (now hub)

-- what it is answered
abbrev pub first_reply : Hub → List ℕ → Question → List ℕ
first_reply hub message question = frame (answer_to (id_of message) noerror) ++ push_frame (first_answer hub (new_in hub) question)

module _ (hub : Hub) (below : IsBehind hub) (message : List ℕ) (question : Question) (a : IsAcceptable (with_new hub) (new_in hub) message question) where
  taken_up : reacted message hub.numbers_given (with_new hub) ≡ accepted hub below (clocks_at hub message) (id_of message) question
  taken_up =
      let id = id_of message in
      let has = has_home hub (Some question) in
      let clocks = clocks_at hub message in
      reaction message hub.numbers_given (with_new hub) (new_in hub) question a (session_of-last hub below (new_in hub))
      ∙ ap (λ later. in_session hub.numbers_given (answered (keeps_now hub) (tells_now hub) (now hub) id (Some question) has) later) (in_session-last hub below (restarted_by message (now hub)) (new_in hub))
      ∙ in_session-last hub below (answered (keeps_now hub) (tells_now hub) (now hub) id (Some question) has) (begun clocks)
      ∙ ap (λ (v : Verdict). hub_at hub (decided (keeps_now hub) (tells_now hub) (now hub) id v (begun clocks))) a.accepted
      ∙ sym (in_session-last hub below (with_accepted (keeps_now hub) (tells_now hub) (now hub) id question) (begun clocks))

  same_reply : with_push (id_of message) (notices_for (state_now hub) question) ≡ first_reply (with_new hub) message question
  same_reply = ap (with_push (id_of message)) (sym (first_answer-additions hub (new_clocks (now hub)) question))

  is_answered : IsAnswered hub below message (first_reply (with_new hub) message question)
  is_answered =
      subst (λ later. Says hub later (first_reply (with_new hub) message question)) (sym taken_up)
      (subst (λ (octets : List ℕ). Says hub (accepted hub below (clocks_at hub message) (id_of message) question) octets) same_reply (accepted-Says hub below (clocks_at hub message) (id_of message) question))

  is_short : IsBounded (state_now hub) → length (first_reply (with_new hub) message question) ≤ 2000000
  is_short bounded = subst (λ (octets : List ℕ). length octets ≤ 2000000) same_reply (accepted-size (state_now hub) (id_of message) question bounded)

-- where a session is made, it is the hub's last
connect-made : (hub : Hub) → IsSome (connect hub).0 → connect hub ≡ (Some hub.numbers_given, with_new hub)
connect-made hub some = by (nat_lt (length hub.sessions) max_sessions && nat_lt hub.numbers_given max_number) some
  where
    made : Option ℕ × Hub
    made = (Some hub.numbers_given, with_new hub)

    none : Option ℕ × Hub
    none = (None, hub)

    by : (b : Bool) → IsSome (cond b made none).0 → cond b made none ≡ made
    by true h = refl
    by false h = absurd cc

module _ (world : World) (w : Word) (octets message : List ℕ) (question : Question) where
  module _ (below : IsBehind world.hub) (bounded : IsBounded (state_now world.hub)) (found : first_message octets ≡ Some (message, [])) (few : length octets ≤ 65537) where
    exchange-line : IsAcceptable (with_new world.hub) (new_in world.hub) message question
        → (by_connected world w octets (Some world.hub.numbers_given, with_new world.hub)).1 ≡ bytes_line w (first_reply (with_new world.hub) message question) ∷ []
    exchange-line a =
        let reply = first_reply (with_new world.hub) message question in
        let some : is_empty reply ≡ false = refl in
        let g : Gives world.hub (exchanged enough world.hub.numbers_given octets (with_new world.hub) []) reply =
        gives world.hub below octets message reply (is_answered world.hub below message question a) found some few (is_short world.hub below message question a bounded) in
        (λ i. bytes_line w (g.octets i) ∷ end_lines w (g.over i))

    pub sent-line : session_number world w ≡ None → IsSome (connect world.hub).0 → IsAcceptable (connect world.hub).1 (new_in world.hub) message question
        → (sends w octets world).1 ≡ bytes_line w (first_reply (connect world.hub).1 message question) ∷ []
    sent-line new seat a =
        ap (λ o. (by_number world w octets o).1) new
        ∙ subst (λ (r : Option ℕ × Hub). IsAcceptable r.1 (new_in world.hub) message question → (by_connected world w octets r).1 ≡ bytes_line w (first_reply r.1 message question) ∷ []) (sym (connect-made world.hub seat)) exchange-line a
