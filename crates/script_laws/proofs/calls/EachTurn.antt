-- Each message that was reacted to has its call, in which is done what the server's table says.
--     has-its-turn      the call
--     effect-so      what is done for it
--     each-has-its-turn, subscribes-are-answered      the laws
use Rattle.std.proofs.Common.{◌≡◌, ℕ, Bool, true, false, cond, List, [], ◌∷◌, ◌++◌, map, Option, Some, None, Result, Ok, Err, refl, sym, ◌∙◌, ap, subst, append_assoc, append-nil, take-append-drop}
use Rattle.std.specs.Prelude.{◌==◌, ◌&&◌, flat_map, option_map, is_some, if◌then◌else◌}
use Rattle.std.proofs.lemmas.List.{map-append}
use Rattle.push_base.specs.Cases.{is_empty}
use Rattle.rrset.specs.Header.{id_of}
use Rattle.rrset.specs.Rcodes.{noerror}
use Rattle.rrset.specs.declared.record.Question.{Question}
use Rattle.rrset.specs.declared.record.Rr.{Rr}
use Rattle.rrset.specs.declared.record.Key.{Key}
use Rattle.dnswire.specs.declared.message.Update.{Update}
use Rattle.dnsquery.specs.Replies.{reply_to}
use Rattle.dsotlv.specs.Answers.{answer_to, answer_to_update, push_message}
use Rattle.dsotlv.specs.Messages.{first_message, frame, head_of, primary_data}
use Rattle.dsotlv.specs.Notices.{question_of, reconfirm_of}
use Rattle.dsotlv.specs.TlvKinds.{reconfirm_tlv}
use Rattle.dsotlv.specs.declared.message.DsoHead.{DsoHead}
use Rattle.dsotlv.specs.declared.message.Notice.{Notice}
use Rattle.dsosession.specs.Reactions.{server_reaction}
use Rattle.dsosession.specs.Timing.{Clocks}
use Rattle.dsosession.specs.declared.session.EndReason.TheVariants as ends
use Rattle.dsosession.specs.declared.session.Reaction.{Reaction}
use Rattle.dsosession.specs.declared.session.Reaction.TheVariants as reactions
use Rattle.history.specs.States.{verdict, accepts, reconfirm_key}
use Rattle.history.specs.declared.entry.Entry.{Entry}
use Rattle.history.specs.declared.entry.Entry.TheVariants as entries
use Rattle.pushsession.specs.Sessions.{without_first, noted, answers, ended_with, ended_where, copied}
use Rattle.pushsession.specs.Subscribing.{Verdict, Refuse, Abort, Accept, verdict_on, first_answer_octets, says_first_answer, decided, answered, subscribed, first_answer_size}
use Rattle.pushsession.specs.Reactions.{restarted_by, request_for, request_in, reacts_itself, by_itself, ends_short}
use Rattle.pushsession.specs.declared.request.Request.{Request}
use Rattle.pushsession.specs.declared.request.Request.TheVariants as requests
use Rattle.pushsession.specs.declared.session_status.SessionStatus.{SessionStatus}
use Rattle.pushsession.specs.declared.session_status.SessionStatus.TheVariants.{Live, AskedToStop, Stopped, Ended}
use Rattle.pushserver.specs.declared.given.Given.{Given}
use Rattle.pushserver.specs.declared.given.Given.TheVariants.{Worked}
use Rattle.pushserver.specs.PlainHubs.{Hub, Session, Subscription, Made, Giving, asked_of, first_answer}
use Rattle.pushserver.specs.Hubs.{now, state_now, newest, keeps_now, tells_now, session_of, in_session, behind_at, ended_behind, ends_behind, entered_keeping, entry_changes, can_enter, update}
use Rattle.pushserver.specs.Giving.{has_home, known_at, copies_or, given_after, reconfirm, reconfirms, by_request, give, reacted, after_reaction}
use Rattle.pushserver.specs.Calls.{HubCall, updates, hears, goes, moves, connects, takes, gives, stops, ends as ending, called, after_calls}
use Rattle.pushserver.specs.Laws.{IsAcceptable}
use Rattle.livesessions.proofs.SessionLists.{same-number, found-in, found-all}
use Rattle.pushserver.proofs.hub_steps.Cases.{enters_update, update_as, key_as, session_as, request_as, copies_as, found_as}
use Rattle.pushtelling.specs.Runs.{is_live, first_of, message_up, reacts_to, reacted_to}
use Rattle.pushtelling.proofs.Running.{give_reacts}
use Rattle.flight_laws.specs.Meeting.{behind_point}
use Rattle.script_laws.specs.EachMessage.{HasItsTurn, Effect, effect_of_messages, ends_by, pushes, first_messages, effect_by_verdict, effect_of_subscribe, falling_behind, behind_judged, effect_of_reconfirm, effect_of_update, effect_by, effect_of, messages_of, standing_after, HasEffect, TurnHasEffect, EachHasItsTurn, SubscribesAreAnswered}

-- ---- the call

-- a live session without output, whose first message this is
record IsUp (hub : Hub) (number : ℕ) (message : List ℕ) : Type 0 where
  pub session : Session
  pub there : session_of hub number ≡ Some session
  pub live : session.standing ≡ Live
  pub silent : session.output ≡ []
  pub rest : List ℕ
  pub first : first_message session.input ≡ Some (message, rest)

abbrev heads : Option (List ℕ × List ℕ) → List (List ℕ)
heads o = elim o as (λ _. List (List ℕ)) [ None ↦ [] | Some found ↦ found.0 ∷ [] ]

is-up : (hub : Hub) (number : ℕ) (message : List ℕ) → message_up hub number ≡ message ∷ [] → IsUp hub number message
is-up hub number message up = by (session_of hub number) refl up
  where
    by_first : (s : Session) → session_of hub number ≡ Some s → s.standing ≡ Live → s.output ≡ [] → (o : Option (List ℕ × List ℕ)) → first_message s.input ≡ o → heads o ≡ message ∷ [] → IsUp hub number message
    by_first s there live silent None first e = absurd cc
    by_first s there live silent (Some found) first e = record { session = s; there = there; live = live; silent = silent; rest = found.1; first = first ∙ ap (λ (m : List ℕ). Some (m, found.1)) (same found.0 e) }
      where
        same : (m : List ℕ) → m ∷ [] ≡ message ∷ [] → m ≡ message
        same m e = cc

    by_state : (s : Session) → session_of hub number ≡ Some s → (standing : SessionStatus) → s.standing ≡ standing → (os : List ℕ) → s.output ≡ os → cond (is_live standing && is_empty os) (heads (first_message s.input)) [] ≡ message ∷ [] → IsUp hub number message
    by_state s there Live live [] silent e = by_first s there live silent (first_message s.input) refl e
    by_state s there Live live (x ∷ xs) silent e = absurd cc
    by_state s there (AskedToStop rcode delay) live os silent e = absurd cc
    by_state s there (Stopped since) live os silent e = absurd cc
    by_state s there (Ended reason) live os silent e = absurd cc

    by : (o : Option Session) → session_of hub number ≡ o → (elim o as (λ _. List (List ℕ)) [ None ↦ [] | Some session ↦ first_of session ]) ≡ message ∷ [] → IsUp hub number message
    by None there e = absurd cc
    by (Some s) there e = by_state s there s.standing refl s.output refl e

-- at most one message is up
one-up : (hub : Hub) (number : ℕ) (message : List ℕ) (others : List (List ℕ)) → message_up hub number ≡ message ∷ others → others ≡ []
one-up hub number message others up = by (session_of hub number) up
  where
    by_first : (b : Bool) (o : Option (List ℕ × List ℕ)) → cond b (heads o) [] ≡ message ∷ others → others ≡ []
    by_first false o e = absurd cc
    by_first true None e = absurd cc
    by_first true (Some found) e = cc

    by : (o : Option Session) → (elim o as (λ _. List (List ℕ)) [ None ↦ [] | Some session ↦ first_of session ]) ≡ message ∷ others → others ≡ []
    by None e = absurd cc
    by (Some s) e = by_first (is_live s.standing && is_empty s.output) (first_message s.input) e

turn-now : (number room : ℕ) (last : List HubCall) (hub : Hub) (message : List ℕ) → message_up hub number ≡ message ∷ [] → HasItsTurn number (gives number room ∷ last) hub [] message
turn-now number room last hub message up =
    let is = is-up hub number message up in
    let (rest, first, reacts) = give_reacts hub number room is.session message is.there up in
    record {
      first = [];
      room = room;
      last = last;
      calls_are = refl;
      before = refl;
      session = is.session;
      there = is.there;
      live = is.live;
      silent = is.silent;
      rest = rest;
      stands_first = first;
      reacts = reacts;
    }

turn-later : (number : ℕ) (call : HubCall) (calls : List HubCall) (hub : Hub) (up front : List (List ℕ)) (message : List ℕ) → reacts_to number hub call ≡ up → HasItsTurn number calls (called call hub) front message
    → HasItsTurn number (call ∷ calls) hub (up ++ front) message
turn-later number call calls hub up front message is t = record {
  first = call ∷ t.first;
  room = t.room;
  last = t.last;
  calls_are = ap (λ (cs : List HubCall). call ∷ cs) t.calls_are;
  before = (λ i. is i ++ t.before i);
  session = t.session;
  there = t.there;
  live = t.live;
  silent = t.silent;
  rest = t.rest;
  stands_first = t.stands_first;
  reacts = t.reacts;
}

abbrev Turns : ℕ → List HubCall → Type 0
Turns number calls = (hub : Hub) (front : List (List ℕ)) (message : List ℕ) (back : List (List ℕ)) → reacted_to number calls hub ≡ front ++ message ∷ back → HasItsTurn number calls hub front message

-- a call that reacts to nothing
passes : (number : ℕ) (call : HubCall) (calls : List HubCall) (hub : Hub) (front : List (List ℕ)) (message : List ℕ) (back : List (List ℕ)) → reacts_to number hub call ≡ [] → Turns number calls
    → reacts_to number hub call ++ reacted_to number calls (called call hub) ≡ front ++ message ∷ back → HasItsTurn number (call ∷ calls) hub front message
passes number call calls hub front message back none later is =
    turn-later number call calls hub [] front message none
    (later (called call hub) front message back (sym (ap (λ (up : List (List ℕ)). up ++ reacted_to number calls (called call hub)) none) ∙ is))

pub has-its-turn : (number : ℕ) (calls : List HubCall) → Turns number calls
has-its-turn number [] hub [] message back is = absurd cc
has-its-turn number [] hub (f ∷ fs) message back is = absurd cc
has-its-turn number (updates m ∷ calls) hub front message back is = passes number (updates m) calls hub front message back refl (has-its-turn number calls) is
has-its-turn number (hears link datagram ∷ calls) hub front message back is = passes number (hears link datagram) calls hub front message back refl (has-its-turn number calls) is
has-its-turn number (goes link ∷ calls) hub front message back is = passes number (goes link) calls hub front message back refl (has-its-turn number calls) is
has-its-turn number (moves t ∷ calls) hub front message back is = passes number (moves t) calls hub front message back refl (has-its-turn number calls) is
has-its-turn number (connects ∷ calls) hub front message back is = passes number connects calls hub front message back refl (has-its-turn number calls) is
has-its-turn number (takes other piece ∷ calls) hub front message back is = passes number (takes other piece) calls hub front message back refl (has-its-turn number calls) is
has-its-turn number (stops other rcode delay ∷ calls) hub front message back is = passes number (stops other rcode delay) calls hub front message back refl (has-its-turn number calls) is
has-its-turn number (ending other ∷ calls) hub front message back is = passes number (ending other) calls hub front message back refl (has-its-turn number calls) is
has-its-turn number (gives other room ∷ calls) hub front message back is = by (number == other) refl (has-its-turn number calls)
  where
    later : Hub
    later = (give hub other room).hub

    -- the message that is up is the first
    by_up : Turns number calls → number ≡ other → (up : List (List ℕ)) → message_up hub other ≡ up → reacts_to number hub (gives other room) ≡ up → (front : List (List ℕ)) → up ++ reacted_to number calls later ≡ front ++ message ∷ back
        → HasItsTurn number (gives other room ∷ calls) hub front message
    by_up rest same [] up reacts front is = turn-later number (gives other room) calls hub [] front message reacts (rest later front message back is)
    by_up rest same (m ∷ ms) up reacts [] is =
        let first : m ≡ message = cc in
        subst (λ (n : ℕ). HasItsTurn number (gives n room ∷ calls) hub [] message) same
        (turn-now number room calls hub message (ap (message_up hub) same ∙ up ∙ (λ i. first i ∷ one-up hub other m ms up i)))
    by_up rest same (m ∷ ms) up reacts (f ∷ fs) is =
        let none = one-up hub other m ms up in
        let single : m ∷ ms ≡ f ∷ [] = (λ i. (heads_of i) ∷ none i) in
        turn-later number (gives other room) calls hub (f ∷ []) fs message (reacts ∙ single) (rest later fs message back (tails none))
      where
        heads_of : m ≡ f
        heads_of = cc

        tails : ms ≡ [] → reacted_to number calls later ≡ fs ++ message ∷ back
        tails none = sym (ap (λ (xs : List (List ℕ)). xs ++ reacted_to number calls later) none) ∙ tail
          where
            tail : ms ++ reacted_to number calls later ≡ fs ++ message ∷ back
            tail = cc

    by : (b : Bool) → (number == other) ≡ b → Turns number calls → HasItsTurn number (gives other room ∷ calls) hub front message
    by false apart rest =
        let none : reacts_to number hub (gives other room) ≡ [] = ap (λ (b : Bool). cond b (message_up hub other) []) apart in
        passes number (gives other room) calls hub front message back none rest is
    by true alike rest =
        let up : reacts_to number hub (gives other room) ≡ message_up hub other = ap (λ (b : Bool). cond b (message_up hub other) []) alike in
        by_up rest (same-number number other alike) (message_up hub other) refl up front (sym (ap (λ (xs : List (List ℕ)). xs ++ reacted_to number calls later) up) ∙ is)

-- ---- what is done for a message

-- what else is so of it, and of the history
pub record Left (h : Hub) (s after : Session) (effect : Effect) : Type 0 where
  pub standing : after.standing ≡ standing_after s.standing effect.ended
  pub input : after.input ≡ s.input
  pub established : after.established ≡ effect.established
  pub asks : asked_of after.subscriptions ≡ effect.asks
  pub history : h.history ≡ effect.history

-- of a session in a hub: it has made these messages more, which stand behind its output, and has ended where it is to
pub record Says (number : ℕ) (h : Hub) (s : Session) (effect : Effect) : Type 0 where
  pub after : Session
  pub there : session_of h number ≡ Some after
  pub made : messages_of after ≡ messages_of s ++ effect.messages
  pub output : after.output ≡ s.output ++ flat_map frame effect.messages
  pub left : Left h s after effect

abbrev message_in : Made → List ℕ
message_in m = m.message

module _ (number : ℕ) where
  pub in-found : (h : Hub) (f : Session → Session) (t : Session) → session_of h number ≡ Some t → session_of (in_session number f h) number ≡ Some (f t)
  in-found h f t there = found-in number f h.sessions ∙ ap (option_map f) there

  -- nothing is made
  says-none : (h : Hub) (s t : Session) (effect : Effect) → effect.messages ≡ [] → session_of h number ≡ Some t → t.made ≡ s.made → t.output ≡ s.output → Left h s t effect → Says number h s effect
  says-none h s t effect none there made output left = record {
    after = t;
    there = there;
    made = ap (map message_in) made ∙ sym (append-nil (messages_of s)) ∙ ap (λ (ms : List (List ℕ)). messages_of s ++ ms) (sym none);
    output = output ∙ sym (append-nil s.output) ∙ ap (λ (ms : List (List ℕ)). s.output ++ flat_map frame ms) (sym none);
    left = left;
  }

  -- one message
  says-one : (h : Hub) (s t : Session) (m : Made) (effect : Effect) → effect.messages ≡ m.message ∷ [] → session_of h number ≡ Some t → t.made ≡ s.made ++ m ∷ [] → t.output ≡ s.output ++ frame m.message → Left h s t effect → Says number h s effect
  says-one h s t m effect one there made output left = record {
    after = t;
    there = there;
    made = ap (map message_in) made ∙ map-append message_in s.made (m ∷ []) ∙ ap (λ (ms : List (List ℕ)). messages_of s ++ ms) (sym one);
    output = output ∙ ap (λ (os : List ℕ). s.output ++ os) (sym (append-nil (frame m.message))) ∙ ap (λ (ms : List (List ℕ)). s.output ++ flat_map frame ms) (sym one);
    left = left;
  }

  -- two
  says-two : (h : Hub) (s t : Session) (m n : Made) (effect : Effect) → effect.messages ≡ m.message ∷ n.message ∷ [] → session_of h number ≡ Some t → t.made ≡ (s.made ++ m ∷ []) ++ n ∷ [] → t.output ≡ (s.output ++ frame m.message) ++ frame n.message → Left h s t effect
      → Says number h s effect
  says-two h s t m n effect two there made output left = record {
    after = t;
    there = there;
    made = ap (map message_in) (made ∙ append_assoc s.made (m ∷ []) (n ∷ [])) ∙ map-append message_in s.made (m ∷ n ∷ []) ∙ ap (λ (ms : List (List ℕ)). messages_of s ++ ms) (sym two);
    output = output ∙ append_assoc s.output (frame m.message) (frame n.message) ∙ ap (λ (os : List ℕ). s.output ++ (frame m.message ++ os)) (sym (append-nil (frame n.message)))
        ∙ ap (λ (ms : List (List ℕ)). s.output ++ flat_map frame ms) (sym two);
    left = left;
  }

  -- ---- a message for which nothing is needed

  module _ (h : Hub) (s : Session) (there : session_of h number ≡ Some s) (message : List ℕ) where
    abbrev alone : Session → Session
    alone = reacts_itself (keeps_now h) h.timers (now h) message

    abbrev later : Hub
    later = in_session number alone h

    abbrev itself_as : Option DsoHead → Session
    itself_as o = elim o as (λ _. Session) [ None ↦ ends_short (keeps_now h) s | Some head ↦ by_itself (keeps_now h) (server_reaction head s.established) h.timers (now h) message s ]

    itself-there : (o : Option DsoHead) → head_of message ≡ o → session_of later number ≡ Some (itself_as o)
    itself-there o is = in-found h alone s there ∙ ap (λ (o : Option DsoHead). Some (itself_as o)) is

    says-short : head_of message ≡ None → Says number later s (ends_by h s ends.Short)
    says-short is = says-none later s (ends_short (keeps_now h) s) (ends_by h s ends.Short) refl (itself-there None is) refl refl (record { standing = refl; input = refl; established = refl; asks = refl; history = refl })

    -- by the line of the table
    abbrev by_line : Reaction → Session
    by_line r = by_itself (keeps_now h) r h.timers (now h) message s

    says-itself : (r : Reaction) → request_for r message ≡ requests.Itself → session_of later number ≡ Some (by_line r) → Says number later s (effect_by h s message r)
    says-itself (reactions.Answer rcode) own at = says-one later s (by_line (reactions.Answer rcode)) _ (effect_by h s message (reactions.Answer rcode)) refl at refl refl (record { standing = refl; input = refl; established = refl; asks = refl; history = refl })
    says-itself reactions.Grant own at = says-one later s (by_line reactions.Grant) _ (effect_by h s message reactions.Grant) refl at refl refl (record { standing = refl; input = refl; established = refl; asks = refl; history = refl })
    says-itself (reactions.Abort reason) own at = says-none later s (by_line (reactions.Abort reason)) (ends_by h s reason) refl at refl refl (record { standing = refl; input = refl; established = refl; asks = refl; history = refl })
    says-itself reactions.Unsubscribe own at = says-none later s (by_line reactions.Unsubscribe) (effect_by h s message reactions.Unsubscribe) refl at refl refl (record { standing = refl; input = refl; established = refl; asks = refl; history = refl })
    says-itself reactions.NotImplemented own at = says-one later s (by_line reactions.NotImplemented) _ (effect_by h s message reactions.NotImplemented) refl at refl refl (record { standing = refl; input = refl; established = refl; asks = refl; history = refl })
    says-itself reactions.Subscribe own at = absurd cc
    says-itself reactions.Reconfirm own at = absurd cc
    says-itself reactions.Update own at = absurd cc
    says-itself reactions.Query own at = absurd cc

    -- ---- a SUBSCRIBE

    module _ (question : Option Question) where
      abbrev judged : Verdict
      judged = verdict_on (keeps_now h) (id_of message) question (has_home h question) s.subscriptions

      abbrev deciding : Verdict → Session
      deciding v = decided (keeps_now h) (tells_now h) (now h) (id_of message) v s

      says-verdict : (other : Hub) → other.history ≡ h.history → (v : Verdict) → session_of other number ≡ Some (deciding v) → Says number other s (effect_by_verdict h s message v)
      says-verdict other past (Refuse rcode) at = says-one other s (deciding (Refuse rcode)) _ (effect_by_verdict h s message (Refuse rcode)) refl at refl refl (record { standing = refl; input = refl; established = refl; asks = refl; history = past })
      says-verdict other past (Abort reason) at = says-none other s (deciding (Abort reason)) (ends_by h s reason) refl at refl refl (record { standing = refl; input = refl; established = refl; asks = refl; history = past })
      says-verdict other past (Accept q) at = by (first_answer h s q) refl
        where
          answer : List ℕ
          answer = answer_to (id_of message) noerror

          begun : List Notice → Session
          begun notices = subscribed (keeps_now h) (id_of message) q ((keeps_now h).end_behind (first_answer_size answer notices) s.made) s

          answering : List Notice → Session
          answering notices = says_first_answer (keeps_now h) (now h) answer notices s.queue (begun notices)

          accepted : List Notice → Effect
          accepted notices = record (effect_of_messages h s (answer ∷ pushes notices)) { established = true; asks = asked_of s.subscriptions ++ (id_of message, q) ∷ [] }

          asked_more : (n : Subscription) → asked_of (s.subscriptions ++ n ∷ []) ≡ asked_of s.subscriptions ++ (n.id, n.question) ∷ []
          asked_more n = map-append (λ (x : Subscription). (x.id, x.question)) s.subscriptions (n ∷ [])

          by : (notices : List Notice) → first_answer h s q ≡ notices → Says number other s (accepted (first_answer h s q))
          by [] is = subst (λ (ns : List Notice). Says number other s (accepted ns)) (sym is)
              (says-one other s (answering []) _ (accepted []) refl (at ∙ ap (λ (ns : List Notice). Some (answering ns)) is) refl refl
              (record { standing = refl; input = refl; established = refl; asks = asked_more (record { id = id_of message; question = q; filled = _ }); history = past }))
          by (n ∷ ns) is = subst (λ (ns : List Notice). Says number other s (accepted ns)) (sym is)
              (says-two other s (answering (n ∷ ns)) _ _ (accepted (n ∷ ns)) refl (at ∙ ap (λ (ns : List Notice). Some (answering ns)) is) refl refl
              (record { standing = refl; input = refl; established = refl; asks = asked_more (record { id = id_of message; question = q; filled = _ }); history = past }))

      says-subscribe : Says number (in_session number (answered (keeps_now h) (tells_now h) (now h) (id_of message) question (has_home h question)) h) s (effect_of_subscribe h s message question)
      says-subscribe =
          let f : Session → Session = answered (keeps_now h) (tells_now h) (now h) (id_of message) question (has_home h question) in
          says-verdict (in_session number f h) refl judged (in-found h f s there)

    -- ---- entries

    -- where it falls behind it ends
    abbrev fallen : Option ℕ → Session
    fallen point = ended_where (keeps_now h) (option_map (λ p. ends.Behind p) point) s

    -- an entry leaves all but the queue, the standing, and what is asked
    record Fell (point : Option ℕ) (behind : Session) : Type 0 where
      pub made : behind.made ≡ s.made
      pub output : behind.output ≡ s.output
      pub standing : behind.standing ≡ standing_after s.standing (option_map (λ p. ends.Behind p) point)
      pub input : behind.input ≡ s.input
      pub established : behind.established ≡ s.established
      pub asks : asked_of behind.subscriptions ≡ (if is_some point then [] else asked_of s.subscriptions)

    fell : (point : Option ℕ) → Fell point (fallen point)
    fell None = record { made = refl; output = refl; standing = refl; input = refl; established = refl; asks = refl }
    fell (Some p) = record { made = refl; output = refl; standing = refl; input = refl; established = refl; asks = refl }

    abbrev noting : Entry → Session → Session
    noting entry = noted (keeps_now h) (entry_changes entry h) (newest h)

    abbrev noted_by : Entry → Session
    noted_by entry = noting entry (fallen (behind_at h entry s))

    fell-noted : (entry : Entry) → Fell (behind_at h entry s) (noted_by entry)
    fell-noted entry = (let f = fell (behind_at h entry s) in record { made = f.made; output = f.output; standing = f.standing; input = f.input; established = f.established; asks = f.asks })

    entered-there : (entry : Entry) → session_of (entered_keeping entry h) number ≡ Some (noted_by entry)
    entered-there entry =
        found-all (noting entry) number (ends_behind entry h).sessions ∙ ap (option_map (noting entry)) (found-all (ended_behind h entry) number h.sessions)
        ∙ ap (λ (o : Option Session). option_map (noting entry) (option_map (ended_behind h entry) o)) there

    says-reconfirm : (rr : Option Rr) → Says number (reconfirms rr number h) s (effect_of_reconfirm h s rr)
    says-reconfirm None =
        let f : Session → Session = ended_with (keeps_now h) (ends.BadData reconfirm_tlv) in
        says-none (in_session number f h) s (f s) (ends_by h s (ends.BadData reconfirm_tlv)) refl (in-found h f s there) refl refl (record { standing = refl; input = refl; established = refl; asks = refl; history = refl })
    says-reconfirm (Some rr) = by_key (reconfirm_key (state_now h) rr)
      where
        entered_or : Hub → Option ℕ → Effect
        entered_or x point = falling_behind point (record (effect_of_messages h s []) { history = x.history })

        nothing_entered : Says number h s (entered_or h None)
        nothing_entered = says-none h s s (entered_or h None) refl there refl refl (record { standing = refl; input = refl; established = refl; asks = refl; history = refl })

        by_room : (entry : Entry) (b : Bool) → Says number (cond b (entered_keeping entry h) h) s (entered_or (cond b (entered_keeping entry h) h) (cond b (behind_at h entry s) None))
        by_room entry true =
            let f = fell-noted entry in
            says-none (entered_keeping entry h) s (noted_by entry) (entered_or (entered_keeping entry h) (behind_at h entry s)) refl (entered-there entry) f.made f.output
            (record { standing = f.standing; input = f.input; established = f.established; asks = f.asks; history = refl })
        by_room entry false = nothing_entered

        by_key : (o : Option (ℕ × Key)) → Says number (key_as h o) s (entered_or (key_as h o) (behind_point h s o))
        by_key None = nothing_entered
        by_key (Some found) = (let entry = entries.Reconfirm found.0 found.1 in by_room entry (accepts (state_now h) entry && can_enter h))

    -- the session behind the judging of an update, by the point from which on it falls behind
    record Judged (point : Option ℕ) (j : ℕ × Hub) : Type 0 where
      pub behind : Session
      pub at : session_of j.1 number ≡ Some behind
      pub fell : Fell point behind

    is-judged : Judged (behind_judged h s (verdict (state_now h) message)) (update h message)
    is-judged = by (verdict (state_now h) message)
      where
        by_room : (u : Update) (b : Bool) → Judged (cond b (behind_at h (entries.Update u) s) None) (enters_update h u b)
        by_room u true = record { behind = noted_by (entries.Update u); at = entered-there (entries.Update u); fell = fell-noted (entries.Update u) }
        by_room u false = record { behind = s; at = there; fell = fell None }

        by : (r : Result Update ℕ) → Judged (behind_judged h s r) (update_as h r)
        by (Err code) = record { behind = s; at = there; fell = fell None }
        by (Ok u) = by_room u (can_enter h)

    says-update : let j = update h message in Says number (in_session number (answers (keeps_now j.1) false (now j.1) (answer_to_update (id_of message) j.0)) j.1) s (effect_of_update h s message)
    says-update =
        let j : ℕ × Hub = update h message in
        let f : Session → Session = answers (keeps_now j.1) false (now j.1) (answer_to_update (id_of message) j.0) in
        let is = is-judged in
        let m : Made = record { message = answer_to_update (id_of message) j.0; note = record { queue = is.behind.queue; newest = newest j.1 }; subscribed = is.behind.subscriptions } in
        says-one (in_session number f j.1) s (f is.behind) m (effect_of_update h s message) refl (in-found j.1 f is.behind is.at)
        (ap (λ (ms : List Made). ms ++ m ∷ []) is.fell.made) (ap (λ (os : List ℕ). os ++ frame m.message) is.fell.output)
        (record { standing = is.fell.standing; input = is.fell.input; established = is.fell.established; asks = is.fell.asks; history = refl })

    -- ---- a query

    says-query : Says number (in_session number (answers (keeps_now h) false (now h) (reply_to (known_at (state_now h)) message)) h) s (effect_by h s message reactions.Query)
    says-query =
        let f : Session → Session = answers (keeps_now h) false (now h) (reply_to (known_at (state_now h)) message) in
        says-one (in_session number f h) s (f s) _ (effect_by h s message reactions.Query) refl (in-found h f s there) refl refl
        (record { standing = refl; input = refl; established = refl; asks = refl; history = refl })

    -- ---- by the line of the table

    says-line : (r : Reaction) → (request_for r message ≡ requests.Itself → session_of later number ≡ Some (by_line r)) → Says number (by_request (request_for r message) number message h) s (effect_by h s message r)
    says-line (reactions.Answer rcode) own = says-itself (reactions.Answer rcode) refl (own refl)
    says-line reactions.Grant own = says-itself reactions.Grant refl (own refl)
    says-line (reactions.Abort reason) own = says-itself (reactions.Abort reason) refl (own refl)
    says-line reactions.Unsubscribe own = says-itself reactions.Unsubscribe refl (own refl)
    says-line reactions.NotImplemented own = says-itself reactions.NotImplemented refl (own refl)
    says-line reactions.Subscribe own = says-subscribe (question_of (primary_data message))
    says-line reactions.Reconfirm own = says-reconfirm (reconfirm_of (primary_data message))
    says-line reactions.Update own = says-update
    says-line reactions.Query own = says-query

    says-request : Says number (by_request (request_in message s.established) number message h) s (effect_of h s message)
    says-request = by (head_of message) refl
      where
        by : (o : Option DsoHead) → head_of message ≡ o → Says number (by_request (request_as message s.established o) number message h) s
            (elim o as (λ _. Effect) [ None ↦ ends_by h s ends.Short | Some head ↦ effect_by h s message (server_reaction head s.established) ])
        by None is = says-short is
        by (Some head) is = says-line (server_reaction head s.established) (λ own. itself-there (Some head) is)

  -- ---- the reaction

  -- what is done doesn't depend on the session's clocks, nor on its input
  abbrev other_than : (Session → Clocks) → (Session → List ℕ) → Session → Session
  other_than clocks input s = record s { clocks = clocks s; input = input s }

  update-same : (f : Session → Session) (h : Hub) (message : List ℕ) → ((update (in_session number f h) message).0 ≡ (update h message).0) × ((update (in_session number f h) message).1.history ≡ (update h message).1.history)
  update-same f h message = by (verdict (state_now h) message)
    where
      Same : ℕ × Hub → ℕ × Hub → Type 0
      Same a b = (a.0 ≡ b.0) × (a.1.history ≡ b.1.history)

      by_room : (u : Update) (b : Bool) → Same (enters_update (in_session number f h) u b) (enters_update h u b)
      by_room u true = (refl, refl)
      by_room u false = (refl, refl)

      by : (r : Result Update ℕ) → Same (update_as (in_session number f h) r) (update_as h r)
      by (Err code) = (refl, refl)
      by (Ok u) = by_room u (can_enter h)

  reconfirm-same : (f : Session → Session) (h : Hub) (rr : Rr) → (reconfirm (in_session number f h) rr).history ≡ (reconfirm h rr).history
  reconfirm-same f h rr = by (reconfirm_key (state_now h) rr)
    where
      by_room : (entry : Entry) (b : Bool) → (cond b (entered_keeping entry (in_session number f h)) (in_session number f h)).history ≡ (cond b (entered_keeping entry h) h).history
      by_room entry true = refl
      by_room entry false = refl

      by : (o : Option (ℕ × Key)) → (key_as (in_session number f h) o).history ≡ (key_as h o).history
      by None = refl
      by (Some found) = (let entry = entries.Reconfirm found.0 found.1 in by_room entry (accepts (state_now h) entry && can_enter h))

  module _ (clocks : Session → Clocks) (input : Session → List ℕ) (h : Hub) (s : Session) (message : List ℕ) where
    abbrev f : Session → Session
    f = other_than clocks input

    same-verdict : (v : Verdict) → effect_by_verdict (in_session number f h) (f s) message v ≡ effect_by_verdict h s message v
    same-verdict (Refuse rcode) = refl
    same-verdict (Abort reason) = refl
    same-verdict (Accept q) = refl

    same-reconfirm : (rr : Option Rr) → effect_of_reconfirm (in_session number f h) (f s) rr ≡ effect_of_reconfirm h s rr
    same-reconfirm None = refl
    same-reconfirm (Some rr) =
        ap (λ (past : List Entry). falling_behind (behind_point h s (reconfirm_key (state_now h) rr)) (record (effect_of_messages h s []) { history = past })) (reconfirm-same f h rr)

    same-line : (r : Reaction) → effect_by (in_session number f h) (f s) message r ≡ effect_by h s message r
    same-line (reactions.Answer rcode) = refl
    same-line reactions.Grant = refl
    same-line (reactions.Abort reason) = refl
    same-line reactions.Unsubscribe = refl
    same-line reactions.NotImplemented = refl
    same-line reactions.Query = refl
    same-line reactions.Subscribe =
        let question = question_of (primary_data message) in
        same-verdict (verdict_on (keeps_now h) (id_of message) question (has_home h question) s.subscriptions)
    same-line reactions.Reconfirm = same-reconfirm (reconfirm_of (primary_data message))
    same-line reactions.Update =
        let same = update-same f h message in
        (λ i. falling_behind (behind_judged h s (verdict (state_now h) message)) (record (effect_of_messages h s (answer_to_update (id_of message) (same.0 i) ∷ [])) { history = same.1 i }))

    same-effect : effect_of (in_session number f h) (f s) message ≡ effect_of h s message
    same-effect = by (head_of message)
      where
        effect_as : Hub → Session → Option DsoHead → Effect
        effect_as h s o = elim o as (λ _. Effect) [ None ↦ ends_by h s ends.Short | Some head ↦ effect_by h s message (server_reaction head s.established) ]

        by : (o : Option DsoHead) → effect_as (in_session number f h) (f s) o ≡ effect_as h s o
        by None = refl
        by (Some head) = same-line (server_reaction head s.established)

  pub says-reacted : (h : Hub) (s : Session) (message : List ℕ) → session_of h number ≡ Some s → Says number (reacted message number h) s (effect_of h s message)
  says-reacted h s message there =
      let f : Session → Session = restarted_by message (now h) in
      let heard : Hub = in_session number f h in
      let one : Says number (by_request (request_in message s.established) number message heard) (f s) (effect_of heard (f s) message) = says-request heard (f s) (in-found h f s there) message in
      let same = same-effect (λ x. (f x).clocks) (λ x. x.input) h s message in
      let again : Says number (by_request (request_in message s.established) number message heard) (f s) (effect_of h s message) =
      subst (λ (t : Effect). Says number (by_request (request_in message s.established) number message heard) (f s) t) same one in
      let met : reacted message number h ≡ by_request (request_in message s.established) number message heard = ap (session_as h number message) there in
      record {
        after = again.after;
        there = ap (λ (x : Hub). session_of x number) met ∙ again.there;
        made = again.made;
        output = again.output;
        left = record { standing = again.left.standing; input = again.left.input; established = again.left.established; asks = again.left.asks; history = ap (λ (x : Hub). x.history) met ∙ again.left.history };
      }

  -- ---- what is handed out of it

  pub record Hands (s : Session) (g : Giving) : Type 0 where
    pub after : Session
    pub there : session_of g.hub number ≡ Some after
    pub made : after.made ≡ s.made
    pub octets : g.octets ++ after.output ≡ s.output
    pub standing : after.standing ≡ s.standing
    pub input : after.input ≡ s.input
    pub queue : after.queue ≡ s.queue
    pub established : after.established ≡ s.established
    pub subscriptions : after.subscriptions ≡ s.subscriptions

  pub hands-on : (room : ℕ) (given : Given) (h : Hub) (s : Session) → session_of h number ≡ Some s → Hands s (copies_or given number room s h)
  hands-on room given h s there = by (is_empty s.output)
    where
      by : (b : Bool) → Hands s (copies_as h number room s given b)
      by true = record { after = s; there = there; made = refl; octets = refl; standing = refl; input = refl; queue = refl; established = refl; subscriptions = refl }
      by false = record { after = copied room s; there = in-found h (copied room) s there; made = refl; octets = take-append-drop room s.output; standing = refl; input = refl; queue = refl; established = refl; subscriptions = refl }

  pub hands-after : (room : ℕ) (h : Hub) (s : Session) → session_of h number ≡ Some s → Hands s (after_reaction number room h)
  hands-after room h s there = subst (Hands s) (sym (ap (found_as h number room Worked given_after) there)) (hands-on room (given_after s.standing) h s there)

  -- the history stays
  keeps-history : (room : ℕ) (given : Given) (h : Hub) (s : Session) → (copies_or given number room s h).hub.history ≡ h.history
  keeps-history room given h s = by (is_empty s.output)
    where
      by : (b : Bool) → (copies_as h number room s given b).hub.history ≡ h.history
      by true = refl
      by false = refl

  after-history : (room : ℕ) (h : Hub) (s : Session) → session_of h number ≡ Some s → (after_reaction number room h).hub.history ≡ h.history
  after-history room h s there = ap (λ (o : Option Session). (found_as h number room Worked given_after o).hub.history) there ∙ keeps-history room (given_after s.standing) h s

-- ---- the laws

pub turn-effect : (number : ℕ) (calls : List HubCall) (hub : Hub) (front : List (List ℕ)) (message : List ℕ) (turn : HasItsTurn number calls hub front message) → TurnHasEffect number calls hub front message turn
turn-effect number calls hub front message turn =
    let behind_first : Hub = after_calls turn.first hub in
    let f : Session → Session = without_first turn.rest in
    let taken : Hub = in_session number f behind_first in
    let s : Session = turn.session in
    let said = subst (λ (t : Effect). Says number (reacted message number taken) (f s) t) (same-effect number (λ x. x.clocks) (λ x. turn.rest) behind_first s message)
    (says-reacted number taken (f s) message (in-found number behind_first f s turn.there)) in
    let handed = subst (Hands number said.after) (sym turn.reacts) (hands-after number turn.room (reacted message number taken) said.after said.there) in
    record {
      after = handed.after;
      there = handed.there;
      made = ap (map message_in) handed.made ∙ said.made;
      octets_are = handed.octets ∙ said.output;
      standing = handed.standing ∙ said.left.standing;
      established = handed.established ∙ said.left.established;
      asks = ap asked_of handed.subscriptions ∙ said.left.asks;
      history = ap (λ (g : Giving). g.hub.history) turn.reacts ∙ after-history number turn.room (reacted message number taken) said.after said.there ∙ said.left.history;
    }

pub each-has-its-turn : EachHasItsTurn
each-has-its-turn number calls hub front message back is =
    let turn = has-its-turn number calls hub front message back is in
    (turn, turn-effect number calls hub front message turn)

-- what is done for an acceptable SUBSCRIBE
accepted-effect : (hub : Hub) (session : Session) (message : List ℕ) (question : Question) → IsAcceptable hub session message question → effect_of hub session message ≡ effect_by_verdict hub session message (Accept question)
accepted-effect hub session message question a = by (head_of message) refl a.request
  where
    effect_as : Option DsoHead → Effect
    effect_as o = elim o as (λ _. Effect) [ None ↦ ends_by hub session ends.Short | Some head ↦ effect_by hub session message (server_reaction head session.established) ]

    asked : Option Question → Effect
    asked q = effect_of_subscribe hub session message q

    by_line : (r : Reaction) → request_for r message ≡ requests.Subscribe (Some question) → effect_by hub session message r ≡ effect_by_verdict hub session message (Accept question)
    by_line (reactions.Answer rcode) e = absurd cc
    by_line reactions.Grant e = absurd cc
    by_line (reactions.Abort reason) e = absurd cc
    by_line reactions.Unsubscribe e = absurd cc
    by_line reactions.NotImplemented e = absurd cc
    by_line reactions.Update e = absurd cc
    by_line reactions.Query e = absurd cc
    by_line reactions.Reconfirm e = absurd cc
    by_line reactions.Subscribe e =
        let read : question_of (primary_data message) ≡ Some question = cc in
        ap asked read ∙ ap (effect_by_verdict hub session message) a.accepted

    by : (o : Option DsoHead) → head_of message ≡ o → (elim o as (λ _. Request) [ None ↦ requests.Itself | Some head ↦ request_for (server_reaction head session.established) message ]) ≡ requests.Subscribe (Some question)
        → effect_as o ≡ effect_by_verdict hub session message (Accept question)
    by None is e = absurd cc
    by (Some head) is e = by_line (server_reaction head session.established) e

-- the frames of both
frames-of : (answer : List ℕ) (notices : List Notice) → flat_map frame (answer ∷ pushes notices) ≡ first_answer_octets answer notices
frames-of answer [] = refl
frames-of answer (n ∷ ns) = ap (λ (os : List ℕ). frame answer ++ os) (append-nil (frame (push_message (n ∷ ns))))

pub subscribes-are-answered : SubscribesAreAnswered
subscribes-are-answered number calls hub front message question turn a =
    let behind_first : Hub = after_calls turn.first hub in
    let s : Session = turn.session in
    let g : Giving = give behind_first number turn.room in
    let t = subst (λ (effect : Effect). HasEffect behind_first g.hub number s g.octets effect) (accepted-effect behind_first s message question a) (turn-effect number calls hub front message turn) in
    record {
      after = t.after;
      there = t.there;
      made = t.made;
      octets_are = t.octets_are ∙ ap (λ (os : List ℕ). os ++ flat_map frame (first_messages behind_first s message question)) turn.silent
          ∙ frames-of (answer_to (id_of message) noerror) (first_answer behind_first s question);
      standing = t.standing;
      established = t.established;
      asks = t.asks;
      history = t.history;
    }
