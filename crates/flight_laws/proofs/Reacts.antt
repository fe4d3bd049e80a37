-- How a session reacts to a message that may be taken up.
--     verdicts-are-two      what a SUBSCRIBE gets
--     reacts-so      the rules do what `after` says
use Rattle.std.proofs.Common.{◌≡◌, ℕ, ◌≤◌, Bool, true, false, cond, not, ◌&&◌, ◌||◌, List, [], ◌∷◌, ◌++◌, length, Option, Some, None, refl, sym, ap, ◌∙◌, true≢false, arith}
use Rattle.std.specs.Prelude.{filter, is_some, option_map, nat_le, IsSome, ◌==◌, if◌then◌else◌}
use Rattle.std.specs.List.{list_any}
use Rattle.std.proofs.lemmas.Bool.{and_parts, leb-true}
use Rattle.std.proofs.lemmas.List.{length-map}
use Rattle.push_base.specs.Cases.{chosen}
use Rattle.push_base.specs.Limits.{max_questions}
use Rattle.dnsname.specs.Names.{is_name}
use Rattle.rrset.specs.Header.{id_of}
use Rattle.rrset.specs.Rcodes.{notauth, refused, formerr}
use Rattle.rrset.specs.Records.{same_question}
use Rattle.rrset.specs.declared.record.Question.{Question}
use Rattle.rrset.specs.declared.record.Rr.{Rr}
use Rattle.dsotlv.specs.Answers.{grant_to, refusal_to}
use Rattle.dsotlv.specs.Messages.{primary_data}
use Rattle.dsotlv.specs.TlvKinds.{keepalive_tlv, subscribe_tlv, unsubscribe_tlv}
use Rattle.dsotlv.specs.declared.message.DsoHead.{DsoHead}
use Rattle.dsosession.specs.Reactions.{server_reaction, is_keepalive}
use Rattle.dsosession.specs.Timing.{restarted}
use Rattle.dsosession.specs.declared.session.EndReason.TheVariants as ends
use Rattle.dsosession.specs.declared.session.Reaction.{Reaction}
use Rattle.dsosession.specs.declared.session.Reaction.TheVariants as reactions
use Rattle.pushsession.specs.Sessions.{answers}
use Rattle.pushsession.specs.Subscribing.{Verdict, Refuse, Abort, Accept, verdict_on, is_served, may_be_served, decided, answered, with_accepted}
use Rattle.pushsession.specs.Reactions.{restarted_by, request_in, request_for, reacts_itself, by_itself, granted, unsubscribed}
use Rattle.pushsession.specs.declared.request.Request.{Request}
use Rattle.pushsession.specs.declared.request.Request.TheVariants as requests
use Rattle.pushserver.specs.PlainHubs.{Session, Subscription, Hub, plain_keeps, subscription_of, subscription_for, asked_of}
use Rattle.pushserver.specs.Hubs.{newest, now, state_now, keeps_now, tells_now, session_of, in_session}
use Rattle.pushserver.specs.Giving.{has_home, is_served_at, reconfirms as reconfirms_record, by_request, reacted}
use Rattle.livesessions.proofs.SessionLists.{found-in, found-elsewhere, other-number}
use Rattle.pushserver.proofs.hub_steps.Cases.{request_as, clocks_as, itself_as, session_as}
use Rattle.inflight.specs.Messages.{ClientMessage, subscribes, unsubscribes, reconfirms, requests_keepalive, message_octets}
use Rattle.inflight.specs.Ends.{is_id, is_question, taken_up}
use Rattle.pushclient.specs.Clients.{reconfirm_message}
use Rattle.flight_laws.specs.Meeting.{SaysSo, IsReadBack, id_in, head_in, as_carried, needs, is_request_to_keep, heard, after, HasAfter, asks_hub, ReactedSo, ReactsSo, VerdictsAreTwo}
use Rattle.flight_laws.proofs.ReadBack.{read-back, Passed, passed, allowed, within-one}

-- ---- the reaction, by the head

abbrev reaction_to : ClientMessage → Reaction
reaction_to (subscribes id question) = reactions.Subscribe
reaction_to (unsubscribes id) = reactions.Unsubscribe
reaction_to (reconfirms rr) = reactions.Reconfirm
reaction_to (requests_keepalive id) = reactions.Grant

-- what is known of a message that may be taken up: its ID isn't 0 where it has one, and what has none comes to an established session
abbrev MayCome : Bool → ClientMessage → Type 0
MayCome established (subscribes id question) = (id == 0) ≡ false
MayCome established (unsubscribes id) = established ≡ true
MayCome established (reconfirms rr) = established ≡ true
MayCome established (requests_keepalive id) = (id == 0) ≡ false

-- the tests that are left for each kind
abbrev subscribe_by : Bool → Bool → Reaction
subscribe_by no_id established = chosen ((no_id && not established, reactions.Abort ends.Early) ∷ []) (cond no_id (reactions.Abort (ends.Misuse subscribe_tlv)) reactions.Subscribe)

abbrev unsubscribe_by : Bool → ℕ → Reaction
unsubscribe_by established size = chosen ((not established, reactions.Abort ends.Early) ∷ []) (cond (size == 2) reactions.Unsubscribe (reactions.Abort (ends.BadData unsubscribe_tlv)))

abbrev reconfirm_by : Bool → Reaction
reconfirm_by established = chosen ((not established, reactions.Abort ends.Early) ∷ []) reactions.Reconfirm

abbrev keepalive_by : Bool → Bool → ℕ → Reaction
keepalive_by no_id established size =
    chosen ((no_id && not established, reactions.Abort ends.Early) ∷ []) (cond no_id (reactions.Abort (ends.Misuse keepalive_tlv)) (cond (size == 8) reactions.Grant (reactions.Answer formerr)))

reacts-by : (m : ClientMessage) (established : Bool) → SaysSo m (primary_data (message_octets m)) → MayCome established m → server_reaction (head_in m) established ≡ reaction_to m
reacts-by (subscribes id question) established says may = ap (λ (no_id : Bool). subscribe_by no_id established) may
reacts-by (unsubscribes id) established says may = λ i. unsubscribe_by (may i) (says.0 i)
reacts-by (reconfirms rr) established says may = ap reconfirm_by may
reacts-by (requests_keepalive id) established says may = λ i. keepalive_by (may i) established (says i)

keeps-by : (m : ClientMessage) → is_keepalive (head_in m) ≡ is_request_to_keep m
keeps-by (subscribes id question) = refl
keeps-by (unsubscribes id) = refl
keeps-by (reconfirms rr) = refl
keeps-by (requests_keepalive id) = refl

-- what is needed for the reaction
needed : (m : ClientMessage) → SaysSo m (primary_data (message_octets m)) → request_for (reaction_to m) (message_octets m) ≡ needs m
needed (subscribes id question) says = ap (λ (q : Option Question). requests.Subscribe q) says
needed (unsubscribes id) says = refl
needed (reconfirms rr) says = ap (λ (rr : Option Rr). requests.Reconfirm rr) says
needed (requests_keepalive id) says = refl

-- ---- what the tests of `taken_up` say

-- an ID isn't 0
nonzero : (id : ℕ) → is_id id ≡ true → (id == 0) ≡ false
nonzero id h = let low : 1 ≤ id = leb-true 1 id (and_parts (nat_le 1 id) (nat_le id 65535) h).0 in other-number id 0 (λ e. omega (arith, e, low))

-- a SUBSCRIBE by its tests
subscribe-passed : (established : Bool) (subscriptions : List Subscription) (id : ℕ) (question : Question) → IsSome (taken_up established (asked_of subscriptions) (subscribes id question))
    → Passed (is_id id && is_question question) (list_any (λ a. a.0 == id || same_question a.1 question) (asked_of subscriptions)) (nat_le max_questions (length (asked_of subscriptions)))
subscribe-passed established subscriptions id question h =
    let active = asked_of subscriptions in
    passed (is_id id && is_question question) (list_any (λ a. a.0 == id || same_question a.1 question) active) (nat_le max_questions (length active)) (active ++ (id, question) ∷ []) h

may-come : (established : Bool) (subscriptions : List Subscription) (m : ClientMessage) → IsSome (taken_up established (asked_of subscriptions) m) → MayCome established m
may-come established subscriptions (subscribes id question) h = nonzero id (and_parts (is_id id) (is_question question) (subscribe-passed established subscriptions id question h).good_is).0
may-come established subscriptions (unsubscribes id) h = (and_parts established (is_id id) (allowed (established && is_id id) (filter (λ (a : ℕ × Question). not (a.0 == id)) (asked_of subscriptions)) h)).0
may-come established subscriptions (reconfirms rr) h =
    let fits = nat_le (length (reconfirm_message rr)) 65535 in
    (and_parts established (is_name rr.owner) (and_parts (established && is_name rr.owner) fits (allowed (established && is_name rr.owner && fits) (asked_of subscriptions) h)).0).0
may-come established subscriptions (requests_keepalive id) h = nonzero id (allowed (is_id id) (asked_of subscriptions) h)

-- ---- the verdict on a SUBSCRIBE

-- neither the ID nor the question is active
none-active : (id : ℕ) (question : Question) (ss : List Subscription) → list_any (λ a. a.0 == id || same_question a.1 question) (asked_of ss) ≡ false
    → (is_some (subscription_of ss id) ≡ false) × (option_map (λ s. s.id) (subscription_for ss question) ≡ None)
none-active id question [] h = (refl, refl)
none-active id question (s ∷ ss) h = by (s.id == id) (same_question s.question question) h (none-active id question ss)
  where
    by : (a b : Bool) → ((a || b) || list_any (λ a. a.0 == id || same_question a.1 question) (asked_of ss)) ≡ false
        → (list_any (λ a. a.0 == id || same_question a.1 question) (asked_of ss) ≡ false → (is_some (subscription_of ss id) ≡ false) × (option_map (λ (s : Subscription). s.id) (subscription_for ss question) ≡ None))
        → (is_some (cond a (Some s) (subscription_of ss id)) ≡ false) × (option_map (λ (s : Subscription). s.id) (cond b (Some s) (subscription_for ss question)) ≡ None)
    by false false h rest = rest h
    by false true h rest = absurd (true≢false h)
    by true b h rest = absurd (true≢false h)

-- the verdict by the outcomes of the tests
abbrev tests : ℕ → Question → Bool → Option ℕ → Bool → Bool → Bool → Verdict
tests id question used active served home full =
    if used then Abort (ends.IdInUse id)
    else elim active [ Some twice ↦ Abort (ends.Twice twice) | None ↦ if not (served && home) then Refuse notauth else if full then Refuse refused else Accept question ]

-- it is accepted where it is served, and refused with NOTAUTH where it isn't
abbrev served_or_not : Question → Bool → Verdict
served_or_not question served = if served then Accept question else Refuse notauth

verdict-is : (id : ℕ) (question : Question) (n : ℕ) (home : Bool) (ss : List Subscription) → is_some (subscription_of ss id) ≡ false → option_map (λ s. s.id) (subscription_for ss question) ≡ None → nat_le max_questions (length ss) ≡ false
    → verdict_on (plain_keeps n) id (Some question) home ss ≡ served_or_not question (may_be_served question home)
verdict-is id question n home ss unused new room = (λ i. tests id question (unused i) (new i) (is_served question.class) home (room i)) ∙ by (is_served question.class) home
  where
    by : (served home : Bool) → tests id question false None served home false ≡ served_or_not question (served && home)
    by true true = refl
    by true false = refl
    by false home = refl

-- ---- the reaction

module _ (hub : Hub) (number : ℕ) (m : ClientMessage) (session : Session) (there : session_of hub number ≡ Some session) (r : IsReadBack m)
    (may : MayCome session.established m) where
  abbrev message : List ℕ
  message = message_octets m

  abbrev t : ℕ
  t = now hub

  -- the hub when the timers are restarted, and the session
  abbrev hub_heard : Hub
  hub_heard = in_session number (heard t m) hub

  abbrev listening : Session
  listening = heard t m session

  hears : in_session number (restarted_by message t) hub ≡ hub_heard
  hears =
      ap (λ (h : Option DsoHead). in_session number (λ (s : Session). record s { clocks = clocks_as t s.clocks h }) hub) r.head
      ∙ ap (λ (k : Bool). in_session number (λ (s : Session). record s { clocks = restarted k t s.clocks }) hub) (keeps-by m)

  found-heard : session_of hub_heard number ≡ Some listening
  found-heard = found-in number (heard t m) hub.sessions ∙ ap (option_map (heard t m)) there

  reaction-is : server_reaction (head_in m) session.established ≡ reaction_to m
  reaction-is = reacts-by m session.established r.says may

  request-is : request_in message session.established ≡ needs m
  request-is = ap (request_as message session.established) r.head ∙ ap (λ (reaction : Reaction). request_for reaction message) reaction-is ∙ needed m r.says

  turned : reacted message number hub ≡ by_request (needs m) number message hub_heard
  turned = ap (session_as hub number message) there ∙ λ i. by_request (request-is i) number message (hears i)

  -- a change of the session that listens
  changed : (f : Session → Session) → f listening ≡ after hub m session → HasAfter hub (in_session number f hub_heard) hub.history (λ other. other) number (after hub m session)
  changed f is = record {
    start = refl;
    timers = refl;
    history = refl;
    numbers_given = refl;
    session = found-in number f hub_heard.sessions ∙ ap (option_map f) found-heard ∙ ap (λ (s : Session). Some s) is;
    others = λ other apart. found-elsewhere number f other apart hub_heard.sessions ∙ found-elsewhere number (heard t m) other apart hub.sessions;
  }

  -- what it does by itself
  abbrev itself : Session → Session
  itself = reacts_itself (keeps_now hub) hub.timers t message

  reacted-itself : needs m ≡ requests.Itself → ((h : Hub) → h ≡ asks_hub m number h) → by_itself (keeps_now hub) (reaction_to m) hub.timers t message listening ≡ after hub m session → ReactedSo hub number m session
  reacted-itself need asks is = record {
    request = request-is;
    between = in_session number itself hub_heard;
    reacts = changed itself (ap (itself_as (keeps_now hub) hub.timers t message listening) r.head ∙ ap (λ (reaction : Reaction). by_itself (keeps_now hub) reaction hub.timers t message listening) reaction-is ∙ is);
    asks = turned ∙ ap (λ (q : Request). by_request q number message hub_heard) need ∙ asks (in_session number itself hub_heard);
  }

  -- what it answers to a SUBSCRIBE
  abbrev answering : Question → ℕ → Session → Session
  answering question id = answered (keeps_now hub) (tells_now hub) t id (Some question) (has_home hub (Some question))

  reacted-subscribe : (question : Question) → needs m ≡ requests.Subscribe (Some question) → ((h : Hub) → h ≡ asks_hub m number h) → answering question (id_in m) listening ≡ after hub m session → ReactedSo hub number m session
  reacted-subscribe question need asks is = record {
    request = request-is;
    between = in_session number (answering question (id_of message)) hub_heard;
    reacts = changed (answering question (id_of message)) (ap (λ (id : ℕ). answering question id listening) r.id ∙ is);
    asks = turned ∙ ap (λ (q : Request). by_request q number message hub_heard) need ∙ asks (in_session number (answering question (id_of message)) hub_heard);
  }

  -- a record is reconfirmed by the hub
  reacted-reconfirm : (rr : Rr) → needs m ≡ requests.Reconfirm (Some (as_carried rr)) → ((h : Hub) → reconfirms_record (Some (as_carried rr)) number h ≡ asks_hub m number h) → listening ≡ after hub m session → ReactedSo hub number m session
  reacted-reconfirm rr need asks is = record {
    request = request-is;
    between = hub_heard;
    reacts = record {
      start = refl;
      timers = refl;
      history = refl;
      numbers_given = refl;
      session = found-heard ∙ ap (λ (s : Session). Some s) is;
      others = λ other apart. found-elsewhere number (heard t m) other apart hub.sessions;
    };
    asks = turned ∙ ap (λ (q : Request). by_request q number message hub_heard) need ∙ asks hub_heard;
  }

-- a verdict that is no end
decides : (hub : Hub) (id : ℕ) (question : Question) (s : Session) (served : Bool)
    → decided (keeps_now hub) (tells_now hub) (now hub) id (served_or_not question served) s
    ≡ (if served then with_accepted (keeps_now hub) (tells_now hub) (now hub) id question s else answers (keeps_now hub) false (now hub) (refusal_to id notauth) s)
decides hub id question s true = refl
decides hub id question s false = refl

pub verdicts-are-two : VerdictsAreTwo
verdicts-are-two n id question home established ss h =
    let p = subscribe-passed established ss id question h in
    let free = none-active id question ss p.unused in
    let room : nat_le max_questions (length ss) ≡ false = ap (λ (n : ℕ). nat_le max_questions n) (sym (length-map ss (λ (s : Subscription). (s.id, s.question)))) ∙ p.room in
    verdict-is id question n home ss free.0 free.1 room

subscribe-answered : (hub : Hub) (id : ℕ) (question : Question) (session : Session) → IsSome (taken_up session.established (asked_of session.subscriptions) (subscribes id question))
    → answered (keeps_now hub) (tells_now hub) (now hub) id (Some question) (has_home hub (Some question)) (heard (now hub) (subscribes id question) session) ≡ after hub (subscribes id question) session
subscribe-answered hub id question session h =
    let listening : Session = heard (now hub) (subscribes id question) session in
    ap (λ (v : Verdict). decided (keeps_now hub) (tells_now hub) (now hub) id v listening) (verdicts-are-two (newest hub) id question (has_home hub (Some question)) session.established session.subscriptions h)
    ∙ decides hub id question listening (is_served_at (state_now hub) question)

pub reacts-so : ReactsSo
reacts-so hub number (subscribes id question) session there h =
    let r = read-back (subscribes id question) (within-one session.established (asked_of session.subscriptions) (subscribes id question) h) in
    let may = may-come session.established session.subscriptions (subscribes id question) h in
    reacted-subscribe hub number (subscribes id question) session there r may question refl (λ h. refl) (subscribe-answered hub id question session h)
reacts-so hub number (unsubscribes id) session there h =
    let r = read-back (unsubscribes id) (within-one session.established (asked_of session.subscriptions) (unsubscribes id) h) in
    let may = may-come session.established session.subscriptions (unsubscribes id) h in
    reacted-itself hub number (unsubscribes id) session there r may refl (λ h. refl) (ap (λ (n : ℕ). unsubscribed (keeps_now hub) n (heard (now hub) (unsubscribes id) session)) r.says.1)
reacts-so hub number (reconfirms rr) session there h =
    let r = read-back (reconfirms rr) (within-one session.established (asked_of session.subscriptions) (reconfirms rr) h) in
    let may = may-come session.established session.subscriptions (reconfirms rr) h in
    reacted-reconfirm hub number (reconfirms rr) session there r may rr refl (λ h. refl) refl
reacts-so hub number (requests_keepalive id) session there h =
    let r = read-back (requests_keepalive id) (within-one session.established (asked_of session.subscriptions) (requests_keepalive id) h) in
    let may = may-come session.established session.subscriptions (requests_keepalive id) h in
    reacted-itself hub number (requests_keepalive id) session there r may refl (λ h. refl)
    (ap (λ (n : ℕ). granted hub.timers (answers (keeps_now hub) true (now hub) (grant_to n hub.timers.inactivity hub.timers.keepalive) (heard (now hub) (requests_keepalive id) session))) r.id)
