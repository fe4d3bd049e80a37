-- A query is answered, and nothing else changes.
--     query-whole      a query that waits has a whole header
--     reply-is, replied-is      a reply by homes and an index is that of their state; so the session says
--     replied-watches, watches-so      what it watches then
--     query_is_answered
use Rattle.std.proofs.Common.{◌≡◌, ℕ, ◌≤◌, Bool, true, false, cond, List, length, Option, Some, None, sym, ◌∙◌, ap, subst, refl}
use Rattle.std.specs.Prelude.{Ok, Err, [], ◌++◌, is_ok, is_some, nat_lt, option_map, unwrap_or}
use Rattle.std.proofs.lemmas.Bool.{ltb-false}
use Rattle.rrset.specs.Header.{flags_of, header_octets, id_of}
use Rattle.rrset.specs.RecordSet.{RecordSet}
use Rattle.dnsquery.specs.Replies.{Known, reply_to}
use Rattle.dsotlv.specs.Messages.{has_zero_counts, primary_of, tlvs_of}
use Rattle.dsotlv.specs.declared.message.DsoHead.{DsoHead}
use Rattle.history.specs.States.{State, home_of, records}
use Rattle.pushsession.specs.Sessions.{copied}
use Rattle.pushsession.specs.Reactions.{answers_query, request_in, restarted_by}
use Rattle.pushsession.specs.Kept.{KeptSession}
use Rattle.pushsession.specs.Requests.{first_waiting, message_of, replied, request_of}
use Rattle.pushsession.specs.Watched.{Rewatches}
use Rattle.pushsession.specs.declared.request.Request.{Request}
use Rattle.pushsession.specs.declared.request.Request.TheVariants as requests
use Rattle.subscr.specs.Watching.{Watching, KeptWatching, watching_of}
use Rattle.pushserver.specs.PlainHubs.{Hub, Session}
use Rattle.pushserver.specs.Hubs.{newest, now, state_now, keeps_now, session_of, in_session}
use Rattle.pushserver.specs.Giving.{known_at, by_request, reacted}
use Rattle.pushserver.specs.Laws.{RepliesAlone, QueryIsAnswered}
use Rattle.livesessions.proofs.SessionLists.{found-in, found-elsewhere}
use Rattle.pushserver.proofs.hub_steps.Cases.{request_as, session_as}

-- ---- its header

-- by whether it has a whole one
abbrev head_as : List ℕ → Bool → Option DsoHead
head_as message b = cond b None (Some (record {
  id = id_of message;
  flags = flags_of message;
  zero_counts = has_zero_counts message;
  tlvs_good = is_ok (tlvs_of message);
  primary = elim (tlvs_of message) as (λ _. Option (ℕ × ℕ)) [ Err fault ↦ None | Ok tlvs ↦ primary_of tlvs ];
}))

pub query-whole : (s : KeptSession) → request_of s ≡ Some requests.Query → header_octets ≤ length (message_of s)
query-whole s = by (first_waiting s)
  where
    by_length : (message : List ℕ) (b : Bool) → nat_lt (length message) header_octets ≡ b → Some (request_as message s.established (head_as message b)) ≡ Some requests.Query → header_octets ≤ length message
    by_length message true cut is = absurd cc
    by_length message false whole is = ltb-false (length message) header_octets whole

    by : (o : Option (List ℕ)) → option_map (λ message. request_in message s.established) o ≡ Some requests.Query → header_octets ≤ length (unwrap_or o [])
    by None is = absurd cc
    by (Some message) is = by_length message (nat_lt (length message) header_octets) refl is

-- ---- what replies are made of

-- what homes and an index know
abbrev pub known_of : State → RecordSet → Known
known_of homes rows = record { has_home = λ name. is_some (home_of homes name); records = rows }

-- a name's home is no matter of the moment
known-is : (state homes : State) (rows : RecordSet) → homes ≡ record state { now = 0 } → rows ≡ records state → known_of homes rows ≡ known_at state
known-is state homes rows is same = λ i. known_of (is i) (same i)

pub reply-is : (state homes : State) (rows : RecordSet) (message old new : List ℕ) → old ≡ [] → new ≡ old ++ reply_to (known_of homes rows) message → homes ≡ record state { now = 0 } → rows ≡ records state → new ≡ reply_to (known_at state) message
reply-is state homes rows message old new empty made is same =
    made ∙ ap (λ (o : List ℕ). o ++ reply_to (known_of homes rows) message) empty ∙ ap (λ (known : Known). reply_to known message) (known-is state homes rows is same)

-- so the session says
pub replied-is : (state : State) (message reply octets : List ℕ) (t : ℕ) (s new : KeptSession) → new ≡ replied octets t s → octets ≡ reply → reply ≡ reply_to (known_at state) message → message ≡ message_of s → t ≡ state.now
    → new ≡ replied (reply_to (known_at state) (message_of s)) state.now s
replied-is state message reply octets t s new step same made is moment =
    let all : octets ≡ reply_to (known_at state) (message_of s) = same ∙ made ∙ ap (reply_to (known_at state)) is in
    step ∙ (λ i. replied (all i) (moment i) s)

-- what a session asks is as before, and so is what it watches
pub replied-watches : (number : ℕ) (watching : Watching) (reply : List ℕ) (t : ℕ) (s new : KeptSession) → new ≡ replied reply t s → Rewatches number watching watching s new
replied-watches number watching reply t s new step = subst (λ (k : KeptSession). Rewatches number watching watching s k) (sym step) (record { own = λ watched. watched; others = λ name another other. refl })

-- what a session watches behind its reaction it watches behind the octets that it hands on
pub watches-so : (number room : ℕ) (before : Watching) (seen now : KeptWatching) (s mid left new : KeptSession) → Rewatches number before (watching_of seen) s mid → now ≡ seen → left ≡ mid → new ≡ copied room left → Rewatches number before (watching_of now) s new
watches-so number room before seen now s mid left new moves watchers session hands =
    subst (λ (k : KeptSession). Rewatches number before (watching_of now) s k) (sym (hands ∙ ap (copied room) session))
    (subst (λ (w : KeptWatching). Rewatches number before (watching_of w) s (copied room mid)) (sym watchers) moves)

-- ---- the session behind it

module _ (hub : Hub) (number : ℕ) (session : Session) (message : List ℕ) (there : session_of hub number ≡ Some session) where
  abbrev restarting : Session → Session
  restarting s = restarted_by message (now hub) s

  abbrev replying : Session → Session
  replying s = answers_query (keeps_now hub) (now hub) (reply_to (known_at (state_now hub)) message) s

  abbrev heard : Hub
  heard = in_session number restarting hub

  reaction : request_in message session.established ≡ requests.Query → reacted message number hub ≡ in_session number replying heard
  reaction is = ap (session_as hub number message) there ∙ ap (λ (q : Request). by_request q number message heard) is

  replied_alone : RepliesAlone hub (in_session number replying heard) number session message
  replied_alone = record {
    start = refl;
    timers = refl;
    history = refl;
    numbers_given = refl;
    others = λ other apart. found-elsewhere number replying other apart heard.sessions ∙ found-elsewhere number restarting other apart hub.sessions;
    after = replying (restarting session);
    there = found-in number replying heard.sessions ∙ ap (option_map replying) (found-in number restarting hub.sessions ∙ ap (option_map restarting) there);
    output = refl;
    reply = record { message = reply_to (known_at (state_now hub)) message; note = record { queue = session.queue; newest = newest hub }; subscribed = session.subscriptions };
    made = refl;
    said = refl;
    input = refl;
    subscriptions = refl;
    queue = refl;
    established = refl;
    standing = refl;
  }

pub query_is_answered : QueryIsAnswered
query_is_answered hub number session message there is =
    subst (λ (later : Hub). RepliesAlone hub later number session message) (sym (reaction hub number session message there is)) (replied_alone hub number session message there)
