-- One walk through the calls, for each property of hubs that the few steps keep of which the calls are made.
--     Step Good hub f      a step of one session, where the messages that it is for are good
--     Entering Good hub entry, has_room      an entry that may be made: the point isn't the last one
--     EndsSome, entering-kept, timed-kept      what ending any sessions leaves; so does an entry where those that fall behind by it end first; and the time
--     holds-offered, holds-update, holds-hear, holds-going, holds-reconfirm, holds-moment, holds-connect      what holds with an entry and without
--     Reacts Good number P R      the steps that hand nothing out keep P, and what is P before an entry is R behind it
--     reacts-give      so `give` leads from P to R, but for the octets that it hands out (Gives)
--     Walks Good number P R      and all steps do
--     walks-give      so `give` leads from P to R
--     IsKept Good P      all steps keep P
--     keeps-called, keeps-calls      so each call keeps it, and any calls do
use Rattle.std.proofs.Common.{◌≡◌, ℕ, ◌+◌, Bool, true, false, cond, ◌&&◌, List, [], ◌∷◌, ◌++◌, length, Option, Some, None, Ok, Err, Result, sym, ap, ◌∙◌, subst, refl}
use Rattle.std.specs.Prelude.{nat_lt, option_map}
use Rattle.std.specs.List.{AllByRecursion}
use Rattle.push_base.specs.Cases.{is_empty, fault_as}
use Rattle.push_base.specs.Limits.{max_number}
use Rattle.rrset.specs.Header.{id_of}
use Rattle.rrset.specs.declared.record.Key.{Key}
use Rattle.rrset.specs.declared.record.Hearing.{Hearing}
use Rattle.rrset.specs.declared.record.Rr.{Rr}
use Rattle.dnswire.specs.Reading.{hearing_of}
use Rattle.dnswire.specs.declared.message.HearFault.{HearFault}
use Rattle.dnswire.specs.declared.message.Update.{Update}
use Rattle.dnsquery.specs.Replies.{reply_to}
use Rattle.dsotlv.specs.Messages.{first_message, head_of, primary_data}
use Rattle.dsotlv.specs.Notices.{question_of, reconfirm_of}
use Rattle.dsotlv.specs.TlvKinds.{reconfirm_tlv}
use Rattle.dsotlv.specs.declared.message.DsoHead.{DsoHead}
use Rattle.dsosession.specs.Reactions.{server_reaction}
use Rattle.dsosession.specs.declared.session.EndReason.{EndReason}
use Rattle.dsosession.specs.declared.session.EndReason.TheVariants as ends
use Rattle.dsosession.specs.declared.session.Reaction.{Reaction}
use Rattle.dsosession.specs.declared.session.Reaction.TheVariants as reactions
use Rattle.history.specs.Entries.{a_link, brought, concern}
use Rattle.history.specs.Kept.{told_plan}
use Rattle.history.specs.Plans.{Plan, refuse, idle, accept, planned}
use Rattle.history.specs.States.{verdict, accepts, reconfirm_key}
use Rattle.history.specs.declared.entry.Entry.{Entry}
use Rattle.history.specs.declared.entry.Entry.TheVariants as entries
use Rattle.dsotlv.specs.Answers.{answer_to_update}
use Rattle.history.proofs.ToldPlans.{accepted-told}
use Rattle.pushsession.specs.Sessions.{SessionOf, new_session, copied, due, timed, ended_where, ended_with, answers, stopped, without_first}
use Rattle.pushsession.specs.Subscribing.{answered, with_next_push}
use Rattle.pushsession.specs.Reactions.{restarted_by, request_for, reacts_itself}
use Rattle.pushsession.specs.declared.request.Request.TheVariants as requests
use Rattle.pushsession.specs.declared.session_status.SessionStatus.{SessionStatus}
use Rattle.pushsession.specs.declared.session_status.SessionStatus.TheVariants.{Live, AskedToStop, Stopped, Ended}
use Rattle.pushserver.specs.declared.given.Given.{Given}
use Rattle.pushserver.specs.declared.given.Given.TheVariants.{Worked, Nothing}
use Rattle.pushserver.specs.declared.given.Heard.{Heard}
use Rattle.pushserver.specs.Offering.{offered_by, offered}
use Rattle.pushserver.specs.Hubs.{SessionKind, HubOf, newest, now, state_now, keeps_now, tells_now, session_of, each_session, in_session, entered, behind_at, ended_behind, ends_behind, entered_keeping, can_enter, update, hear, link_gone, why_not, moment, max_sessions, connect, take_octets, stop, disconnect}
use Rattle.pushserver.specs.Giving.{GivingOf, has_home, known_at, reconfirm, reconfirms, by_request, reacted, did, copies, copies_or, given_after, after_reaction, after_packing, by_standing, give}
use Rattle.pushserver.proofs.Offering.{by_room, gone-offered, hear-offered, reconfirm-offered, unread-is}
use Rattle.pushserver.proofs.hub_steps.Cases.{enters_update, update_as, moment_as, key_as, session_as, request_as, copies_as, found_as, works_as, output_as, give_as}
use Rattle.pushserver.proofs.told_rows.HeardRows.{Brought, brings_nothing, brings_read}
use Rattle.pushserver.specs.Calls.{HubCall, updates as updating, hears, goes, moves, connects, takes, gives, stops, ends as ending, called, after_calls}

-- ---- the steps

-- any message may come
abbrev pub AnyMessage : List ℕ → Type 0
AnyMessage message = Unit {0}

-- what a call does to one session, apart from the octets that come in
pub data Step {A Q M S : Type 0} {kind : SessionKind A Q M S} (Good : List ℕ → Type 0) (hub : HubOf kind) : (SessionOf A Q M → SessionOf A Q M) → Type 0 where
  restarts : (message : List ℕ) → Step Good hub (restarted_by message (now hub))
  reacts : (message : List ℕ) → Step Good hub (reacts_itself (keeps_now hub) hub.timers (now hub) message)
  answers_subscribe : (message : List ℕ) → Good message
      → Step Good hub (answered (keeps_now hub) (tells_now hub) (now hub) (id_of message) (question_of (primary_data message)) (has_home hub (question_of (primary_data message))))
  answers_update : (before : HubOf kind) (message : List ℕ) → Step Good hub (answers (keeps_now hub) false (now hub) (answer_to_update (id_of message) (update before message).0))
  answers_query : (message : List ℕ) → Good message → Step Good hub (answers (keeps_now hub) false (now hub) (reply_to (known_at (state_now hub)) message))
  packs_names : Step Good hub (with_next_push (keeps_now hub) (tells_now hub) (now hub))
  comes_to_stop : (rcode delay : ℕ) → Step Good hub (stopped (keeps_now hub) rcode delay (now hub))
  ends_with : (reason : EndReason) → Step Good hub (ended_with (keeps_now hub) reason)
  copies_front : (room : ℕ) → Step Good hub (copied room)

-- all but the copying of an output's front
abbrev pub HandsNothing : {A Q M S : Type 0} {kind : SessionKind A Q M S} {Good : List ℕ → Type 0} {hub : HubOf kind} {f : SessionOf A Q M → SessionOf A Q M} → Step Good hub f → Type 0
HandsNothing (copies_front room) = ⊥
HandsNothing _ = Unit {0}

-- why an entry is made, where the point isn't the last one
pub data Entering {A Q M S : Type 0} {kind : SessionKind A Q M S} (Good : List ℕ → Type 0) (hub : HubOf kind) : Entry → Type 0 where
  by_update : (message : List ℕ) (u : Update) → Good message → verdict (state_now hub) message ≡ Ok u → can_enter hub ≡ true → Entering Good hub (entries.Update u)
  by_moment : (t : ℕ) → can_enter hub ≡ true → Entering Good hub (entries.Moment t)
  by_link : (entry : Entry) (link : ℕ) → concern entry ≡ a_link link → Brought Good (brought entry) → accepts (state_now hub) entry ≡ true → can_enter hub ≡ true → Entering Good hub entry

pub has_room : {A Q M S : Type 0} {kind : SessionKind A Q M S} {Good : List ℕ → Type 0} {hub : HubOf kind} {entry : Entry} → Entering Good hub entry → can_enter hub ≡ true
has_room (by_update message u good is room) = room
has_room (by_moment t room) = room
has_room (by_link entry link one brings is room) = room

-- ---- the calls that make entries

-- any sessions may end, where so many entries are made
abbrev pub EndsSome : {A Q M S : Type 0} {kind : SessionKind A Q M S} → (HubOf kind → Type 0) → Type 0
EndsSome {A = A} {Q = Q} {M = M} {kind = kind} P = (hub : HubOf kind) (point : ℕ) (reason : SessionOf A Q M → Option EndReason) → P hub → P (each_session (λ s. ended_where (kind.keeps point) (reason s) s) hub)

-- the entry may be made, too, where some have ended
entering-ended : {A Q M S : Type 0} {kind : SessionKind A Q M S} {Good : List ℕ → Type 0} (hub : HubOf kind) (entry : Entry) (f : SessionOf A Q M → SessionOf A Q M) → Entering Good hub entry → Entering Good (each_session f hub) entry
entering-ended hub entry f (by_update message u good is room) = by_update message u good is room
entering-ended hub entry f (by_moment t room) = by_moment t room
entering-ended hub entry f (by_link made link one brings is room) = by_link made link one brings is room

-- those that fall behind by an entry end before it is made
pub entering-kept : {A Q M S : Type 0} {kind : SessionKind A Q M S} (Good : List ℕ → Type 0) (P R : HubOf kind → Type 0) → EndsSome P → ((hub : HubOf kind) (entry : Entry) → Entering Good hub entry → P hub → R (entered entry hub))
    → (hub : HubOf kind) (entry : Entry) → Entering Good hub entry → P hub → R (entered_keeping entry hub)
entering-kept Good P R may_end enters hub entry by h =
    enters (ends_behind entry hub) entry (entering-ended hub entry (ended_behind hub entry) by) (may_end hub (newest hub) (λ s. option_map (λ p. ends.Behind p) (behind_at hub entry s)) h)

-- and by the time
pub timed-kept : {A Q M S : Type 0} {kind : SessionKind A Q M S} (P : HubOf kind → Type 0) → EndsSome P → (hub : HubOf kind) (point t : ℕ) → P hub → P (each_session (timed (kind.keeps point) t) hub)
timed-kept {kind = kind} P may_end hub point t h = may_end hub point (due (kind.keeps point) t) h

-- R holds with any entry that may be made
abbrev pub WithAnyEntry : {A Q M S : Type 0} {kind : SessionKind A Q M S} → (List ℕ → Type 0) → (HubOf kind → Type 0) → HubOf kind → Type 0
WithAnyEntry Good R hub = (entry : Entry) → Entering Good hub entry → R (entered_keeping entry hub)

module _ {A Q M S : Type 0} {kind : SessionKind A Q M S} (Good : List ℕ → Type 0) (R : HubOf kind → Type 0) (hub : HubOf kind) (enters : WithAnyEntry Good R hub) (stays : R hub) where
  pub holds-update : (message : List ℕ) → Good message → R (update hub message).1
  holds-update message good = by (verdict (state_now hub) message) refl
    where
      entering : (u : Update) → verdict (state_now hub) message ≡ Ok u → (b : Bool) → can_enter hub ≡ b → R (enters_update hub u b).1
      entering u is true room = enters (entries.Update u) (by_update message u good is room)
      entering u is false room = stays

      by : (r : Result Update ℕ) → verdict (state_now hub) message ≡ r → R (update_as hub r).1
      by (Err code) is = stays
      by (Ok u) is = entering u is (can_enter hub) refl

  -- whatever entry is offered
  pub holds-offered : (entry : Entry) → (accepts (state_now hub) entry ≡ true → can_enter hub ≡ true → Entering Good hub entry) → R (offered entry hub).1
  holds-offered entry may = by (planned (state_now hub) entry) refl
    where
      entering : (b : Bool) → can_enter hub ≡ b → accepts (state_now hub) entry ≡ true → R (by_room hub entry b).1
      entering true room is = enters entry (may is room)
      entering false room is = stays

      by : (plan : Plan) → planned (state_now hub) entry ≡ plan → R (offered_by plan entry hub).1
      by (refuse code) is = stays
      by idle is = stays
      by (accept changed) is = entering (can_enter hub) refl (accepted-told (state_now hub) entry changed (sym (ap told_plan is)))

  pub holds-hear : (link : ℕ) (datagram : List ℕ) → Good datagram → R (hear hub link datagram).1
  holds-hear link datagram good = by (hearing_of datagram) refl
    where
      by : (r : Result Hearing HearFault) → hearing_of datagram ≡ r → R (hear hub link datagram).1
      by (Err fault) reads = subst (λ (o : Heard × HubOf kind). R o.1) (sym (unread-is hub link datagram (why_not fault) (ap (fault_as why_not) reads))) stays
      by (Ok hearing) reads =
          let entry = entries.Heard link hearing in
          subst (λ (o : Heard × HubOf kind). R o.1) (sym (hear-offered hub link datagram hearing reads))
          (holds-offered entry (λ is room. by_link entry link refl (brings_read datagram hearing good reads) is room))

  pub holds-going : (link : ℕ) → R (link_gone hub link).1
  holds-going link =
      let entry = entries.LinkGone link in
      subst (λ (o : Bool × HubOf kind). R o.1) (sym (gone-offered hub link)) (holds-offered entry (λ is room. by_link entry link refl brings_nothing is room))

  pub holds-reconfirm : (rr : Rr) → R (reconfirm hub rr)
  holds-reconfirm rr = by (reconfirm_key (state_now hub) rr) refl
    where
      by : (o : Option (ℕ × Key)) → reconfirm_key (state_now hub) rr ≡ o → R (reconfirm hub rr)
      by None found = subst R (sym (ap (key_as hub) found)) stays
      by (Some key) found =
          let entry = entries.Reconfirm key.0 key.1 in
          subst R (sym (reconfirm-offered hub rr key.0 key.1 found)) (holds-offered entry (λ is room. by_link entry key.0 refl brings_nothing is room))

  pub holds-moment : ((later : HubOf kind) (point t : ℕ) → R later → R (each_session (timed (kind.keeps point) t) later)) → (t : ℕ) → R (moment hub t)
  holds-moment times t = by (nat_lt (now hub) t) (can_enter hub) refl
    where
      by : (later room : Bool) → can_enter hub ≡ room → R (moment_as hub t (later && room))
      by false room is = stays
      by true true is = times (entered_keeping (entries.Moment t) hub) (newest hub) t (enters (entries.Moment t) (by_moment t is))
      by true false is = stays

-- ---- a session comes

-- the hub with a new session
abbrev pub with_new : {A Q M S : Type 0} {kind : SessionKind A Q M S} → HubOf kind → HubOf kind
with_new hub = record hub { sessions = hub.sessions ++ (hub.numbers_given, new_session (keeps_now hub) (now hub)) ∷ []; numbers_given = hub.numbers_given + 1 }

pub holds-connect : {A Q M S : Type 0} {kind : SessionKind A Q M S} (R : HubOf kind → Type 0) (hub : HubOf kind) → R (with_new hub) → R hub → R (connect hub).1
holds-connect {kind = kind} R hub makes stays = by (nat_lt (length hub.sessions) max_sessions && nat_lt hub.numbers_given max_number)
  where
    by : (b : Bool) → R (cond {A = Option ℕ × HubOf kind} b (Some hub.numbers_given, with_new hub) (None, hub)).1
    by true = makes
    by false = stays

-- ---- a reaction

pub record Reacts {A Q M S : Type 0} {kind : SessionKind A Q M S} (Good : List ℕ → Type 0) (number : ℕ) (P R : HubOf kind → Type 0) : Type 0 where
  pub changes : (hub : HubOf kind) (f : SessionOf A Q M → SessionOf A Q M) (step : Step Good hub f) → HandsNothing step → P hub → P (in_session number f hub)
  -- at most one entry is made
  pub enters : (hub : HubOf kind) (entry : Entry) → Entering Good hub entry → P hub → R (entered_keeping entry hub)
  pub enters_none : (hub : HubOf kind) → P hub → R hub
  pub changes_behind : (hub : HubOf kind) (f : SessionOf A Q M → SessionOf A Q M) (step : Step Good hub f) → HandsNothing step → R hub → R (in_session number f hub)

-- what `give` did: nothing was handed out, or the front of the output of a session
pub data Gives {A Q M S : Type 0} {kind : SessionKind A Q M S} (number : ℕ) (R : HubOf kind → Type 0) : GivingOf kind → Type 0 where
  hands_nothing : (given : Given) (hub : HubOf kind) → R hub → Gives number R (did given hub)
  hands_front : (room : ℕ) (session : SessionOf A Q M) (hub : HubOf kind) → session_of hub number ≡ Some session → R hub → Gives number R (copies number room session hub)

-- the message that `give` takes up: where the session goes on without output, the first whole one of its input
pub record TakesUp {A Q M S : Type 0} {kind : SessionKind A Q M S} (hub : HubOf kind) (number : ℕ) (session : SessionOf A Q M) (found : List ℕ × List ℕ) : Type 0 where
  pub there : session_of hub number ≡ Some session
  pub live : session.standing ≡ Live
  pub silent : session.output ≡ []
  pub first : first_message session.input ≡ Some found

module _ {A Q M S : Type 0} {kind : SessionKind A Q M S} (Good : List ℕ → Type 0) (number : ℕ) (P R : HubOf kind → Type 0) (w : Reacts Good number P R) where
  -- a step without an entry
  steps : (hub : HubOf kind) (f : SessionOf A Q M → SessionOf A Q M) (step : Step Good hub f) → HandsNothing step → P hub → R (in_session number f hub)
  steps hub f step out h = w.enters_none (in_session number f hub) (w.changes hub f step out h)

  pub reacts-update : (hub : HubOf kind) (message : List ℕ) → Good message → P hub → R (update hub message).1
  reacts-update hub message good h = holds-update Good R hub (λ entry by. w.enters hub entry by h) (w.enters_none hub h) message good

  reacts-reconfirms : (hub : HubOf kind) (rr : Option Rr) → P hub → R (reconfirms rr number hub)
  reacts-reconfirms hub rr h = by rr
    where
      by : (o : Option Rr) → R (reconfirms o number hub)
      by None = steps hub (ended_with (keeps_now hub) (ends.BadData reconfirm_tlv)) (ends_with (ends.BadData reconfirm_tlv)) tt h
      by (Some rr) = holds-reconfirm Good R hub (λ entry by. w.enters hub entry by h) (w.enters_none hub h) rr

  itself : (hub : HubOf kind) (message : List ℕ) → P hub → R (by_request requests.Itself number message hub)
  itself hub message h = steps hub (reacts_itself (keeps_now hub) hub.timers (now hub) message) (reacts message) tt h

  reacts-reaction : (hub : HubOf kind) (message : List ℕ) (reaction : Reaction) → Good message → P hub → R (by_request (request_for reaction message) number message hub)
  reacts-reaction hub message reactions.Subscribe good h =
      let question = question_of (primary_data message) in
      steps hub (answered (keeps_now hub) (tells_now hub) (now hub) (id_of message) question (has_home hub question)) (answers_subscribe message good) tt h
  reacts-reaction hub message reactions.Reconfirm good h = reacts-reconfirms hub (reconfirm_of (primary_data message)) h
  reacts-reaction hub message reactions.Update good h =
      let judged = update hub message in
      w.changes_behind judged.1 (answers (keeps_now judged.1) false (now judged.1) (answer_to_update (id_of message) judged.0)) (answers_update hub message) tt (reacts-update hub message good h)
  reacts-reaction hub message reactions.Query good h = steps hub (answers (keeps_now hub) false (now hub) (reply_to (known_at (state_now hub)) message)) (answers_query message good) tt h
  reacts-reaction hub message (reactions.Answer rcode) good h = itself hub message h
  reacts-reaction hub message reactions.Grant good h = itself hub message h
  reacts-reaction hub message (reactions.Abort reason) good h = itself hub message h
  reacts-reaction hub message reactions.Unsubscribe good h = itself hub message h
  reacts-reaction hub message reactions.NotImplemented good h = itself hub message h

  pub reacts-reacted : (hub : HubOf kind) (message : List ℕ) → Good message → P hub → R (reacted message number hub)
  reacts-reacted hub message good h = by (session_of hub number)
    where
      later : HubOf kind
      later = in_session number (restarted_by message (now hub)) hub

      by_head : (established : Bool) (o : Option DsoHead) → P later → R (by_request (request_as message established o) number message later)
      by_head established None h = itself later message h
      by_head established (Some head) h = reacts-reaction later message (server_reaction head established) good h

      by : (o : Option (SessionOf A Q M)) → R (session_as hub number message o)
      by None = w.enters_none hub h
      by (Some session) = by_head session.established (head_of message) (w.changes hub (restarted_by message (now hub)) (restarts message) tt h)

  -- ---- `give`

  gives-copies_or : (given : Given) (room : ℕ) (session : SessionOf A Q M) (hub : HubOf kind) → session_of hub number ≡ Some session → R hub → Gives number R (copies_or given number room session hub)
  gives-copies_or given room session hub there h = by (is_empty session.output)
    where
      by : (b : Bool) → Gives number R (copies_as hub number room session given b)
      by true = hands_nothing given hub h
      by false = hands_front room session hub there h

  gives-found : (room : ℕ) (none : Given) (given : SessionStatus → Given) (hub : HubOf kind) → R hub → (o : Option (SessionOf A Q M)) → session_of hub number ≡ o → Gives number R (found_as hub number room none given o)
  gives-found room none given hub h None there = hands_nothing none hub h
  gives-found room none given hub h (Some session) there = gives-copies_or (given session.standing) room session hub there h

  gives-after_reaction : (room : ℕ) (hub : HubOf kind) → R hub → Gives number R (after_reaction number room hub)
  gives-after_reaction room hub h = gives-found room Worked given_after hub h (session_of hub number) refl

  gives-after_packing : (room : ℕ) (hub : HubOf kind) → R hub → Gives number R (after_packing number room hub)
  gives-after_packing room hub h = gives-found room Nothing (λ standing. Nothing) hub h (session_of hub number) refl

  -- a message may be taken up, or none is
  module _ (hub : HubOf kind) (room : ℕ)
      (none : ((session : SessionOf A Q M) (found : List ℕ × List ℕ) → TakesUp hub number session found → ⊥) → P hub)
      (some : (session : SessionOf A Q M) (found : List ℕ × List ℕ) → TakesUp hub number session found → Good found.0 × P (in_session number (without_first found.1) hub)) where
    -- the session of this number is this one
    same : (s t : SessionOf A Q M) → session_of hub number ≡ Some s → session_of hub number ≡ Some t → s ≡ t
    same s t is be = let both : Some s ≡ Some t = sym is ∙ be in cc

    module _ (session : SessionOf A Q M) (there : session_of hub number ≡ Some session) where
      ours : (s : SessionOf A Q M) (found : List ℕ × List ℕ) → TakesUp hub number s found → TakesUp hub number session found
      ours s found up = subst (λ s. TakesUp hub number s found) (same s session up.there there) up

      by_message : session.standing ≡ Live → session.output ≡ [] → (o : Option (List ℕ × List ℕ)) → first_message session.input ≡ o → Gives number R (works_as hub number room o)
      by_message live silent (Some found) is =
          let later = in_session number (without_first found.1) hub in
          let taken = some session found (record { there = there; live = live; silent = silent; first = is }) in
          gives-after_reaction room (reacted found.0 number later) (reacts-reacted later found.0 taken.0 taken.1)
      by_message live silent None is =
          let f = with_next_push (keeps_now hub) (tells_now hub) (now hub) in
          gives-after_packing room (in_session number f hub) (steps hub f packs_names tt (none nothing))
        where
          nothing : (s : SessionOf A Q M) (found : List ℕ × List ℕ) → TakesUp hub number s found → ⊥
          nothing s found up = let both : None ≡ Some found = sym is ∙ (ours s found up).first in absurd cc

      -- no message is taken up in another standing
      resting : (standing : SessionStatus) → session.standing ≡ standing → (standing ≡ Live → ⊥) → P hub
      resting standing is other = none (λ s found up. other (sym is ∙ (ours s found up).live))

      by_state : session.output ≡ [] → (standing : SessionStatus) → session.standing ≡ standing → Gives number R (by_standing standing number room session hub)
      by_state silent (Ended reason) is = hands_nothing _ hub (w.enters_none hub (resting (Ended reason) is (λ e. absurd cc)))
      by_state silent (Stopped since) is = hands_nothing _ hub (w.enters_none hub (resting (Stopped since) is (λ e. absurd cc)))
      by_state silent Live is = by_message is silent (first_message session.input) refl
      by_state silent (AskedToStop rcode delay) is =
          let f = stopped (keeps_now hub) rcode delay (now hub) in
          gives-after_reaction room (in_session number f hub) (steps hub f (comes_to_stop rcode delay) tt (resting (AskedToStop rcode delay) is (λ e. absurd cc)))

      by_output : (output : List ℕ) → session.output ≡ output → Gives number R (output_as hub number room session (is_empty output))
      by_output [] is = by_state is session.standing refl
      by_output (o ∷ os) is = hands_front room session hub there (w.enters_none hub (none waits))
        where
          waits : (s : SessionOf A Q M) (found : List ℕ × List ℕ) → TakesUp hub number s found → ⊥
          waits s found up = let both : o ∷ os ≡ [] = sym is ∙ (ours s found up).silent in absurd cc

    pub reacts-give : Gives number R (give hub number room)
    reacts-give = by (session_of hub number) refl
      where
        by : (o : Option (SessionOf A Q M)) → session_of hub number ≡ o → Gives number R (give_as hub number room o)
        by None is = hands_nothing _ hub (w.enters_none hub (none (λ s found up. let both : None ≡ Some s = sym is ∙ up.there in absurd cc)))
        by (Some session) is = by_output session is session.output refl

-- ---- octets are handed out, too

pub record Walks {A Q M S : Type 0} {kind : SessionKind A Q M S} (Good : List ℕ → Type 0) (number : ℕ) (P R : HubOf kind → Type 0) : Type 0 where
  -- a message that a session takes up is good, and what follows it is left
  pub reads : (hub : HubOf kind) (session : SessionOf A Q M) (found : List ℕ × List ℕ) → session_of hub number ≡ Some session → first_message session.input ≡ Some found → P hub → Good found.0
  pub takes_up : (hub : HubOf kind) (session : SessionOf A Q M) (found : List ℕ × List ℕ) → session_of hub number ≡ Some session → first_message session.input ≡ Some found → P hub → P (in_session number (without_first found.1) hub)
  pub changes : (hub : HubOf kind) (f : SessionOf A Q M → SessionOf A Q M) → Step Good hub f → P hub → P (in_session number f hub)
  -- at most one entry is made
  pub enters : (hub : HubOf kind) (entry : Entry) → Entering Good hub entry → P hub → R (entered_keeping entry hub)
  pub enters_none : (hub : HubOf kind) → P hub → R hub
  pub changes_behind : (hub : HubOf kind) (f : SessionOf A Q M → SessionOf A Q M) → Step Good hub f → R hub → R (in_session number f hub)

module _ {A Q M S : Type 0} {kind : SessionKind A Q M S} (Good : List ℕ → Type 0) (number : ℕ) (P R : HubOf kind → Type 0) (w : Walks Good number P R) where
  reacting : Reacts Good number P R
  reacting = record { changes = λ hub f step out h. w.changes hub f step h; enters = w.enters; enters_none = w.enters_none; changes_behind = λ hub f step out h. w.changes_behind hub f step h }

  pub walks-update : (hub : HubOf kind) (message : List ℕ) → Good message → P hub → R (update hub message).1
  walks-update hub message good h = reacts-update Good number P R reacting hub message good h

  pub walks-reacted : (hub : HubOf kind) (message : List ℕ) → Good message → P hub → R (reacted message number hub)
  walks-reacted hub message good h = reacts-reacted Good number P R reacting hub message good h

  handed : {g : GivingOf kind} → Gives number R g → R g.hub
  handed (hands_nothing given hub h) = h
  handed (hands_front room session hub there h) = w.changes_behind hub (copied room) (copies_front room) h

  pub walks-after_reaction : (room : ℕ) (hub : HubOf kind) → R hub → R (after_reaction number room hub).hub
  walks-after_reaction room hub h = handed (gives-after_reaction Good number P R reacting room hub h)

  pub walks-give : (hub : HubOf kind) (room : ℕ) → P hub → R (give hub number room).hub
  walks-give hub room h =
      handed (reacts-give Good number P R reacting hub room (λ none. h)
      (λ session found up. (w.reads hub session found up.there up.first h, w.takes_up hub session found up.there up.first h)))

-- ---- all calls

pub record IsKept {A Q M S : Type 0} {kind : SessionKind A Q M S} (Good : List ℕ → Type 0) (P : HubOf kind → Type 0) : Type 0 where
  pub reads : (hub : HubOf kind) (number : ℕ) (session : SessionOf A Q M) (found : List ℕ × List ℕ) → session_of hub number ≡ Some session → first_message session.input ≡ Some found → P hub → Good found.0
  pub takes_up : (hub : HubOf kind) (number : ℕ) (session : SessionOf A Q M) (found : List ℕ × List ℕ) → session_of hub number ≡ Some session → first_message session.input ≡ Some found → P hub
      → P (in_session number (without_first found.1) hub)
  pub changes : (hub : HubOf kind) (number : ℕ) (f : SessionOf A Q M → SessionOf A Q M) → Step Good hub f → P hub → P (in_session number f hub)
  pub enters : (hub : HubOf kind) (entry : Entry) → Entering Good hub entry → P hub → P (entered entry hub)
  -- sessions end by the time, and those that fall behind
  pub ends : (hub : HubOf kind) (point : ℕ) (reason : SessionOf A Q M → Option EndReason) → P hub → P (each_session (λ s. ended_where (kind.keeps point) (reason s) s) hub)
  -- octets come in, and a stop is asked for
  pub takes_in : (hub : HubOf kind) (number : ℕ) (piece : List ℕ) → Good piece → P hub → P (take_octets hub number piece)
  pub asks_stop : (hub : HubOf kind) (number rcode delay : ℕ) → P hub → P (stop hub number rcode delay)
  -- a session is made, and one goes
  pub makes : (hub : HubOf kind) → P hub → P (with_new hub)
  pub drops : (hub : HubOf kind) (number : ℕ) → P hub → P (disconnect hub number)

-- what is brought is good
abbrev pub BringsGood : (List ℕ → Type 0) → HubCall → Type 0
BringsGood Good (updating message) = Good message
BringsGood Good (hears link datagram) = Good datagram
BringsGood Good (takes number piece) = Good piece
BringsGood Good _ = Unit {0}

module _ {A Q M S : Type 0} {kind : SessionKind A Q M S} (Good : List ℕ → Type 0) (P : HubOf kind → Type 0) (k : IsKept Good P) where
  pub walks_alone : (number : ℕ) → Walks Good number P P
  walks_alone number = record {
    reads = λ hub session found there is h. k.reads hub number session found there is h;
    takes_up = λ hub session found there is h. k.takes_up hub number session found there is h;
    changes = λ hub f step h. k.changes hub number f step h;
    enters = entering-kept Good P P k.ends k.enters;
    enters_none = λ hub h. h;
    changes_behind = λ hub f step h. k.changes hub number f step h;
  }

  pub keeps-called : (call : HubCall) (hub : HubOf kind) → BringsGood Good call → P hub → P (called call hub)
  keeps-called (updating message) hub good h = holds-update Good P hub (λ entry by. entering-kept Good P P k.ends k.enters hub entry by h) h message good
  keeps-called (hears link datagram) hub good h = holds-hear Good P hub (λ entry by. entering-kept Good P P k.ends k.enters hub entry by h) h link datagram good
  keeps-called (goes link) hub good h = holds-going Good P hub (λ entry by. entering-kept Good P P k.ends k.enters hub entry by h) h link
  keeps-called (moves t) hub good h = holds-moment Good P hub (λ entry by. entering-kept Good P P k.ends k.enters hub entry by h) h (timed-kept P k.ends) t
  keeps-called connects hub good h = holds-connect P hub (k.makes hub h) h
  keeps-called (takes number piece) hub good h = k.takes_in hub number piece good h
  keeps-called (gives number room) hub good h = walks-give Good number P P (walks_alone number) hub room h
  keeps-called (stops number rcode delay) hub good h = k.asks_stop hub number rcode delay h
  keeps-called (ending number) hub good h = k.drops hub number h

  pub keeps-calls : (calls : List HubCall) (hub : HubOf kind) → AllByRecursion (BringsGood Good) calls → P hub → P (after_calls calls hub)
  keeps-calls [] hub good h = h
  keeps-calls (call ∷ calls) hub good h = keeps-calls calls (called call hub) good.1 (keeps-called call hub good.0 h)

-- any messages may be brought
pub bring_any : (calls : List HubCall) → AllByRecursion (BringsGood AnyMessage) calls
bring_any [] = tt
bring_any (call ∷ calls) = (by call, bring_any calls)
  where
    by : (call : HubCall) → BringsGood AnyMessage call
    by (updating message) = tt
    by (hears link datagram) = tt
    by (takes number piece) = tt
    by _ = tt
