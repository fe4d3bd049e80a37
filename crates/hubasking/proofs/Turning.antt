-- What a session's turn does to what sessions ask, and to the homes.
--     TurnsTo, StateTo, Turn      what becomes of a session's questions; of the state; of a hub
--     give-turn      what `give` does
use Rattle.std.proofs.Common.{◌≡◌, ◌⊎◌, inl, inr, ℕ, ◌+◌, Bool, true, false, cond, ◌&&◌, List, [], ◌∷◌, ◌++◌, map, length, Option, Some, None, Result, Ok, Err, refl, sym, ap, subst, ◌∙◌}
use Rattle.std.specs.Prelude.{is_ok, option_map, nat_lt, unwrap_or, if◌then◌else◌, ◌==◌}
use Rattle.std.specs.List.{AllZip}
use Rattle.push_base.specs.Cases.{is_empty}
use Rattle.rrset.specs.Header.{flags_of, header_octets, id_of}
use Rattle.rrset.specs.declared.record.Key.{Key}
use Rattle.rrset.specs.declared.record.Question.{Question}
use Rattle.rrset.specs.declared.record.Rr.{Rr}
use Rattle.subscr.specs.Asked.{Asked, without}
use Rattle.dnsquery.specs.Replies.{reply_to}
use Rattle.dnswire.specs.declared.message.Update.{Update}
use Rattle.dsotlv.specs.Messages.{first_message, has_zero_counts, head_of, primary_of, tlvs_of}
use Rattle.dsotlv.specs.declared.message.DsoHead.{DsoHead}
use Rattle.dsotlv.specs.declared.message.Notice.{Notice}
use Rattle.dsosession.specs.Reactions.{server_reaction}
use Rattle.dsosession.specs.declared.session.Timers.{Timers}
use Rattle.dsosession.specs.declared.session.EndReason.{EndReason}
use Rattle.dsosession.specs.declared.session.EndReason.TheVariants as ends
use Rattle.dsosession.specs.declared.session.Reaction.{Reaction}
use Rattle.dsosession.specs.declared.session.Reaction.TheVariants.{Answer, Grant, Abort as Aborts, Subscribe, Unsubscribe, Reconfirm, Update as Updates, Query as Queries, NotImplemented}
use Rattle.history.specs.States.{State, accepts, after, reconfirm_key, verdict}
use Rattle.history.specs.declared.entry.Entry.{Entry}
use Rattle.history.specs.declared.entry.Entry.TheVariants as entries
use Rattle.pushsession.specs.Kept.{KeptQuestions, KeptSession, keeping}
use Rattle.coalesce.specs.Waiting.{WaitingName}
use Rattle.pushsession.specs.Sessions.{copied, ended_with, says_stop, stopped, with_frame, without_first}
use Rattle.pushsession.specs.Reactions.{answers_query, answers_subscribe, answers_update, by_itself, reacts_itself, request_in, restarted_by, takes_reconfirm}
use Rattle.pushsession.specs.Requests.{message_of}
use Rattle.pushsession.specs.Subscribing.{Tells, Verdict, Refuse, Abort, Accept, decided, verdict_on, says_notices, with_next_push}
use Rattle.pushsession.specs.declared.request.Request.{Request}
use Rattle.pushsession.specs.declared.request.Request.TheVariants as requests
use Rattle.pushsession.specs.declared.session_status.SessionStatus.{SessionStatus}
use Rattle.pushsession.specs.declared.session_status.SessionStatus.TheVariants.{Live, AskedToStop, Stopped, Ended}
use Rattle.pushserver.specs.declared.given.Given.{Given}
use Rattle.pushserver.specs.declared.given.Given.TheVariants.{Worked, Nothing}
use Rattle.livesessions.specs.NumberedSessions.{Numbered, all_sessions, in_sessions}
use Rattle.pushserver.specs.Hubs.{can_enter, ended_behind, entered_keeping, in_session, keeps_now, newest, now, session_of, state_now, tells_now, update}
use Rattle.pushserver.specs.Giving.{after_reaction, by_request, by_standing, give, given_after, has_home, known_at, reacted, reconfirms}
use Rattle.pushserver.specs.KeptHubs.{KeptHub}
use Rattle.livesessions.proofs.SessionLists.{found-in}
use Rattle.pushserver.proofs.Subscribing.{verdict-holds}
use Rattle.pushserver.proofs.hub_steps.Cases.{copies_as, enters_update, found_as, give_as, itself_as, key_as, output_as, session_as, update_as, works_as}
use Rattle.hubasking.specs.LinkAskings.{confirms, confirms_key, is_live}
use Rattle.hubasking.specs.Turns.{first_id, turn_request}
use Rattle.hubasking.proofs.Resting.{Asks, asks-itself, entered-asks, zip-on}

-- ---- what becomes of a session's questions

-- one goes, or comes
abbrev pub OwnTo : Option Request → Option ℕ → Asked → Asked → Type 0
OwnTo (Some requests.Itself) id asked later = (gone : ℕ) × (later ≡ without gone asked)
OwnTo (Some (requests.Subscribe (Some question))) (Some id) asked later = later ≡ asked ++ (id, question) ∷ []
OwnTo _ id asked later = ⊥

abbrev pub TurnsTo : ℕ → Option Request → Option ℕ → ℕ × KeptSession → ℕ × KeptSession → Type 0
TurnsTo number request id old later = (old.0 ≡ later.0)
    × ((later.1.subscriptions.asked ≡ []) ⊎ (later.1.subscriptions.asked ≡ old.1.subscriptions.asked) ⊎ (((old.0 == number) ≡ true) × OwnTo request id old.1.subscriptions.asked later.1.subscriptions.asked))

-- ---- what becomes of the state

abbrev pub EntryTo : KeptHub → Option Request → KeptHub → Type 0
EntryTo k (Some requests.Update) later = (u : Update) × (state_now later ≡ after (state_now k) (entries.Update u)) × (newest later ≡ newest k + 1)
EntryTo k (Some (requests.Reconfirm (Some rr))) later = (found : ℕ × Key) × (confirms k (Some (requests.Reconfirm (Some rr))) ≡ Some found) × (state_now later ≡ after (state_now k) (entries.Reconfirm found.0 found.1)) × (newest later ≡ newest k + 1)
EntryTo k _ later = ⊥

abbrev pub StateTo : KeptHub → Option Request → KeptHub → Type 0
StateTo k request later = ((state_now later ≡ state_now k) × (newest later ≡ newest k) × (confirms k request ≡ None)) ⊎ EntryTo k request later

pub record Turn (k : KeptHub) (number : ℕ) (request : Option Request) (id : Option ℕ) (later : KeptHub) : Type 0 where
  pub sessions : AllZip (TurnsTo number request id) k.sessions later.sessions
  pub state : StateTo k request later

-- ---- sessions one by one

asks-turn : (number : ℕ) (request : Option Request) (id : Option ℕ) (xs ys : Numbered KeptSession) → AllZip Asks xs ys → AllZip (TurnsTo number request id) xs ys
asks-turn number request id [] [] zip = tt
asks-turn number request id [] (y ∷ ys) zip = absurd zip
asks-turn number request id (x ∷ xs) [] zip = absurd zip
asks-turn number request id (x ∷ xs) (y ∷ ys) zip = ((zip.0.0, by zip.0.1), asks-turn number request id xs ys zip.1)
  where
    by : (y.1.subscriptions.asked ≡ []) ⊎ (y.1.subscriptions.asked ≡ x.1.subscriptions.asked)
        → (y.1.subscriptions.asked ≡ []) ⊎ (y.1.subscriptions.asked ≡ x.1.subscriptions.asked) ⊎ (((x.0 == number) ≡ true) × OwnTo request id x.1.subscriptions.asked y.1.subscriptions.asked)
    by (inl none) = inl none
    by (inr same) = inr (inl same)

-- the same questions
abbrev Same : ℕ × KeptSession → ℕ × KeptSession → Type 0
Same old later = (old.0 ≡ later.0) × (later.1.subscriptions.asked ≡ old.1.subscriptions.asked)

in-same : (number : ℕ) (f : KeptSession → KeptSession) → ((s : KeptSession) → (f s).subscriptions.asked ≡ s.subscriptions.asked) → (xs : Numbered KeptSession) → AllZip Same xs (in_sessions number f xs)
in-same number f same [] = tt
in-same number f same (x ∷ xs) = ((refl, by (x.0 == number)), in-same number f same xs)
  where
    by : (b : Bool) → (cond b (f x.1) x.1).subscriptions.asked ≡ x.1.subscriptions.asked
    by true = same x.1
    by false = refl

abbrev OwnStep : Option Request → Option ℕ → Asked → Asked → Type 0
OwnStep request id asked later = (later ≡ []) ⊎ (later ≡ asked) ⊎ OwnTo request id asked later

in-turn : (number : ℕ) (request : Option Request) (id : Option ℕ) (f : KeptSession → KeptSession) → ((s : KeptSession) → OwnStep request id s.subscriptions.asked (f s).subscriptions.asked) → (xs : Numbered KeptSession) → AllZip (TurnsTo number request id) xs (in_sessions number f xs)
in-turn number request id f step [] = tt
in-turn number request id f step (x ∷ xs) = ((refl, by (x.0 == number) refl (step x.1)), in-turn number request id f step xs)
  where
    by : (b : Bool) → (x.0 == number) ≡ b → OwnStep request id x.1.subscriptions.asked (f x.1).subscriptions.asked
        → ((cond b (f x.1) x.1).subscriptions.asked ≡ []) ⊎ ((cond b (f x.1) x.1).subscriptions.asked ≡ x.1.subscriptions.asked) ⊎ (((x.0 == number) ≡ true) × OwnTo request id x.1.subscriptions.asked (cond b (f x.1) x.1).subscriptions.asked)
    by true is (inl none) = inl none
    by true is (inr (inl same)) = inr (inl same)
    by true is (inr (inr own)) = inr (inr (is, own))
    by false is own = inr (inl refl)

module _ (number : ℕ) (request : Option Request) (id : Option ℕ) where
  before-one : (a b c : ℕ × KeptSession) → Same a b → TurnsTo number request id b c → TurnsTo number request id a c
  before-one a b c same turns = (
    same.0 ∙ turns.0,
    subst (λ (n : ℕ × Asked). (c.1.subscriptions.asked ≡ []) ⊎ (c.1.subscriptions.asked ≡ n.1) ⊎ (((n.0 == number) ≡ true) × OwnTo request id n.1 c.1.subscriptions.asked)) (λ i. (sym same.0 i, same.1 i)) turns.1,
  )

  behind-one : (a b c : ℕ × KeptSession) → TurnsTo number request id a b → Same b c → TurnsTo number request id a c
  behind-one a b c turns same = (
    turns.0 ∙ same.0,
    subst (λ (asked : Asked). (asked ≡ []) ⊎ (asked ≡ a.1.subscriptions.asked) ⊎ (((a.0 == number) ≡ true) × OwnTo request id a.1.subscriptions.asked asked)) (sym same.1) turns.1,
  )

  before-all : (xs ys zs : Numbered KeptSession) → AllZip Same xs ys → AllZip (TurnsTo number request id) ys zs → AllZip (TurnsTo number request id) xs zs
  before-all [] [] [] f g = tt
  before-all [] [] (z ∷ zs) f g = absurd g
  before-all [] (y ∷ ys) zs f g = absurd f
  before-all (x ∷ xs) [] zs f g = absurd f
  before-all (x ∷ xs) (y ∷ ys) [] f g = absurd g
  before-all (x ∷ xs) (y ∷ ys) (z ∷ zs) f g = (before-one x y z f.0 g.0, before-all xs ys zs f.1 g.1)

  behind-all : (xs ys zs : Numbered KeptSession) → AllZip (TurnsTo number request id) xs ys → AllZip Same ys zs → AllZip (TurnsTo number request id) xs zs
  behind-all [] [] [] f g = tt
  behind-all [] [] (z ∷ zs) f g = absurd g
  behind-all [] (y ∷ ys) zs f g = absurd f
  behind-all (x ∷ xs) [] zs f g = absurd f
  behind-all (x ∷ xs) (y ∷ ys) [] f g = absurd g
  behind-all (x ∷ xs) (y ∷ ys) (z ∷ zs) f g = (behind-one x y z f.0 g.0, behind-all xs ys zs f.1 g.1)

-- ---- what one session does

notices-same : (t : ℕ) (notices : List Notice) (s : KeptSession) → (says_notices keeping t notices s).subscriptions.asked ≡ s.subscriptions.asked
notices-same t [] s = refl
notices-same t (n ∷ ns) s = refl

stops : (rcode delay t : ℕ) (s : KeptSession) → (stopped keeping rcode delay t s).subscriptions.asked ≡ []
stops rcode delay t s = by s.established
  where
    by : (b : Bool) → (cond b (says_stop keeping rcode delay t s) (ended_with keeping ends.Stopped s)).subscriptions.asked ≡ []
    by true = refl
    by false = refl

reconfirm-asks : (b : Bool) (s : KeptSession) → ((takes_reconfirm keeping b s).subscriptions.asked ≡ []) ⊎ ((takes_reconfirm keeping b s).subscriptions.asked ≡ s.subscriptions.asked)
reconfirm-asks true s = inr refl
reconfirm-asks false s = inl refl

subscribe-step : (tells : Tells KeptQuestions (List WaitingName)) (t : ℕ) (message : List ℕ) (question : Option Question) (home : Bool) (s : KeptSession)
    → OwnStep (Some (requests.Subscribe question)) (Some (id_of message)) s.subscriptions.asked (answers_subscribe keeping tells t message question home s).subscriptions.asked
subscribe-step tells t message question home s =
    verdict-holds keeping (id_of message) question home s.subscriptions
    (λ v. OwnStep (Some (requests.Subscribe question)) (Some (id_of message)) s.subscriptions.asked (decided keeping tells t (id_of message) v s).subscriptions.asked)
    (inr (inl refl)) (inr (inl refl)) (inr (inl refl)) (λ reason. inl refl)
    (λ q is unused none. inr (inr (subst (λ (o : Option Question). OwnTo (Some (requests.Subscribe o)) (Some (id_of message)) s.subscriptions.asked (decided keeping tells t (id_of message) (Accept q) s).subscriptions.asked) (sym is)
    (notices-same t (tells.first_notices q s.subscriptions s.queue) _))))

itself-step : (timers : Timers) (t : ℕ) (message : List ℕ) (id : Option ℕ) (s : KeptSession) → OwnStep (Some requests.Itself) id s.subscriptions.asked (reacts_itself keeping timers t message s).subscriptions.asked
itself-step timers t message id s = by_head (head_of message)
  where
    by_reaction : (r : Reaction) → OwnStep (Some requests.Itself) id s.subscriptions.asked (by_itself keeping r timers t message s).subscriptions.asked
    by_reaction (Answer rcode) = inr (inl refl)
    by_reaction Grant = inr (inl refl)
    by_reaction (Aborts reason) = inl refl
    by_reaction Unsubscribe = inr (inr (_, refl))
    by_reaction NotImplemented = inr (inl refl)
    by_reaction Subscribe = inr (inl refl)
    by_reaction Reconfirm = inr (inl refl)
    by_reaction Updates = inr (inl refl)
    by_reaction Queries = inr (inl refl)

    by_head : (o : Option DsoHead) → OwnStep (Some requests.Itself) id s.subscriptions.asked (itself_as keeping timers t message s o).subscriptions.asked
    by_head None = inl refl
    by_head (Some head) = by_reaction (server_reaction head s.established)

-- ---- what a message does

module _ (number : ℕ) where
  confirms-nothing : (k : KeptHub) (question : Option Question) → confirms k (Some (requests.Subscribe question)) ≡ None
  confirms-nothing k None = refl
  confirms-nothing k (Some question) = refl

  update-turn : (k : KeptHub) (id : Option ℕ) (message : List ℕ) → Turn k number (Some requests.Update) id (update k message).1
  update-turn k id message = by (verdict (state_now k) message)
    where
      stays : Turn k number (Some requests.Update) id k
      stays = record { sessions = asks-turn number (Some requests.Update) id k.sessions k.sessions (asks-itself k.sessions); state = inl (refl, refl, refl) }

      by_room : (u : Update) (b : Bool) → Turn k number (Some requests.Update) id (enters_update k u b).1
      by_room u true = record { sessions = asks-turn number (Some requests.Update) id k.sessions (entered_keeping (entries.Update u) k).sessions (entered-asks (entries.Update u) k); state = inr (u, refl, refl) }
      by_room u false = stays

      by : (r : Result Update ℕ) → Turn k number (Some requests.Update) id (update_as k r).1
      by (Err code) = stays
      by (Ok u) = by_room u (can_enter k)

  reconfirm-turn : (k : KeptHub) (id : Option ℕ) (rr : Rr) → Turn k number (Some (requests.Reconfirm (Some rr))) id (reconfirms (Some rr) number k)
  reconfirm-turn k id rr = by (reconfirm_key (state_now k) rr) refl
    where
      request : Option Request
      request = Some (requests.Reconfirm (Some rr))

      by_room : (found : ℕ × Key) (b : Bool) → (accepts (state_now k) (entries.Reconfirm found.0 found.1) && can_enter k) ≡ b → reconfirm_key (state_now k) rr ≡ Some found
          → Turn k number request id (cond b (entered_keeping (entries.Reconfirm found.0 found.1) k) k)
      by_room found true is at = record {
        sessions = asks-turn number request id k.sessions (entered_keeping (entries.Reconfirm found.0 found.1) k).sessions (entered-asks (entries.Reconfirm found.0 found.1) k);
        state = inr (found, ap (confirms_key k) at ∙ ap (λ (b : Bool). cond b (Some found) None) is, refl, refl);
      }
      by_room found false is at = record {
        sessions = asks-turn number request id k.sessions k.sessions (asks-itself k.sessions);
        state = inl (refl, refl, ap (confirms_key k) at ∙ ap (λ (b : Bool). cond b (Some found) None) is);
      }

      by : (o : Option (ℕ × Key)) → reconfirm_key (state_now k) rr ≡ o → Turn k number request id (key_as k o)
      by None at = record { sessions = asks-turn number request id k.sessions k.sessions (asks-itself k.sessions); state = inl (refl, refl, ap (confirms_key k) at) }
      by (Some found) at = by_room found (accepts (state_now k) (entries.Reconfirm found.0 found.1) && can_enter k) refl at

  -- a session takes a step where the state stays
  step-turn : (k : KeptHub) (request : Option Request) (id : Option ℕ) (f : KeptSession → KeptSession) → ((s : KeptSession) → OwnStep request id s.subscriptions.asked (f s).subscriptions.asked) → confirms k request ≡ None → Turn k number request id (in_session number f k)
  step-turn k request id f step none = record { sessions = in-turn number request id f step k.sessions; state = inl (refl, refl, none) }

  -- a session goes on with the same questions
  behind-turn : (k h : KeptHub) (request : Option Request) (id : Option ℕ) (f : KeptSession → KeptSession) → ((s : KeptSession) → (f s).subscriptions.asked ≡ s.subscriptions.asked) → Turn k number request id h → Turn k number request id (in_session number f h)
  behind-turn k h request id f same turn = record { sessions = behind-all number request id k.sessions h.sessions (in_sessions number f h.sessions) turn.sessions (in-same number f same h.sessions); state = moved request turn.state }
    where
      moved : (r : Option Request) → StateTo k r h → StateTo k r (in_session number f h)
      moved r (inl stays) = inl stays
      moved None (inr e) = absurd e
      moved (Some requests.Itself) (inr e) = absurd e
      moved (Some requests.Update) (inr e) = inr e
      moved (Some requests.Query) (inr e) = absurd e
      moved (Some (requests.Subscribe q)) (inr e) = absurd e
      moved (Some (requests.Reconfirm None)) (inr e) = absurd e
      moved (Some (requests.Reconfirm (Some rr))) (inr e) = inr e

  -- it had the same questions before
  before-turn : (k later : KeptHub) (request : Option Request) (id : Option ℕ) (f : KeptSession → KeptSession) → ((s : KeptSession) → (f s).subscriptions.asked ≡ s.subscriptions.asked) → Turn (in_session number f k) number request id later → Turn k number request id later
  before-turn k later request id f same turn = record { sessions = before-all number request id k.sessions (in_sessions number f k.sessions) later.sessions (in-same number f same k.sessions) turn.sessions; state = moved request turn.state }
    where
      moved : (r : Option Request) → StateTo (in_session number f k) r later → StateTo k r later
      moved None (inl stays) = inl stays
      moved None (inr e) = absurd e
      moved (Some requests.Itself) (inl stays) = inl stays
      moved (Some requests.Itself) (inr e) = absurd e
      moved (Some requests.Update) (inl stays) = inl stays
      moved (Some requests.Query) (inl stays) = inl stays
      moved (Some requests.Update) (inr e) = inr e
      moved (Some requests.Query) (inr e) = absurd e
      moved (Some (requests.Subscribe q)) (inl stays) = inl (stays.0, stays.1, confirms-nothing k q)
      moved (Some (requests.Subscribe q)) (inr e) = absurd e
      moved (Some (requests.Reconfirm None)) (inl stays) = inl stays
      moved (Some (requests.Reconfirm None)) (inr e) = absurd e
      moved (Some (requests.Reconfirm (Some rr))) (inl stays) = inl (stays.0, stays.1, sym (key-same (reconfirm_key (state_now k) rr)) ∙ stays.2)
        where
          key-same : (o : Option (ℕ × Key)) → confirms_key (in_session number f k) o ≡ confirms_key k o
          key-same None = refl
          key-same (Some found) = refl
      moved (Some (requests.Reconfirm (Some rr))) (inr e) = inr (e.0, sym (key-same (reconfirm_key (state_now k) rr)) ∙ e.1, e.2, e.3)
        where
          key-same : (o : Option (ℕ × Key)) → confirms_key (in_session number f k) o ≡ confirms_key k o
          key-same None = refl
          key-same (Some found) = refl

  request-turn : (k : KeptHub) (message : List ℕ) (q : Request) → Turn k number (Some q) (Some (id_of message)) (by_request q number message k)
  request-turn k message requests.Update =
      behind-turn k (update k message).1 (Some requests.Update) (Some (id_of message)) (answers_update (keeps_now (update k message).1) (now (update k message).1) message (update k message).0) (λ s. refl) (update-turn k (Some (id_of message)) message)
  request-turn k message (requests.Reconfirm (Some rr)) = reconfirm-turn k (Some (id_of message)) rr
  request-turn k message (requests.Reconfirm None) = step-turn k (Some (requests.Reconfirm None)) (Some (id_of message)) (takes_reconfirm (keeps_now k) false) (λ s. inl refl) refl
  request-turn k message (requests.Subscribe question) =
      step-turn k (Some (requests.Subscribe question)) (Some (id_of message)) (answers_subscribe (keeps_now k) (tells_now k) (now k) message question (has_home k question)) (λ s. subscribe-step (tells_now k) (now k) message question (has_home k question) s) (confirms-nothing k question)
  request-turn k message requests.Query =
      step-turn k (Some requests.Query) (Some (id_of message)) (answers_query (keeps_now k) (now k) (reply_to (known_at (state_now k)) message)) (λ s. inr (inl refl)) refl
  request-turn k message requests.Itself =
      step-turn k (Some requests.Itself) (Some (id_of message)) (reacts_itself (keeps_now k) k.timers (now k) message) (λ s. itself-step k.timers (now k) message (Some (id_of message)) s) refl

  -- ---- what is found of a session afterwards

  found-turn : (room : ℕ) (k later : KeptHub) (request : Option Request) (id : Option ℕ) (none : Given) (given : SessionStatus → Given) (o : Option KeptSession) → Turn k number request id later → Turn k number request id (found_as later number room none given o).hub
  found-turn room k later request id none given None turn = turn
  found-turn room k later request id none given (Some session) turn = by (is_empty session.output)
    where
      by : (b : Bool) → Turn k number request id (copies_as later number room session (given session.standing) b).hub
      by true = turn
      by false = behind-turn k later request id (copied room) (λ s. refl) turn

  itself-turn : (k : KeptHub) (request : Option Request) (id : Option ℕ) → confirms k request ≡ None → Turn k number request id k
  itself-turn k request id none = record { sessions = asks-turn number request id k.sessions k.sessions (asks-itself k.sessions); state = inl (refl, refl, none) }

  -- ---- a session's turn

  -- the ID of its first message, as far as that is needed
  pub head-id : (message : List ℕ) (head : DsoHead) → head_of message ≡ Some head → head.id ≡ id_of message
  head-id message head at = by (nat_lt (length message) header_octets) at
    where
      by : (b : Bool) → cond b None (Some (record { id = id_of message; flags = flags_of message; zero_counts = has_zero_counts message; tlvs_good = is_ok (tlvs_of message); primary = elim (tlvs_of message) as (λ _. Option (ℕ × ℕ)) [ Err fault ↦ None | Ok tlvs ↦ primary_of tlvs ] })) ≡ Some head → head.id ≡ id_of message
      by true e = absurd cc
      by false e = ap (λ (o : Option DsoHead). unwrap_or (option_map (λ (h : DsoHead). h.id) o) 0) (sym e)

  works-turn : (room : ℕ) (k : KeptHub) (session : KeptSession) → session_of k number ≡ Some session → (o : Option (List ℕ × List ℕ)) → first_message session.input ≡ o
      → Turn k number (option_map (λ (m : List ℕ). request_in m session.established) (option_map (λ (f : List ℕ × List ℕ). f.0) o)) (option_map (λ (m : List ℕ). id_of m) (option_map (λ (f : List ℕ × List ℕ). f.0) o)) (works_as k number room o).hub
  works-turn room k session there None at =
      found-turn room k (in_session number (with_next_push (keeps_now k) (tells_now k) (now k)) k) None None Nothing (λ standing. Nothing) (session_of (in_session number (with_next_push (keeps_now k) (tells_now k) (now k)) k) number)
      (step-turn k None None (with_next_push (keeps_now k) (tells_now k) (now k)) (λ s. inr (inl (notices-same (now k) _ _))) refl)
  works-turn room k session there (Some found) at =
      found-turn room k (reacted found.0 number h) (Some (request_in found.0 session.established)) (Some (id_of found.0)) Worked given_after (session_of (reacted found.0 number h) number)
      (before-turn k (reacted found.0 number h) (Some (request_in found.0 session.established)) (Some (id_of found.0)) (without_first found.1) (λ s. refl)
      (subst (λ (g : KeptHub). Turn h number (Some (request_in found.0 session.established)) (Some (id_of found.0)) g) (sym (ap (session_as h number found.0) (found-in number (without_first found.1) k.sessions ∙ ap (λ (o : Option KeptSession). option_map (without_first found.1) o) there)))
      (before-turn h (by_request (request_in found.0 session.established) number found.0 (in_session number (restarted_by found.0 (now h)) h)) (Some (request_in found.0 session.established)) (Some (id_of found.0)) (restarted_by found.0 (now h)) (λ s. refl)
      (request-turn (in_session number (restarted_by found.0 (now h)) h) found.0 (request_in found.0 session.established)))))
    where
      h : KeptHub
      h = in_session number (without_first found.1) k

  stopped-turn : (room : ℕ) (k : KeptHub) (request : Option Request) (id : Option ℕ) (rcode delay : ℕ) → confirms k request ≡ None
      → Turn k number request id (after_reaction number room (in_session number (stopped (keeps_now k) rcode delay (now k)) k)).hub
  stopped-turn room k request id rcode delay none =
      found-turn room k (in_session number (stopped (keeps_now k) rcode delay (now k)) k) request id Worked given_after (session_of (in_session number (stopped (keeps_now k) rcode delay (now k)) k) number)
      (step-turn k request id (stopped (keeps_now k) rcode delay (now k)) (λ s. inl (stops rcode delay (now k) s)) none)

-- what is needed for a session's first message, and its ID, by its parts
abbrev part_request : SessionStatus → Bool → Bool → Option (List ℕ × List ℕ) → Option Request
part_request standing silent established o = if is_live standing && silent then option_map (λ (m : List ℕ). request_in m established) (option_map (λ (f : List ℕ × List ℕ). f.0) o) else None

-- the ID of the first message, where one waits
abbrev pub id_as : Option KeptSession → Option ℕ
id_as None = None
id_as (Some session) = option_map (λ (m : List ℕ). id_of m) (option_map (λ (f : List ℕ × List ℕ). f.0) (first_message session.input))

module _ (number room : ℕ) (k : KeptHub) where
  give-standing : (session : KeptSession) → session_of k number ≡ Some session → (standing : SessionStatus) → (o : Option (List ℕ × List ℕ)) → first_message session.input ≡ o
      → Turn k number (part_request standing true session.established o) (option_map (λ (m : List ℕ). id_of m) (option_map (λ (f : List ℕ × List ℕ). f.0) o)) (by_standing standing number room session k).hub
  give-standing session there (Ended reason) o at = itself-turn number k None _ refl
  give-standing session there (Stopped since) o at = itself-turn number k None _ refl
  give-standing session there (AskedToStop rcode delay) o at = stopped-turn number room k None _ rcode delay refl
  give-standing session there Live o at = subst (λ (x : Option (List ℕ × List ℕ)). Turn k number (part_request Live true session.established x) (option_map (λ (m : List ℕ). id_of m) (option_map (λ (f : List ℕ × List ℕ). f.0) x)) (works_as k number room (first_message session.input)).hub) at
      (works-turn number room k session there (first_message session.input) refl)

  silent-none : (standing : SessionStatus) (established : Bool) (o : Option (List ℕ × List ℕ)) → part_request standing false established o ≡ None
  silent-none Live established o = refl
  silent-none (AskedToStop rcode delay) established o = refl
  silent-none (Stopped since) established o = refl
  silent-none (Ended reason) established o = refl

  abbrev first-id : KeptSession → Option ℕ
  first-id session = option_map (λ (m : List ℕ). id_of m) (option_map (λ (f : List ℕ × List ℕ). f.0) (first_message session.input))

  give-output : (session : KeptSession) → session_of k number ≡ Some session → (b : Bool) → Turn k number (part_request session.standing b session.established (first_message session.input)) (first-id session) (output_as k number room session b).hub
  give-output session there true = give-standing session there session.standing (first_message session.input) refl
  give-output session there false =
      subst (λ (q : Option Request). Turn k number q (first-id session) (in_session number (copied room) k)) (sym (silent-none session.standing session.established (first_message session.input)))
      (behind-turn number k k None (first-id session) (copied room) (λ s. refl) (itself-turn number k None (first-id session) refl))

  give-found : (o : Option KeptSession) → session_of k number ≡ o → Turn k number (turn_request o) (id_as o) (give_as k number room o).hub
  give-found None there = itself-turn number k None None refl
  give-found (Some session) there = give-output session there (is_empty session.output)

  pub give-turn : Turn k number (turn_request (session_of k number)) (id_as (session_of k number)) (give k number room).hub
  give-turn = give-found (session_of k number) refl
