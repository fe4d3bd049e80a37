-- The points of all notes of a session lie between two.
--     Between low high session      those of its messages, and of the names that wait
--     between-step      each step of one session keeps that
--     notes_lie_between, later_ones_are_no_earlier
use Rattle.std.proofs.Common.{◌≡◌, ℕ, ◌≤◌, Bool, true, false, cond, List, [], ◌∷◌, ◌++◌, map, length, Option, Some, None, sym, ◌∙◌, subst, arith}
use Rattle.std.specs.Prelude.{find, option_map, unwrap_or, not, ◌==◌}
use Rattle.std.specs.List.{list_any, AllByRecursion}
use Rattle.std.proofs.Math.Nat.{le_trans}
use Rattle.std.proofs.lemmas.List.{length-append}
use Rattle.coalesce.proofs.ReadBack.{each-append}
use Rattle.coalesce.specs.Net.{packed}
use Rattle.dnsname.specs.Names.{Labels, same_name}
use Rattle.dnsquery.specs.Replies.{reply_to}
use Rattle.dsosession.specs.Reactions.{server_reaction}
use Rattle.dsosession.specs.declared.session.EndReason.{EndReason}
use Rattle.dsosession.specs.declared.session.EndReason.TheVariants as ends
use Rattle.dsosession.specs.declared.session.Reaction.{Reaction}
use Rattle.dsosession.specs.declared.session.Reaction.TheVariants.{Answer, Grant, Abort, Subscribe, Unsubscribe, Reconfirm, Update, Query, NotImplemented}
use Rattle.dsotlv.specs.Answers.{answer_to, refusal_to, grant_to, not_implemented, answer_to_update, stop_message, push_message}
use Rattle.dsotlv.specs.Messages.{head_of, primary_data}
use Rattle.dsotlv.specs.Notices.{question_of}
use Rattle.dsotlv.specs.declared.message.DsoHead.{DsoHead}
use Rattle.dsotlv.specs.declared.message.Notice.{Notice}
use Rattle.history.specs.declared.entry.Entry.{Entry}
use Rattle.pushserver.specs.Calls.{after_calls}
use Rattle.pushserver.specs.Giving.{has_home, known_at}
use Rattle.pushserver.specs.Hubs.{newest, now, state_now, keeps_now, tells_now, session_of, in_session, entered, update}
use Rattle.pushserver.specs.PlainHubs.{Hub, Session, Made, Queue, told, note_of, nets_of, plain_keeps}
use Rattle.pushserver.specs.ToldMessages.{IsNoEarlier}
use Rattle.pushserver.proofs.Subscribing.{verdict-holds}
use Rattle.pushserver.proofs.Walks.{AnyMessage, bring_any, Step, restarts, reacts, answers_subscribe, answers_update, answers_query, packs_names, comes_to_stop, ends_with, copies_front, IsKept, keeps-calls}
use Rattle.pushserver.proofs.hub_steps.Cases.{itself_as}
use Rattle.pushserver.proofs.hub_steps.Pairs.{all-weaken}
use Rattle.livesessions.proofs.SessionLists.{all-map}
use Rattle.pushserver.proofs.hub_steps.Queued.{points-fold}
use Rattle.pushsession.specs.Reactions.{reacts_itself, by_itself}
use Rattle.pushsession.specs.Sessions.{with_piece, is_open, asked_to_stop, ended_with, ended_where, with_frame, answers, says_stop, touched, without_first}
use Rattle.pushsession.specs.Subscribing.{Verdict, says_notices, subscribed, says_first_answer, first_answer_size, decided, answered}
use Rattle.pushsession.specs.declared.session_status.SessionStatus.TheVariants.{AskedToStop}
use Rattle.rrset.proofs.Places.{all_filter}
use Rattle.rrset.specs.Header.{id_of}
use Rattle.rrset.specs.Rcodes.{noerror, formerr, refused, notauth}
use Rattle.rrset.specs.declared.record.Question.{Question}
use Rattle.pushtelling.specs.Runs.{notes_of, LiesBetween, NotesLieBetween, LaterOnesAreNoEarlier}
use Rattle.pushtelling.proofs.OneSession.{OfOne, one-changed, one-last, one-left}
use Rattle.pushtelling.proofs.Tells.{changes_by, by_entry}
use Rattle.pushtelling.proofs.LettingGo.{each-let_go}
use Rattle.std.specs.Int.{w16, from_be_bytes}

-- ---- names that wait

abbrev pub AreBetween : ℕ → ℕ → Queue → Type 0
AreBetween low high queue = AllByRecursion (λ e. (low ≤ e.1) × (e.1 ≤ high)) queue

abbrev IsIn : ℕ → ℕ → ℕ → Type 0
IsIn low high point = (low ≤ point) × (point ≤ high)

-- a note of them, at the newest point
told-between : (low high : ℕ) → low ≤ high → (queue : Queue) → AreBetween low high queue → LiesBetween low high (record { queue = queue; newest = high })
told-between low high order [] all name = (order, omega arith)
told-between low high order (e ∷ es) all name = by (same_name name e.0) all.0 (told-between low high order es all.1 name)
  where
    by : (b : Bool) → IsIn low high e.1 → IsIn low high (told (record { queue = es; newest = high }) name) → IsIn low high (unwrap_or (option_map (λ (q : Labels × ℕ). q.1) (cond b (Some e) (find (λ (q : Labels × ℕ). same_name name q.0) es))) high)
    by true first rest = first
    by false first rest = rest

-- ---- a session

pub record BetweenOf (low high : ℕ) (made : List Made) (queue : Queue) : Type 0 where
  pub notes : AllByRecursion (λ m. LiesBetween low high m.note) made
  pub names : AreBetween low high queue

abbrev pub Between : ℕ → ℕ → Session → Type 0
Between low high session = BetweenOf low high session.made session.queue

-- the history goes on
between-entered : (low : ℕ) (hub : Hub) (entry : Entry) → low ≤ newest hub → (session : Session) → Between low (newest hub) session
    → Between low (newest (entered entry hub)) (by_entry hub.start hub.history entry session)
between-entered low hub entry order session h =
    let grown : length hub.history ≤ length (hub.history ++ entry ∷ []) = subst (λ n. length hub.history ≤ n) (sym (length-append hub.history (entry ∷ []))) (omega arith) in
    record {
      notes = all-weaken (λ (m : Made). LiesBetween low (newest hub) m.note) (λ (m : Made). LiesBetween low (length (hub.history ++ entry ∷ [])) m.note) (λ m lies name. ((lies name).0, le_trans (lies name).1 grown)) session.made h.notes;
      names = points-fold (λ (e : Labels × ℕ). (low ≤ e.1) × (e.1 ≤ length (hub.history ++ entry ∷ []))) (length hub.history) (λ n. (order, grown)) (touched (plain_keeps 0) session.subscriptions (changes_by hub.start hub.history entry)) session.queue
          (all-weaken (λ (e : Labels × ℕ). (low ≤ e.1) × (e.1 ≤ newest hub)) (λ (e : Labels × ℕ). (low ≤ e.1) × (e.1 ≤ length (hub.history ++ entry ∷ []))) (λ e lies. (lies.0, le_trans lies.1 grown)) session.queue h.names);
    }

module _ (low : ℕ) (hub : Hub) (order : low ≤ newest hub) where
  abbrev IsBetween : Session → Type 0
  IsBetween session = Between low (newest hub) session

  between-with_frame : (keepalive : Bool) (message : List ℕ) (waiting : Queue) (session : Session) → AreBetween low (newest hub) waiting → IsBetween session → IsBetween (with_frame (keeps_now hub) keepalive (now hub) message waiting session)
  between-with_frame keepalive message waiting session names h = record {
    notes = each-append (λ (m : Made). LiesBetween low (newest hub) m.note) session.made ((record { message = message; note = record { queue = waiting; newest = newest hub }; subscribed = session.subscriptions }) ∷ []) h.notes
        (told-between low (newest hub) order waiting names, tt);
    names = h.names;
  }

  between-answers : (keepalive : Bool) (message : List ℕ) (session : Session) → IsBetween session → IsBetween (answers (keeps_now hub) keepalive (now hub) message session)
  between-answers keepalive message session h = between-with_frame keepalive message session.queue session h.names h

  between-notices : (notices : List Notice) (session : Session) → IsBetween session → IsBetween (says_notices (keeps_now hub) (now hub) notices session)
  between-notices [] session h = h
  between-notices (n ∷ ns) session h = between-answers false (push_message (n ∷ ns)) session h

  between-first : (answer : List ℕ) (notices : List Notice) (before : Queue) (session : Session) → AreBetween low (newest hub) before → IsBetween session
      → IsBetween (says_first_answer (keeps_now hub) (now hub) answer notices before session)
  between-first answer [] before session names h = between-answers false answer session h
  between-first answer (n ∷ ns) before session names h =
      let said = with_frame (keeps_now hub) false (now hub) answer before session in
      between-answers false (push_message (n ∷ ns)) said (between-with_frame false answer before session names h)

  between-ended : (reason : EndReason) (session : Session) → IsBetween session → IsBetween (ended_with (keeps_now hub) reason session)
  between-ended reason session h = record { notes = h.notes; names = tt }

  between-by_itself : (reaction : Reaction) (message : List ℕ) (session : Session) → IsBetween session → IsBetween (by_itself (keeps_now hub) reaction hub.timers (now hub) message session)
  between-by_itself (Answer rcode) message session h = between-answers false (answer_to (id_of message) rcode) session h
  between-by_itself Grant message session h = between-answers true (grant_to (id_of message) hub.timers.inactivity hub.timers.keepalive) session h
  between-by_itself (Abort reason) message session h = between-ended reason session h
  between-by_itself Unsubscribe message session h = record {
    notes = h.notes;
    names = each-let_go (λ (e : Labels × ℕ). (low ≤ e.1) × (e.1 ≤ newest hub)) (newest hub) ((keeps_now hub).question_of (from_be_bytes w16 (primary_data message)) session.subscriptions)
        ((keeps_now hub).without_id (from_be_bytes w16 (primary_data message)) session.subscriptions) session.queue h.names;
  }
  between-by_itself NotImplemented message session h = between-answers false (not_implemented message) session h
  between-by_itself Subscribe message session h = h
  between-by_itself Reconfirm message session h = h
  between-by_itself Update message session h = h
  between-by_itself Query message session h = h

  between-itself : (message : List ℕ) (session : Session) → IsBetween session → IsBetween (reacts_itself (keeps_now hub) hub.timers (now hub) message session)
  between-itself message session h = by (head_of message)
    where
      by : (o : Option DsoHead) → IsBetween (itself_as (keeps_now hub) hub.timers (now hub) message session o)
      by None = between-ended ends.Short session h
      by (Some head) = between-by_itself (server_reaction head session.established) message session h

  between-answered : (id : ℕ) (question : Option Question) (session : Session) → IsBetween session → IsBetween (answered (keeps_now hub) (tells_now hub) (now hub) id question (has_home hub question) session)
  between-answered id question session h =
      verdict-holds (keeps_now hub) id question (has_home hub question) session.subscriptions (λ (v : Verdict). IsBetween (decided (keeps_now hub) (tells_now hub) (now hub) id v session))
      (refusing formerr) (refusing notauth) (refusing refused)
      (λ reason. between-ended reason session h)
      (λ q read new_id new_question. between-first (answer_to id noerror) (notices q) session.queue (begun q) h.names (left q))
    where
      refusing : (rcode : ℕ) → IsBetween (answers (keeps_now hub) false (now hub) (refusal_to id rcode) session)
      refusing rcode = between-answers false (refusal_to id rcode) session h

      notices : Question → List Notice
      notices q = (tells_now hub).first_notices q session.subscriptions session.queue

      begun : Question → Session
      begun q = subscribed (keeps_now hub) id q ((keeps_now hub).end_behind (first_answer_size (answer_to id noerror) (notices q)) session.made) session

      left : (q : Question) → IsBetween (begun q)
      left q = record { notes = h.notes; names = all_filter (λ (e : Labels × ℕ). (low ≤ e.1) × (e.1 ≤ newest hub)) (λ (e : Labels × ℕ). not (same_name q.name e.0)) session.queue h.names }

  between-step : {f : Session → Session} → Step AnyMessage hub f → (session : Session) → IsBetween session → IsBetween (f session)
  between-step (restarts message) session h = h
  between-step (reacts message) session h = between-itself message session h
  between-step (answers_subscribe message any) session h = between-answered (id_of message) (question_of (primary_data message)) session h
  between-step (answers_update before message) session h = between-answers false (answer_to_update (id_of message) (update before message).0) session h
  between-step (answers_query message any) session h = between-answers false (reply_to (known_at (state_now hub)) message) session h
  between-step packs_names session h =
      let pack = packed (nets_of hub.start hub.history session.subscriptions session.queue) in
      let left : Session = record session { queue = ((tells_now hub).packed session.subscriptions session.queue).1 } in
      between-notices pack.0 left (record { notes = h.notes; names = all_filter (λ (e : Labels × ℕ). (low ≤ e.1) × (e.1 ≤ newest hub)) (λ (e : Labels × ℕ). list_any (same_name e.0) pack.1) session.queue h.names })
  between-step (comes_to_stop rcode delay) session h = by session.established
    where
      by : (b : Bool) → IsBetween (cond b (says_stop (keeps_now hub) rcode delay (now hub) session) (ended_with (keeps_now hub) ends.Stopped session))
      by true = record { notes = (between-answers false (stop_message rcode delay) session h).notes; names = tt }
      by false = between-ended ends.Stopped session h
  between-step (ends_with reason) session h = between-ended reason session h
  between-step (copies_front room) session h = h

between-ended_where : (low high point : ℕ) (reason : Option EndReason) (session : Session) → Between low high session → Between low high (ended_where (plain_keeps point) reason session)
between-ended_where low high point None session h = h
between-ended_where low high point (Some reason) session h = record { notes = h.notes; names = tt }

between-asked : (low high rcode delay : ℕ) (session : Session) → Between low high session → Between low high (asked_to_stop rcode delay session)
between-asked low high rcode delay session h = by (is_open session.standing)
  where
    by : (b : Bool) → Between low high (cond b (record session { standing = AskedToStop rcode delay }) session)
    by true = h
    by false = h

-- ---- a hub

module _ (low number : ℕ) where
  record LiesFrom (hub : Hub) : Type 0 where
    pub order : low ≤ newest hub
    pub one : OfOne number (Between low (newest hub)) hub.sessions

  in-lies : (hub : Hub) (other : ℕ) (f : Session → Session) → ((s : Session) → Between low (newest hub) s → Between low (newest hub) (f s)) → LiesFrom hub → LiesFrom (in_session other f hub)
  in-lies hub other f keeps h = record {
    order = h.order;
    one = one-changed number (Between low (newest hub)) (Between low (newest hub)) (λ n s. cond (n == other) (f s) s) (λ s b. by s b (number == other)) hub.sessions h.one;
  }
    where
      by : (s : Session) → Between low (newest hub) s → (b : Bool) → Between low (newest hub) (cond b (f s) s)
      by s b true = keeps s b
      by s b false = b

  lies_kept : IsKept AnyMessage LiesFrom
  lies_kept = record {
    reads = λ hub other session found there is h. tt;
    takes_up = λ hub other session found there is h. in-lies hub other (without_first found.1) (λ s b. b) h;
    changes = λ hub other f step h. in-lies hub other f (λ s b. between-step low hub h.order step s b) h;
    enters = λ hub entry by h. record {
      order = le_trans h.order (subst (λ n. length hub.history ≤ n) (sym (length-append hub.history (entry ∷ []))) (omega arith));
      one = one-changed number (Between low (newest hub)) (Between low (newest (entered entry hub))) (λ n. by_entry hub.start hub.history entry) (between-entered low hub entry h.order) hub.sessions h.one;
    };
    ends = λ hub point reason h. record { order = h.order; one = one-changed number (Between low (newest hub)) (Between low (newest hub)) (λ n s. ended_where (plain_keeps point) (reason s) s) (λ s. between-ended_where low (newest hub) point (reason s) s) hub.sessions h.one };
    takes_in = λ hub other piece any h. in-lies hub other (with_piece piece) (λ s b. b) h;
    asks_stop = λ hub other rcode delay h. in-lies hub other (asked_to_stop rcode delay) (between-asked low (newest hub) rcode delay) h;
    makes = λ hub h. record { order = h.order; one = one-last number (Between low (newest hub)) hub.sessions _ (λ is. record { notes = tt; names = tt }) h.one };
    drops = λ hub gone h. record { order = h.order; one = one-left number (Between low (newest hub)) gone hub.sessions h.one };
  }

-- ---- the laws

pub notes_lie_between : NotesLieBetween
notes_lie_between hub calls number after none there =
    let later = after_calls calls hub in
    let begins : LiesFrom (newest hub) number hub = record { order = omega arith; one = λ s found. never s found } in
    let ends = keeps-calls AnyMessage (LiesFrom (newest hub) number) (lies_kept (newest hub) number) calls hub (bring_any calls) begins in
    let lies = ends.one after there in
    each-append (LiesBetween (newest hub) (newest later)) (map (λ m. m.note) after.made) (note_of (newest later) after ∷ [])
    (all-map (λ (m : Made). m.note) (LiesBetween (newest hub) (newest later)) after.made lies.notes)
    (told-between (newest hub) (newest later) ends.order after.queue lies.names, tt)
  where
    never : (s : Session) → session_of hub number ≡ Some s → Between (newest hub) (newest hub) s
    never s found = let both : None ≡ Some s = sym none ∙ found in absurd cc

pub later_ones_are_no_earlier : LaterOnesAreNoEarlier
later_ones_are_no_earlier hub calls more first second earlier later none there after_none after_there =
    let middle = after_calls calls hub in
    let last = after_calls more middle in
    all-weaken (LiesBetween (newest hub) (newest middle)) (λ n. AllByRecursion (λ m. IsNoEarlier n m) (notes_of last later))
    (λ n low. all-weaken (LiesBetween (newest middle) (newest last)) (λ m. IsNoEarlier n m) (λ m high name. le_trans (low name).1 (high name).0) (notes_of last later) (notes_lie_between middle more second later after_none after_there))
    (notes_of middle earlier) (notes_lie_between hub calls first earlier none there)
