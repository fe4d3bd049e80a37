-- What a session has after a message, and what `give` does with one.
--     after-is      its fields, and what comes down
--     gives-so      `give`
use Rattle.std.proofs.Common.{◌≡◌, ℕ, Bool, true, false, cond, List, [], ◌∷◌, ◌++◌, map, length, take, drop, Option, Some, None, ◌&&◌, refl, sym, ap, subst, ◌∙◌, append_assoc, append-nil}
use Rattle.std.specs.Prelude.{option_map, nat_lt, if◌then◌else◌}
use Rattle.std.proofs.Math.Seq.{take-nil, drop-nil}
use Rattle.push_base.specs.Cases.{is_empty}
use Rattle.rrset.specs.Rcodes.{noerror, notauth}
use Rattle.rrset.specs.declared.record.Question.{Question}
use Rattle.dsotlv.specs.Answers.{answer_to, grant_to, refusal_to, push_message}
use Rattle.dsotlv.specs.Messages.{frame}
use Rattle.dsotlv.specs.declared.message.Notice.{Notice}
use Rattle.rrset.specs.declared.record.Key.{Key}
use Rattle.push_base.specs.Limits.{max_number}
use Rattle.dsosession.specs.declared.session.EndReason.TheVariants as ends
use Rattle.history.specs.States.{State, state_at, accepts, reconfirm_key}
use Rattle.history.specs.declared.entry.Entry.{Entry}
use Rattle.history.specs.declared.entry.Entry.TheVariants as entries
use Rattle.pushsession.specs.declared.session_status.SessionStatus.{SessionStatus}
use Rattle.pushsession.specs.Sessions.{without_first, copied, ended_where, noted, answers}
use Rattle.pushsession.specs.Subscribing.{subscribed, says_first_answer}
use Rattle.pushserver.specs.declared.given.Given.{Given}
use Rattle.pushserver.specs.declared.given.Given.TheVariants.{Worked}
use Rattle.pushserver.specs.Hubs.{newest, now, state_now, keeps_now, session_of, in_session, entry_changes, behind_at, ended_behind, ends_behind, entered_keeping, can_enter}
use Rattle.pushserver.specs.Giving.{is_served_at, reacted, did, bytes_of, given_of, copies, copies_or, given_after, after_reaction, by_standing, give}
use Rattle.pushserver.specs.PlainHubs.{Session, Subscription, Hub, Giving, leaves_queue, note_of, first_answer}
use Rattle.livesessions.proofs.SessionLists.{found-all, found-in, found-elsewhere}
use Rattle.pushserver.proofs.hub_steps.Cases.{found_as, works_as, output_as, give_as, key_as}
use Rattle.pushclient.specs.ServerMessages.{accepts as accepting, refuses, grants}
use Rattle.inflight.specs.Messages.{ClientMessage, subscribes, unsubscribes, reconfirms, requests_keepalive, message_octets, Flying, made_of, flying_octets}
use Rattle.flight_laws.specs.Laws.{flies}
use Rattle.flight_laws.specs.Meeting.{as_carried, heard, after, HasAfter, asks_hub, behind_point, falls_behind, after_entry, accepted_as, subscriptions_after, established_after, tells_some, said_after, IsAfter, AfterIs, GivesSo}
use Rattle.flight_laws.proofs.Reacts.{reacts-so}
use Rattle.flight_laws.proofs.Reconfirmed.{session-reconfirmed}

-- ---- what is said

module _ (hub : Hub) (session : Session) where
  -- a session has these subscriptions, and said this more
  record Said (later : Session) (subscriptions : List Subscription) (established : Bool) (flying : List Flying) : Type 0 where
    pub subscriptions_are : later.subscriptions ≡ subscriptions
    pub made : later.made ≡ session.made ++ map (made_of hub.timers) flying
    pub output : later.output ≡ session.output ++ flying_octets hub.timers flying
    pub established_is : later.established ≡ established
    pub standing : later.standing ≡ session.standing
    pub input : later.input ≡ session.input

  -- one message
  one-output : (message : List ℕ) → session.output ++ frame message ≡ session.output ++ (frame message ++ [])
  one-output message = ap (λ (l : List ℕ). session.output ++ l) (sym (append-nil (frame message)))

  said-nothing : (later : Session) → later.made ≡ session.made → later.output ≡ session.output → later.standing ≡ session.standing → later.input ≡ session.input → Said later later.subscriptions later.established []
  said-nothing later made output standing input = record {
    subscriptions_are = refl;
    made = made ∙ sym (append-nil session.made);
    output = output ∙ sym (append-nil session.output);
    established_is = refl;
    standing = standing;
    input = input;
  }

  module _ (id : ℕ) (question : Question) (end : ℕ) where
    abbrev listening : Session
    listening = heard (now hub) (subscribes id question) session

    abbrev active : List Subscription
    active = session.subscriptions ++ (record { id = id; question = question; filled = end }) ∷ []

    -- NOERROR, and a PUSH of these notices
    abbrev accepted_by : List Notice → Session
    accepted_by notices = says_first_answer (keeps_now hub) (now hub) (answer_to id noerror) notices session.queue (subscribed (keeps_now hub) id question end listening)

    abbrev accepting_by : List Notice → Flying
    accepting_by notices = flies (accepting id) (record { queue = if is_empty notices then leaves_queue question.name session.queue else session.queue; newest = newest hub }) active

    abbrev flying_by : List Notice → List Flying
    flying_by notices = accepting_by notices ∷ tells_some notices hub (leaves_queue question.name session.queue) active

    said-accepted : (notices : List Notice) → Said (accepted_by notices) active true (flying_by notices)
    said-accepted [] = record {
      subscriptions_are = refl;
      made = refl;
      output = one-output (answer_to id noerror);
      established_is = refl;
      standing = refl;
      input = refl;
    }
    said-accepted (n ∷ ns) = record {
      subscriptions_are = refl;
      made = append_assoc session.made (made_of hub.timers (accepting_by (n ∷ ns)) ∷ []) (map (made_of hub.timers) (tells_some (n ∷ ns) hub (leaves_queue question.name session.queue) active));
      output = append_assoc session.output (frame (answer_to id noerror)) (frame (push_message (n ∷ ns)))
          ∙ ap (λ (l : List ℕ). session.output ++ (frame (answer_to id noerror) ++ l)) (sym (append-nil (frame (push_message (n ∷ ns)))));
      established_is = refl;
      standing = refl;
      input = refl;
    }

  said-either : (b : Bool) (one two : Session) (ss ts : List Subscription) (d e : Bool) (fs gs : List Flying) → Said one ss d fs → Said two ts e gs → Said (if b then one else two) (if b then ss else ts) (if b then d else e) (if b then fs else gs)
  said-either true one two ss ts d e fs gs first second = first
  said-either false one two ss ts d e fs gs first second = second

  is-said : (m : ClientMessage) → Said (after hub m session) (subscriptions_after hub m session) (established_after hub m session) (said_after hub m session) → IsAfter hub m session
  is-said m s = record { subscriptions = s.subscriptions_are; made = s.made; output = s.output; established = s.established_is; standing = s.standing; input = s.input }

  said-refused : (id : ℕ) (question : Question)
      → Said (answers (keeps_now hub) false (now hub) (refusal_to id notauth) (heard (now hub) (subscribes id question) session)) session.subscriptions session.established
      (flies (refuses id) (note_of (newest hub) session) session.subscriptions ∷ [])
  said-refused id question = record { subscriptions_are = refl; made = refl; output = one-output (refusal_to id notauth); established_is = refl; standing = refl; input = refl }

  said-granted : (id : ℕ) → Said (after hub (requests_keepalive id) session) session.subscriptions true (flies (grants id) (note_of (newest hub) session) session.subscriptions ∷ [])
  said-granted id = record { subscriptions_are = refl; made = refl; output = one-output (grant_to id hub.timers.inactivity hub.timers.keepalive); established_is = refl; standing = refl; input = refl }

pub after-is : AfterIs
after-is hub (subscribes id question) session =
    let notices = first_answer hub session question in
    let end = (accepted_as hub id question session).filled in
    is-said hub session (subscribes id question) (said-either hub session (is_served_at (state_now hub) question)
    (accepted_by hub session id question end notices) (answers (keeps_now hub) false (now hub) (refusal_to id notauth) (heard (now hub) (subscribes id question) session))
    (active hub session id question end) session.subscriptions true session.established
    (flying_by hub session id question end notices) (flies (refuses id) (note_of (newest hub) session) session.subscriptions ∷ [])
    (said-accepted hub session id question end notices) (said-refused hub session id question))
after-is hub (unsubscribes id) session = is-said hub session (unsubscribes id) (said-nothing hub session (after hub (unsubscribes id) session) refl refl refl refl)
after-is hub (reconfirms rr) session = is-said hub session (reconfirms rr) (said-nothing hub session (after hub (reconfirms rr) session) refl refl refl refl)
after-is hub (requests_keepalive id) session = is-said hub session (requests_keepalive id) (said-granted hub session id)

-- ---- what a RECONFIRM asks for

module _ (hub between : Hub) (number : ℕ) (later : Session) (has : HasAfter hub between hub.history (λ other. other) number later) where
  -- another hub with these entries, and each session changed so
  abbrev Has : Hub → List Entry → (Session → Session) → Type 0
  Has h entries f = HasAfter hub h entries (option_map f) number (f later)

  -- nobody is changed
  has-still : Has between hub.history (λ s. s)
  has-still = record {
    start = has.start;
    timers = has.timers;
    history = has.history;
    numbers_given = has.numbers_given;
    session = has.session;
    others = λ other apart. has.others other apart ∙ itself (session_of hub other);
  }
    where
      itself : (o : Option Session) → o ≡ option_map (λ s. s) o
      itself None = refl
      itself (Some s) = refl

  -- a hub like this one where there is an entry for which nobody waits: some end as behind
  entry-made : (link : ℕ) (key : Key) → Has (entered_keeping (entries.Reconfirm link key) between) (hub.history ++ entries.Reconfirm link key ∷ []) (ended_behind hub (entries.Reconfirm link key))
  entry-made link key = record {
    start = has.start;
    timers = has.timers;
    history = ap (λ (es : List Entry). es ++ entry ∷ []) has.history;
    numbers_given = has.numbers_given;
    session = found number ∙ ap (option_map (ended_behind between entry)) has.session ∙ alike (Some later);
    others = λ other apart. found other ∙ ap (option_map (ended_behind between entry)) (has.others other apart) ∙ alike (session_of hub other);
  }
    where
      entry : Entry
      entry = entries.Reconfirm link key

      note : Session → Session
      note s = noted (keeps_now between) (entry_changes entry between) (newest between) s

      itself : (o : Option Session) → option_map note o ≡ o
      itself None = refl
      itself (Some s) = ap Some (session-reconfirmed between link key s)

      found : (n : ℕ) → session_of (entered_keeping entry between) n ≡ option_map (ended_behind between entry) (session_of between n)
      found n = found-all note n (ends_behind entry between).sessions ∙ itself (session_of (ends_behind entry between) n) ∙ found-all (ended_behind between entry) n between.sessions

      alike : (o : Option Session) → option_map (ended_behind between entry) o ≡ option_map (ended_behind hub entry) o
      alike o = λ i. option_map (ended_behind (record hub { start = has.start i; history = has.history i }) entry) o

  -- the state is the same, and so are the tests
  state-same : state_now between ≡ state_now hub
  state-same = λ i. state_at (has.start i) (has.history i) (length (has.history i))

  abbrev enters : Hub → ℕ × Key → Bool
  enters h found = accepts (state_now h) (entries.Reconfirm found.0 found.1) && can_enter h

  tested-same : (found : ℕ × Key) → enters between found ≡ enters hub found
  tested-same found = λ i. accepts (state-same i) (entries.Reconfirm found.0 found.1) && nat_lt (length (has.history i)) max_number

  -- those that fall behind by it, where it is made
  abbrev ends_by : ℕ × Key → Bool → Session → Session
  ends_by found b s = ended_where (keeps_now hub) (option_map (λ p. ends.Behind p) (cond b (behind_at hub (entries.Reconfirm found.0 found.1) s) None)) s

  by_key : (o : Option (ℕ × Key)) → Has (key_as between o) (key_as hub o).history (λ s. ended_where (keeps_now hub) (option_map (λ p. ends.Behind p) (behind_point hub s o)) s)
  by_key None = has-still
  by_key (Some found) =
      subst (λ (b : Bool). Has (cond b (entered_keeping (entries.Reconfirm found.0 found.1) between) between) (key_as hub (Some found)).history (ends_by found (enters hub found))) (sym (tested-same found)) (by_test (enters hub found))
    where
      by_test : (b : Bool) → Has (cond b (entered_keeping (entries.Reconfirm found.0 found.1) between) between) (cond b (entered_keeping (entries.Reconfirm found.0 found.1) hub) hub).history (ends_by found b)
      by_test true = entry-made found.0 found.1
      by_test false = has-still

  asked-so : (m : ClientMessage) → Has (asks_hub m number between) (asks_hub m number hub).history (falls_behind m hub)
  asked-so (subscribes id question) = has-still
  asked-so (unsubscribes id) = has-still
  asked-so (reconfirms rr) =
      subst (λ (s : State). Has (key_as between (reconfirm_key s (as_carried rr))) (asks_hub (reconfirms rr) number hub).history (falls_behind (reconfirms rr) hub)) (sym state-same) (by_key (reconfirm_key (state_now hub) (as_carried rr)))
  asked-so (requests_keepalive id) = has-still

-- ---- `give`

-- what is handed out of a session that was changed
module _ (hub between : Hub) (entries : List Entry) (elsewhere : Session → Session) (number room : ℕ) (later : Session) (has : HasAfter hub between entries (option_map elsewhere) number later) where
  -- the output that fits is gone
  abbrev left : Session
  left = record later { output = drop room later.output }

  -- what is said where there is no output
  abbrev otherwise : Given
  otherwise = given_after later.standing

  record HandsOut (giving : Giving) : Type 0 where
    pub octets : giving.octets ≡ take room later.output
    pub given : giving.given ≡ given_of otherwise room later
    pub hub_after : HasAfter hub giving.hub entries (option_map elsewhere) number left

  hands-nothing : later.output ≡ [] → HandsOut (did otherwise between)
  hands-nothing none =
      let same : left ≡ later = ap (λ (o : List ℕ). record later { output = o }) (ap (drop room) none ∙ drop-nil room ∙ sym none) in
      record {
        octets = sym (ap (take room) none ∙ take-nil room);
        given = sym (ap (λ (b : Bool). if b then otherwise else bytes_of room later) (ap is_empty none));
        hub_after = subst (λ (s : Session). HasAfter hub between entries (option_map elsewhere) number s) (sym same) has;
      }

  hands-some : (o : ℕ) (os : List ℕ) → later.output ≡ o ∷ os → HandsOut (copies number room later between)
  hands-some o os some = record {
    octets = refl;
    given = sym (ap (λ (b : Bool). if b then otherwise else bytes_of room later) (ap is_empty some));
    hub_after = record {
      start = has.start;
      timers = has.timers;
      history = has.history;
      numbers_given = has.numbers_given;
      session = found-in number (copied room) between.sessions ∙ ap (option_map (copied room)) has.session;
      others = λ other apart. found-elsewhere number (copied room) other apart between.sessions ∙ has.others other apart;
    };
  }

  hands-out : HandsOut (copies_or otherwise number room later between)
  hands-out = by later.output refl
    where
      by : (output : List ℕ) → later.output ≡ output → HandsOut (cond (is_empty later.output) (did otherwise between) (copies number room later between))
      by [] none = subst (λ (b : Bool). HandsOut (cond b (did otherwise between) (copies number room later between))) (sym (ap is_empty none)) (hands-nothing none)
      by (o ∷ os) some = subst (λ (b : Bool). HandsOut (cond b (did otherwise between) (copies number room later between))) (sym (ap is_empty some)) (hands-some o os some)

-- as before, from the session without its first message on
since-taken : (hub later : Hub) (number : ℕ) (rest : List ℕ) (s : Session) → HasAfter (in_session number (without_first rest) hub) later hub.history (λ other. other) number s → HasAfter hub later hub.history (λ other. other) number s
since-taken hub later number rest s has = record {
  start = has.start;
  timers = has.timers;
  history = has.history;
  numbers_given = has.numbers_given;
  session = has.session;
  others = λ other apart. has.others other apart ∙ found-elsewhere number (without_first rest) other apart hub.sessions;
}

pub gives-so : GivesSo
gives-so hub number room session m rest met =
    let taken_out : Hub = in_session number (without_first rest) hub in
    let s : Session = without_first rest session in
    let there : session_of taken_out number ≡ Some s = found-in number (without_first rest) hub.sessions ∙ ap (option_map (without_first rest)) met.there in
    let r = reacts-so taken_out number m s there met.taken in
    let later : Session = after_entry hub m s in
    let reaches : give hub number room ≡ after_reaction number room (reacted (message_octets m) number taken_out) =
    ap (give_as hub number room) met.there ∙ ap (λ (l : List ℕ). output_as hub number room session (is_empty l)) met.silent
    ∙ ap (λ (standing : SessionStatus). by_standing standing number room session hub) met.live ∙ ap (works_as hub number room) met.first in
    let asked : Hub = asks_hub m number r.between in
    let has = asked-so hub r.between number (after hub m s) (since-taken hub r.between number rest (after hub m s) r.reacts) m in
    let whole : give hub number room ≡ copies_or (given_after later.standing) number room later asked =
    reaches ∙ ap (after_reaction number room) r.asks ∙ ap (found_as asked number room Worked given_after) has.session in
    let h = subst (λ (g : Giving). HandsOut hub asked (asks_hub m number hub).history (falls_behind m hub) number room later has g) (sym whole) (hands-out hub asked (asks_hub m number hub).history (falls_behind m hub) number room later has) in
    record { octets = h.octets; given = h.given; leaves = h.hub_after }
