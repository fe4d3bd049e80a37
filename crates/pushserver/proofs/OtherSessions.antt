-- What `give` leaves of the other sessions.
--     StaysOther, LeavesOther later      the other session is as it was; or as one entry leaves it
--     give_changes_one_session
use Rattle.std.proofs.Common.{◌≡◌, ◌⊎◌, inl, inr, ℕ, List, [], ◌∷◌, ◌++◌, Option, Some, None, sym, ◌∙◌, ap, refl}
use Rattle.std.specs.Prelude.{option_map}
use Rattle.pushsession.specs.Sessions.{noted}
use Rattle.history.specs.declared.entry.Entry.{Entry}
use Rattle.pushserver.specs.PlainHubs.{Session, Hub}
use Rattle.pushserver.specs.Hubs.{newest, keeps_now, session_of, in_session, entry_changes, ended_behind, ends_behind, entered_keeping}
use Rattle.pushserver.specs.Laws.{LeavesSession, GiveChangesOneSession}
use Rattle.livesessions.proofs.SessionLists.{found-all, found-elsewhere}
use Rattle.pushserver.proofs.Walks.{AnyMessage, Walks, walks-give}

module _ (other number : ℕ) (apart : other ≡ number → ⊥) where
  -- nothing of the other session changes
  abbrev pub StaysOther : Hub → Hub → Type 0
  StaysOther hub later = LeavesSession hub later other

  abbrev pub LeavesOther : Hub → Hub → Type 0
  LeavesOther hub later = StaysOther hub later ⊎ ((entry : Entry) × StaysOther (entered_keeping entry hub) later)

  pub stays : (hub : Hub) → StaysOther hub hub
  stays hub = record { start = refl; timers = refl; history = refl; numbers_given = refl; session = refl }

  -- a change of one session leaves the other
  pub in_session-stays : (f : Session → Session) (hub later : Hub) → StaysOther hub later → StaysOther hub (in_session number f later)
  in_session-stays f hub later s = record { start = s.start; timers = s.timers; history = s.history; numbers_given = s.numbers_given; session = found-elsewhere number f other apart later.sessions ∙ s.session }

  in_session-leaves : (f : Session → Session) (hub later : Hub) → LeavesOther hub later → LeavesOther hub (in_session number f later)
  in_session-leaves f hub later (inl s) = inl (in_session-stays f hub later s)
  in_session-leaves f hub later (inr (entry, s)) = inr (entry, in_session-stays f (entered_keeping entry hub) later s)

  -- what an entry does to each session
  abbrev by_entry : Entry → Hub → Session → Session
  by_entry entry hub session = noted (keeps_now hub) (entry_changes entry hub) (newest hub) (ended_behind hub entry session)

  found-entered : (entry : Entry) (hub : Hub) → session_of (entered_keeping entry hub) other ≡ option_map (by_entry entry hub) (session_of hub other)
  found-entered entry hub =
      found-all (noted (keeps_now hub) (entry_changes entry hub) (newest hub)) other (ends_behind entry hub).sessions
      ∙ ap (option_map (noted (keeps_now hub) (entry_changes entry hub) (newest hub))) (found-all (ended_behind hub entry) other hub.sessions)
      ∙ both (session_of hub other)
    where
      both : (o : Option Session) → option_map (noted (keeps_now hub) (entry_changes entry hub) (newest hub)) (option_map (ended_behind hub entry) o) ≡ option_map (by_entry entry hub) o
      both None = refl
      both (Some s) = refl

  -- an entry does to what stayed what it does to what was
  entered-stays : (entry : Entry) (hub later : Hub) → StaysOther hub later → StaysOther (entered_keeping entry hub) (entered_keeping entry later)
  entered-stays entry hub later s = record {
    start = s.start;
    timers = s.timers;
    history = ap (λ (h : List Entry). h ++ entry ∷ []) s.history;
    numbers_given = s.numbers_given;
    session =
        found-entered entry later
        ∙ (λ i. option_map (by_entry entry (record hub { start = s.start i; history = s.history i })) (s.session i))
        ∙ sym (found-entered entry hub);
  }

  walk : (hub : Hub) → Walks AnyMessage number (StaysOther hub) (LeavesOther hub)
  walk hub = record {
    reads = λ later session found there is s. tt;
    takes_up = λ later session found there is s. in_session-stays _ hub later s;
    changes = λ later f step s. in_session-stays f hub later s;
    enters = λ later entry by s. inr (entry, entered-stays entry hub later s);
    enters_none = λ later s. inl s;
    changes_behind = λ later f step s. in_session-leaves f hub later s;
  }

pub give_changes_one_session : GiveChangesOneSession
give_changes_one_session hub number other room apart =
    walks-give AnyMessage number (StaysOther other number apart hub) (LeavesOther other number apart hub) (walk other number apart hub) hub room (stays other number apart hub)
