-- The calls beside `give` leave each session that they don't take away its output.
--     HasOutput hub      the session of a number has an output
--     other_calls_keep_outputs
use Rattle.std.proofs.Common.{◌≡◌, ℕ, Bool, true, false, cond, List, [], ◌∷◌, ◌++◌, map, Option, Some, None, ◌∙◌, ap, refl}
use Rattle.std.specs.Prelude.{option_map, ◌==◌}
use Rattle.std.specs.Option.{option_or}
use Rattle.dsosession.specs.declared.session.EndReason.{EndReason}
use Rattle.history.specs.declared.entry.Entry.{Entry}
use Rattle.rrset.specs.RecordSet.{changes}
use Rattle.pushsession.specs.Sessions.{SessionOf, Keeps, new_session, noted, ended_where, timed, with_piece, is_open, asked_to_stop}
use Rattle.pushsession.specs.declared.session_status.SessionStatus.TheVariants.{AskedToStop}
use Rattle.pushserver.specs.PlainHubs.{Session, Hub, plain_keeps}
use Rattle.livesessions.specs.NumberedSessions.{Numbered, session_in}
use Rattle.pushserver.specs.Hubs.{newest, now, keeps_now, records_now, session_of, each_session, in_session, entered, entered_keeping}
use Rattle.pushserver.specs.Laws.{OtherCallsKeepOutputs}
use Rattle.livesessions.proofs.SessionLists.{found-changed, found-last, found-left, other-number}
use Rattle.pushserver.proofs.Walks.{AnyMessage, EndsSome, Entering, entering-kept, timed-kept, with_new, holds-update, holds-hear, holds-going, holds-moment, holds-connect}

-- ---- what leaves the output of a session

abbrev LeavesOutput : {A Q M : Type 0} → (SessionOf A Q M → SessionOf A Q M) → Type 0
LeavesOutput {A} {Q} {M} f = (s : SessionOf A Q M) → (f s).output ≡ s.output

ends-leaves : {A Q M : Type 0} (keeps : Keeps A Q M) (reason : SessionOf A Q M → Option EndReason) → LeavesOutput (λ s. ended_where keeps (reason s) s)
ends-leaves keeps reason s = by (reason s)
  where
    by : (o : Option EndReason) → (ended_where keeps o s).output ≡ s.output
    by None = refl
    by (Some reason) = refl

asked-leaves : {A Q M : Type 0} (rcode delay : ℕ) → LeavesOutput {A = A} {Q = Q} {M = M} (asked_to_stop rcode delay)
asked-leaves rcode delay s = by (is_open s.standing)
  where
    by : (b : Bool) → (cond b (record s { standing = AskedToStop rcode delay }) s).output ≡ s.output
    by true = refl
    by false = refl

-- ---- the calls

module _ (number : ℕ) (output : List ℕ) where
  abbrev output_of : Option Session → Option (List ℕ)
  output_of o = option_map (λ (s : Session). s.output) o

  abbrev HasOutput : Hub → Type 0
  HasOutput hub = output_of (session_of hub number) ≡ Some output

  changed : (g : ℕ → Session → Session) → ((m : ℕ) → LeavesOutput (g m)) → (xs : Numbered Session) → output_of (session_in number xs) ≡ Some output
      → output_of (session_in number (map (λ (e : ℕ × Session). (e.0, g e.0 e.1)) xs)) ≡ Some output
  changed g leaves xs has = ap output_of (found-changed g number xs) ∙ by (session_in number xs) ∙ has
    where
      by : (o : Option Session) → output_of (option_map (g number) o) ≡ output_of o
      by None = refl
      by (Some s) = ap (λ x. Some x) (leaves number s)

  in-keeps : (hub : Hub) (other : ℕ) (f : Session → Session) → LeavesOutput f → HasOutput hub → HasOutput (in_session other f hub)
  in-keeps hub other f leaves has = changed (λ m s. cond (m == other) (f s) s) (λ m s. by s (m == other)) hub.sessions has
    where
      by : (s : Session) (b : Bool) → (cond b (f s) s).output ≡ s.output
      by s true = leaves s
      by s false = refl

  entered-keeps : (hub : Hub) → HasOutput hub → (entry : Entry) → HasOutput (entered entry hub)
  entered-keeps hub has entry = (
      let later : Hub = record hub { history = hub.history ++ entry ∷ [] } in
      changed (λ m. noted (keeps_now hub) (changes (records_now hub) (records_now later)) (newest hub)) (λ m s. refl) hub.sessions has
      )

  ends-keeps : EndsSome HasOutput
  ends-keeps hub point reason has = changed (λ m s. ended_where (plain_keeps point) (reason s) s) (λ m. ends-leaves (plain_keeps point) reason) hub.sessions has

  keeping-keeps : (hub : Hub) → HasOutput hub → (entry : Entry) → Entering AnyMessage hub entry → HasOutput (entered_keeping entry hub)
  keeping-keeps hub has entry by = entering-kept AnyMessage HasOutput HasOutput ends-keeps (λ hub entry by has. entered-keeps hub has entry) hub entry by has

  timed-keeps : (hub : Hub) (point t : ℕ) → HasOutput hub → HasOutput (each_session (timed (plain_keeps point) t) hub)
  timed-keeps hub point t has = timed-kept HasOutput ends-keeps hub point t has

  makes-keeps : (hub : Hub) → HasOutput hub → HasOutput (with_new hub)
  makes-keeps hub has = ap output_of (found-last number hub.sessions (hub.numbers_given, new_session (keeps_now hub) (now hub))) ∙ by (session_of hub number) has
    where
      by : (o : Option Session) → output_of o ≡ Some output → output_of (option_or o (cond (hub.numbers_given == number) (Some (new_session (keeps_now hub) (now hub))) None)) ≡ Some output
      by None is = absurd cc
      by (Some s) is = is

pub other_calls_keep_outputs : OtherCallsKeepOutputs
other_calls_keep_outputs hub number other octets n m = (
  λ s was. holds-update AnyMessage (HasOutput number s.output) hub (keeping-keeps number s.output hub (has s was)) (has s was) octets tt,
  λ s was. holds-hear AnyMessage (HasOutput number s.output) hub (keeping-keeps number s.output hub (has s was)) (has s was) n octets tt,
  λ s was. holds-going AnyMessage (HasOutput number s.output) hub (keeping-keeps number s.output hub (has s was)) (has s was) n,
  λ s was. holds-moment AnyMessage (HasOutput number s.output) hub (keeping-keeps number s.output hub (has s was)) (has s was) (timed-keeps number s.output) n,
  λ s was. holds-connect (HasOutput number s.output) hub (makes-keeps number s.output hub (has s was)) (has s was),
  λ s was. in-keeps number s.output hub other (with_piece octets) (λ s. refl) (has s was),
  λ s was. in-keeps number s.output hub other (asked_to_stop n m) (asked-leaves n m) (has s was),
  λ apart s was.
      ap (option_map (λ (s : Session). s.output)) (found-left other number hub.sessions)
      ∙ ap (λ (b : Bool). option_map (λ (s : Session). s.output) (cond b None (session_of hub number))) (other-number number other apart)
      ∙ has s was,
)
  where
    has : (s : Session) → session_of hub number ≡ Some s → option_map (λ (s : Session). s.output) (session_of hub number) ≡ Some s.output
    has s was = ap (option_map (λ (s : Session). s.output)) was
