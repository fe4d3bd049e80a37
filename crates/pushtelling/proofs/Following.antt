-- What was told stays: messages are made behind those that were made.
--     Follows hub later      each session of the later hub whose number was given before has grown
--     follows_keeps      each call keeps that
use Rattle.std.proofs.Common.{◌≡◌, ℕ, ◌≤◌, ◌<◌, Bool, true, false, cond, List, [], ◌∷◌, ◌++◌, map, Option, Some, None, sym, ◌∙◌, ap, subst, refl, arith}
use Rattle.std.specs.Prelude.{option_map, ◌==◌}
use Rattle.std.specs.Option.{option_or}
use Rattle.std.proofs.lemmas.List.{append-nil, append_assoc}
use Rattle.history.specs.declared.entry.Entry.{Entry}
use Rattle.pushsession.specs.Sessions.{new_session, with_piece, copied, asked_to_stop, ended_where, without_first}
use Rattle.pushserver.specs.PlainHubs.{Hub, Session, plain_keeps}
use Rattle.livesessions.specs.NumberedSessions.{session_in}
use Rattle.pushserver.specs.Hubs.{now, keeps_now, session_of, each_session, in_session, disconnect}
use Rattle.livesessions.proofs.SessionLists.{found-changed, found-last, found-left, other-number}
use Rattle.pushserver.proofs.Walks.{AnyMessage, Step, restarts, reacts, answers_subscribe, answers_update, answers_query, packs_names, comes_to_stop, ends_with, copies_front, IsKept, with_new}
use Rattle.pushtelling.specs.Laws.{Grows}
use Rattle.pushtelling.proofs.Tells.{by_entry}
use Rattle.pushtelling.proofs.Saying.{Said, said-step, said-ended_where, said-asked}

-- ---- a session

grows-none : (before after : Session) → after.made ≡ before.made → Grows before after
grows-none before after same = ([], same ∙ sym (append-nil before.made))

grows-then : (a b c : Session) → Grows a b → Grows b c → Grows a c
grows-then a b c first second = (first.0 ++ second.0, second.1 ∙ ap (λ ms. ms ++ second.0) first.1 ∙ append_assoc a.made first.0 second.0)

grown : {before after : Session} → Said before after → Grows before after
grown said = (said.more, said.made)

grows-step : (hub : Hub) {f : Session → Session} → Step AnyMessage hub f → (session : Session) → Grows session (f session)
grows-step hub (restarts message) session = grown (said-step hub (restarts message) tt session)
grows-step hub (reacts message) session = grown (said-step hub (reacts message) tt session)
grows-step hub (answers_subscribe message any) session = grown (said-step hub (answers_subscribe message any) tt session)
grows-step hub (answers_update before message) session = grown (said-step hub (answers_update before message) tt session)
grows-step hub (answers_query message any) session = grown (said-step hub (answers_query message any) tt session)
grows-step hub packs_names session = grown (said-step hub packs_names tt session)
grows-step hub (comes_to_stop rcode delay) session = grown (said-step hub (comes_to_stop rcode delay) tt session)
grows-step hub (ends_with reason) session = grown (said-step hub (ends_with reason) tt session)
grows-step hub (copies_front room) session = grows-none session (copied room session) refl

grows-either : (session : Session) (f : Session → Session) → Grows session (f session) → (b : Bool) → Grows session (cond b (f session) session)
grows-either session f grows true = grows
grows-either session f grows false = grows-none session session refl

-- ---- a hub

abbrev Was : Hub → ℕ → Session → Type 0
Was hub number after = (before : Session) × (session_of hub number ≡ Some before) × Grows before after

pub record Follows (hub later : Hub) : Type 0 where
  pub made : hub.numbers_given ≤ later.numbers_given
  pub each : (number : ℕ) (after : Session) → number < hub.numbers_given → session_of later number ≡ Some after → Was hub number after

pub follows-itself : (hub : Hub) → Follows hub hub
follows-itself hub = record { made = omega arith; each = λ number after low found. (after, found, grows-none after after refl) }

module _ (hub : Hub) where
  -- sessions that grow, with any history
  changed : (g : ℕ → Session → Session) → ((n : ℕ) (s : Session) → Grows s (g n s)) → (later : Hub) (history : List Entry) → Follows hub later
      → Follows hub (record { start = later.start; timers = later.timers; history = history; seen = later.seen; sessions = map (λ e. (e.0, g e.0 e.1)) later.sessions; numbers_given = later.numbers_given })
  changed g grows later history h = record {
    made = h.made;
    each = λ number after low found. by number after low (session_in number later.sessions) refl (sym (found-changed g number later.sessions) ∙ found);
  }
    where
      by : (number : ℕ) (after : Session) → number < hub.numbers_given → (o : Option Session) → session_in number later.sessions ≡ o → option_map (g number) o ≡ Some after → Was hub number after
      by number after low None there is = absurd cc
      by number after low (Some s) there is =
          let same : g number s ≡ after = cc in
          let was = h.each number s low there in
          (was.0, was.1, grows-then was.0 s after was.2 (subst (Grows s) same (grows number s)))

  each-grows : (later : Hub) (f : Session → Session) → ((s : Session) → Grows s (f s)) → Follows hub later → Follows hub (each_session f later)
  each-grows later f grows h = changed (λ n. f) (λ n. grows) later later.history h

  one-grows : (later : Hub) (number : ℕ) (f : Session → Session) → ((s : Session) → Grows s (f s)) → Follows hub later → Follows hub (in_session number f later)
  one-grows later number f grows h = changed (λ n s. cond (n == number) (f s) s) (λ n s. grows-either s f (grows s) (n == number)) later later.history h

  -- one more stands behind the others, with a number of its own
  makes : (later : Hub) → Follows hub later → Follows hub (with_new later)
  makes later h = record {
    made = let low = h.made in omega (arith, low);
    each = λ number after low found. h.each number after low (by number low (session_of later number) (sym (found-last number later.sessions (later.numbers_given, new)) ∙ found));
  }
    where
      new : Session
      new = new_session (keeps_now later) (now later)

      none : (o : Option Session) → o ≡ option_or o None
      none None = refl
      none (Some s) = refl

      by : {after : Session} (number : ℕ) → number < hub.numbers_given → (o : Option Session) → option_or o (cond (later.numbers_given == number) (Some new) None) ≡ Some after → o ≡ Some after
      by number low o is =
          let within = h.made in
          none o ∙ sym (ap (λ (b : Bool). option_or o (cond b (Some new) None)) (other-number later.numbers_given number (λ e. omega (arith, e, low, within)))) ∙ is

  drops : (later : Hub) (gone : ℕ) → Follows hub later → Follows hub (disconnect later gone)
  drops later gone h = record {
    made = h.made;
    each = λ number after low found. h.each number after low (by (number == gone) (session_of later number) (sym (found-left gone number later.sessions) ∙ found));
  }
    where
      by : {after : Session} (b : Bool) (o : Option Session) → cond b None o ≡ Some after → o ≡ Some after
      by true o is = absurd cc
      by false o is = is

  pub follows_keeps : IsKept AnyMessage (Follows hub)
  follows_keeps = record {
    reads = λ later number session found there is h. tt;
    takes_up = λ later number session found there is h. one-grows later number (without_first found.1) (λ s. grows-none s (without_first found.1 s) refl) h;
    changes = λ later number f step h. one-grows later number f (grows-step later step) h;
    enters = λ later entry by h. changed (λ n. by_entry later.start later.history entry) (λ n s. grows-none s (by_entry later.start later.history entry s) refl) later (later.history ++ entry ∷ []) h;
    ends = λ later point reason h. each-grows later (λ s. ended_where (plain_keeps point) (reason s) s) (λ s. grown (said-ended_where point (reason s) s)) h;
    takes_in = λ later number piece any h. one-grows later number (with_piece piece) (λ s. grows-none s (with_piece piece s) refl) h;
    asks_stop = λ later number rcode delay h.
        one-grows later number (asked_to_stop rcode delay) (λ s. grown (said-asked rcode delay s)) h;
    makes = makes;
    drops = drops;
  }
