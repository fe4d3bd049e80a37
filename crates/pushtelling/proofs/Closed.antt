-- A session that was stopped or has ended takes nothing in and reacts to nothing.
--     closed-step, closed-ended_where      each step of one session leaves it closed, and so does its end
--     closed_ones_rest
use Rattle.std.proofs.Common.{◌≡◌, ℕ, ◌-◌, ◌<◌, Bool, true, false, cond, List, [], ◌∷◌, ◌++◌, length, take, min, Option, Some, None, sym, ◌∙◌, ap, subst, refl, true≢false, arith}
use Rattle.std.specs.Prelude.{◌==◌, ◌&&◌}
use Rattle.push_base.specs.Cases.{is_empty}
use Rattle.push_base.specs.Limits.{max_input}
use Rattle.pushsession.specs.Sessions.{room_of, with_piece, is_open, asked_to_stop, ended_where, without_first}
use Rattle.dsosession.specs.declared.session.EndReason.{EndReason}
use Rattle.pushsession.specs.declared.session_status.SessionStatus.{SessionStatus}
use Rattle.pushsession.specs.declared.session_status.SessionStatus.TheVariants.{Live, AskedToStop, Stopped, Ended}
use Rattle.pushserver.specs.Calls.{HubCall, updates, hears, goes, moves, connects, takes as taking, gives, stops, ends as ending, called}
use Rattle.pushserver.specs.Hubs.{session_of, in_session, taken_by}
use Rattle.pushserver.specs.PlainHubs.{Hub, Session, plain_keeps}
use Rattle.livesessions.proofs.SessionLists.{same-number}
use Rattle.pushserver.proofs.Walks.{AnyMessage, bring_any, Step, IsKept, keeps-called}
use Rattle.pushtelling.specs.Runs.{takes_in, is_live, first_of, message_up, reacts_to, taken_in, reacted_to, ClosedOnesRest}
use Rattle.pushtelling.proofs.Standings.{has-step, has-ended_where}
use Rattle.pushtelling.proofs.OneSession.{OfOne, one-changed, one-last, one-left}
use Rattle.pushtelling.proofs.Tells.{by_entry}

abbrev pub IsClosed : Session → Type 0
IsClosed session = is_open session.standing ≡ false

-- ---- the steps

closed-step : (hub : Hub) {f : Session → Session} → Step AnyMessage hub f → (session : Session) → IsClosed session → IsClosed (f session)
closed-step hub step session c = has-step (λ standing. is_open standing ≡ false) (λ reason. refl) (λ since. refl) hub step session c

pub closed-ended_where : (point : ℕ) (reason : Option EndReason) (session : Session) → IsClosed session → IsClosed (ended_where (plain_keeps point) reason session)
closed-ended_where point reason session c = has-ended_where (λ standing. is_open standing ≡ false) (λ reason. refl) (λ since. refl) point reason session c

pub closed-asked : (rcode delay : ℕ) (session : Session) → IsClosed session → IsClosed (asked_to_stop rcode delay session)
closed-asked rcode delay session c = ap (λ (b : Bool). is_open (cond b (record session { standing = AskedToStop rcode delay }) session).standing) c ∙ c

-- ---- a hub

module _ (number : ℕ) where
  record Rests (hub : Hub) : Type 0 where
    pub given : number < hub.numbers_given
    pub one : OfOne number IsClosed hub.sessions

  in-rests : (hub : Hub) (other : ℕ) (f : Session → Session) → ((s : Session) → IsClosed s → IsClosed (f s)) → Rests hub → Rests (in_session other f hub)
  in-rests hub other f keeps h = record { given = h.given; one = one-changed number IsClosed IsClosed (λ n s. cond (n == other) (f s) s) (λ s c. by s c (number == other)) hub.sessions h.one }
    where
      by : (s : Session) → IsClosed s → (b : Bool) → IsClosed (cond b (f s) s)
      by s c true = keeps s c
      by s c false = c

  rests_kept : IsKept AnyMessage Rests
  rests_kept = record {
    reads = λ hub other session found there is h. tt;
    takes_up = λ hub other session found there is h. in-rests hub other (without_first found.1) (λ s c. c) h;
    changes = λ hub other f step h. in-rests hub other f (λ s c. closed-step hub step s c) h;
    enters = λ hub entry by h. record { given = h.given; one = one-changed number IsClosed IsClosed (λ n. by_entry hub.start hub.history entry) (λ s c. c) hub.sessions h.one };
    ends = λ hub point reason h. record { given = h.given; one = one-changed number IsClosed IsClosed (λ n s. ended_where (plain_keeps point) (reason s) s) (λ s. closed-ended_where point (reason s) s) hub.sessions h.one };
    takes_in = λ hub other piece any h. in-rests hub other (with_piece piece) (λ s c. c) h;
    asks_stop = λ hub other rcode delay h. in-rests hub other (asked_to_stop rcode delay) (closed-asked rcode delay) h;
    makes = λ hub h. record {
      given = let low = h.given in omega (arith, low);
      one = one-last number IsClosed hub.sessions _ (λ is. let same = same-number hub.numbers_given number is in let low = h.given in absurd (omega (arith, same, low))) h.one;
    };
    drops = λ hub gone h. record { given = h.given; one = one-left number IsClosed gone hub.sessions h.one };
  }

  -- ---- what it takes in and reacts to

  nothing_in : (hub : Hub) (call : HubCall) → Rests hub → takes_in number hub call ≡ []
  nothing_in hub (taking other piece) h = by (number == other) refl
    where
      none : (n : ℕ) → min n 0 ≡ 0
      none n = omega arith

      own : (o : Option Session) → ((s : Session) → o ≡ Some s → IsClosed s) → take (elim o as (λ _. ℕ) [ None ↦ 0 | Some session ↦ min (length piece) (room_of session) ]) piece ≡ []
      own None closed = refl
      own (Some s) closed = ap (λ (b : Bool). take (min (length piece) (cond b (max_input - length s.input) 0)) piece) (closed s refl) ∙ ap (λ n. take n piece) (none (length piece))

      by : (b : Bool) → (number == other) ≡ b → cond b (take (taken_by hub other piece) piece) [] ≡ []
      by false is = refl
      by true is = own (session_of hub other) (subst (λ n. OfOne n IsClosed hub.sessions) (same-number number other is) h.one)
  nothing_in hub (updates message) h = refl
  nothing_in hub (hears link datagram) h = refl
  nothing_in hub (goes link) h = refl
  nothing_in hub (moves t) h = refl
  nothing_in hub connects h = refl
  nothing_in hub (gives other room) h = refl
  nothing_in hub (stops other rcode delay) h = refl
  nothing_in hub (ending other) h = refl

  nothing_up : (hub : Hub) (call : HubCall) → Rests hub → reacts_to number hub call ≡ []
  nothing_up hub (gives other room) h = by (number == other) refl
    where
      own-standing : (standing : SessionStatus) (silent : Bool) (heads : List (List ℕ)) → is_open standing ≡ false → cond (is_live standing && silent) heads [] ≡ []
      own-standing Live silent heads closed = absurd (true≢false closed)
      own-standing (AskedToStop rcode delay) silent heads closed = refl
      own-standing (Stopped since) silent heads closed = refl
      own-standing (Ended reason) silent heads closed = refl

      own : (o : Option Session) → ((s : Session) → o ≡ Some s → IsClosed s) → elim o as (λ _. List (List ℕ)) [ None ↦ [] | Some session ↦ first_of session ] ≡ []
      own None closed = refl
      own (Some s) closed = own-standing s.standing (is_empty s.output) _ (closed s refl)

      by : (b : Bool) → (number == other) ≡ b → cond b (message_up hub other) [] ≡ []
      by false is = refl
      by true is = own (session_of hub other) (subst (λ n. OfOne n IsClosed hub.sessions) (same-number number other is) h.one)
  nothing_up hub (updates message) h = refl
  nothing_up hub (hears link datagram) h = refl
  nothing_up hub (goes link) h = refl
  nothing_up hub (moves t) h = refl
  nothing_up hub connects h = refl
  nothing_up hub (taking other piece) h = refl
  nothing_up hub (stops other rcode delay) h = refl
  nothing_up hub (ending other) h = refl

  rests : (calls : List HubCall) (hub : Hub) → Rests hub → (taken_in number calls hub ≡ []) × (reacted_to number calls hub ≡ [])
  rests [] hub h = (refl, refl)
  rests (call ∷ calls) hub h =
      let later = rests calls (called call hub) (keeps-called AnyMessage Rests rests_kept call hub (bring_any (call ∷ [])).0 h) in (
        ap (λ os. os ++ taken_in number calls (called call hub)) (nothing_in hub call h) ∙ later.0,
        ap (λ ms. ms ++ reacted_to number calls (called call hub)) (nothing_up hub call h) ∙ later.1,
      )

pub closed_ones_rest : ClosedOnesRest
closed_ones_rest hub calls number session low there closed = rests number calls hub (record { given = low; one = λ s found. of_it s (sym there ∙ found) })
  where
    of_it : (s : Session) → Some session ≡ Some s → IsClosed s
    of_it s is = let same : session ≡ s = cc in subst IsClosed same closed
