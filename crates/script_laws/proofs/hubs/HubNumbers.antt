-- The numbers of a hub's sessions behind calls.
--     calls-keep-numbers, own-calls-keep
--     opens      behind a call that connects a session
--     new-ones-are-found, full-hubs-stay
use Rattle.std.proofs.Common.{◌≡◌, ℕ, ◌+◌, Bool, true, false, cond, List, [], ◌∷◌, ◌++◌, map, Option, Some, None, sym, ◌∙◌, ap, refl, arith}
use Rattle.std.specs.Prelude.{length, nat_lt, ◌==◌, ◌&&◌}
use Rattle.std.specs.Option.{option_or}
use Rattle.std.proofs.lemmas.List.{map-append}
use Rattle.push_base.specs.Limits.{max_number}
use Rattle.pushsession.specs.Sessions.{new_session, with_piece, asked_to_stop, ended_where, without_first}
use Rattle.pushserver.specs.Calls.{HubCall, updates, hears, goes, moves, connects, takes, gives, stops, ends, called, after_calls}
use Rattle.pushserver.specs.Hubs.{now, keeps_now, session_of, in_session, connect, max_sessions}
use Rattle.pushserver.specs.PlainHubs.{Hub, Session, plain_keeps}
use Rattle.livesessions.proofs.SessionLists.{found-last, number-itself}
use Rattle.pushserver.proofs.Walks.{with_new}
use Rattle.script_laws.specs.Reached.{IsReached}
use Rattle.script_laws.specs.Numbers.{numbers_in, KeepsNumbers, KeepNumbers, CallsKeepNumbers, NewOnesAreFound, FullHubsStay}
use Rattle.script_laws.proofs.hubs.Inside.{IsKeptInside, keeps-inside}
use Rattle.script_laws.proofs.hubs.Sessions.{reached-below}

-- ---- calls that keep the numbers

numbers-changed : (f : ℕ × Session → Session) (sessions : List (ℕ × Session)) → map (λ (e : ℕ × Session). e.0) (map (λ (e : ℕ × Session). (e.0, f e)) sessions) ≡ map (λ (e : ℕ × Session). e.0) sessions
numbers-changed f [] = refl
numbers-changed f (e ∷ es) = ap (λ (ns : List ℕ). e.0 ∷ ns) (numbers-changed f es)

module _ (hub : Hub) where
  abbrev HasNumbers : Hub → Type 0
  HasNumbers later = (numbers_in later ≡ numbers_in hub) × (later.numbers_given ≡ hub.numbers_given)

  in-numbers : (later : Hub) (number : ℕ) (f : Session → Session) → HasNumbers later → HasNumbers (in_session number f later)
  in-numbers later number f h = (numbers-changed (λ e. cond (e.0 == number) (f e.1) e.1) later.sessions ∙ h.0, h.1)

  numbers-kept : IsKeptInside HasNumbers
  numbers-kept = record {
    takes_up = λ later number rest h. in-numbers later number (without_first rest) h;
    changes = λ later number f step h. in-numbers later number f h;
    enters = λ later entry h. (numbers-changed _ later.sessions ∙ h.0, h.1);
    ends = λ later point reason h. (numbers-changed (λ e. ended_where (plain_keeps point) (reason e.1) e.1) later.sessions ∙ h.0, h.1);
    takes_in = λ later number piece h. in-numbers later number (with_piece piece) h;
  }

  called-keeps : (call : HubCall) (later : Hub) → KeepsNumbers call → HasNumbers later → HasNumbers (called call later)
  called-keeps (updates message) later keeps h = keeps-inside HasNumbers numbers-kept (updates message) later tt h
  called-keeps (hears link datagram) later keeps h = keeps-inside HasNumbers numbers-kept (hears link datagram) later tt h
  called-keeps (goes link) later keeps h = keeps-inside HasNumbers numbers-kept (goes link) later tt h
  called-keeps (moves t) later keeps h = keeps-inside HasNumbers numbers-kept (moves t) later tt h
  called-keeps connects later keeps h = absurd keeps
  called-keeps (takes number piece) later keeps h = keeps-inside HasNumbers numbers-kept (takes number piece) later tt h
  called-keeps (gives number room) later keeps h = keeps-inside HasNumbers numbers-kept (gives number room) later tt h
  called-keeps (stops number rcode delay) later keeps h = in-numbers later number (asked_to_stop rcode delay) h
  called-keeps (ends number) later keeps h = absurd keeps

  all-keep : (calls : List HubCall) (later : Hub) → KeepNumbers calls → HasNumbers later → HasNumbers (after_calls calls later)
  all-keep [] later keeps h = h
  all-keep (call ∷ calls) later keeps h = all-keep calls (called call later) keeps.1 (called-keeps call later keeps.0 h)

pub calls-keep-numbers : CallsKeepNumbers
calls-keep-numbers hub calls keeps = all-keep hub calls hub keeps (refl, refl)

-- ---- a session more

-- the later hub has this number more, and nothing else of it is new
pub record Opens (hub later : Hub) (number : ℕ) : Type 0 where
  pub is : later ≡ with_new hub
  pub next : number ≡ hub.numbers_given

some_number : (n m : ℕ) → Some n ≡ Some m → m ≡ n
some_number n m is = cc

pub opens : (hub : Hub) (number : ℕ) → (connect hub).0 ≡ Some number → Opens hub (connect hub).1 number
opens hub number there = by (nat_lt (length hub.sessions) max_sessions && nat_lt hub.numbers_given max_number) there
  where
    by : (b : Bool) → (cond {A = Option ℕ × Hub} b (Some hub.numbers_given, with_new hub) (None, hub)).0 ≡ Some number
        → Opens hub (cond {A = Option ℕ × Hub} b (Some hub.numbers_given, with_new hub) (None, hub)).1 number
    by true is = record { is = refl; next = some_number hub.numbers_given number is }
    by false is = absurd cc

pub opened-numbers : (hub later : Hub) (number : ℕ) → Opens hub later number → (numbers_in later ≡ numbers_in hub ++ number ∷ []) × (later.numbers_given ≡ hub.numbers_given + 1)
opened-numbers hub later number o = (
  ap numbers_in o.is ∙ map-append (λ (e : ℕ × Session). e.0) hub.sessions ((hub.numbers_given, new_session (keeps_now hub) (now hub)) ∷ []) ∙ ap (λ (n : ℕ). numbers_in hub ++ n ∷ []) (sym o.next),
  ap (λ (h : Hub). h.numbers_given) o.is,
)

pub full-hubs-stay : FullHubsStay
full-hubs-stay hub none = by (nat_lt (length hub.sessions) max_sessions && nat_lt hub.numbers_given max_number) none
  where
    by : (b : Bool) → (cond {A = Option ℕ × Hub} b (Some hub.numbers_given, with_new hub) (None, hub)).0 ≡ None → (cond {A = Option ℕ × Hub} b (Some hub.numbers_given, with_new hub) (None, hub)).1 ≡ hub
    by true is = absurd cc
    by false is = refl

-- no session has a number that wasn't given out
not-given : (hub : Hub) → IsReached hub → session_of hub hub.numbers_given ≡ None
not-given hub r = by (session_of hub hub.numbers_given) refl
  where
    by : (o : Option Session) → session_of hub hub.numbers_given ≡ o → o ≡ None
    by None is = refl
    by (Some session) is = let low = reached-below hub hub.numbers_given session r is in absurd (omega (arith, low))

pub new-ones-are-found : NewOnesAreFound
new-ones-are-found hub number r there =
    let o = opens hub number there in
    let numbers = opened-numbers hub (connect hub).1 number o in
    let new : Session = new_session (keeps_now hub) (now hub) in
    let fresh : session_of hub number ≡ None = ap (session_of hub) o.next ∙ not-given hub r in
    record {
      next = o.next;
      fresh = fresh;
      there =
          ap (λ (h : Hub). session_of h number) o.is ∙ found-last number hub.sessions (hub.numbers_given, new)
          ∙ (λ i. option_or (fresh i) (cond (sym o.next i == number) (Some new) None)) ∙ ap (λ (b : Bool). option_or None (cond b (Some new) None)) (number-itself number);
      numbers = numbers.0;
      given = numbers.1;
    }
