-- A client takes the whole messages that came, one by one, and stays joined to its session.
--     TakesOne      behind one step
--     joined-stepped      behind steps until it waits or has closed
use Rattle.std.proofs.Common.{◌≡◌, ℕ, zero, suc, ◌+◌, ◌≤◌, ◌<◌, true, false, List, [], ◌∷◌, ◌++◌, map, length, Option, Some, None, sym, ap, ◌∙◌, subst, refl, arith, append_assoc, le_trans}
use Rattle.std.specs.Prelude.{IsTrue}
use Rattle.std.specs.List.{AllByRecursion}
use Rattle.std.proofs.lemmas.List.{append_cancel_right, length-append}
use Rattle.std.proofs.lemmas.List.Sums.{sum_by-append}
use Rattle.dsotlv.specs.Messages.{frame, first_message}
use Rattle.dsosession.specs.declared.session.CloseReason.{CloseReason}
use Rattle.pushsession.specs.declared.session_status.SessionStatus.{SessionStatus}
use Rattle.pushsession.specs.Sessions.{is_open}
use Rattle.pushserver.proofs.hub_steps.Pairs.{all-weaken}
use Rattle.pushserver.specs.PlainHubs.{Hub, Session, Made, frame_of, size_of_made}
use Rattle.pushclient.specs.declared.client.Step.{Step}
use Rattle.pushclient.specs.declared.client.Step.TheVariants as steps
use Rattle.pushclient.specs.Clients.{Client, Connection}
use Rattle.pushclient.specs.FittingMessages.{is_delay}
use Rattle.pushclient.specs.ServerMessages.{ServerMessage, accepts, refuses, grants, tells, delays}
use Rattle.pushclient.specs.Steps.{step}
use Rattle.pushclient.proofs.MessageSteps.{step-first, step-waits, step-closed}
use Rattle.pushclient.proofs.Reactions.{at, with_octets, Told, does-reacted}
use Rattle.pushclient.proofs.SoundWishes.{all_behind, some_is}
use Rattle.inflight.specs.Messages.{made_of, flying_octets}
use Rattle.inflight.specs.Ends.{ends_of, fits_request}
use Rattle.flight_laws.specs.Taking.{closed_by, TakesFirst}
use Rattle.flight_laws.proofs.Holding.{size-first}
use Rattle.flight_laws.proofs.OnOctets.{steps-taken}
use Rattle.flight_laws.proofs.Opening.{still-open}
use Rattle.replay.specs.PassedOctets.{stepped}
use Rattle.replay.specs.World.{Seat}
use Rattle.replay.specs.Promises.{ShownPoints, point_taken}
use Rattle.script_laws.specs.Reached.{IsReached, SessionIsReached, ReachedSessions}
use Rattle.script_laws.specs.Joined.{ClosedByDelay, IsJoined, Waits}
use Rattle.script_laws.specs.Turns.{owes}
use Rattle.script_laws.proofs.turns.Owing.{step-owes}
use Rattle.script_laws.proofs.downs.Asking.{written-behind}
use Rattle.script_laws.proofs.downs.Octets.{ended-octets}
use Rattle.script_laws.proofs.downs.Points.{lies, point-rises}
use Rattle.script_laws.proofs.downs.Stops.{IsNoStop, no-stop}

-- ---- what the step answers

told-octets : (answer : Step) (c : Connection) (x : List ℕ) → Told answer c → Told answer (with_octets x c)
told-octets (steps.Closed reason) c x told = told
told-octets (steps.Answered id rcode) c x told = told
told-octets (steps.Kept inactivity keepalive) c x told = told
told-octets (steps.Pushed notices) c x told = told
told-octets (steps.Typeless id) c x told = told
told-octets steps.Waiting c x told = absurd told

at-connection : (client : Client) (c : Connection) → client.connection ≡ Some c → client ≡ at client.wishes client.now c
at-connection client c there = ap (λ (o : Option Connection). record client { connection = o }) there

-- the answer of an open client, on a whole message, tells whether it is still open
step-told : (client : Client) (c later : Connection) (whole rest : List ℕ) → client.connection ≡ Some c → c.closed ≡ None → first_message c.input ≡ Some (whole, rest) → (step client).1.connection ≡ Some later → Told (step client).0 later
step-told client c later whole rest there unclosed first there_later =
    let same_client = at-connection client c there in
    let does = does-reacted client.now whole c client.wishes c unclosed in
    let all : step client ≡ (does.answer, at does.wishes client.now (with_octets rest does.later)) =
    ap step same_client ∙ step-first client.wishes client.now c whole rest unclosed first ∙ does.is rest in
    let same : with_octets rest does.later ≡ later = some_is (with_octets rest does.later) later (sym (ap (λ (r : Step × Client). r.1.connection) all) ∙ there_later) in
    subst (λ (a : Step). Told a later) (sym (ap (λ (r : Step × Client). r.0) all)) (subst (Told does.answer) same (told-octets does.answer does.later rest does.told))

-- ---- one message

-- what closes fits the session
closed-fits : (standing : SessionStatus) (says : ServerMessage) → (is_delay says ≡ true → is_open standing ≡ false) → ClosedByDelay standing (closed_by says)
closed-fits standing (delays rcode delay) stopped = stopped refl
closed-fits standing (accepts id) stopped = tt
closed-fits standing (refuses id) stopped = tt
closed-fits standing (grants id) stopped = tt
closed-fits standing (tells notices) stopped = tt

frame-is-some : (m : List ℕ) → length (frame m) ≡ suc (suc (length m))
frame-is-some m = refl

one-taken : (taken : List Made) (m : Made) → size_of_made (taken ++ m ∷ []) ≡ size_of_made taken + length (frame_of m)
one-taken taken m =
    let both = sum_by-append (λ (x : Made). length (frame_of x)) taken (m ∷ []) in
    let own = size-first m [] in
    let none : size_of_made [] ≡ 0 = refl in
    omega (arith, both, own, none)

-- a client that is joined, and another in its place
pub record TakesOne (hub : Hub) (shown : ShownPoints) (seat : Seat) (number : ℕ) (session : Session) (c : Connection) : Type 0 where
  pub connection : Connection
  pub joined : IsJoined hub shown (record seat { client = (step seat.client).1 }) number session connection
  pub shorter : length connection.input < length c.input
  pub owed : owes (step seat.client).1 ≤ owes seat.client

module _ (sessions : ReachedSessions) (hub : Hub) (shown : ShownPoints) (number : ℕ) (session : Session) (reached : IsReached hub) where
  module _ (seat : Seat) (c : Connection) (j : IsJoined hub shown seat number session c) where
    abbrev Took : Type 0
    Took = TakesFirst hub seat.filled session seat.client c seat.up_wire seat.down_wire j.flight (step seat.client).1

    -- the frame of the message is gone from the input
    module _ (was_open : c.closed ≡ None) (took : Took) where
      abbrev m : Made
      m = made_of hub.timers took.first

      frame-gone : c.input ≡ frame_of m ++ took.connection.input
      frame-gone =
          let wire = seat.down_wire ++ session.output in
          append_cancel_right c.input (frame_of m ++ took.connection.input) wire
          (j.flight.whole_down ∙ ap (flying_octets hub.timers) took.comes ∙ ap (λ os. frame_of m ++ os) (sym (took.after.whole_down ∙ ap (flying_octets hub.timers) took.flying)) ∙ sym (append_assoc (frame_of m) took.connection.input wire))

      counted : length c.input ≡ length (frame_of m) + length took.connection.input
      counted = ap length frame-gone ∙ length-append (frame_of m) took.connection.input

      reached-on : seat.reached ≡ size_of_made took.after.taken + length took.connection.input
      reached-on = let more = ap size_of_made took.taken ∙ one-taken j.flight.taken m in omega (arith, more, counted, j.reached)

      made-is : session.made ≡ j.flight.taken ++ m ∷ map (made_of hub.timers) took.others
      made-is = j.flight.made ∙ ap (λ fs. j.flight.taken ++ map (made_of hub.timers) fs) took.comes

      -- what doesn't close isn't a Retry Delay
      no-stop-taken : closed_by took.first.says ≡ None → IsNoStop m
      no-stop-taken still rcode delay same =
          let e = ends_of hub seat.filled session seat.client c in
          let fits : IsTrue (fits_request e took.first.says) = (subst (AllByRecursion (λ f. IsTrue (fits_request e f.says))) took.comes j.flight.fit.down.fits).0 in
          no-stop e hub.timers took.first.says rcode delay j.flight.fit.client fits still same

      takes-one : owes (step seat.client).1 ≤ owes seat.client → TakesOne hub shown seat number session c
      takes-one owed =
          let own : SessionIsReached hub number session = sessions hub number session reached j.there in
          record {
            connection = took.connection;
            joined = record {
              there = j.there;
              connected = took.there;
              flight = took.after;
              reached = reached-on;
              up_wire = j.up_wire;
              down_wire = j.down_wire;
              input = omega (arith, counted, j.input);
              octets = written-behind seat.up_wire c.output took.connection.output _ took.output (ended-octets seat.client took.first.says) j.octets;
              ended = j.ended;
              closed = subst (ClosedByDelay session.standing) (sym took.closed) (closed-fits session.standing took.first.says took.stopped);
              unstopped = λ still. subst (AllByRecursion IsNoStop) (sym took.taken) (all_behind IsNoStop j.flight.taken m (j.unstopped was_open) (no-stop-taken (sym took.closed ∙ still)));
              start = j.start;
              began = j.began;
              shown_before = λ question.
                  let rises = point-rises hub j.start session question j.flight.taken m (map (made_of hub.timers) took.others) made-is own.history.notes (lies hub number j.start session j.began j.there) in
                  let more = subst (λ taken. point_taken j.start j.flight.taken question ≤ point_taken j.start taken question) (sym took.taken) rises in
                  all-weaken (λ p. p ≤ point_taken j.start j.flight.taken question) (λ p. p ≤ point_taken j.start took.after.taken question) (λ p low. le_trans low more) (shown question) (j.shown_before question);
            };
            shorter = omega (arith, counted, frame-is-some m.message);
            owed = owed;
          }

    one-step : (whole rest : List ℕ) → c.closed ≡ None → first_message c.input ≡ Some (whole, rest) → TakesOne hub shown seat number session c
    one-step whole rest unclosed first =
        takes-one unclosed (steps-taken hub seat.filled session seat.client c seat.up_wire seat.down_wire whole rest (sessions hub number session reached j.there).ids (still-open seat.client c j.connected unclosed) first j.flight)
        (step-owes hub seat.filled session seat.client c seat.up_wire seat.down_wire whole rest j.connected unclosed first j.flight)

  -- ---- until it waits or has closed

  pub record TakesAll (seat : Seat) (later : Client) : Type 0 where
    pub connection : Connection
    pub joined : IsJoined hub shown (record seat { client = later }) number session connection
    pub waits : Waits connection
    pub owed : owes later ≤ owes seat.client

  abbrev stepped_by : ℕ → Client → Step × Client → Client
  stepped_by turns client one = elim one.0 as (λ _. Client) [
    | steps.Waiting ↦ client
    | steps.Closed reason ↦ one.1
    | _ ↦ stepped turns one.1
  ]

  abbrev EachTurn : ℕ → Type 0
  EachTurn turns = (seat : Seat) (c : Connection) → IsJoined hub shown seat number session c → length c.input < turns → TakesAll seat (stepped turns seat.client)

  module _ (turns : ℕ) (others : EachTurn turns) (seat : Seat) (c : Connection) (j : IsJoined hub shown seat number session c) (few : length c.input < suc turns) where
    -- behind one message the others
    onward : TakesOne hub shown seat number session c → TakesAll seat (stepped turns (step seat.client).1)
    onward one =
        let more = others (record seat { client = (step seat.client).1 }) one.connection one.joined (omega (arith, one.shorter, few)) in
        record { connection = more.connection; joined = more.joined; waits = more.waits; owed = le_trans more.owed one.owed }

    waiting : (o : Option (List ℕ × List ℕ)) → first_message c.input ≡ o → c.closed ≡ None → TakesAll seat (stepped_by turns seat.client (step seat.client))
    waiting None none unclosed =
        let same = at-connection seat.client c j.connected in
        let all : step seat.client ≡ (steps.Waiting, seat.client) = ap step same ∙ step-waits seat.client.wishes seat.client.now c unclosed none ∙ ap (λ (x : Client). (steps.Waiting, x)) (sym same) in
        subst (λ (r : Step × Client). TakesAll seat (stepped_by turns seat.client r)) (sym all) (record { connection = c; joined = j; waits = λ still. none; owed = omega arith })
    waiting (Some found) first unclosed =
        let one = one-step seat c j found.0 found.1 unclosed first in
        by one (step seat.client).0 (step-told seat.client c one.connection found.0 found.1 j.connected unclosed first one.joined.connected)
      where
        by : (one : TakesOne hub shown seat number session c) (answer : Step) → Told answer one.connection → TakesAll seat (stepped_by turns seat.client (answer, (step seat.client).1))
        by one (steps.Closed reason) told = record { connection = one.connection; joined = one.joined; waits = λ unclosed. let both : Some reason ≡ None = sym told ∙ unclosed in absurd cc; owed = one.owed }
        by one steps.Waiting told = absurd told
        by one (steps.Answered id rcode) told = onward one
        by one (steps.Kept inactivity keepalive) told = onward one
        by one (steps.Pushed notices) told = onward one
        by one (steps.Typeless id) told = onward one

    closing : (o : Option CloseReason) → c.closed ≡ o → TakesAll seat (stepped_by turns seat.client (step seat.client))
    closing None unclosed = waiting (first_message c.input) refl unclosed
    closing (Some reason) closed =
        let same = at-connection seat.client c j.connected in
        let all : step seat.client ≡ (steps.Closed reason, seat.client) = ap step same ∙ step-closed seat.client.wishes seat.client.now c reason closed ∙ ap (λ (x : Client). (steps.Closed reason, x)) (sym same) in
        subst (λ (r : Step × Client). TakesAll seat (stepped_by turns seat.client r)) (sym all) (record { connection = c; joined = j; waits = λ still. let both : Some reason ≡ None = sym closed ∙ still in absurd cc; owed = omega arith })

  pub joined-stepped : (turns : ℕ) → EachTurn turns
  joined-stepped zero seat c j few = absurd (omega (arith, few))
  joined-stepped (suc turns) seat c j few = closing turns (joined-stepped turns) seat c j few c.closed refl
