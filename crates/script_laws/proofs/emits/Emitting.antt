-- Octets pass from the session onto its wire, turn by turn.
--     IsJoinedBehind      behind one call of `give`
--     gives-pass      each call of `give` leaves the client joined to its session
--     emits-pass      and so do calls of it one behind another
use Rattle.std.proofs.Common.{◌≡◌, ℕ, zero, suc, ◌+◌, ◌-◌, ◌*◌, ◌<◌, ◌≤◌, ◌==◌, ◌||◌, Bool, true, false, List, [], ◌∷◌, ◌++◌, length, min, nat_lt, Option, Some, None, refl, sym, ◌∙◌, ap, subst, arith, length-append, append_assoc, append-nil}
use Rattle.std.specs.Prelude.{IsTrue}
use Rattle.dsotlv.proofs.Results.{same_found}
use Rattle.dsosession.specs.declared.session.EndReason.{EndReason}
use Rattle.dsosession.specs.declared.session.CloseReason.{CloseReason}
use Rattle.dsosession.specs.declared.session.CloseReason.TheVariants as closes
use Rattle.pushsession.specs.declared.session_status.SessionStatus.{SessionStatus}
use Rattle.pushsession.specs.declared.session_status.SessionStatus.TheVariants.{Live, AskedToStop, Stopped, Ended}
use Rattle.pushsession.specs.Sessions.{is_open}
use Rattle.pushserver.specs.declared.given.Given.{Given}
use Rattle.pushserver.specs.declared.given.Given.TheVariants.{Bytes, Worked, Nothing, Ending, End}
use Rattle.pushserver.specs.Counting.{octets_of}
use Rattle.pushserver.specs.PlainHubs.{Session, Subscription, Hub, Giving}
use Rattle.pushserver.specs.Hubs.{session_of}
use Rattle.pushserver.specs.Calls.{gives}
use Rattle.pushserver.specs.Giving.{give}
use Rattle.pushclient.specs.Clients.{Connection}
use Rattle.inflight.specs.Ends.{remembers}
use Rattle.inflight.specs.Flight.{IsUnderWay}
use Rattle.flight_laws.specs.Turns.{BehindGiving}
use Rattle.flight_laws.proofs.EachGive.{each-give-leaves}
use Rattle.flight_laws.proofs.QuietTurns.{quiet-gives}
use Rattle.flight_laws.proofs.Reacted.{reactions-leave}
use Rattle.flight_laws.proofs.Served.{homes-stay}
use Rattle.flight_laws.proofs.Tellable.{pushes-can-be-told}
use Rattle.flight_laws.proofs.TakesNothing.{gives-take-nothing}
use Rattle.flight_laws.proofs.GoesOn.{sessions-go-on}
use Rattle.replay.specs.World.{World, Seat}
use Rattle.replay.specs.PassedOctets.{Emitted, subscriptions_in, with_giving, emitted, nothing_emitted, enough, max_wire}
use Rattle.replay.specs.Promises.{ShownPoints, is_end_by_itself}
use Rattle.replay.proofs.exchanges.Walks.{gives-counted}
use Rattle.script_laws.specs.Reached.{FitCalls, IsReached, ReachedOnesGoOn, BegunOnesGoOn, ReachedOnesAreSound, ReachedSessions}
use Rattle.script_laws.specs.Joined.{ClosedByDelay, IsJoined, PassesSo}
use Rattle.script_laws.specs.Turns.{work_of}
use Rattle.script_laws.specs.Walk.{Keeps, OfEmits}
use Rattle.script_laws.proofs.turns.Giving.{GivesLess, gives-less}
use Rattle.script_laws.proofs.emits.Leading.{IsLedTo, led-none, led-one, led-both}
use Rattle.script_laws.proofs.emits.Saying.{same-taken}
use Rattle.script_laws.proofs.emits.Giving.{StandsBehind, live-stands, gives-stand, gives-short}

-- a client that a Retry Delay closed is closed by one, while the session doesn't go on
closed-stays : (standing later : SessionStatus) (closed : Option CloseReason) → (is_open standing ≡ false → is_open later ≡ false) → ClosedByDelay standing closed → ClosedByDelay later closed
closed-stays standing later None shut h = tt
closed-stays standing later (Some (closes.Delay ms rcode)) shut h = shut h
closed-stays standing later (Some closes.Idle) shut h = absurd h
closed-stays standing later (Some _) shut h = absurd h

-- ---- one call

-- the octets are behind those on the wire, and the ends of first answers were told with them
pub record IsJoinedBehind (g : Giving) (shown : ShownPoints) (seat : Seat) (number : ℕ) (session : Session) (c : Connection) : Type 0 where
  pub later : Session
  pub joined : IsJoined g.hub shown (record seat { down_wire = seat.down_wire ++ g.octets; filled = remembers (subscriptions_in g.hub number) seat.filled }) number later c
  pub over : (reason : EndReason) → g.given ≡ End reason → IsTrue (is_end_by_itself reason)
  -- what is left to do, with the octets that were handed out
  pub less : work_of later + 2 * length g.octets ≤ work_of session
  pub worked : g.given ≡ Worked → work_of later + 2 * length g.octets < work_of session

module _ (reached-on : ReachedOnesGoOn) (begun-on : BegunOnesGoOn) (are-sound : ReachedOnesAreSound) (sessions-are : ReachedSessions) where
  module _ (hub : Hub) (shown : ShownPoints) (seat : Seat) (number room : ℕ) (session : Session) (c : Connection) (reached : IsReached hub) (j : IsJoined hub shown seat number session c) where
    abbrev gave : Giving
    gave = give hub number room

    standing-behind : (standing : SessionStatus) → session.standing ≡ standing → StandsBehind gave number standing
    standing-behind Live is = live-stands gave number (sessions-go-on hub number room seat.filled session seat.client c seat.up_wire seat.down_wire j.there is j.flight)
    standing-behind (AskedToStop rcode delay) is = subst (StandsBehind gave number) is (gives-stand number room hub session j.there j.ended (λ live. let both : AskedToStop rcode delay ≡ Live = sym is ∙ live in absurd cc))
    standing-behind (Stopped since) is = subst (StandsBehind gave number) is (gives-stand number room hub session j.there j.ended (λ live. let both : Stopped since ≡ Live = sym is ∙ live in absurd cc))
    standing-behind (Ended reason) is = subst (StandsBehind gave number) is (gives-stand number room hub session j.there j.ended (λ live. let both : Ended reason ≡ Live = sym is ∙ live in absurd cc))

    -- what is under way then, with the same messages taken
    pub record Flies (filled : List (ℕ × ℕ)) (later : Session) : Type 0 where
      pub there : session_of gave.hub number ≡ Some later
      pub flight : IsUnderWay gave.hub filled later seat.client c seat.up_wire (seat.down_wire ++ gave.octets)
      pub taken : flight.taken ≡ j.flight.taken

    abbrev filled_later : List (ℕ × ℕ)
    filled_later = remembers (subscriptions_in gave.hub number) seat.filled

    flies : (later : Session) → session_of gave.hub number ≡ Some later → Flies filled_later later
    flies later there =
        let r = sessions-are hub number session reached j.there in
        let behind : BehindGiving gave number seat.filled seat.client c seat.up_wire seat.down_wire =
        each-give-leaves quiet-gives reactions-leave pushes-can-be-told homes-stay hub number room seat.filled session seat.client c seat.up_wire seat.down_wire (are-sound hub reached) j.there r.stop j.flight in
        let taken = gives-take-nothing hub number room seat.filled session seat.client c seat.up_wire seat.down_wire r.below j.there j.flight behind in
        let first : Flies (remembers behind.later.subscriptions seat.filled) behind.later = record { there = behind.there; flight = behind.flight; taken = taken } in
        let told : remembers behind.later.subscriptions seat.filled ≡ filled_later =
        ap (λ (o : Option Session). remembers (elim o as (λ _. List Subscription) [ None ↦ [] | Some s ↦ s.subscriptions ]) seat.filled) (sym behind.there) in
        subst (Flies filled_later) (same_found behind.later later (sym behind.there ∙ there)) (subst (λ (filled : List (ℕ × ℕ)). Flies filled behind.later) told first)

    fits-wire : (most wire room handed both : ℕ) → wire + room ≤ most → handed ≤ room → both ≡ wire + handed → both ≤ most
    fits-wire most wire room handed both room_is short is = omega (arith, room_is, short, is)

    pub gives-pass : length seat.down_wire + room ≤ max_wire → IsJoinedBehind gave shown seat number session c
    gives-pass room_is =
        let stands = standing-behind session.standing refl in
        let later : Session = stands.later in
        let f = flies later stands.there in
        let same = same-taken hub shown seat number session c j f.flight.taken f.taken in
        let fits : FitCalls (gives number room ∷ []) = ((tt, tt), tt) in
        let left : GivesLess gave number session = gives-less reached-on are-sound hub number room session reached j.there seat.filled seat.client c seat.up_wire seat.down_wire j.flight in
        let same_later : left.later ≡ later = same_found left.later later (sym left.there ∙ stands.there) in
        record {
          later = later;
          joined = record {
            there = f.there;
            connected = j.connected;
            flight = f.flight;
            reached = same.reached;
            unstopped = same.unstopped;
            up_wire = j.up_wire;
            down_wire = fits-wire max_wire (length seat.down_wire) room (length gave.octets) (length (seat.down_wire ++ gave.octets)) room_is (gives-short hub number room) (length-append seat.down_wire gave.octets);
            input = j.input;
            octets = j.octets;
            ended = stands.ended;
            closed = closed-stays session.standing later.standing c.closed stands.shut j.closed;
            start = j.start;
            began = begun-on hub number j.start (gives number room ∷ []) j.began fits;
            shown_before = same.shown_before;
          };
          over = stands.over;
          less = subst (λ (s : Session). work_of s + 2 * length gave.octets ≤ work_of session) same_later left.less;
          worked = λ worked. subst (λ (s : Session). work_of s + 2 * length gave.octets < work_of session) same_later (left.worked worked);
        }

  -- ---- one behind another

  module _ (number : ℕ) (shown : ShownPoints) (hub : Hub) (seat : Seat) (c : Connection) (reached : IsReached hub) (begun : Session) where
    -- behind some calls of give
    pub record IsJoinedSoFar (later : Hub) (octets : List ℕ) (filled : List (ℕ × ℕ)) (over : Option EndReason) (reacted : Bool) : Type 0 where
      pub led : IsLedTo number hub later
      pub session : Session
      pub joined : IsJoined later shown (record seat { down_wire = seat.down_wire ++ octets; filled = filled }) number session c
      pub by_itself : (reason : EndReason) → over ≡ Some reason → IsTrue (is_end_by_itself reason)
      -- what is left to do is less by twice the octets, and less still where a message was reacted to
      pub less : work_of session + 2 * length octets ≤ work_of begun
      pub worked : reacted ≡ true → work_of session + 2 * length octets < work_of begun

    abbrev pub SoFar : Emitted → Type 0
    SoFar e = IsJoinedSoFar e.hub e.octets e.filled e.over e.reacted

    -- the octets that are on the wire then, and so many more, are no more than it holds
    abbrev HasRoom : ℕ → Emitted → Type 0
    HasRoom budget e = length (seat.down_wire ++ e.octets) + budget ≤ max_wire

    reached-later : (later : Hub) → IsLedTo number hub later → IsReached later
    reached-later later led = subst IsReached (sym led.is) (reached-on hub led.calls reached led.fit)

    module _ (budget : ℕ) (e : Emitted) (room : HasRoom budget e) (s : SoFar e) where
      abbrev g : Giving
      g = give e.hub number budget

      abbrev then : Emitted
      then = with_giving g number e

      one : IsJoinedBehind g shown (record seat { down_wire = seat.down_wire ++ e.octets; filled = e.filled }) number s.session c
      one = gives-pass e.hub shown (record seat { down_wire = seat.down_wire ++ e.octets; filled = e.filled }) number budget s.session c (reached-later e.hub s.led) s.joined room

      led-then : IsLedTo number hub g.hub
      led-then = led-both number hub e.hub g.hub s.led (led-one number e.hub (gives number budget) (tt, tt) refl)

      joined-then : IsJoined g.hub shown (record seat { down_wire = seat.down_wire ++ then.octets; filled = then.filled }) number one.later c
      joined-then = subst (λ (wire : List ℕ). IsJoined g.hub shown (record seat { down_wire = wire; filled = then.filled }) number one.later c) (append_assoc seat.down_wire e.octets g.octets) one.joined

      longer : length then.octets ≡ length e.octets + length g.octets
      longer = length-append e.octets g.octets

      less-then : work_of one.later + 2 * length then.octets ≤ work_of begun
      less-then = sums (work_of one.later) (work_of s.session) (work_of begun) (length g.octets) (length e.octets) (length then.octets) one.less s.less longer
        where
          sums : (last before first more so_far all : ℕ) → last + 2 * more ≤ before → before + 2 * so_far ≤ first → all ≡ so_far + more → last + 2 * all ≤ first
          sums last before first more so_far all now others is = omega (arith, now, others, is)

      worked-before : e.reacted ≡ true → work_of one.later + 2 * length then.octets < work_of begun
      worked-before worked = sums (work_of one.later) (work_of s.session) (work_of begun) (length g.octets) (length e.octets) (length then.octets) one.less (s.worked worked) longer
        where
          sums : (last before first more so_far all : ℕ) → last + 2 * more ≤ before → before + 2 * so_far < first → all ≡ so_far + more → last + 2 * all < first
          sums last before first more so_far all now others is = omega (arith, now, others, is)

      worked-now : g.given ≡ Worked → work_of one.later + 2 * length then.octets < work_of begun
      worked-now is = sums (work_of one.later) (work_of s.session) (work_of begun) (length g.octets) (length e.octets) (length then.octets) (one.worked is) s.less longer
        where
          sums : (last before first more so_far all : ℕ) → last + 2 * more < before → before + 2 * so_far ≤ first → all ≡ so_far + more → last + 2 * all < first
          sums last before first more so_far all now others is = omega (arith, now, others, is)

      so-then : SoFar then
      so-then = record { led = led-then; session = one.later; joined = joined-then; by_itself = s.by_itself; less = less-then; worked = worked-before }

      -- the call reacted to a message
      worked-then : g.given ≡ Worked → SoFar (record then { reacted = true })
      worked-then is = record { led = led-then; session = one.later; joined = joined-then; by_itself = s.by_itself; less = less-then; worked = λ worked. worked-now is }

      -- the call told an end
      over-then : (reason : EndReason) → g.given ≡ End reason → SoFar (record then { over = Some reason })
      over-then reason is =
          record { led = led-then; session = one.later; joined = joined-then; by_itself = λ told e. one.over told (is ∙ ap End (same_found reason told e)); less = less-then; worked = worked-before }

      counted : (n : ℕ) → octets_of g.given ≡ n → HasRoom (budget - n) then
      counted n is =
          fewer max_wire (length seat.down_wire) (length e.octets) (length g.octets) budget n (length (seat.down_wire ++ e.octets)) (length then.octets) (length (seat.down_wire ++ then.octets))
          room (length-append seat.down_wire e.octets) (length-append e.octets g.octets) (length-append seat.down_wire then.octets) (sym is ∙ gives-counted e.hub number budget) (gives-short e.hub number budget)
        where
          fewer : (most wire octets more budget n before after all : ℕ) → before + budget ≤ most → before ≡ wire + octets → after ≡ octets + more → all ≡ wire + after → n ≡ more → more ≤ budget → all + (budget - n) ≤ most
          fewer most wire octets more budget n before after all room first then whole is short = omega (arith, room, first, then, whole, is, short)

    emits : (turns budget : ℕ) (e : Emitted) → HasRoom budget e → SoFar e → SoFar (emitted turns number budget e)
    emits zero budget e room s = s
    emits (suc turns) budget e room s = by (λ n later has so. emits turns n later has so) (budget == 0)
      where
        g_now : Giving
        g_now = give e.hub number budget

        then_now : Emitted
        then_now = with_giving g_now number e

        none-less : (n : ℕ) → n - 0 ≡ n
        none-less n = omega arith

        Others : Type 0
        Others = (n : ℕ) (later : Emitted) → HasRoom n later → SoFar later → SoFar (emitted turns number n later)

        by_given : Others → (given : Given) → g_now.given ≡ given → SoFar (elim given as (λ _. Emitted) [
          | Bytes n ↦ emitted turns number (budget - n) then_now
          | Worked ↦ emitted turns number budget (record then_now { reacted = true })
          | Nothing ↦ then_now
          | Ending ↦ then_now
          | End reason ↦ record then_now { over = Some reason }
        ])
        by_given others (Bytes n) is = others (budget - n) then_now (counted budget e room s n (ap octets_of is)) (so-then budget e room s)
        by_given others Worked is = others budget (record then_now { reacted = true }) (subst (λ n. HasRoom n then_now) (none-less budget) (counted budget e room s 0 (ap octets_of is))) (worked-then budget e room s is)
        by_given others Nothing is = so-then budget e room s
        by_given others Ending is = so-then budget e room s
        by_given others (End reason) is = over-then budget e room s reason is

        by : Others → (b : Bool) → SoFar (elim b as (λ _. Emitted) [
          | true ↦ e
          | false ↦ elim g_now.given as (λ _. Emitted) [
            | Bytes n ↦ emitted turns number (budget - n) then_now
            | Worked ↦ emitted turns number budget (record then_now { reacted = true })
            | Nothing ↦ then_now
            | Ending ↦ then_now
            | End reason ↦ record then_now { over = Some reason }
          ]
        ])
        by others true = s
        by others false = by_given others g_now.given refl

  -- what a passing emits
  abbrev pub emitted_by : ℕ → ℕ → World → Seat → Emitted
  emitted_by n number world seat = emitted enough number (min n (max_wire - length seat.down_wire)) (nothing_emitted world.hub seat.filled)

  pub emits-so-far : (n number : ℕ) (world : World) (shown : ShownPoints) (seat : Seat) (session : Session) (c : Connection) (reached : IsReached world.hub) → IsJoined world.hub shown seat number session c
      → SoFar number shown world.hub seat c reached session (emitted_by n number world seat)
  emits-so-far n number world shown seat session c reached j =
      let budget : ℕ = min n (max_wire - length seat.down_wire) in
      let start : Emitted = nothing_emitted world.hub seat.filled in
      let none : seat.down_wire ++ [] ≡ seat.down_wire = append-nil seat.down_wire in
      let first : SoFar number shown world.hub seat c reached session start = record {
        led = led-none number world.hub;
        session = session;
        joined = subst (λ (wire : List ℕ). IsJoined world.hub shown (record seat { down_wire = wire }) number session c) (sym none) j;
        by_itself = λ reason is. absurd cc;
        less = same (work_of session);
        worked = λ worked. absurd cc;
      } in
      emits number shown world.hub seat c reached session enough budget start
      (room max_wire (length seat.down_wire) n (length (seat.down_wire ++ [])) j.down_wire (ap length none)) first
    where
      room : (most wire n whole : ℕ) → wire ≤ most → whole ≡ wire → whole + min n (most - wire) ≤ most
      room most wire n whole short is = omega (arith, short, is)

      same : (n : ℕ) → n + 2 * 0 ≤ n
      same n = omega arith

  pub emits-pass : OfEmits Keeps
  emits-pass n number world shown seat session c reached j = passes (emitted_by n number world seat) (emits-so-far n number world shown seat session c reached j)
    where
      passes : (e : Emitted) → SoFar number shown world.hub seat c reached session e
          → PassesSo number world shown seat c (record { world = record world { hub = e.hub }; seat = record seat { down_wire = seat.down_wire ++ e.octets; filled = e.filled }; count = length e.octets; reacted = e.reacted || nat_lt 0 (length e.octets); over = e.over })
      passes e s = record {
        calls = s.led.calls;
        fit = s.led.fit;
        own = s.led.own;
        world_is = ap (λ (h : Hub). record world { hub = h }) s.led.is;
        word = refl;
        lone = refl;
        session = refl;
        later = s.session;
        connection = c;
        joined = s.joined;
        waits = λ waits. waits;
        over = s.by_itself;
      }
