-- One passing of octets behind another, and rounds of them until nothing moves.
--     passes-behind      two passings
--     rounds-pass, settles-pass
use Rattle.std.proofs.Common.{◌≡◌, ℕ, zero, suc, ◌==◌, ◌&&◌, not, Bool, true, false, [], Option, Some, None, is_some, refl, sym, ◌∙◌, ap, subst}
use Rattle.std.specs.Prelude.{IsTrue, if◌then◌else◌}
use Rattle.dsosession.specs.declared.session.EndReason.{EndReason}
use Rattle.pushserver.specs.PlainHubs.{Hub, Session}
use Rattle.pushserver.specs.Calls.{after_calls}
use Rattle.pushclient.specs.Clients.{Connection}
use Rattle.replay.specs.World.{World, Seat}
use Rattle.replay.specs.PassedOctets.{Passed, passed, max_wire, say, up, emit, down, and_then, round, settled}
use Rattle.replay.specs.Promises.{ShownPoints, is_end_by_itself}
use Rattle.script_laws.specs.Reached.{IsReached, ReachedOnesGoOn}
use Rattle.script_laws.specs.Joined.{IsJoined, PassesSo}
use Rattle.script_laws.specs.Walk.{OfSays, OfUps, OfEmits, OfDowns, Keeps, RoundsPass, SettlesPass}
use Rattle.script_laws.proofs.emits.Leading.{IsLedTo, led-both}

-- what is told of an end came by itself
abbrev pub EndsByItself : Option EndReason → Type 0
EndsByItself over = (reason : EndReason) → over ≡ Some reason → IsTrue (is_end_by_itself reason)

-- the first of two that tells one
pub first-over : (first second : Option EndReason) → EndsByItself first → EndsByItself second → EndsByItself (if is_some first then first else second)
first-over None second one other = other
first-over (Some reason) second one other = one

module _ (number : ℕ) (world : World) (shown : ShownPoints) (seat : Seat) (c : Connection) where
  -- nothing passes
  pub passes-nothing : (session : Session) → IsJoined world.hub shown seat number session c → (over : Option EndReason) → EndsByItself over → PassesSo number world shown seat c (record (passed world seat 0) { over = over })
  passes-nothing session j over by_itself = record {
    calls = [];
    fit = tt;
    own = tt;
    world_is = refl;
    word = refl;
    lone = refl;
    session = refl;
    later = session;
    connection = c;
    joined = j;
    waits = λ waits. waits;
    over = by_itself;
  }

  -- the same with another count, and another end that is told
  pub passes-over : (p : Passed) → PassesSo number world shown seat c p → (count : ℕ) (reacted : Bool) (over : Option EndReason) → EndsByItself over
      → PassesSo number world shown seat c (record p { count = count; reacted = reacted; over = over })
  passes-over p h count reacted over by_itself = record {
    calls = h.calls;
    fit = h.fit;
    own = h.own;
    world_is = h.world_is;
    word = h.word;
    lone = h.lone;
    session = h.session;
    later = h.later;
    connection = h.connection;
    joined = h.joined;
    waits = h.waits;
    over = by_itself;
  }

  -- a second passing behind the first
  pub passes-behind : (first second : Passed) (h : PassesSo number world shown seat c first) → PassesSo number first.world shown first.seat h.connection second → PassesSo number world shown seat c second
  passes-behind first second h k =
      let hub_is : first.world.hub ≡ after_calls h.calls world.hub = ap (λ (w : World). w.hub) h.world_is in
      let one : IsLedTo number world.hub first.world.hub = record { calls = h.calls; fit = h.fit; own = h.own; is = hub_is } in
      let other : IsLedTo number first.world.hub (after_calls k.calls first.world.hub) = record { calls = k.calls; fit = k.fit; own = k.own; is = refl } in
      let led = led-both number world.hub first.world.hub (after_calls k.calls first.world.hub) one other in
      record {
        calls = led.calls;
        fit = led.fit;
        own = led.own;
        world_is = k.world_is ∙ ap (λ (w : World). record w { hub = after_calls k.calls first.world.hub }) h.world_is ∙ ap (λ (hub : Hub). record world { hub = hub }) led.is;
        word = k.word ∙ h.word;
        lone = k.lone ∙ h.lone;
        session = k.session ∙ h.session;
        later = k.later;
        connection = k.connection;
        joined = k.joined;
        waits = λ waits. k.waits (h.waits waits);
        over = k.over;
      }

module _ (reached-on : ReachedOnesGoOn) where
  -- the hub of the world behind it is reached
  pub reached-behind : (number : ℕ) (world : World) (shown : ShownPoints) (seat : Seat) (c : Connection) (p : Passed) → IsReached world.hub → PassesSo number world shown seat c p → IsReached p.world.hub
  reached-behind number world shown seat c p reached h = subst IsReached (sym (ap (λ (w : World). w.hub) h.world_is)) (reached-on world.hub h.calls reached h.fit)

  pub keeps-then : (number : ℕ) (first second : World → Seat → Passed) → Keeps first number → Keeps second number → Keeps (λ world seat. and_then (first world seat) second) number
  keeps-then number first second one other world shown seat session c reached j =
      let p = first world seat in
      let h = one world shown seat session c reached j in
      let q = second p.world p.seat in
      let k = other p.world shown p.seat h.later h.connection (reached-behind number world shown seat c p reached h) h.joined in
      passes-over number world shown seat c q (passes-behind number world shown seat c p q h k) _ _ (if is_some p.over then p.over else q.over) (first-over p.over q.over h.over k.over)

  module _ (says : OfSays Keeps) (ups : OfUps Keeps) (emits : OfEmits Keeps) (downs : OfDowns Keeps) where
    pub rounds-pass : RoundsPass
    rounds-pass number =
        keeps-then number (λ world seat. and_then (and_then (say max_wire world seat) (up number max_wire)) (emit number max_wire)) (down max_wire)
        (keeps-then number (λ world seat. and_then (say max_wire world seat) (up number max_wire)) (emit number max_wire)
        (keeps-then number (say max_wire) (up number max_wire) (says max_wire number) (ups max_wire number))
        (emits max_wire number))
        (downs max_wire number)

  module _ (rounds : RoundsPass) where
    pub settles-pass : SettlesPass
    settles-pass zero number over by_itself world shown seat session c reached j = passes-nothing number world shown seat c session j over by_itself
    settles-pass (suc turns) number over by_itself world shown seat session c reached j =
        by (r.count == 0 && not r.reacted)
        (settles-pass turns number so_far so_far_by r.world shown r.seat one.later one.connection (reached-behind number world shown seat c r reached one) one.joined)
      where
        r : Passed
        r = round number world seat

        one : PassesSo number world shown seat c r
        one = rounds number world shown seat session c reached j

        so_far : Option EndReason
        so_far = if is_some over then over else r.over

        so_far_by : EndsByItself so_far
        so_far_by = first-over over r.over by_itself one.over

        by : (b : Bool) → PassesSo number r.world shown r.seat one.connection (settled turns number r.world r.seat so_far)
            → PassesSo number world shown seat c (elim b as (λ _. Passed) [ true ↦ record r { over = so_far } | false ↦ settled turns number r.world r.seat so_far ])
        by true others = passes-over number world shown seat c r one r.count r.reacted so_far so_far_by
        by false others = passes-behind number world shown seat c r (settled turns number r.world r.seat so_far) one others
