-- What is left to do falls with each passing of octets, and so with each round that isn't still.
--     says-lower, ups-lower, emits-lower, downs-lower      each passing
--     rounds-lower, rounds-fall      a round
use Rattle.std.proofs.Common.{◌≡◌, ℕ, zero, suc, ◌+◌, ◌-◌, ◌*◌, ◌<◌, ◌≤◌, ◌==◌, Bool, true, false, not, ◌&&◌, ◌||◌, List, [], ◌++◌, length, take, drop, min, nat_lt, Option, Some, None, refl, sym, ◌∙◌, ap, subst, arith, le_trans, length-append, length-take, length-drop}
use Rattle.std.specs.Prelude.{option_map, is_some, if◌then◌else◌}
use Rattle.std.proofs.lemmas.Bool.{ltb-true}
use Rattle.pushsession.specs.Sessions.{room_of, with_piece}
use Rattle.pushserver.specs.PlainHubs.{Session}
use Rattle.pushserver.specs.Hubs.{session_of, taken_by, take_octets}
use Rattle.livesessions.proofs.SessionLists.{found-in}
use Rattle.pushclient.specs.Clients.{Connection, output_of, give_octets}
use Rattle.replay.specs.World.{World, Seat}
use Rattle.replay.specs.PassedOctets.{Passed, Emitted, Delivered, max_wire, enough, delivered, say, up, emit, down, and_then, round}
use Rattle.replay.specs.Promises.{ShownPoints}
use Rattle.script_laws.specs.Reached.{ReachedOnesGoOn, BegunOnesGoOn, ReachedOnesAreSound, ReachedSessions}
use Rattle.script_laws.specs.Joined.{IsJoined, Waits}
use Rattle.script_laws.specs.Walk.{OfSays, OfUps, OfEmits, OfDowns, Keeps}
use Rattle.script_laws.specs.Settling.{RoundsFall}
use Rattle.script_laws.specs.Turns.{reaction_cost, asked_stops, work_of, work_in, owes, work_left, Lowers, LowersAlways}
use Rattle.script_laws.proofs.downs.Delivering.{Delivers, begun, delivers}
use Rattle.script_laws.proofs.emits.Emitting.{SoFar, emitted_by, emits-so-far}
use Rattle.script_laws.proofs.emits.Passing.{keeps-then, reached-behind}
use Rattle.script_laws.proofs.turns.Owing.{gives-owe}

-- what is left, by the session
pub left-with : (number : ℕ) (world : World) (seat : Seat) (session : Session) → session_of world.hub number ≡ Some session
    → work_left number world seat ≡ work_of session + length seat.down_wire + (reaction_cost + 1) * length seat.up_wire + (reaction_cost + 2) * owes seat.client
left-with number world seat session there = ap (λ (o : Option Session). work_in o + length seat.down_wire + (reaction_cost + 1) * length seat.up_wire + (reaction_cost + 2) * owes seat.client) there

-- ---- from the client onto the wire

module _ (number : ℕ) (world : World) (shown : ShownPoints) (seat : Seat) (session : Session) (c : Connection) (j : IsJoined world.hub shown seat number session c) where
  says-front : (m : ℕ) (output : List ℕ) → output ≡ c.output → let k = length (take m output) in
      Lowers number world seat (record { world = world; seat = record seat { client = give_octets k seat.client; up_wire = seat.up_wire ++ take m output }; count = k; reacted = false; over = None })
  says-front m output is =
      let k = length (take m output) in
      let short : k ≤ length c.output = fits m (length output) k (length c.output) (length-take m output) (ap length is) in
      let work = work_in (session_of world.hub number) in
      record {
        moved = goes-on work (length seat.down_wire) (length seat.up_wire) (length (seat.up_wire ++ take m output)) k (owes (give_octets k seat.client)) (owes seat.client)
            (length-append seat.up_wire (take m output)) (gives-owe k seat.client c j.connected short);
        reacted = λ is. absurd cc;
        owed = fewer k (owes (give_octets k seat.client)) (owes seat.client) (gives-owe k seat.client c j.connected short);
      }
    where
      fewer : (k less owed : ℕ) → less + k ≡ owed → less ≤ owed
      fewer k less owed is = omega (arith, is)

      fits : (m whole k all : ℕ) → k ≡ min m whole → whole ≡ all → k ≤ all
      fits m whole k all is same = omega (arith, is, same)

      goes-on : (work down wire longer k less owed : ℕ) → longer ≡ wire + k → less + k ≡ owed
          → (work + down + 131076 * longer + 131077 * less) + k ≤ work + down + 131076 * wire + 131077 * owed
      goes-on work down wire longer k less owed is left = omega (arith, is, left)

pub says-lower : OfSays LowersAlways
says-lower n number world shown seat session c reached j =
    says-front number world shown seat session c j (min n (max_wire - length seat.up_wire)) (output_of seat.client)
    (ap (λ (o : Option Connection). elim o as (λ _. List ℕ) [ None ↦ [] | Some d ↦ d.output ]) j.connected)

-- ---- from the wire into the session

pub ups-lower : OfUps LowersAlways
ups-lower n number world shown seat session c reached j = record { moved = moved; reacted = λ is. absurd cc; owed = omega arith }
  where
    k : ℕ
    k = taken_by world.hub number (take n seat.up_wire)

    later : Session
    later = with_piece (take k seat.up_wire) session

    there : session_of (take_octets world.hub number (take k seat.up_wire)) number ≡ Some later
    there = found-in number (with_piece (take k seat.up_wire)) world.hub.sessions ∙ ap (option_map (with_piece (take k seat.up_wire))) j.there

    by_room : k ≡ min (length (take n seat.up_wire)) (room_of session)
    by_room = ap (λ (o : Option Session). elim o as (λ _. ℕ) [ None ↦ 0 | Some s ↦ min (length (take n seat.up_wire)) (room_of s) ]) j.there

    within : (k front n wire room : ℕ) → k ≡ min front room → front ≡ min n wire → k ≤ wire
    within k front n wire room is are = omega (arith, is, are)

    comes-in : (out i q a piece longer k wire left down owed : ℕ) → longer ≤ i + k → left ≡ wire - k → k ≤ wire
        → ((2 * out + 131075 * (longer + q + a)) + down + 131076 * left + 131077 * owed) + k ≤ (2 * out + 131075 * (i + q + a)) + down + 131076 * wire + 131077 * owed
    comes-in out i q a piece longer k wire left down owed is are fits = omega (arith, is, are, fits)

    longer : (i piece room all front k wire : ℕ) → all ≡ i + front → front ≡ min room piece → piece ≡ min k wire → all ≤ i + k
    longer i piece room all front k wire is are fits = omega (arith, is, are, fits)

    moved : work_left number (up number n world seat).world (up number n world seat).seat + k ≤ work_left number world seat
    moved =
        let piece = take k seat.up_wire in
        let front = take (room_of session) piece in
        let low : k ≤ length seat.up_wire = within k (length (take n seat.up_wire)) n (length seat.up_wire) (room_of session) by_room (length-take n seat.up_wire) in
        let input = longer (length session.input) (length piece) (room_of session) (length (session.input ++ front)) (length front) k (length seat.up_wire) (length-append session.input front) (length-take (room_of session) piece) (length-take k seat.up_wire) in
        subst (λ m. m + k ≤ work_left number world seat) (sym (left-with number (up number n world seat).world (up number n world seat).seat later there))
        (subst (λ m. (work_of later + length seat.down_wire + (reaction_cost + 1) * length (drop k seat.up_wire) + (reaction_cost + 2) * owes seat.client) + k ≤ m) (sym (left-with number world seat session j.there))
        (comes-in (length session.output) (length session.input) (length session.queue) (asked_stops session.standing) (length piece) (length (session.input ++ front)) k (length seat.up_wire) (length (drop k seat.up_wire)) (length seat.down_wire) (owes seat.client)
        input (length-drop k seat.up_wire) low))

-- ---- from the session onto the wire

module _ (reached-on : ReachedOnesGoOn) (begun-on : BegunOnesGoOn) (are-sound : ReachedOnesAreSound) (sessions-are : ReachedSessions) where
  pub emits-lower : OfEmits LowersAlways
  emits-lower n number world shown seat session c reached j = lowers (emitted_by reached-on begun-on are-sound sessions-are n number world seat) (emits-so-far reached-on begun-on are-sound sessions-are n number world shown seat session c reached j)
    where
      lowers : (e : Emitted) → SoFar reached-on begun-on are-sound sessions-are number shown world.hub seat c reached session e
          → Lowers number world seat (record { world = record world { hub = e.hub }; seat = record seat { down_wire = seat.down_wire ++ e.octets; filled = e.filled }; count = length e.octets; reacted = e.reacted || nat_lt 0 (length e.octets); over = e.over })
      lowers e s =
          let after : World = record world { hub = e.hub } in
          let fuller : Seat = record seat { down_wire = seat.down_wire ++ e.octets; filled = e.filled } in
          let now = left-with number after fuller s.session s.joined.there in
          let before = left-with number world seat session j.there in
          record {
            moved = goes-out (work_of s.session) (work_of session) (length seat.down_wire) (length fuller.down_wire) (length e.octets) (length seat.up_wire) (owes seat.client) (work_left number after fuller) (work_left number world seat)
                s.less (length-append seat.down_wire e.octets) now before;
            reacted = λ is. by e.reacted refl is s now before;
            owed = omega arith;
          }
        where
          goes-out : (last first down longer octets up owed now before : ℕ) → last + 2 * octets ≤ first → longer ≡ down + octets → now ≡ last + longer + 131076 * up + 131077 * owed → before ≡ first + down + 131076 * up + 131077 * owed
              → now + octets ≤ before
          goes-out last first down longer octets up owed now before less is e f = omega (arith, less, is, e, f)

          strictly : (last first down longer octets up owed now before : ℕ) → last + 2 * octets < first → longer ≡ down + octets → now ≡ last + longer + 131076 * up + 131077 * owed → before ≡ first + down + 131076 * up + 131077 * owed
              → now < before
          strictly last first down longer octets up owed now before less is e f = omega (arith, less, is, e, f)

          some-out : (last first down longer octets up owed now before : ℕ) → last + 2 * octets ≤ first → 0 < octets → longer ≡ down + octets → now ≡ last + longer + 131076 * up + 131077 * owed → before ≡ first + down + 131076 * up + 131077 * owed
              → now < before
          some-out last first down longer octets up owed now before less some is e f = omega (arith, less, some, is, e, f)

          by : (b : Bool) → e.reacted ≡ b → (b || nat_lt 0 (length e.octets)) ≡ true → (s : SoFar reached-on begun-on are-sound sessions-are number shown world.hub seat c reached session e)
              → work_left number (record world { hub = e.hub }) (record seat { down_wire = seat.down_wire ++ e.octets; filled = e.filled })
              ≡ work_of s.session + length (seat.down_wire ++ e.octets) + (reaction_cost + 1) * length seat.up_wire + (reaction_cost + 2) * owes seat.client
              → work_left number world seat ≡ work_of session + length seat.down_wire + (reaction_cost + 1) * length seat.up_wire + (reaction_cost + 2) * owes seat.client
              → work_left number (record world { hub = e.hub }) (record seat { down_wire = seat.down_wire ++ e.octets; filled = e.filled }) < work_left number world seat
          by true worked is s now before = strictly (work_of s.session) (work_of session) (length seat.down_wire) (length (seat.down_wire ++ e.octets)) (length e.octets) (length seat.up_wire) (owes seat.client) _ _
              (s.worked worked) (length-append seat.down_wire e.octets) now before
          by false worked is s now before = some-out (work_of s.session) (work_of session) (length seat.down_wire) (length (seat.down_wire ++ e.octets)) (length e.octets) (length seat.up_wire) (owes seat.client) _ _
              s.less (ltb-true 0 (length e.octets) is) (length-append seat.down_wire e.octets) now before

-- ---- from the wire to the client

pub downs-lower : ReachedSessions → OfDowns LowersAlways
downs-lower sessions n number world shown seat session c reached j = lowers (delivered enough (take n seat.down_wire) (begun n seat)) (delivers sessions n number world.hub shown seat session c reached j)
  where
    lowers : (d : Delivered) → Delivers sessions world.hub shown seat number session reached (Waits c) d
        → Lowers number world seat (record { world = world; seat = record seat { client = d.client; down_wire = drop d.count seat.down_wire; reached = seat.reached + d.count }; count = d.count; reacted = nat_lt 0 d.count; over = None })
    lowers d so =
        let work = work_in (session_of world.hub number) in
        let left = length-drop d.count seat.down_wire in
        record {
          moved = comes-down work (length seat.down_wire) (length (drop d.count seat.down_wire)) d.count (length seat.up_wire) (owes d.client) (owes seat.client) left so.within so.owed;
          reacted = λ some. some-down work (length seat.down_wire) (length (drop d.count seat.down_wire)) d.count (length seat.up_wire) (owes d.client) (owes seat.client) left so.within so.owed (ltb-true 0 d.count some);
          owed = so.owed;
        }
      where
        comes-down : (work down left k up less owed : ℕ) → left ≡ down - k → k ≤ down → less ≤ owed
            → (work + left + 131076 * up + 131077 * less) + k ≤ work + down + 131076 * up + 131077 * owed
        comes-down work down left k up less owed is fits low = omega (arith, is, fits, low)

        some-down : (work down left k up less owed : ℕ) → left ≡ down - k → k ≤ down → less ≤ owed → 0 < k
            → work + left + 131076 * up + 131077 * less < work + down + 131076 * up + 131077 * owed
        some-down work down left k up less owed is fits low some = omega (arith, is, fits, low, some)

-- ---- one behind another

lowers-both : (number : ℕ) (world : World) (seat : Seat) (first second : Passed) → Lowers number world seat first → Lowers number first.world first.seat second
    → Lowers number world seat (record second { count = first.count + second.count; reacted = first.reacted || second.reacted; over = if is_some first.over then first.over else second.over })
lowers-both number world seat first second one other = record {
  moved = both (work_left number second.world second.seat) (work_left number first.world first.seat) (work_left number world seat) first.count second.count one.moved other.moved;
  reacted = λ is. by first.reacted refl is;
  owed = le_trans other.owed one.owed;
}
  where
    both : (last between before k m : ℕ) → between + k ≤ before → last + m ≤ between → last + (k + m) ≤ before
    both last between before k m one other = omega (arith, one, other)

    earlier : (last between before m : ℕ) → between < before → last + m ≤ between → last < before
    earlier last between before m one other = omega (arith, one, other)

    later-less : (last between before k : ℕ) → between + k ≤ before → last < between → last < before
    later-less last between before k one other = omega (arith, one, other)

    by : (b : Bool) → first.reacted ≡ b → (b || second.reacted) ≡ true → work_left number second.world second.seat < work_left number world seat
    by true worked is = earlier (work_left number second.world second.seat) (work_left number first.world first.seat) (work_left number world seat) second.count (one.reacted worked) other.moved
    by false worked is = later-less (work_left number second.world second.seat) (work_left number first.world first.seat) (work_left number world seat) first.count one.moved (other.reacted is)

module _ (reached-on : ReachedOnesGoOn) where
  lowers-then : (number : ℕ) (first second : World → Seat → Passed) → Keeps first number → LowersAlways first number → LowersAlways second number → LowersAlways (λ world seat. and_then (first world seat) second) number
  lowers-then number first second keeps one other world shown seat session c reached j =
      let p = first world seat in
      let h = keeps world shown seat session c reached j in
      lowers-both number world seat p (second p.world p.seat) (one world shown seat session c reached j)
      (other p.world shown p.seat h.later h.connection (reached-behind reached-on number world shown seat c p reached h) h.joined)

  module _ (says : OfSays Keeps) (ups : OfUps Keeps) (emits : OfEmits Keeps) (emits-low : OfEmits LowersAlways) (downs-low : OfDowns LowersAlways) where
    pub rounds-lower : (number : ℕ) → LowersAlways (round number) number
    rounds-lower number =
        let two : Keeps (λ world seat. and_then (say max_wire world seat) (up number max_wire)) number = keeps-then reached-on number (say max_wire) (up number max_wire) (says max_wire number) (ups max_wire number) in
        lowers-then number (λ world seat. and_then (and_then (say max_wire world seat) (up number max_wire)) (emit number max_wire)) (down max_wire)
        (keeps-then reached-on number (λ world seat. and_then (say max_wire world seat) (up number max_wire)) (emit number max_wire) two (emits max_wire number))
        (lowers-then number (λ world seat. and_then (say max_wire world seat) (up number max_wire)) (emit number max_wire) two
        (lowers-then number (say max_wire) (up number max_wire) (says max_wire number) (says-lower max_wire number) (ups-lower max_wire number))
        (emits-low max_wire number))
        (downs-low max_wire number)

    pub rounds-fall : RoundsFall work_left
    rounds-fall number world shown seat session c reached j waits = by (r.count == 0) refl r.reacted refl
      where
        r : Passed
        r = round number world seat

        low : Lowers number world seat r
        low = rounds-lower number world shown seat session c reached j

        some : (k now before : ℕ) → (k == 0) ≡ false → now + k ≤ before → now < before
        some zero now before is less = absurd cc
        some (suc k) now before is less = omega (arith, less)

        by : (b : Bool) → (r.count == 0) ≡ b → (t : Bool) → r.reacted ≡ t → (b && not t) ≡ false → work_left number r.world r.seat < work_left number world seat
        by false none t is still = some r.count (work_left number r.world r.seat) (work_left number world seat) none low.moved
        by true none true is still = low.reacted is
        by true none false is still = absurd cc
