-- What the code does of a round is what the plain one does.
--     say-passes, up-passes, emit-passes, down-passes      each passing
--     way-passes, way-settles      the passing of a way
--     round-turns      the four of a round, one behind another
use Rattle.std.proofs.Common.{take-take, ◌≡◌, inl, ℕ, ◌+◌, ◌-◌, ◌≤◌, ◌<◌, ◌==◌, Bool, true, false, cond, not, ◌&&◌, ◌||◌, List, ◌++◌, length, take, drop, min, Option, Some, None, refl, sym, ◌∙◌, ap, subst, arith, append-nil, length-append}
use Rattle.std.specs.Prelude.{is_some, nat_lt}
use Rattle.std.proofs.lemmas.List.{length-take}
use Rattle.std.proofs.lemmas.Bool.Decides.{nat_tests}
use Rattle.std.proofs.Math.Seq.{take-append_seam}
use Rattle.push_base.specs.Limits.{max_number}
use Rattle.dsosession.specs.declared.session.EndReason.{EndReason}
use Rattle.pushsession.specs.Sessions.{room_of}
use Rattle.pushserver.specs.PlainHubs.{Session, Hub}
use Rattle.pushserver.specs.Hubs.{session_of, taken_by, take_octets}
use Rattle.pushserver.specs.Calls.{HubCall, after_calls}
use Rattle.hubasking.specs.AskingHubs.{AskingHub}
use Rattle.pushclient.specs.Clients.{Client, output_of, give_octets}
use Rattle.pushclient.specs.Rule.{KeptClient, StandsFor}
use Rattle.replay.specs.World.{World, Seat}
use Rattle.replay.specs.PassedOctets.{Passed, emitted, nothing_emitted, enough, max_wire, say, up, emit, to_client, down, and_then, settled}
use Rattle.replay.specs.declared.exchanging.Emission.{Emission}
use Rattle.replay.specs.Askings.{calls_asks}
use Rattle.replay.specs.LineCalls.{emit_calls, up_calls, out_calls, settle_calls, way_calls}
use Rattle.replay.specs.KeptAskings as hubs
use Rattle.replay.specs.KeptExchanges.{Emits, IsEmitted}
use Rattle.replay.specs.KeptSteps.{Delivers, IsDelivered}
use Rattle.replay.specs.KeptWorlds.{KeptSeat, StandsForSeat}
use Rattle.scripts.specs.declared.line.Way.{Way}
use Rattle.scripts.specs.declared.line.Way.TheVariants as ways
use Rattle.replay.specs.KeptPassings.{Passes, Turns, Moves}
use Rattle.replay.proofs.calls.Behind.{asks-on, calls-append}
use Rattle.replay.proofs.calls.Passed.{no_calls, outs-by}
use Rattle.replay.proofs.exchanges.Taking.{take-front}
use Rattle.replay.proofs.exchanges.Rounds.{Takes}
use Rattle.replay.specs.Text.{passing_of}

-- ---- from the client

abbrev pub room_on : ℕ → List ℕ → ℕ
room_on n wire = min n (max_wire - length wire)

pub say-passes : (n : ℕ) (hub : AskingHub) (k : KeptSeat) (client : KeptClient) (count : ℕ) (buffer after slice wire : List ℕ) → length buffer ≡ room_on n k.up_wire
    → ((plain : Client) → StandsFor k.client plain → count ≡ min (length buffer) (length (output_of plain)))
    → ((plain : Client) → StandsFor k.client plain → after ≡ take (length buffer) (output_of plain) ++ drop (length (output_of plain)) buffer)
    → ((plain : Client) → StandsFor k.client plain → StandsFor client (give_octets (min (length buffer) (length (output_of plain))) plain))
    → slice ≡ take count after → wire ≡ k.up_wire ++ slice
    → Passes (say n) no_calls hub k count false None hub (record k { client = client; up_wire = wire })
unfolding Passes
say-passes n hub k client count buffer after slice wire size counts octets gives slice_is wire_is = (
  refl,
  λ world seat stands s. record {
    moved = moved seat s;
    reacts = refl;
    end_told = refl;
    stands = stands;
    asks = refl;
    seat = record {
      word = s.word;
      is_lone = s.is_lone;
      client = subst (λ (m : ℕ). StandsFor client (give_octets m seat.client)) (sym (size_of seat s)) (gives seat.client s.client);
      session = s.session;
      up_wire = wire_is ∙ (λ i. s.up_wire i ++ (slice_is ∙ said seat s) i);
      down_wire = s.down_wire;
      reached = s.reached;
      few = s.few;
      filled = s.filled;
    };
  },
)
  where
    piece : Seat → List ℕ
    piece seat = take (room_on n seat.up_wire) (output_of seat.client)

    room_is : (seat : Seat) → StandsForSeat k seat → length buffer ≡ room_on n seat.up_wire
    room_is seat s = size ∙ ap (room_on n) s.up_wire

    size_of : (seat : Seat) → StandsForSeat k seat → length (piece seat) ≡ min (length buffer) (length (output_of seat.client))
    size_of seat s = length-take (room_on n seat.up_wire) (output_of seat.client) ∙ ap (λ (m : ℕ). min m (length (output_of seat.client))) (sym (room_is seat s))

    moved : (seat : Seat) → StandsForSeat k seat → count ≡ length (piece seat)
    moved seat s = counts seat.client s.client ∙ sym (size_of seat s)

    said : (seat : Seat) → StandsForSeat k seat → take count after ≡ piece seat
    said seat s =
        (λ i. take (moved seat s i) ((octets seat.client s.client ∙ ap (λ (m : ℕ). take m (output_of seat.client) ++ drop (length (output_of seat.client)) buffer) (room_is seat s)) i))
        ∙ take-append_seam (piece seat) (drop (length (output_of seat.client)) buffer)

-- ---- into the session

taken_within : (hub : Hub) (number : ℕ) (piece : List ℕ) → taken_by hub number piece ≤ length piece
taken_within hub number piece = by (session_of hub number)
  where
    least : (m n : ℕ) → min m n ≤ m
    least m n = omega arith

    by : (o : Option Session) → (elim o as (λ _. ℕ) [ None ↦ 0 | Some session ↦ min (length piece) (room_of session) ]) ≤ length piece
    by None = omega arith
    by (Some session) = least (length piece) (room_of session)

take-both : (k n : ℕ) (xs : List ℕ) → k ≤ length (take n xs) → take k (take n xs) ≡ take k xs
take-both k n xs h = take-take k n xs (small k n (length xs) (subst (λ (m : ℕ). k ≤ m) (length-take n xs) h))
  where
    small : (k n m : ℕ) → k ≤ min n m → k ≤ n
    small k n m h = omega arith

pub up-passes : (n : ℕ) (hub later : AskingHub) (number : ℕ) (k : KeptSeat) (count : ℕ) (slice wire : List ℕ) → slice ≡ take n k.up_wire → Takes hub number slice count later → wire ≡ drop count k.up_wire
    → Passes (up number n) (up_calls number n) hub k count false None later (record k { up_wire = wire })
unfolding Passes
up-passes n hub later number k count slice wire slice_is takes wire_is = (
  refl,
  λ world seat stands s.
      let piece = take n seat.up_wire in
      let same : slice ≡ piece = slice_is ∙ ap (take n) s.up_wire in
      let moved : count ≡ taken_by world.hub number piece = (takes world.hub stands).0 ∙ ap (taken_by world.hub number) same in
      let gone : take_octets world.hub number slice ≡ take_octets world.hub number (take (taken_by world.hub number piece) seat.up_wire) =
      ap (take_octets world.hub number) same ∙ sym (take-front hub.hub world.hub number piece stands)
      ∙ ap (take_octets world.hub number) (take-both (taken_by world.hub number piece) n seat.up_wire (taken_within world.hub number piece)) in
      record {
        moved = moved;
        reacts = refl;
        end_told = refl;
        stands = subst (hubs.StandsFor later) gone (takes world.hub stands).1;
        asks = (takes world.hub stands).2;
        seat = record {
          word = s.word;
          is_lone = s.is_lone;
          client = s.client;
          session = s.session;
          up_wire = wire_is ∙ (λ i. drop (moved i) (s.up_wire i));
          down_wire = s.down_wire;
          reached = s.reached;
          few = s.few;
          filled = s.filled;
        };
      },
)

-- ---- from the session

size_behind : (before octets given : List ℕ) → octets ≡ before ++ given → length octets - length before ≡ length given
size_behind before octets given e = (let size : length octets ≡ length before + length given = ap length e ∙ length-append before given in omega (arith, size))

pub emit-passes : (n : ℕ) (hub later : AskingHub) (number : ℕ) (k : KeptSeat) (count : ℕ) (wire : List ℕ) (told : List (ℕ × ℕ)) (emission : Emission) → Emits (room_on n k.down_wire) hub number k.down_wire (Some k.filled) later wire (Some told) emission
    → count ≡ length wire - length k.down_wire
    → Passes (emit number n) (out_calls number n) hub k count (emission.reacted || nat_lt 0 count) emission.over later (record k { down_wire = wire; filled = told })
unfolding Passes Emits
emit-passes n hub later number k count wire told emission made count_is = (
  refl,
  λ world seat stands s.
      let whole = emitted enough number (room_on n seat.down_wire) (nothing_emitted world.hub seat.filled) in
      let e : IsEmitted whole (calls_asks (out_calls number n world seat) world.hub hub.askings) k.down_wire later wire (Some told) emission =
      subst (λ (b : ℕ). IsEmitted (emitted enough number b (nothing_emitted world.hub seat.filled)) (calls_asks (emit_calls enough number b world.hub) world.hub hub.askings) k.down_wire later wire (Some told) emission) (ap (room_on n) s.down_wire)
      (made (room_on n k.down_wire) world.hub seat.filled (least (room_on n k.down_wire), inl refl) stands s.filled) in
      let moved : count ≡ length whole.octets = count_is ∙ size_behind k.down_wire wire whole.octets e.written in
      record {
        moved = moved;
        reacts = λ i. e.reacts i || nat_lt 0 (moved i);
        end_told = e.end_told;
        stands = e.stands;
        asks = e.asks;
        seat = record {
          word = s.word;
          is_lone = s.is_lone;
          client = s.client;
          session = s.session;
          up_wire = s.up_wire;
          down_wire = e.written ∙ ap (λ (w : List ℕ). w ++ whole.octets) s.down_wire;
          reached = s.reached;
          few = s.few;
          filled = e.ends;
        };
      },
)
  where
    least : (m : ℕ) → m ≤ m
    least m = omega arith

-- ---- to the client

pub down-passes : (n : ℕ) (hub : AskingHub) (k : KeptSeat) (client : KeptClient) (count reached : ℕ) (slice wire : List ℕ) → slice ≡ take n k.down_wire → Delivers k.client slice client count → wire ≡ drop count k.down_wire
    → reached ≡ k.reached + count → reached < max_number
    → Passes (down n) no_calls hub k count (nat_lt 0 count) None hub (record k { client = client; down_wire = wire; reached = reached })
unfolding Passes Delivers
down-passes n hub k client count reached slice wire slice_is delivers wire_is reached_is few = (
  refl,
  λ world seat stands s.
      let piece = take n seat.down_wire in
      let d : IsDelivered (to_client piece seat.client) client count = subst (λ (o : List ℕ). IsDelivered (to_client o seat.client) client count) (slice_is ∙ ap (take n) s.down_wire) (delivers seat.client s.client) in
      record {
        moved = d.counts;
        reacts = ap (nat_lt 0) d.counts;
        end_told = refl;
        stands = stands;
        asks = refl;
        seat = record {
          word = s.word;
          is_lone = s.is_lone;
          client = d.stands;
          session = s.session;
          up_wire = s.up_wire;
          down_wire = wire_is ∙ (λ i. drop (d.counts i) (s.down_wire i));
          reached = reached_is ∙ (λ i. s.reached i + d.counts i);
          few = few;
          filled = s.filled;
        };
      },
)

-- ---- the passing of a way

-- whether or not it reacted
pub way-passes : (way other : Way) (number : ℕ) (hub later : AskingHub) (k after : KeptSeat) (count : ℕ) (reacted : Bool) (over : Option EndReason) → way ≡ other
    → Passes (passing_of other number) (way_calls other number) hub k count reacted over later after → Moves (passing_of way number) (way_calls way number) hub k count over later after
unfolding Passes Moves
way-passes way other number hub later k after count reacted over is p = subst (λ (x : Way). Moves (passing_of x number) (way_calls x number) hub k count over later after) (sym is) (
  p.0,
  λ world seat stands s. (let m = p.1 world seat stands s in record { moved = m.moved; end_told = m.end_told; stands = m.stands; asks = m.asks; seat = m.seat }),
)

pub way-settles : (way : Way) (number : ℕ) (hub later : AskingHub) (k after : KeptSeat) (over : Option EndReason) → way ≡ ways.Settle
    → Moves (λ world seat. settled enough number world seat None) (settle_calls enough number) hub k 0 over later after → Moves (passing_of way number) (way_calls way number) hub k 0 over later after
way-settles way number hub later k after over is m = subst (λ (x : Way). Moves (passing_of x number) (way_calls x number) hub k 0 over later after) (sym is) m

-- ---- a round

abbrev Passing : Type 0
Passing = World → Seat → Passed

abbrev either_end : Option EndReason → Option EndReason → Option EndReason
either_end first second = cond (is_some first) first second

abbrev Calling : Type 0
Calling = World → Seat → List HubCall

-- the hub behind a passing is that behind these calls
abbrev LedBy : Calling → Passing → Type 0
LedBy calls passing = (world : World) (seat : Seat) → (passing world seat).world.hub ≡ after_calls (calls world seat) world.hub

-- the calls of one passing, and those of another behind it
abbrev both_calls : Calling → Passing → Calling → Calling
both_calls calls first more world seat = calls world seat ++ more (first world seat).world (first world seat).seat

both-led : (calls more : Calling) (first second : Passing) → LedBy calls first → LedBy more second → LedBy (both_calls calls first more) (λ world seat. and_then (first world seat) second)
both-led calls more first second led then world seat =
    let p = first world seat in
    then p.world p.seat ∙ ap (λ (h : Hub). after_calls (more p.world p.seat) h) (led world seat) ∙ sym (calls-append (calls world seat) (more p.world p.seat) world.hub)

-- one passing behind another
both-pass : (calls more : Calling) (first second : Passing) → LedBy calls first → (hub between later : AskingHub) (k k_between k_later : KeptSeat) (m n : ℕ) (a b : Bool) (over over_then : Option EndReason)
    → Passes first calls hub k m a over between k_between → Passes second more between k_between n b over_then later k_later
    → Passes (λ world seat. and_then (first world seat) second) (both_calls calls first more) hub k (m + n) (a || b) (either_end over over_then) later k_later
unfolding Passes
both-pass calls more first second led hub between later k k_between k_later m n a b over over_then one two = (
  two.0 ∙ one.0,
  λ world seat stands s.
      let p = one.1 world seat stands s in
      let q = two.1 (first world seat).world (first world seat).seat p.stands p.seat in
      record {
        moved = λ i. p.moved i + q.moved i;
        reacts = λ i. p.reacts i || q.reacts i;
        end_told = λ i. either_end (p.end_told i) (q.end_told i);
        stands = q.stands;
        seat = q.seat;
        asks = asks-on (calls world seat) (more (first world seat).world (first world seat).seat) world.hub (first world seat).world.hub hub.askings between.askings later.askings (led world seat) p.asks q.asks;
      },
)

-- whether octets moved, or the session reacted
abbrev moves_by : ℕ → ℕ → ℕ → ℕ → Bool → Bool
moves_by said taken given came reacted = not (said + taken + given + came == 0 && not reacted)

moves-so : (said taken given came : ℕ) (reacted : Bool)
    → moves_by said taken given came reacted ≡ not (said + taken + given + came == 0 && not (((false || false) || (reacted || nat_lt 0 given)) || nat_lt 0 came))
moves-so said taken given came true = by (said + taken + given + came == 0)
  where
    by : (z : Bool) → not (z && false) ≡ not (z && false)
    by z = refl
moves-so said taken given came false = grind (arith, nat_tests)

end-so : (over : Option EndReason) → over ≡ either_end (either_end (either_end None None) over) None
end-so None = refl
end-so (Some reason) = refl

pub round-turns : (hub risen later : AskingHub) (number : ℕ) (k k_said k_risen k_given k_later : KeptSeat) (said taken given came : ℕ) (emission : Emission) (moves : Bool)
    → Passes (say max_wire) no_calls hub k said false None hub k_said → Passes (up number max_wire) (up_calls number max_wire) hub k_said taken false None risen k_risen
    → Passes (emit number max_wire) (out_calls number max_wire) risen k_risen given (emission.reacted || nat_lt 0 given) emission.over later k_given → Passes (down max_wire) no_calls later k_given came (nat_lt 0 came) None later k_later
    → moves ≡ moves_by said taken given came emission.reacted → Turns number hub k moves emission.over later k_later
unfolding Passes Turns
round-turns hub risen later number k k_said k_risen k_given k_later said taken given came emission moves says ups emits downs is =
    let risen_by : Passing = λ world seat. and_then (say max_wire world seat) (up number max_wire) in
    let risen_calls : Calling = both_calls no_calls (say max_wire) (up_calls number max_wire) in
    let risen_led : LedBy risen_calls risen_by = both-led no_calls (up_calls number max_wire) (say max_wire) (up number max_wire) (λ world seat. refl) (λ world seat. refl) in
    let given_calls : Calling = both_calls risen_calls risen_by (out_calls number max_wire) in
    let first = both-pass no_calls (up_calls number max_wire) (say max_wire) (up number max_wire) (λ world seat. refl) hub hub risen k k_said k_risen said taken false false None None says ups in
    let second = both-pass risen_calls (out_calls number max_wire) risen_by (emit number max_wire) risen_led hub risen later k k_risen k_given (said + taken) given (false || false) (emission.reacted || nat_lt 0 given) (either_end None None) emission.over first emits in
    let third = both-pass given_calls no_calls (λ world seat. and_then (risen_by world seat) (emit number max_wire)) (down max_wire) (both-led risen_calls (out_calls number max_wire) risen_by (emit number max_wire) risen_led (outs-by number max_wire)) hub later later k k_given k_later (said + taken + given) came ((false || false) || (emission.reacted || nat_lt 0 given)) (nat_lt 0 came) (either_end (either_end None None) emission.over) None second downs in (
      third.0,
      λ world seat stands s.
          let p = third.1 world seat stands s in
          record {
            moved = is ∙ moves-so said taken given came emission.reacted ∙ (λ i. not (p.moved i == 0 && not (p.reacts i)));
            end_told = end-so emission.over ∙ p.end_told;
            stands = p.stands;
            asks = p.asks ∙ ap (λ (cs : List HubCall). calls_asks cs world.hub hub.askings) (append-nil (given_calls world seat));
            seat = p.seat;
          },
    )
