-- A round that moves no octet and reacts to nothing: both ways are empty, and the session has nothing to say.
--     quiet-at-last
use Rattle.std.proofs.Common.{◌≡◌, ℕ, zero, suc, ◌+◌, ◌^◌, ◌-◌, ◌≤◌, ◌<◌, ◌==◌, ◌||◌, Bool, true, false, not, cond, List, [], ◌∷◌, ◌++◌, map, length, take, drop, min, nat_lt, Option, Some, None, is_some, refl, sym, ◌∙◌, ap, subst, arith, true≢false, inl, inr, ◌⊎◌}
use Rattle.std.specs.Prelude.{IsTrue, option_map, if◌then◌else◌, flat_map}
use Rattle.std.specs.List.{AllByRecursion}
use Rattle.std.proofs.lemmas.Bool.{and_parts, eqb-true}
use Rattle.std.proofs.Math.Seq.{take-nil}
use Rattle.std.proofs.lemmas.List.{append-nil}
use Rattle.replay.proofs.worlds.BetweenLines.{each-behind}
use Rattle.push_base.specs.Limits.{max_input}
use Rattle.dsotlv.proofs.Results.{same_found}
use Rattle.dsotlv.specs.Answers.{stop_message}
use Rattle.dsotlv.specs.Messages.{frame, first_message}
use Rattle.dsosession.specs.declared.session.EndReason.{EndReason}
use Rattle.dsosession.specs.declared.session.CloseReason.{CloseReason}
use Rattle.pushsession.specs.declared.session_status.SessionStatus.{SessionStatus}
use Rattle.pushsession.specs.declared.session_status.SessionStatus.TheVariants.{Live}
use Rattle.pushsession.specs.Sessions.{is_open, room_of as session_room, with_piece}
use Rattle.pushserver.specs.declared.given.Given.TheVariants.{Nothing, Ending}
use Rattle.pushserver.specs.PlainHubs.{Session, Hub, Giving, Made, asked_of}
use Rattle.pushserver.specs.Hubs.{session_of}
use Rattle.pushserver.specs.Giving.{give}
use Rattle.livesessions.proofs.SessionLists.{found-in}
use Rattle.pushserver.proofs.hub_steps.Pairs.{all-weaken}
use Rattle.pushclient.specs.Clients as clients
use Rattle.pushclient.specs.Clients.{Client, Connection, with_connection, closed_as, open_connection, room_of, give_octets, output_of}
use Rattle.pushclient.specs.ServerMessages.{server_octets}
use Rattle.pushclient.specs.Steps.{reacted}
use Rattle.pushclient.specs.declared.client.Step.{Step}
use Rattle.pushclient.specs.declared.client.Step.TheVariants as steps
use Rattle.inflight.specs.Messages.{ClientMessage, message_octets, Flying, made_of, CanBeRead, flying_octets}
use Rattle.inflight.specs.Ends.{going_up, going_down}
use Rattle.inflight.specs.Flight.{IsUnderWay}
use Rattle.flight_laws.specs.Meeting.{is_within}
use Rattle.flight_laws.proofs.ReadBack.{read-back, taken-up-within}
use Rattle.replay.specs.World.{World, Seat}
use Rattle.replay.specs.PassedOctets.{is_still, Passed, Emitted, Delivered, nothing_emitted, emitted, enough, max_wire, say, up, emit, down, round, stepped, delivered, to_client}
use Rattle.replay.specs.Promises.{ShownPoints, IsQuiet}
use Rattle.script_laws.specs.Reached.{IsReached, ReachedOnesGoOn}
use Rattle.script_laws.specs.Joined.{IsJoined, Waits, PassesSo}
use Rattle.script_laws.specs.Walk.{Keeps, OfSays, OfUps, OfEmits}
use Rattle.script_laws.specs.Settling.{is_stopped, SaysStop, StoppedOnesSaidSo, IsEmptied, QuietAtLast}
use Rattle.script_laws.proofs.emits.Passing.{reached-behind}
use Rattle.script_laws.proofs.emits.Saying.{AskNoStop}
use Rattle.script_laws.proofs.lines.Asking.{closed-is}
use Rattle.script_laws.proofs.settles.Silence.{SaysNothing, nothing-again, ends-resting, StaysStill, stays-still}
use Rattle.script_laws.proofs.settles.Fronts.{front-nil, back-nil, taken-nil, room-left, none-left}

-- ---- numbers

no-sum : (a b : ℕ) → a + b ≡ 0 → (a ≡ 0) × (b ≡ 0)
no-sum a b is = (omega (arith, is), omega (arith, is))

no-or : (a b : Bool) → (a || b) ≡ false → (a ≡ false) × (b ≡ false)
no-or true b is = absurd (true≢false is)
no-or false b is = (refl, is)

not-true : (b : Bool) → not b ≡ true → b ≡ false
not-true false is = refl
not-true true is = absurd (true≢false (sym is))

pub no-over : (a b : Option EndReason) → (if is_some a then a else b) ≡ None → (a ≡ None) × (b ≡ None)
no-over None b is = (refl, is)
no-over (Some reason) b is = absurd cc

-- ---- the client

drop-none : (n : ℕ) → drop {A = ℕ} n [] ≡ []
drop-none zero = refl
drop-none (suc n) = refl

-- no octets are brought to it
takes-none : (client : Client) → clients.take_octets [] client ≡ client
takes-none client = ap (λ (o : Option Connection). record client { connection = o }) (by client.connection)
  where
    by : (o : Option Connection) → option_map (λ (c : Connection). record c { input = c.input ++ take (room_of client) [] }) o ≡ o
    by None = refl
    by (Some c) = ap (λ (os : List ℕ). Some (record c { input = os })) (ap (λ (os : List ℕ). c.input ++ os) (take-nil (room_of client)) ∙ append-nil c.input)

-- a step by the connection, by whether it has closed, and by the first message
abbrev message_at : Client → Connection → Option (List ℕ × List ℕ) → Step × Client
message_at client c o = elim o as (λ _. Step × Client) [ None ↦ (steps.Waiting, client) | Some found ↦ reacted found.0 c (with_connection (record c { input = found.1 }) client) ]

abbrev closed_at : Client → Connection → Option CloseReason → Step × Client
closed_at client c o = elim o as (λ _. Step × Client) [ Some reason ↦ (steps.Closed reason, client) | None ↦ message_at client c (first_message c.input) ]

abbrev step_at : Client → Option Connection → Step × Client
step_at client o = elim o as (λ _. Step × Client) [ None ↦ (steps.Waiting, client) | Some c ↦ closed_at client c c.closed ]

abbrev stepped_as : ℕ → Client → Step × Client → Client
stepped_as turns client one = elim one.0 as (λ _. Client) [ steps.Waiting ↦ client | steps.Closed reason ↦ one.1 | _ ↦ stepped turns one.1 ]

-- a client that is open and waits, or has closed, stays as it is
stays-waiting : (turns : ℕ) (client : Client) (c : Connection) → client.connection ≡ Some c → c.closed ≡ None → first_message c.input ≡ None → stepped (suc turns) client ≡ client
stays-waiting turns client c there unclosed none = ap (stepped_as turns client) (ap (step_at client) there ∙ ap (closed_at client c) unclosed ∙ ap (message_at client c) none)

stays-closed : (turns : ℕ) (client : Client) (c : Connection) (reason : CloseReason) → client.connection ≡ Some c → c.closed ≡ Some reason → stepped (suc turns) client ≡ client
stays-closed turns client c reason there closed = ap (stepped_as turns client) (ap (step_at client) there ∙ ap (closed_at client c) closed)

-- a client that is open behind its steps was so before
open-before : (client : Client) (c : Connection) → client.connection ≡ Some c → closed_as (stepped enough client) ≡ None → c.closed ≡ None
open-before client c there unclosed = by c.closed refl
  where
    by : (o : Option CloseReason) → c.closed ≡ o → o ≡ None
    by None is = refl
    by (Some reason) is =
        let same : stepped enough client ≡ client = stays-closed 18446744073709551615 client c reason there is in
        let both : Some reason ≡ None = sym (closed-is client c there ∙ is) ∙ ap closed_as (sym same) ∙ unclosed in absurd cc

-- ---- a delivery that brings nothing

abbrev one_more : List ℕ → Delivered → ℕ → Delivered
one_more octets so_far k = record { client = stepped enough (clients.take_octets (take k octets) so_far.client); count = so_far.count + k; left = drop k octets }

counts-rise : (turns : ℕ) (octets : List ℕ) (so_far : Delivered) → so_far.count ≤ (delivered turns octets so_far).count
counts-rise zero octets so_far = omega arith
counts-rise (suc turns) octets so_far = by (λ os later. counts-rise turns os later) (k == 0 || k == length octets)
  where
    k : ℕ
    k = min (length octets) (room_of so_far.client)

    by : ((os : List ℕ) (later : Delivered) → later.count ≤ (delivered turns os later).count) → (b : Bool)
        → so_far.count ≤ (elim b as (λ _. Delivered) [ true ↦ one_more octets so_far k | false ↦ delivered turns (drop k octets) (one_more octets so_far k) ]).count
    by others true = omega arith
    by others false = more so_far.count k (delivered turns (drop k octets) (one_more octets so_far k)).count (others (drop k octets) (one_more octets so_far k))
      where
        more : (a k b : ℕ) → a + k ≤ b → a ≤ b
        more a k b h = omega (arith, h)

-- where none came none had room, and the client made its steps
pub record BringsNone (octets : List ℕ) (client : Client) (d : Delivered) : Type 0 where
  pub none : min (length octets) (room_of client) ≡ 0
  pub stepped : d.client ≡ stepped enough client

module _ (turns : ℕ) (octets : List ℕ) (client : Client) where
  abbrev room : ℕ
  room = min (length octets) (room_of client)

  abbrev begun : Delivered
  begun = record { client = client; count = 0; left = octets }

  abbrev ends_as : Bool → Delivered
  ends_as b = elim b as (λ _. Delivered) [ true ↦ one_more octets begun room | false ↦ delivered turns (drop room octets) (one_more octets begun room) ]

  brings-none : (delivered (suc turns) octets begun).count ≡ 0 → BringsNone octets client (delivered (suc turns) octets begun)
  brings-none none = by (room == 0 || room == length octets) refl none
    where
      same : room ≡ 0 → (one_more octets begun room).client ≡ stepped enough client
      same is = ap (λ (k : ℕ). stepped enough (clients.take_octets (take k octets) client)) is ∙ ap (λ (c : Client). stepped enough c) (takes-none client)

      zero-sum : (k n : ℕ) → 0 + k ≤ n → n ≡ 0 → k ≡ 0
      zero-sum k n h is = omega (arith, h, is)

      by : (b : Bool) → (room == 0 || room == length octets) ≡ b → (ends_as b).count ≡ 0 → BringsNone octets client (ends_as b)
      by true is count = record { none = zero-sum room (0 + room) (omega arith) count; stepped = same (zero-sum room (0 + room) (omega arith) count) }
      by false is count =
          let no_room : room ≡ 0 = zero-sum room (ends_as false).count (counts-rise turns (drop room octets) (one_more octets begun room)) count in
          absurd (true≢false (sym (ap (λ (k : ℕ). k == 0 || k == length octets) no_room) ∙ is))

-- ---- what is under way

-- the messages of a client that go up while its session goes on fit into frames
up-small : (hub : Hub) (told : List (ℕ × ℕ)) (session : Session) (client : Client) (c : Connection) (up_wire down_wire : List ℕ) → IsTrue (is_open session.standing) → (i : IsUnderWay hub told session client c up_wire down_wire)
    → AllByRecursion (λ m. length (message_octets m) < 2 ^ 16) i.ups
up-small hub told session client c up_wire down_wire going i =
    all-weaken (λ m. IsTrue (is_within m)) (λ m. length (message_octets m) < 2 ^ 16) (λ m within. (read-back m within).small) i.ups
    (taken-up-within session.established (asked_of session.subscriptions) i.ups ((i.fit.up going).accepted))

down-small : (hub : Hub) (told : List (ℕ × ℕ)) (session : Session) (client : Client) (c : Connection) (up_wire down_wire : List ℕ) (i : IsUnderWay hub told session client c up_wire down_wire)
    → AllByRecursion (λ f. length (server_octets hub.timers f.says) < 2 ^ 16) i.flying
down-small hub told session client c up_wire down_wire i = all-weaken (CanBeRead hub.timers) (λ f. length (server_octets hub.timers f.says) < 2 ^ 16) (λ f can. can.1) i.flying i.fit.down.readable

-- a session that was stopped and whose messages were all taken has a client that took its stop
stop-taken : (made taken : List Made) → made ≡ taken ++ [] → SaysStop made → AskNoStop taken → ⊥
stop-taken made taken are stop none =
    let whole : taken ≡ stop.front ++ stop.one ∷ stop.back = sym (append-nil taken) ∙ sym are ∙ stop.are in
    (each-behind (λ (m : Made). (rcode delay : ℕ) → m.message ≡ stop_message rcode delay → ⊥) stop.front (stop.one ∷ stop.back) (subst AskNoStop whole none)).0 stop.rcode stop.delay stop.says

-- how much more a client and a session take
client-room : (client : Client) (c : Connection) → client.connection ≡ Some c → c.closed ≡ None → room_of client ≡ max_input - length c.input
client-room client c there unclosed =
    ap (λ (o : Option Connection). elim (elim o as (λ _. Option Connection) [ None ↦ None | Some d ↦ cond (is_some d.closed) None (Some d) ]) as (λ _. ℕ) [ None ↦ 0 | Some d ↦ max_input - length d.input ]) there
    ∙ ap (λ (o : Option CloseReason). elim (cond {A = Option Connection} (is_some o) None (Some c)) as (λ _. ℕ) [ None ↦ 0 | Some d ↦ max_input - length d.input ]) unclosed

live-room : (session : Session) → session.standing ≡ Live → session_room session ≡ max_input - length session.input
live-room session live = ap (λ (standing : SessionStatus). cond (is_open standing) (max_input - length session.input) 0) live

-- a session that no octets are brought to
session-takes-none : (session : Session) → with_piece [] session ≡ session
session-takes-none session = ap (λ (os : List ℕ). record session { input = os }) (ap (λ (os : List ℕ). session.input ++ os) (take-nil (session_room session)) ∙ append-nil session.input)

-- ---- the round

module _ (reached-on : ReachedOnesGoOn) (said-so : StoppedOnesSaidSo) (says : OfSays Keeps) (ups : OfUps Keeps) (emits : OfEmits Keeps) where
  module _ (number : ℕ) (world : World) (shown : ShownPoints) (seat : Seat) (session : Session) (c : Connection) (reached : IsReached world.hub) (j : IsJoined world.hub shown seat number session c) (waits : Waits c) where
    -- the four passings of a round
    abbrev said : Passed
    said = say max_wire world seat

    abbrev rose : Passed
    rose = up number max_wire said.world said.seat

    abbrev out : Passed
    out = emit number max_wire rose.world rose.seat

    abbrev last : Passed
    last = down max_wire out.world out.seat

    one : PassesSo number world shown seat c said
    one = says max_wire number world shown seat session c reached j

    two : PassesSo number world shown said.seat one.connection rose
    two = ups max_wire number world shown said.seat one.later one.connection reached one.joined

    reached_two : IsReached rose.world.hub
    reached_two = reached-behind reached-on number world shown said.seat one.connection rose reached two

    three : PassesSo number rose.world shown rose.seat two.connection out
    three = emits max_wire number rose.world shown rose.seat two.later two.connection reached_two two.joined

    reached_three : IsReached out.world.hub
    reached_three = reached-behind reached-on number rose.world shown rose.seat two.connection out reached_two three

    abbrev given : Emitted
    given = emitted enough number (min max_wire (max_wire - length seat.down_wire)) (nothing_emitted rose.world.hub seat.filled)

    -- what is so where nothing moved
    pub record IsStillRound : Type 0 where
      pub rose_none : rose.count ≡ 0
      pub out_none : length given.octets ≡ 0
      pub out_still : given.reacted ≡ false
      pub out_over : given.over ≡ None
      pub last_none : last.count ≡ 0
      pub open_last : closed_as last.seat.client ≡ None

    module _ (s : IsStillRound) where
      octets_brought : List ℕ
      octets_brought = take max_wire out.seat.down_wire

      brought : BringsNone (take max_wire out.seat.down_wire) out.seat.client (to_client (take max_wire out.seat.down_wire) out.seat.client)
      brought = brings-none 18446744073709551615 (take max_wire out.seat.down_wire) out.seat.client s.last_none

      unclosed : three.connection.closed ≡ None
      unclosed = open-before out.seat.client three.connection three.joined.connected (ap closed_as (sym brought.stepped) ∙ s.open_last)

      none_waits : first_message three.connection.input ≡ None
      none_waits = three.waits (two.waits (one.waits waits)) unclosed

      client_same : last.seat.client ≡ out.seat.client
      client_same = brought.stepped ∙ stays-waiting 18446744073709551615 out.seat.client three.connection three.joined.connected unclosed none_waits

      abbrev flight : IsUnderWay out.world.hub out.seat.filled three.later out.seat.client three.connection out.seat.up_wire out.seat.down_wire
      flight = three.joined.flight

      flying_small : AllByRecursion (λ f. length (server_octets out.world.hub.timers f.says) < 2 ^ 16) flight.flying
      flying_small = down-small out.world.hub out.seat.filled three.later out.seat.client three.connection out.seat.up_wire out.seat.down_wire flight

      some_wire : 0 < max_wire
      some_wire = omega arith

      no_down : out.seat.down_wire ≡ []
      no_down = room-left (λ (f : Flying). server_octets out.world.hub.timers f.says) flight.flying three.connection.input out.seat.down_wire three.later.output max_wire flying_small flight.whole_down none_waits some_wire
          (ap (λ n. min (length (take max_wire out.seat.down_wire)) n) (sym (client-room out.seat.client three.connection three.joined.connected unclosed)) ∙ brought.none)

      no_down_before : seat.down_wire ≡ []
      no_down_before = front-nil seat.down_wire given.octets no_down

      some_budget : 0 < min max_wire (max_wire - length seat.down_wire)
      some_budget = wide max_wire (length seat.down_wire) some_wire (ap length no_down_before)
        where
          wide : (most wire : ℕ) → 0 < most → wire ≡ 0 → 0 < min most (most - wire)
          wide most wire some none = omega (arith, some, none)

      abbrev gave : Giving
      gave = give rose.world.hub number (min max_wire (max_wire - length seat.down_wire))

      still : StaysStill gave number (nothing_emitted rose.world.hub seat.filled) given
      still = stays-still 18446744073709551615 number (min max_wire (max_wire - length seat.down_wire)) (nothing_emitted rose.world.hub seat.filled) some_budget (s.out_none, s.out_still, s.out_over)

      hub_same : out.world.hub ≡ gave.hub
      hub_same = ap (λ (e : Emitted). e.hub) still.is

      -- nothing comes down where the session has no output
      no_flying : three.later.output ≡ [] → flight.flying ≡ []
      no_flying silent = none-left (λ (f : Flying). server_octets out.world.hub.timers f.says) flight.flying three.connection.input out.seat.down_wire three.later.output flying_small flight.whole_down none_waits no_down silent

      -- a session that was stopped has told so, and the client that took it would have closed
      not-resting : gave.given ≡ Ending → ⊥
      not-resting is =
          let rests = ends-resting rose.world.hub number (min max_wire (max_wire - length seat.down_wire)) two.later two.joined.there is in
          let found : session_of out.world.hub number ≡ Some two.later = ap (λ (h : Hub). session_of h number) (hub_same ∙ rests.same) ∙ two.joined.there in
          let same : two.later ≡ three.later = same_found two.later three.later (sym found ∙ three.joined.there) in
          let silent : three.later.output ≡ [] = ap (λ (t : Session). t.output) (sym same) ∙ rests.silent in
          let stopped : is_stopped three.later.standing ≡ true = ap (λ (t : Session). is_stopped t.standing) (sym same) ∙ rests.stopped in
          let made : three.later.made ≡ flight.taken ++ [] = flight.made ∙ ap (λ (fs : List Flying). flight.taken ++ map (made_of out.world.hub.timers) fs) (no_flying silent) in
          stop-taken three.later.made flight.taken made (said-so out.world.hub number three.later reached_three three.joined.there stopped) (three.joined.unstopped unclosed)

      -- the session has nothing to say
      module _ (is : gave.given ≡ Nothing) where
        says_nothing : SaysNothing rose.world.hub gave.hub number two.later
        says_nothing = nothing-again rose.world.hub number (min max_wire (max_wire - length seat.down_wire)) two.later two.joined.there is

        later_is : record two.later { queue = [] } ≡ three.later
        later_is = same_found (record two.later { queue = [] }) three.later (sym says_nothing.there ∙ ap (λ (h : Hub). session_of h number) (sym hub_same) ∙ three.joined.there)

        live : three.later.standing ≡ Live
        live = ap (λ (t : Session). t.standing) (sym later_is) ∙ says_nothing.live

        silent : three.later.output ≡ []
        silent = ap (λ (t : Session). t.output) (sym later_is) ∙ says_nothing.silent

        none_up : first_message three.later.input ≡ None
        none_up = ap (λ (t : Session). first_message t.input) (sym later_is) ∙ says_nothing.none

        down_empty : going_down three.later three.connection out.seat.down_wire ≡ []
        down_empty = flight.whole_down ∙ ap (λ (fs : List Flying). flying_octets out.world.hub.timers fs) (no_flying silent)

        -- ---- the session before octets came up

        before_is : two.later ≡ one.later
        before_is =
            let piece = take rose.count said.seat.up_wire in
            let found : session_of rose.world.hub number ≡ Some (with_piece piece one.later) = found-in number (with_piece piece) world.hub.sessions ∙ ap (option_map (with_piece piece)) one.joined.there in
            same_found two.later (with_piece piece one.later) (sym two.joined.there ∙ found)
            ∙ ap (λ (k : ℕ). with_piece (take k said.seat.up_wire) one.later) s.rose_none ∙ session-takes-none one.later

        live_before : one.later.standing ≡ Live
        live_before = ap (λ (t : Session). t.standing) (sym before_is) ∙ says_nothing.live

        none_before : first_message one.later.input ≡ None
        none_before = ap (λ (t : Session). first_message t.input) (sym before_is) ∙ says_nothing.none

        flight_before : IsUnderWay world.hub said.seat.filled one.later said.seat.client one.connection said.seat.up_wire said.seat.down_wire
        flight_before = one.joined.flight

        no_up : said.seat.up_wire ≡ []
        no_up =
            let taken : min (length (take max_wire said.seat.up_wire)) (session_room one.later) ≡ 0 =
            sym (ap (λ (o : Option Session). elim o as (λ _. ℕ) [ None ↦ 0 | Some t ↦ min (length (take max_wire said.seat.up_wire)) (session_room t) ]) one.joined.there) ∙ s.rose_none in
            room-left message_octets flight_before.ups one.later.input said.seat.up_wire one.connection.output max_wire
            (up-small world.hub said.seat.filled one.later said.seat.client one.connection said.seat.up_wire said.seat.down_wire (ap is_open live_before) flight_before)
            (flight_before.whole_up (ap is_open live_before)) none_before some_wire
            (ap (λ n. min (length (take max_wire said.seat.up_wire)) n) (sym (live-room one.later live_before)) ∙ taken)

        -- ---- the client before it wrote

        abbrev piece : List ℕ
        piece = take (min max_wire (max_wire - length seat.up_wire)) (output_of seat.client)

        no_wire : seat.up_wire ≡ []
        no_wire = front-nil seat.up_wire piece no_up

        no_output : c.output ≡ []
        no_output =
            let some : 0 < min max_wire (max_wire - length seat.up_wire) = wide max_wire (length seat.up_wire) some_wire (ap length no_wire) in
            sym (ap (λ (o : Option Connection). elim o as (λ _. List ℕ) [ None ↦ [] | Some d ↦ d.output ]) j.connected)
            ∙ taken-nil (min max_wire (max_wire - length seat.up_wire)) (output_of seat.client) some (ap length (back-nil seat.up_wire piece no_up))
          where
            wide : (most wire : ℕ) → 0 < most → wire ≡ 0 → 0 < min most (most - wire)
            wide most wire some none = omega (arith, some, none)

        nothing_written : three.connection.output ≡ []
        nothing_written =
            let k = length piece in
            let written : out.seat.client.connection ≡ Some (record c { output = drop k c.output }) = ap (option_map (λ (d : Connection). record d { output = drop k d.output })) j.connected in
            let same : record c { output = drop k c.output } ≡ three.connection = same_found (record c { output = drop k c.output }) three.connection (sym written ∙ three.joined.connected) in
            ap (λ (d : Connection). d.output) (sym same) ∙ ap (drop k) no_output ∙ drop-none k

        no_up_later : out.seat.up_wire ≡ []
        no_up_later = ap (drop rose.count) no_up ∙ drop-none rose.count

        up_empty : going_up three.later three.connection out.seat.up_wire ≡ []
        up_empty =
            let going : IsTrue (is_open three.later.standing) = ap is_open live in
            let whole = flight.whole_up going in
            let small = up-small out.world.hub out.seat.filled three.later out.seat.client three.connection out.seat.up_wire out.seat.down_wire going flight in
            let none : flight.ups ≡ [] = none-left message_octets flight.ups three.later.input out.seat.up_wire three.connection.output small whole none_up no_up_later nothing_written in
            whole ∙ ap (λ (ms : List ClientMessage). flat_map (λ m. frame (message_octets m)) ms) none

        down_later : going_down three.later three.connection last.seat.down_wire ≡ []
        down_later =
            let same : last.seat.down_wire ≡ out.seat.down_wire = ap (drop last.count) no_down ∙ drop-none last.count ∙ sym no_down in
            ap (λ (wire : List ℕ). going_down three.later three.connection wire) same ∙ down_empty

        emptied : IsEmptied last.world.hub last.seat number
        emptied t d there connected =
            let session_is : three.later ≡ t = same_found three.later t (sym three.joined.there ∙ there) in
            let connection_is : three.connection ≡ d = same_found three.connection d (sym three.joined.connected ∙ ap (λ (client : Client). client.connection) (sym client_same) ∙ connected) in
            subst (λ (u : Session). IsQuiet last.world.hub last.seat number u d) session_is
            (subst (λ (e : Connection). IsQuiet last.world.hub last.seat number three.later e) connection_is
            (record { up = up_empty; down = down_later; nothing = ap (λ (h : Hub). (give h number 1).given) hub_same ∙ says_nothing.again }))

      all-quiet : IsEmptied last.world.hub last.seat number
      all-quiet = by still.answers
        where
          by : (gave.given ≡ Nothing) ⊎ (gave.given ≡ Ending) → IsEmptied last.world.hub last.seat number
          by (inl is) = emptied is
          by (inr is) = absurd (not-resting is)

    is-still-round : is_still (round number world seat) ≡ true → (round number world seat).over ≡ None → closed_as (round number world seat).seat.client ≡ None → IsStillRound
    is-still-round rests over open_last =
        let r : Passed = round number world seat in
        let both = and_parts (r.count == 0) (not r.reacted) rests in
        let count : r.count ≡ 0 = eqb-true r.count 0 both.0 in
        let first = no-sum (said.count + rose.count + out.count) last.count count in
        let second = no-sum (said.count + rose.count) out.count first.0 in
        let third = no-sum said.count rose.count second.0 in
        let still_all = no-or out.reacted last.reacted (not-true r.reacted both.1) in
        let over_all = no-over given.over None over in
        record { rose_none = third.1; out_none = second.1; out_still = (no-or given.reacted (nat_lt 0 (length given.octets)) still_all.0).0; out_over = over_all.0; last_none = first.1; open_last = open_last }

  pub quiet-at-last : QuietAtLast
  quiet-at-last number world shown seat session c reached j waits still over unclosed =
      all-quiet number world shown seat session c reached j waits (is-still-round number world shown seat session c reached j waits still over unclosed)
